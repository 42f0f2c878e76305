use Rattle.link_rules.proofs.DriverLaws.{has_its_drivers}
use Rattle.link_rules.proofs.drivers.laws.nets_have_their_drivers.Goals as goal

pub returns : goal.returns
returns c = has_its_drivers
