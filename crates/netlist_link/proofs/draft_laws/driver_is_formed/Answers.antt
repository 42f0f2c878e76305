use Rattle.netlist_link.proofs.Parts.{driver_formed}
use Rattle.netlist_link.proofs.draft_laws.driver_is_formed.Goals as goal

pub returns : goal.returns
returns c = driver_formed c.appended_grows.ensures
