use Rattle.status_build.proofs.Shared.{shared_stand}
use Rattle.status_build.proofs.places.shared_nets_stand.Goals as goal

pub returns : goal.returns
returns c = shared_stand c.contained_parts.ensures c.constants_are_bits.ensures
