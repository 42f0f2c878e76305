use Rattle.netlist_link.proofs.Growth.{grown_formed}
use Rattle.netlist_link.proofs.draft_laws.grown_is_formed.Goals as goal

pub returns : goal.returns
returns c = grown_formed
