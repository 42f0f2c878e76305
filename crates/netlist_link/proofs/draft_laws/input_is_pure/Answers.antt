use Rattle.netlist_link.proofs.Sources.{input_is_pure_so}
use Rattle.netlist_link.proofs.draft_laws.input_is_pure.Goals as goal

pub returns : goal.returns
returns c = input_is_pure_so
