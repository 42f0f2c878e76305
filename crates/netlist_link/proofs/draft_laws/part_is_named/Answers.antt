use Rattle.netlist_link.proofs.Sources.{part_named}
use Rattle.netlist_link.proofs.draft_laws.part_is_named.Goals as goal

pub returns : goal.returns
returns c = part_named
