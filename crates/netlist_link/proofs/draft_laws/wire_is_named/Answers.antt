use Rattle.netlist_link.proofs.DraftLawsNamed.{wire_named_so}
use Rattle.netlist_link.proofs.draft_laws.wire_is_named.Goals as goal

pub returns : goal.returns
returns c = wire_named_so c.bit_of_a_direction.ensures
