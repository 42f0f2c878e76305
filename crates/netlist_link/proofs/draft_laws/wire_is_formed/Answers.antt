use Rattle.netlist_link.proofs.DraftLawsNamed.{wire_formed_so}
use Rattle.netlist_link.proofs.draft_laws.wire_is_formed.Goals as goal

pub returns : goal.returns
returns c = wire_formed_so c.bit_of_a_direction.ensures
