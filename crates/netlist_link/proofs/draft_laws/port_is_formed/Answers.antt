use Rattle.netlist_link.proofs.DraftLawsPorts.{port_formed}
use Rattle.netlist_link.proofs.draft_laws.port_is_formed.Goals as goal

pub returns : goal.returns
returns c = port_formed c.direction_of_a_bit.ensures
