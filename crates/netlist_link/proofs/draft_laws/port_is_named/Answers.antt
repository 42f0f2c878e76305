use Rattle.netlist_link.proofs.DraftLawsNamed.{port_named}
use Rattle.netlist_link.proofs.draft_laws.port_is_named.Goals as goal

pub returns : goal.returns
returns c = port_named
