use Rattle.netlist_link.proofs.DraftLawsNamed.{lone_wire_stays_so}
use Rattle.netlist_link.proofs.draft_laws.lone_wire_stays.Goals as goal

pub returns : goal.returns
returns c = lone_wire_stays_so
