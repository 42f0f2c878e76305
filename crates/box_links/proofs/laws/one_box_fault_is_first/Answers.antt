use Rattle.box_links.proofs.Faults.{one_box_fault_is_first}
use Rattle.box_links.proofs.laws.one_box_fault_is_first.Goals as goal

pub returns : goal.returns
returns c = one_box_fault_is_first c.one_fault_is_first.ensures c.faults_forbid_links.ensures
