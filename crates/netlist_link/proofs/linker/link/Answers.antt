use Rattle.netlist_link.proofs.LinkFaults.{text_first}
use Rattle.netlist_link.proofs.linker.link.Goals as goal

pub returns-in-Err-clause-fault : goal.returns-in-Err-clause-fault
returns-in-Err-clause-fault c = text_first c.args.library c.args.tree.now c.in-Err.fault c.in-Err.ensures.fault
