use Rattle.status_fitting.proofs.DrivenNets.{dead_noted, driven_noted, unconnected_noted}
use Rattle.status_fitting.proofs.driven.note_driven.Goals as goal

pub returns-then-not-is_live : goal.returns-then-not-is_live
returns-then-not-is_live c = dead_noted c.args.netlist.now.lists c.args.cell.0 c.args.driven.now c.is_live.result c.is_live.ensures c.if-not-is_live.true c.requires

pub returns-in-Some : goal.returns-in-Some
returns-in-Some c = driven_noted c.args.netlist.now.lists c.args.cell.0 c.in-Some.net c.args.driven.now c.in-Some.ensures.value c.in-Some.ensures.below c.requires

pub returns-in-None : goal.returns-in-None
returns-in-None c = unconnected_noted c.args.netlist.now.lists c.args.cell.0 c.args.driven.now c.in-None.ensures.value c.requires
