use Rattle.std.proofs.Common.{length}
use Rattle.netlist_model.specs.Formed.{IsDriven}
use Rattle.status_fitting.proofs.SetFlags.{flag_there}
use Rattle.status_fitting.proofs.wires.WireTable.is_driven.Goals as goal

pub returns : goal.returns
returns c =
    let N = c.args.self.now.arena.lists in
    flag_there (IsDriven N) (length N.nets) c.self.inside.driven.items c.args.net.0 c.is_flagged.result (rw c.self.view_is at c.self.invariant.driven) (rw c.deref.ensures.value at c.is_flagged.ensures)
