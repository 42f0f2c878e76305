use Rattle.std.proofs.Common.{arith}
use Rattle.netlist_arena.proofs.Looks.{number_below}
use Rattle.netlist_arena.proofs.Netlist.cell_bound.Goals as goal

pub returns : goal.returns
returns c = λ number live.
    let low = number_below c.self.inside.cells.items number (rw (← c.self.view_is) at live) in
    let end = c.bound.ensures in omega (arith, low, end)
