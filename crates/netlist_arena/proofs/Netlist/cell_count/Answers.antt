use Rattle.std.proofs.Common.{sym, ◌∙◌}
use Rattle.netlist_arena.proofs.CellPlaces.{count_cells}
use Rattle.netlist_arena.proofs.Netlist.cell_count.Goals as goal

pub returns : goal.returns
returns c = rw (← c.self.view_is) (c.len.ensures ∙ sym (count_cells c.self.inside.cells.items))
