use Rattle.std.proofs.Common.{ℕ, sym, ◌∙◌, ap, Some, subst}
use Rattle.linked_cells.specs.cell_library.Gates.{Takes}
use Rattle.netlist_arena.proofs.Looks.{operand_count}
use Rattle.netlist_arena.proofs.Netlist.feed_count.Goals as goal

pub returns-clause-takes : goal.returns-clause-takes
returns-clause-takes c =
    let at = c.cell.ensures.found in
    let count = operand_count c.cell.result.now ∙ sym c.count.ensures.count in
    rw at (subst (Takes c.args.self.now.lists.library c.cell.result.now.kind) count c.cell.ensures.count)

pub returns-clause-count : goal.returns-clause-count
returns-clause-count c =
    let at = c.cell.ensures.found in
    let count = operand_count c.cell.result.now ∙ sym c.count.ensures.count in
    rw at (ap (λ (n : ℕ). Some n) count)
