use Rattle.std.proofs.Common.{◌<◌, List, length, subst, sym, ◌∙◌}
use Rattle.std.specs.Prelude.{All}
use Rattle.netlist_unlink.specs.declared.rows.NetRow.{NetRow}
use Rattle.netlist_unlink.specs.Rows.{rows}
use Rattle.netlist_model.specs.Formed.{IsLaidOut}
use Rattle.netlist_arena.specs.Arena.{ArenaView}
use Rattle.netlist_unlink.proofs.AllRows.{all_rows}
use Rattle.netlist_unlink.proofs.RowFacts.{rows_known}
use Rattle.netlist_unlink.proofs.wires.tree_wires.Goals as goal

pub original_wires-requires : goal.original_wires-requires
original_wires-requires c =
    let names = c.args.linked.now.names in
    let N = c.args.linked.now.arena.lists in
    let L : ArenaView → Type 0 = λ a. IsLaidOut a.lists in
    let laid = subst L c.netlist.ensures.netlist c.is_laid_out.ensures.laid_out in
    let P : List NetRow → Type 0 = λ found. All (λ (row : NetRow). row.name < length names) found in
    subst P (sym (c.deref.ensures.value ∙ c.in_ok-rows.ensures)) (rows_known names N.ports (rows N.ports N.nets) (all_rows names N c.netlist.ensures.linked.named laid))
