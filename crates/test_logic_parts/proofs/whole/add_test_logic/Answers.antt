use Rattle.std.proofs.Common.{◌≡◌, ℕ, length, sym, ◌∙◌, subst, refl, arith}
use Rattle.core_sides.specs.stitched_netlist.Sites.{Boundary}
use Rattle.core_sides.specs.Pins.{between}
use Rattle.test_logic_parts.specs.Rows.{CanTakeRows}
use Rattle.test_logic_parts.proofs.WholeAdded.{RowsThere, same_between, rows_at, rows_use, tdo_use, tdo_count, ident_more, nearest_below, rows_can_follow, whole_added, tdo_leaves_free}
use Rattle.test_logic_parts.proofs.whole.add_test_logic.Goals as goal

pub add_rows-nearest-requires-clause-rows : goal.add_rows-nearest-requires-clause-rows
add_rows-nearest-requires-clause-rows c =
    let P : Boundary → Type 0 = λ x. CanTakeRows c.add_logic-logic.new.netlist x in
    subst P (sym (same_between c.add_logic-logic.new.netlist.lists.ports c.args.netlist.now.lists.ports c.as_slice-rows.result.now c.args.fitted.now.rows c.args.first c.add_logic-logic.ensures.added.ports c.as_slice-rows.ensures))
    (rows_can_follow c.appended_count.ensures c.args.netlist.now c.add_logic-logic.new.netlist (between c.args.netlist.now.lists.ports c.args.fitted.now.rows c.args.first) c.args.fitted.now c.args.port.now _ _ c.requires.can c.add_logic-logic.ensures.added
    c.add_logic-logic.ensures.nets_left c.add_logic-logic.ensures.cells_left c.add_logic-logic.ensures.free)

pub add_tdo-requires-clause-nets : goal.add_tdo-requires-clause-nets
add_tdo-requires-clause-nets c =
    let there : RowsThere c.add_logic-logic.new.netlist c.add_rows-nearest.new.netlist (between c.args.netlist.now.lists.ports c.args.fitted.now.rows c.args.first) c.add_logic-logic.result.instruction.scan c.args.port.now.tdi c.add_rows-nearest.result
    = rows_at c.add_logic-logic.new.netlist c.add_rows-nearest.new.netlist (between c.args.netlist.now.lists.ports c.args.fitted.now.rows c.args.first) (between c.add_logic-logic.new.netlist.lists.ports c.as_slice-rows.result.now c.args.first) c.add_logic-logic.result.instruction.scan c.args.port.now.tdi c.add_rows-nearest.result
    (same_between c.add_logic-logic.new.netlist.lists.ports c.args.netlist.now.lists.ports c.as_slice-rows.result.now c.args.fitted.now.rows c.args.first c.add_logic-logic.ensures.added.ports c.as_slice-rows.ensures)
    (record { last = c.add_rows-nearest.ensures.last; added = c.add_rows-nearest.ensures.added; free = c.add_rows-nearest.ensures.free }) in
    let use_of = rows_use c.add_logic-logic.new.netlist c.add_rows-nearest.new.netlist (between c.args.netlist.now.lists.ports c.args.fitted.now.rows c.args.first) c.add_logic-logic.result.instruction.scan c.args.port.now.tdi c.add_rows-nearest.result there in
    let used = use_of.0 in
    let used' = use_of.1 in
    let left = c.add_logic-logic.ensures.nets_left in
    let room = c.requires.can.nets in
    omega arith

pub add_tdo-requires-clause-cells : goal.add_tdo-requires-clause-cells
add_tdo-requires-clause-cells c =
    let there : RowsThere c.add_logic-logic.new.netlist c.add_rows-nearest.new.netlist (between c.args.netlist.now.lists.ports c.args.fitted.now.rows c.args.first) c.add_logic-logic.result.instruction.scan c.args.port.now.tdi c.add_rows-nearest.result
    = rows_at c.add_logic-logic.new.netlist c.add_rows-nearest.new.netlist (between c.args.netlist.now.lists.ports c.args.fitted.now.rows c.args.first) (between c.add_logic-logic.new.netlist.lists.ports c.as_slice-rows.result.now c.args.first) c.add_logic-logic.result.instruction.scan c.args.port.now.tdi c.add_rows-nearest.result
    (same_between c.add_logic-logic.new.netlist.lists.ports c.args.netlist.now.lists.ports c.as_slice-rows.result.now c.args.fitted.now.rows c.args.first c.add_logic-logic.ensures.added.ports c.as_slice-rows.ensures)
    (record { last = c.add_rows-nearest.ensures.last; added = c.add_rows-nearest.ensures.added; free = c.add_rows-nearest.ensures.free }) in
    let use_of = rows_use c.add_logic-logic.new.netlist c.add_rows-nearest.new.netlist (between c.args.netlist.now.lists.ports c.args.fitted.now.rows c.args.first) c.add_logic-logic.result.instruction.scan c.args.port.now.tdi c.add_rows-nearest.result there in
    let used = use_of.0 in
    let used' = use_of.1 in
    let left = c.add_logic-logic.ensures.cells_left in
    let room = c.requires.can.cells in
    omega arith

pub add_tdo-requires-clause-bits : goal.add_tdo-requires-clause-bits
add_tdo-requires-clause-bits c =
    let there : RowsThere c.add_logic-logic.new.netlist c.add_rows-nearest.new.netlist (between c.args.netlist.now.lists.ports c.args.fitted.now.rows c.args.first) c.add_logic-logic.result.instruction.scan c.args.port.now.tdi c.add_rows-nearest.result
    = rows_at c.add_logic-logic.new.netlist c.add_rows-nearest.new.netlist (between c.args.netlist.now.lists.ports c.args.fitted.now.rows c.args.first) (between c.add_logic-logic.new.netlist.lists.ports c.as_slice-rows.result.now c.args.first) c.add_logic-logic.result.instruction.scan c.args.port.now.tdi c.add_rows-nearest.result
    (same_between c.add_logic-logic.new.netlist.lists.ports c.args.netlist.now.lists.ports c.as_slice-rows.result.now c.args.fitted.now.rows c.args.first c.add_logic-logic.ensures.added.ports c.as_slice-rows.ensures)
    (record { last = c.add_rows-nearest.ensures.last; added = c.add_rows-nearest.ensures.added; free = c.add_rows-nearest.ensures.free }) in
    let more = c.appended_count.ensures c.add_logic-logic.new.netlist c.add_rows-nearest.new.netlist _ _ there.added in
    let one = c.appended_count.ensures c.args.netlist.now c.add_logic-logic.new.netlist _ _ c.add_logic-logic.ensures.added in
    let tdi = c.requires.can.port_there.tdi in
    let bypass = c.add_logic-logic.ensures.below.bypass in
    (omega arith, nearest_below c.appended_count.ensures c.add_logic-logic.new.netlist c.add_rows-nearest.new.netlist (between c.args.netlist.now.lists.ports c.args.fitted.now.rows c.args.first) _ c.args.port.now.tdi c.add_rows-nearest.result there.added (omega arith) there.last)

pub add_tdo-requires-clause-ident : goal.add_tdo-requires-clause-ident
add_tdo-requires-clause-ident c =
    let there : RowsThere c.add_logic-logic.new.netlist c.add_rows-nearest.new.netlist (between c.args.netlist.now.lists.ports c.args.fitted.now.rows c.args.first) c.add_logic-logic.result.instruction.scan c.args.port.now.tdi c.add_rows-nearest.result
    = rows_at c.add_logic-logic.new.netlist c.add_rows-nearest.new.netlist (between c.args.netlist.now.lists.ports c.args.fitted.now.rows c.args.first) (between c.add_logic-logic.new.netlist.lists.ports c.as_slice-rows.result.now c.args.first) c.add_logic-logic.result.instruction.scan c.args.port.now.tdi c.add_rows-nearest.result
    (same_between c.add_logic-logic.new.netlist.lists.ports c.args.netlist.now.lists.ports c.as_slice-rows.result.now c.args.fitted.now.rows c.args.first c.add_logic-logic.ensures.added.ports c.as_slice-rows.ensures)
    (record { last = c.add_rows-nearest.ensures.last; added = c.add_rows-nearest.ensures.added; free = c.add_rows-nearest.ensures.free }) in
    let more = c.appended_count.ensures c.add_logic-logic.new.netlist c.add_rows-nearest.new.netlist _ _ there.added in
    ident_more (length c.add_logic-logic.new.netlist.lists.nets) (length c.add_rows-nearest.new.netlist.lists.nets) c.add_logic-logic.result.ident (omega arith) c.add_logic-logic.ensures.below.ident

pub overflow_sub-gate : goal.overflow_sub-gate
overflow_sub-gate c =
    let many = tdo_count c.add_rows-nearest.new.netlist c.add_tdo.new.netlist c.add_logic-logic.result.tap c.add_logic-logic.result.instruction c.add_logic-logic.result.bypass c.add_logic-logic.result.ident c.add_rows-nearest.result c.args.port.now.tdo
    c.add_tdo.ensures.added in
    omega (arith, many, c.cell_count-count.ensures)

pub returns-clause-logic : goal.returns-clause-logic
returns-clause-logic c = c.add_logic-logic.ensures.logic

pub returns-clause-gate : goal.returns-clause-gate
returns-clause-gate c =
    let many = tdo_count c.add_rows-nearest.new.netlist c.add_tdo.new.netlist c.add_logic-logic.result.tap c.add_logic-logic.result.instruction c.add_logic-logic.result.bypass c.add_logic-logic.result.ident c.add_rows-nearest.result c.args.port.now.tdo
    c.add_tdo.ensures.added in
    omega (arith, many, c.cell_count-count.ensures)

pub returns-clause-added : goal.returns-clause-added
returns-clause-added c =
    let there : RowsThere c.add_logic-logic.new.netlist c.add_rows-nearest.new.netlist (between c.args.netlist.now.lists.ports c.args.fitted.now.rows c.args.first) c.add_logic-logic.result.instruction.scan c.args.port.now.tdi c.add_rows-nearest.result
    = rows_at c.add_logic-logic.new.netlist c.add_rows-nearest.new.netlist (between c.args.netlist.now.lists.ports c.args.fitted.now.rows c.args.first) (between c.add_logic-logic.new.netlist.lists.ports c.as_slice-rows.result.now c.args.first) c.add_logic-logic.result.instruction.scan c.args.port.now.tdi c.add_rows-nearest.result
    (same_between c.add_logic-logic.new.netlist.lists.ports c.args.netlist.now.lists.ports c.as_slice-rows.result.now c.args.fitted.now.rows c.args.first c.add_logic-logic.ensures.added.ports c.as_slice-rows.ensures)
    (record { last = c.add_rows-nearest.ensures.last; added = c.add_rows-nearest.ensures.added; free = c.add_rows-nearest.ensures.free }) in
    whole_added c.appended_count.ensures c.appended_more.ensures c.args.netlist.now c.add_logic-logic.new.netlist c.add_rows-nearest.new.netlist c.add_tdo.new.netlist (between c.args.netlist.now.lists.ports c.args.fitted.now.rows c.args.first) c.args.port.now c.args.fitted.now c.add_logic-logic.result c.add_rows-nearest.result refl
    c.add_logic-logic.ensures.logic there.last c.add_logic-logic.ensures.added there.added c.add_tdo.ensures.added

pub returns-clause-nets_left : goal.returns-clause-nets_left
returns-clause-nets_left c =
    let there : RowsThere c.add_logic-logic.new.netlist c.add_rows-nearest.new.netlist (between c.args.netlist.now.lists.ports c.args.fitted.now.rows c.args.first) c.add_logic-logic.result.instruction.scan c.args.port.now.tdi c.add_rows-nearest.result
    = rows_at c.add_logic-logic.new.netlist c.add_rows-nearest.new.netlist (between c.args.netlist.now.lists.ports c.args.fitted.now.rows c.args.first) (between c.add_logic-logic.new.netlist.lists.ports c.as_slice-rows.result.now c.args.first) c.add_logic-logic.result.instruction.scan c.args.port.now.tdi c.add_rows-nearest.result
    (same_between c.add_logic-logic.new.netlist.lists.ports c.args.netlist.now.lists.ports c.as_slice-rows.result.now c.args.fitted.now.rows c.args.first c.add_logic-logic.ensures.added.ports c.as_slice-rows.ensures)
    (record { last = c.add_rows-nearest.ensures.last; added = c.add_rows-nearest.ensures.added; free = c.add_rows-nearest.ensures.free }) in
    let use_of = rows_use c.add_logic-logic.new.netlist c.add_rows-nearest.new.netlist (between c.args.netlist.now.lists.ports c.args.fitted.now.rows c.args.first) c.add_logic-logic.result.instruction.scan c.args.port.now.tdi c.add_rows-nearest.result there in
    let used = use_of.0 in
    let used' = use_of.1 in
    let left = c.add_logic-logic.ensures.nets_left in
    let last = tdo_use c.add_rows-nearest.new.netlist c.add_tdo.new.netlist c.add_logic-logic.result.tap c.add_logic-logic.result.instruction c.add_logic-logic.result.bypass c.add_logic-logic.result.ident c.add_rows-nearest.result c.args.port.now.tdo
    c.add_tdo.ensures.added in
    let a = last.0 in
    omega arith

pub returns-clause-cells_left : goal.returns-clause-cells_left
returns-clause-cells_left c =
    let there : RowsThere c.add_logic-logic.new.netlist c.add_rows-nearest.new.netlist (between c.args.netlist.now.lists.ports c.args.fitted.now.rows c.args.first) c.add_logic-logic.result.instruction.scan c.args.port.now.tdi c.add_rows-nearest.result
    = rows_at c.add_logic-logic.new.netlist c.add_rows-nearest.new.netlist (between c.args.netlist.now.lists.ports c.args.fitted.now.rows c.args.first) (between c.add_logic-logic.new.netlist.lists.ports c.as_slice-rows.result.now c.args.first) c.add_logic-logic.result.instruction.scan c.args.port.now.tdi c.add_rows-nearest.result
    (same_between c.add_logic-logic.new.netlist.lists.ports c.args.netlist.now.lists.ports c.as_slice-rows.result.now c.args.fitted.now.rows c.args.first c.add_logic-logic.ensures.added.ports c.as_slice-rows.ensures)
    (record { last = c.add_rows-nearest.ensures.last; added = c.add_rows-nearest.ensures.added; free = c.add_rows-nearest.ensures.free }) in
    let use_of = rows_use c.add_logic-logic.new.netlist c.add_rows-nearest.new.netlist (between c.args.netlist.now.lists.ports c.args.fitted.now.rows c.args.first) c.add_logic-logic.result.instruction.scan c.args.port.now.tdi c.add_rows-nearest.result there in
    let used = use_of.0 in
    let used' = use_of.1 in
    let left = c.add_logic-logic.ensures.cells_left in
    let last = tdo_use c.add_rows-nearest.new.netlist c.add_tdo.new.netlist c.add_logic-logic.result.tap c.add_logic-logic.result.instruction c.add_logic-logic.result.bypass c.add_logic-logic.result.ident c.add_rows-nearest.result c.args.port.now.tdo
    c.add_tdo.ensures.added in
    let a = last.1 in
    omega arith

pub returns-clause-free : goal.returns-clause-free
returns-clause-free c =
    let there : RowsThere c.add_logic-logic.new.netlist c.add_rows-nearest.new.netlist (between c.args.netlist.now.lists.ports c.args.fitted.now.rows c.args.first) c.add_logic-logic.result.instruction.scan c.args.port.now.tdi c.add_rows-nearest.result
    = rows_at c.add_logic-logic.new.netlist c.add_rows-nearest.new.netlist (between c.args.netlist.now.lists.ports c.args.fitted.now.rows c.args.first) (between c.add_logic-logic.new.netlist.lists.ports c.as_slice-rows.result.now c.args.first) c.add_logic-logic.result.instruction.scan c.args.port.now.tdi c.add_rows-nearest.result
    (same_between c.add_logic-logic.new.netlist.lists.ports c.args.netlist.now.lists.ports c.as_slice-rows.result.now c.args.fitted.now.rows c.args.first c.add_logic-logic.ensures.added.ports c.as_slice-rows.ensures)
    (record { last = c.add_rows-nearest.ensures.last; added = c.add_rows-nearest.ensures.added; free = c.add_rows-nearest.ensures.free }) in
    let more = c.appended_count.ensures c.add_logic-logic.new.netlist c.add_rows-nearest.new.netlist _ _ there.added in
    let one = c.appended_count.ensures c.args.netlist.now c.add_logic-logic.new.netlist _ _ c.add_logic-logic.ensures.added in
    λ net apart differ low free.
    tdo_leaves_free c.free_net_stays.ensures c.add_rows-nearest.new.netlist c.add_tdo.new.netlist c.add_logic-logic.result.tap c.add_logic-logic.result.instruction c.add_logic-logic.result.bypass c.add_logic-logic.result.ident
    c.add_rows-nearest.result c.args.port.now.tdo c.add_tdo.ensures.added net differ (omega arith)
    (there.free net apart (omega arith) (c.add_logic-logic.ensures.free net low free))
