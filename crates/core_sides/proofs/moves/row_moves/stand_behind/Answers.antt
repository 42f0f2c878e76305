use Rattle.std.proofs.Common.{rules, ◌+◌, ◌∙◌, ap, arith, refl}
use Rattle.std.proofs.lemmas.Option.{slice_get-get_or}
use Rattle.stitched_netlist.specs.Sites.{side_count}
use Rattle.core_sides.proofs.Turns.{begins, stands_here, stood_here, side_here, side_fits}
use Rattle.core_sides.proofs.Next.{control_there}
use Rattle.core_sides.proofs.moves.row_moves.stand_behind.Goals as goal

pub loop-row-init : goal.loop-row-init
loop-row-init c = (begins c.args.netlist.now.lists c.args.rows.now c.args.first, refl, omega arith)

pub stand_row-requires-clause-control : goal.stand_row-requires-clause-control
stand_row-requires-clause-control c =
    let there = slice_get-get_or c.args.rows.now c.loop-row.row-index _ c.loop-row-test.true in
    control_there c.args.netlist.now.lists c.args.rows.now c.args.first c.requires c.loop-row.row-index _ there

pub stand_row-requires-clause-ready : goal.stand_row-requires-clause-ready
stand_row-requires-clause-ready c =
    let there = slice_get-get_or c.args.rows.now c.loop-row.row-index _ c.loop-row-test.true in
    stands_here c.args.netlist.now.lists c.args.rows.now c.args.first c.requires c.loop-row.row-index _ there c.loop-row.netlist.lists c.loop-row.side c.loop-row.invariant.0 c.loop-row.invariant.2

pub overflow_add-side : goal.overflow_add-side
overflow_add-side c =
    let there = slice_get-get_or c.args.rows.now c.loop-row.row-index _ c.loop-row-test.true in
    let count = c.side_count-count.ensures.value ∙ ap side_count c.site_of.ensures in
    let on = side_here c.args.netlist.now.lists c.args.rows.now c.args.first c.loop-row.row-index _ there c.loop-row.netlist.lists c.loop-row.side c.side_count-count.result c.loop-row.invariant.0 c.loop-row.invariant.2 count in
    search (rules, side_fits c.args.netlist.now.lists c.args.rows.now c.args.first c.requires (c.loop-row.row-index + 1) (c.loop-row.side + c.side_count-count.result) on)

pub loop-row-preserved : goal.loop-row-preserved
loop-row-preserved c =
    let there = slice_get-get_or c.args.rows.now c.loop-row.row-index _ c.loop-row-test.true in
    let count = c.side_count-count.ensures.value ∙ ap side_count c.site_of.ensures in
    let on = side_here c.args.netlist.now.lists c.args.rows.now c.args.first c.loop-row.row-index _ there c.loop-row.netlist.lists c.loop-row.side c.side_count-count.result c.loop-row.invariant.0 c.loop-row.invariant.2 count in
    let stood = stood_here c.args.netlist.now.lists c.args.rows.now c.args.first c.requires c.loop-row.row-index _ there c.loop-row.netlist.lists c.stand_row.new.netlist.lists c.loop-row.side c.loop-row.invariant.0 c.loop-row.invariant.2 c.stand_row.ensures.lists in
    (stood, c.stand_row.ensures.spare ∙ c.loop-row.invariant.1, on)
