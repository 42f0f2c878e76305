use Rattle.std.proofs.Common.{◌≡◌, ℕ, ◌-◌, List, drop, get_or, sym, ◌∙◌, ap, arith, rules}
use Rattle.std.proofs.lemmas.Option.{slice_get-get_or}
use Rattle.netlist_model.specs.Lists.{PortView}
use Rattle.plan_fitting.specs.declared.fitted.FitRow.{FitRow}
use Rattle.core_sides.specs.stitched_netlist.Sites.{side_count, row_sides}
use Rattle.core_sides.specs.Pins.{between}
use Rattle.test_logic_parts.proofs.RowsAdded.{rows_none, no_rows_left, nets_left, cells_left}
use Rattle.test_logic_parts.proofs.RowSteps.{blank_row, RowHere, enough, ends, side_fits, next_there, free_here, apart_here, rows_here, all_rows}
use Rattle.test_logic_parts.proofs.rows.add_rows.Goals as goal

pub loop-place-init : goal.loop-place-init
loop-place-init c = record {
  added = rows_none c.appended_none.ensures c.args.netlist.now (between c.args.netlist.now.lists.ports c.args.rows.now c.args.first) c.args.scan.now c.args.tdi c.args.end.0 c.args.rows.now c.requires.dense;
  left = no_rows_left c.args.netlist.now.lists.ports c.args.rows.now c.args.end.0;
}

pub overflow_sub-side : goal.overflow_sub-side
overflow_sub-side c =
    let row : FitRow = get_or c.args.rows.now (c.loop-place.place - 1) blank_row in
    let same = c.loop-place.invariant.added.added.ports in
    let here : RowHere c.args.netlist.now c.loop-place.netlist (between c.args.netlist.now.lists.ports c.args.rows.now c.args.first) c.args.scan.now c.args.tdi c.loop-place.last
    c.loop-place.side c.side_count-side.result row c.loop-place.place
    = record {
      low = omega (arith, c.loop-place-test.true);
      high = omega (arith, c.loop-place.auto.place);
      at = slice_get-get_or c.args.rows.now (c.loop-place.place - 1) blank_row (omega (arith, c.loop-place-test.true, c.loop-place.auto.place));
      added = c.loop-place.invariant.added;
      left = c.loop-place.invariant.left ∙ c.requires.end;
      counted = c.side_count-side.ensures.value ∙ ap side_count c.site_of.ensures ∙ ap (λ (ps : List PortView). row_sides ps row) same;
      can = c.requires.rows;
    } in
    enough c.args.netlist.now c.loop-place.netlist (between c.args.netlist.now.lists.ports c.args.rows.now c.args.first) c.args.scan.now c.args.tdi c.loop-place.last c.loop-place.side c.side_count-side.result row c.loop-place.place here

pub add_row-last-requires-clause-nets : goal.add_row-last-requires-clause-nets
add_row-last-requires-clause-nets c = nets_left c.args.netlist.now c.loop-place.netlist (between c.args.netlist.now.lists.ports c.args.rows.now c.args.first) c.args.scan.now c.args.tdi c.loop-place.last c.loop-place.side c.args.rows.now c.loop-place.place (omega (arith, c.loop-place-test.true)) (omega (arith, c.loop-place.auto.place)) c.loop-place.invariant.added c.requires.rows.nets

pub add_row-last-requires-clause-cells : goal.add_row-last-requires-clause-cells
add_row-last-requires-clause-cells c = cells_left c.args.netlist.now c.loop-place.netlist (between c.args.netlist.now.lists.ports c.args.rows.now c.args.first) c.args.scan.now c.args.tdi c.loop-place.last c.loop-place.side c.args.rows.now c.loop-place.place (omega (arith, c.loop-place-test.true)) (omega (arith, c.loop-place.auto.place)) c.loop-place.invariant.added c.requires.rows.cells

pub add_row-last-requires-clause-joined : goal.add_row-last-requires-clause-joined
add_row-last-requires-clause-joined c = record {
  steered = search rules;
  boundary = search rules;
  ready = search rules;
  net_is = search rules;
  next_there = next_there c.appended_count.ensures c.args.netlist.now c.loop-place.netlist (between c.args.netlist.now.lists.ports c.args.rows.now c.args.first) c.args.scan.now c.args.tdi c.loop-place.last c.loop-place.side
      (drop c.loop-place.place c.args.rows.now) c.loop-place.invariant.added c.requires.tdi;
}

pub add_row-last-requires-clause-into : goal.add_row-last-requires-clause-into
add_row-last-requires-clause-into c =
    let row : FitRow = get_or c.args.rows.now (c.loop-place.place - 1) blank_row in
    let same = c.loop-place.invariant.added.added.ports in
    let here : RowHere c.args.netlist.now c.loop-place.netlist (between c.args.netlist.now.lists.ports c.args.rows.now c.args.first) c.args.scan.now c.args.tdi c.loop-place.last
    c.loop-place.side c.side_count-side.result row c.loop-place.place
    = record {
      low = omega (arith, c.loop-place-test.true);
      high = omega (arith, c.loop-place.auto.place);
      at = slice_get-get_or c.args.rows.now (c.loop-place.place - 1) blank_row (omega (arith, c.loop-place-test.true, c.loop-place.auto.place));
      added = c.loop-place.invariant.added;
      left = c.loop-place.invariant.left ∙ c.requires.end;
      counted = c.side_count-side.ensures.value ∙ ap side_count c.site_of.ensures ∙ ap (λ (ps : List PortView). row_sides ps row) same;
      can = c.requires.rows;
    } in
    record {
      free = free_here c.appended_count.ensures c.args.netlist.now c.loop-place.netlist (between c.args.netlist.now.lists.ports c.args.rows.now c.args.first) c.args.scan.now c.args.tdi c.loop-place.last c.loop-place.side c.side_count-side.result row c.loop-place.place c.loop-place.netlist.lists.ports here same;
      apart = apart_here c.args.netlist.now c.loop-place.netlist (between c.args.netlist.now.lists.ports c.args.rows.now c.args.first) c.args.scan.now c.args.tdi c.loop-place.last c.loop-place.side c.side_count-side.result row c.loop-place.place c.loop-place.netlist.lists.ports here same;
    }

pub add_row-last-requires-clause-fits : goal.add_row-last-requires-clause-fits
add_row-last-requires-clause-fits c =
    let row : FitRow = get_or c.args.rows.now (c.loop-place.place - 1) blank_row in
    let same = c.loop-place.invariant.added.added.ports in
    let here : RowHere c.args.netlist.now c.loop-place.netlist (between c.args.netlist.now.lists.ports c.args.rows.now c.args.first) c.args.scan.now c.args.tdi c.loop-place.last
    c.loop-place.side c.side_count-side.result row c.loop-place.place
    = record {
      low = omega (arith, c.loop-place-test.true);
      high = omega (arith, c.loop-place.auto.place);
      at = slice_get-get_or c.args.rows.now (c.loop-place.place - 1) blank_row (omega (arith, c.loop-place-test.true, c.loop-place.auto.place));
      added = c.loop-place.invariant.added;
      left = c.loop-place.invariant.left ∙ c.requires.end;
      counted = c.side_count-side.ensures.value ∙ ap side_count c.site_of.ensures ∙ ap (λ (ps : List PortView). row_sides ps row) same;
      can = c.requires.rows;
    } in
    side_fits c.args.netlist.now c.loop-place.netlist (between c.args.netlist.now.lists.ports c.args.rows.now c.args.first) c.args.scan.now c.args.tdi c.loop-place.last c.loop-place.side c.side_count-side.result row c.loop-place.place here

pub loop-place-preserved : goal.loop-place-preserved
loop-place-preserved c =
    let row : FitRow = get_or c.args.rows.now (c.loop-place.place - 1) blank_row in
    let same = c.loop-place.invariant.added.added.ports in
    let here : RowHere c.args.netlist.now c.loop-place.netlist (between c.args.netlist.now.lists.ports c.args.rows.now c.args.first) c.args.scan.now c.args.tdi c.loop-place.last
    c.loop-place.side c.side_count-side.result row c.loop-place.place
    = record {
      low = omega (arith, c.loop-place-test.true);
      high = omega (arith, c.loop-place.auto.place);
      at = slice_get-get_or c.args.rows.now (c.loop-place.place - 1) blank_row (omega (arith, c.loop-place-test.true, c.loop-place.auto.place));
      added = c.loop-place.invariant.added;
      left = c.loop-place.invariant.left ∙ c.requires.end;
      counted = c.side_count-side.ensures.value ∙ ap side_count c.site_of.ensures ∙ ap (λ (ps : List PortView). row_sides ps row) same;
      can = c.requires.rows;
    } in
    record {
      added = rows_here c.appended_count.ensures c.appended_more.ensures c.args.netlist.now c.loop-place.netlist c.add_row-last.new.netlist (between c.args.netlist.now.lists.ports c.args.rows.now c.args.first)
          c.args.scan.now c.args.tdi c.loop-place.last c.add_row-last.result c.loop-place.side c.side_count-side.result row c.loop-place.place c.loop-place.netlist.lists.ports here same
          c.add_row-last.ensures.shift c.add_row-last.ensures.dense (record { added = c.add_row-last.ensures.added; free = c.add_row-last.ensures.free });
      left = ends c.args.netlist.now c.loop-place.netlist (between c.args.netlist.now.lists.ports c.args.rows.now c.args.first) c.args.scan.now c.args.tdi c.loop-place.last c.loop-place.side c.side_count-side.result row c.loop-place.place here ∙ sym c.requires.end;
    }

pub returns-clause-added : goal.returns-clause-added
returns-clause-added c = (all_rows c.args.netlist.now c.loop-place.netlist (between c.args.netlist.now.lists.ports c.args.rows.now c.args.first) c.args.scan.now c.args.tdi c.loop-place.last c.loop-place.side c.loop-place.place
    (omega (arith, c.loop-place-test.false)) c.loop-place.invariant.added (c.loop-place.invariant.left ∙ c.requires.end)).added

pub returns-clause-free : goal.returns-clause-free
returns-clause-free c = (all_rows c.args.netlist.now c.loop-place.netlist (between c.args.netlist.now.lists.ports c.args.rows.now c.args.first) c.args.scan.now c.args.tdi c.loop-place.last c.loop-place.side c.loop-place.place
    (omega (arith, c.loop-place-test.false)) c.loop-place.invariant.added (c.loop-place.invariant.left ∙ c.requires.end)).free
