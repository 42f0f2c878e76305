use Rattle.std.specs.Prelude.{slice_index_or}
use Rattle.std.proofs.lemmas.Option.{slice_get-get_or}
use Rattle.netlist_model.specs.declared.CellId.{CellId}
use Rattle.netlist_model.specs.Orders.{StandsAt}
use Rattle.cell_order.proofs.Carried.{carried_start, carried_more, carried_iff}
use Rattle.cell_order.proofs.derived.mark_derived.Goals as goal

pub loop-place-init : goal.loop-place-init
loop-place-init c = carried_start c.args.netlist.now.lists c.args.order.now c.args.marks.now c.requires.long

pub carry_one-requires-clause-live : goal.carry_one-requires-clause-live
carry_one-requires-clause-live c =
    let order = c.args.order.now in
    let u : CellId = slice_index_or order c.loop-place.place (record { 0 = 0 }) in
    c.requires.order.only c.loop-place.place u.0 (slice_get-get_or order c.loop-place.place (record { 0 = 0 }) c.loop-place-test.true)

pub loop-place-preserved : goal.loop-place-preserved
loop-place-preserved c =
    let order = c.args.order.now in
    let u : CellId = slice_index_or order c.loop-place.place (record { 0 = 0 }) in
    let here : StandsAt order c.loop-place.place u.0 = slice_get-get_or order c.loop-place.place (record { 0 = 0 }) c.loop-place-test.true in
    carried_more c.args.netlist.now.lists order c.args.marks.now c.loop-place.marks c.carry_one.new.marks c.loop-place.place u.0 c.requires.order here c.loop-place.invariant c.carry_one.ensures

pub returns-clause-derived : goal.returns-clause-derived
returns-clause-derived c = carried_iff c.args.netlist.now.lists c.args.order.now c.args.marks.now c.loop-place.marks c.loop-place.place c.requires.order c.loop-place.invariant c.loop-place-test.false
