use Rattle.std.proofs.Common.{◌-◌, length, length-drop, drop, arith}
use Rattle.std.proofs.lemmas.Option.{slice_get-get_or}
use Rattle.instruction_gates.proofs.RowSteps.{row_none, row_room, row_step}
use Rattle.instruction_gates.proofs.LatchAdded.{latch_part, latch_sized}
use Rattle.instruction_gates.proofs.latches.add_latches.Goals as goal

pub loop-place-init : goal.loop-place-init
loop-place-init c = row_none c.appended_none.ensures c.args.netlist.now 3 (latch_part c.args.latching.now c.args.shifts.0) c.args.presets.now c.requires.dense

pub add_latch-requires-clause-nets : goal.add_latch-requires-clause-nets
add_latch-requires-clause-nets c =
    let p = c.loop-place.place in
    let low = c.loop-place-test.true in
    let high = c.loop-place.auto.place in
    let long = length-drop p c.args.presets.now in
    let room = c.loop-place.invariant.added.net_room in
    omega (arith, c.requires.nets)

pub add_latch-requires-clause-cells : goal.add_latch-requires-clause-cells
add_latch-requires-clause-cells c =
    let p = c.loop-place.place in
    let low = c.loop-place-test.true in
    let high = c.loop-place.auto.place in
    let long = length-drop p c.args.presets.now in
    let room = row_room c.args.netlist.now c.loop-place.netlist 3 (latch_part c.args.latching.now c.args.shifts.0) (latch_sized c.args.latching.now c.args.shifts.0) (drop p c.args.presets.now) c.loop-place.invariant in
    omega (arith, c.requires.cells)

pub add_latch-requires-clause-clock : goal.add_latch-requires-clause-clock
add_latch-requires-clause-clock c =
    let more = c.appended_count.ensures c.args.netlist.now c.loop-place.netlist _ _ c.loop-place.invariant.added in
    let a = c.requires.clock.0 in let b = c.requires.clock.1 in (omega arith, omega arith)

pub add_latch-requires-clause-steps : goal.add_latch-requires-clause-steps
add_latch-requires-clause-steps c =
    let more = c.appended_count.ensures c.args.netlist.now c.loop-place.netlist _ _ c.loop-place.invariant.added in
    let a = c.requires.steps.0 in let b = c.requires.steps.1 in (omega arith, omega arith)

pub add_latch-requires-clause-shift : goal.add_latch-requires-clause-shift
add_latch-requires-clause-shift c =
    let low = c.loop-place-test.true in
    let high = c.loop-place.auto.place in
    let more = c.appended_count.ensures c.args.netlist.now c.loop-place.netlist _ _ c.loop-place.invariant.added in
    omega (arith, c.requires.shifts)

pub loop-place-preserved : goal.loop-place-preserved
loop-place-preserved c =
    let p = c.loop-place.place in
    let low = c.loop-place-test.true in
    let high = c.loop-place.auto.place in
    let long = length-drop p c.args.presets.now in
    row_step c.added_in_turn.ensures c.args.netlist.now c.loop-place.netlist c.add_latch.new.netlist 3 (latch_part c.args.latching.now c.args.shifts.0)
    (latch_sized c.args.latching.now c.args.shifts.0) c.args.presets.now p (length c.args.presets.now - 1 - (p - 1)) _ low
    (slice_get-get_or c.args.presets.now (p - 1) _ (omega (arith, low, high))) (omega (arith, low, high)) c.loop-place.invariant c.add_latch.ensures.added c.add_latch.ensures.dense
