use Rattle.std.proofs.Common.{◌≡◌, ℕ, ◌-◌, length, length-drop, drop, get_or, arith}
use Rattle.netlist_model.specs.declared.Feed.{Feed}
use Rattle.netlist_model.specs.declared.Feed.TheVariants.{Net}
use Rattle.std.proofs.lemmas.Option.{slice_get-get_or}
use Rattle.instruction_gates.proofs.RowSteps.{row_none, row_room, row_step}
use Rattle.instruction_gates.proofs.LatchAdded.{match_part, match_sized, match_at}
use Rattle.instruction_gates.proofs.MatchRows.{before_below, told_none, told_more}
use Rattle.instruction_gates.proofs.matches.add_match.Goals as goal

pub loop-place-init : goal.loop-place-init
loop-place-init c = record {
  row = row_none c.appended_none.ensures c.args.netlist.now 2 (match_part (length c.args.netlist.now.lists.nets) c.args.latches.0) c.args.wanted.now c.requires.dense;
  told = told_none (length c.args.netlist.now.lists.nets) c.args.wanted.now;
}

pub add_equal-equal-requires-clause-nets : goal.add_equal-equal-requires-clause-nets
add_equal-equal-requires-clause-nets c =
    let p = c.loop-place.place in
    let low = c.loop-place-test.true in
    let high = c.loop-place.auto.place in
    let long = length-drop p c.args.wanted.now in
    let room = c.loop-place.invariant.row.added.net_room in
    omega (arith, c.requires.nets)

pub add_equal-equal-requires-clause-cells : goal.add_equal-equal-requires-clause-cells
add_equal-equal-requires-clause-cells c =
    let p = c.loop-place.place in
    let low = c.loop-place-test.true in
    let high = c.loop-place.auto.place in
    let long = length-drop p c.args.wanted.now in
    let first = length c.args.netlist.now.lists.nets in
    let room = row_room c.args.netlist.now c.loop-place.netlist 2 (match_part first c.args.latches.0) (match_sized first c.args.latches.0) (drop p c.args.wanted.now) c.loop-place.invariant.row in
    omega (arith, c.requires.cells)

pub add_equal-equal-requires-clause-before : goal.add_equal-equal-requires-clause-before
add_equal-equal-requires-clause-before c =
    let more = c.appended_count.ensures c.args.netlist.now c.loop-place.netlist _ _ c.loop-place.invariant.row.added in
    before_below (length c.args.netlist.now.lists.nets) _ (length (drop c.loop-place.place c.args.wanted.now)) c.loop-place.told c.loop-place.invariant.told (omega arith)

pub add_equal-equal-requires-clause-latch : goal.add_equal-equal-requires-clause-latch
add_equal-equal-requires-clause-latch c =
    let low = c.loop-place-test.true in
    let high = c.loop-place.auto.place in
    let more = c.appended_count.ensures c.args.netlist.now c.loop-place.netlist _ _ c.loop-place.invariant.row.added in
    omega (arith, c.requires.latches)

pub loop-place-preserved : goal.loop-place-preserved
loop-place-preserved c =
    let p = c.loop-place.place in
    let low = c.loop-place-test.true in
    let high = c.loop-place.auto.place in
    let long = length-drop p c.args.wanted.now in
    let first = length c.args.netlist.now.lists.nets in
    let behind : ℕ = length c.args.wanted.now - 1 - (p - 1) in
    let item : Feed = get_or c.args.wanted.now (p - 1) (Net (record { 0 = 0 })) in
    let is : behind ≡ length (drop p c.args.wanted.now) = omega (arith, low, high) in
    record {
      row = row_step c.added_in_turn.ensures c.args.netlist.now c.loop-place.netlist c.add_equal-equal.new.netlist 2 (match_part first c.args.latches.0)
          (match_sized first c.args.latches.0) c.args.wanted.now p behind item low
          (slice_get-get_or c.args.wanted.now (p - 1) (Net (record { 0 = 0 })) (omega (arith, low, high))) is c.loop-place.invariant.row
          (match_at c.loop-place.netlist c.add_equal-equal.new.netlist first c.args.latches.0 behind (length (drop p c.args.wanted.now)) c.loop-place.told item
          c.loop-place.invariant.told is c.add_equal-equal.ensures.added) c.add_equal-equal.ensures.dense;
      told = told_more c.appended_count.ensures c.args.netlist.now c.loop-place.netlist 2 _ c.args.wanted.now p c.add_equal-equal.result low high c.loop-place.invariant.row.added c.add_equal-equal.ensures.first;
    }
