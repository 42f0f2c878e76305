use Rattle.std.proofs.Common.{◌≡◌, ◌<◌, ◌+◌, ◌∙◌, ℕ, List, None, ap, length, length-set, arith}
use Rattle.std.proofs.lemmas.Option.{slice_get-get_or}
use Rattle.list_laws.proofs.Lists.{front_of}
use Rattle.event_turns.proofs.Classes.{IsTurnedUpTo, placed_gate, placed_below, turn_noted, all_turned}
use Rattle.cell_library.specs.declared.Kind.TheVariants.{And}
use Rattle.event_turns.specs.declared.circuit.Gate.{Gate}
use Rattle.event_turns.proofs.tables.turns_of.Goals as goal

abbrev none : Gate
none = record { cell = record { 0 = 0 }; kind = And; first = 0; count = 0; output = None }

pub note_turn-requires-clause-feeds : goal.note_turn-requires-clause-feeds
note_turn-requires-clause-feeds c =
    let long = c.requires.gates.long in
    let below : c.loop-place.place < length c.args.order.now = (let t = c.loop-place-test.true in omega arith) in
    let at = slice_get-get_or c.args.gates.now c.loop-place.place none (omega arith) in
    (placed_gate _ c.args.order.now c.args.gates.now c.args.feeds.now c.loop-place.place _ c.requires.order c.requires.gates below at).is_of.room

pub note_turn-requires-clause-turns : goal.note_turn-requires-clause-turns
note_turn-requires-clause-turns c =
    let long = c.requires.gates.long in
    let below : c.loop-place.place < length c.args.order.now = (let t = c.loop-place-test.true in omega arith) in
    let at = slice_get-get_or c.args.gates.now c.loop-place.place none (omega arith) in
    let placed = placed_gate _ c.args.order.now c.args.gates.now c.args.feeds.now c.loop-place.place _ c.requires.order c.requires.gates below at in
    rw (c.as_mut_slice-in-loop-place.ensures.value, placed.is_of.number_is) (c.loop-place.invariant.turns_long placed.number placed.cell placed.live)

pub note_turn-requires-clause-late : goal.note_turn-requires-clause-late
note_turn-requires-clause-late c =
    let long = c.requires.gates.long in
    let below : c.loop-place.place < length c.args.order.now = (let t = c.loop-place-test.true in omega arith) in
    let at = slice_get-get_or c.args.gates.now c.loop-place.place none (omega arith) in
    let placed = placed_gate _ c.args.order.now c.args.gates.now c.args.feeds.now c.loop-place.place _ c.requires.order c.requires.gates below at in
    rw c.as_mut_slice.ensures.value (placed_below _ _ _ _ _ _ c.is_laid_out.ensures.laid_out c.loop-place.invariant.late_long placed)

pub note_turn-requires-clause-firsts : goal.note_turn-requires-clause-firsts
note_turn-requires-clause-firsts c =
    let long = c.requires.gates.long in
    let below : c.loop-place.place < length c.args.order.now = (let t = c.loop-place-test.true in omega arith) in
    let at = slice_get-get_or c.args.gates.now c.loop-place.place none (omega arith) in
    let placed = placed_gate _ c.args.order.now c.args.gates.now c.args.feeds.now c.loop-place.place _ c.requires.order c.requires.gates below at in
    rw c.as_mut_slice-in-loop-place-2.ensures.value (placed_below _ _ _ _ _ _ c.is_laid_out.ensures.laid_out c.loop-place.invariant.firsts_long placed)

pub loop-place-preserved : goal.loop-place-preserved
loop-place-preserved c =
    let long = c.requires.gates.long in
    let below : c.loop-place.place < length c.args.order.now = (let t = c.loop-place-test.true in omega arith) in
    let at = slice_get-get_or c.args.gates.now c.loop-place.place none (omega arith) in
    let placed = placed_gate _ c.args.order.now c.args.gates.now c.args.feeds.now c.loop-place.place _ c.requires.order c.requires.gates below at in
    let turns = rw (c.library.ensures, c.as_mut_slice-in-loop-place.ensures.value, c.as_mut_slice.ensures.value) at c.note_turn.ensures.turns in
    let late = rw (c.library.ensures, c.as_mut_slice.ensures.value) at c.note_turn.ensures.late in
    let firsts = rw (c.library.ensures, c.as_mut_slice-in-loop-place-2.ensures.value, c.as_mut_slice.ensures.value) at c.note_turn.ensures.firsts in
    let noted : IsTurnedUpTo c.args.netlist.now.lists c.args.order.now (c.loop-place.place + 1) c.note_turn.new.late c.note_turn.new.turns c.note_turn.new.firsts
    = turn_noted _ c.args.order.now c.loop-place.place placed.number placed.cell _ c.args.feeds.now _ _ _ _ _ _ c.requires.formed c.is_laid_out.ensures.laid_out c.requires.order placed.stands placed.live placed.is_of
    turns late firsts c.loop-place.invariant in
    let late_whole : c.loop-place.late.len ≡ length c.note_turn.new.late = (let after = noted.late_long in let before = c.loop-place.invariant.late_long in omega arith) in
    let firsts_whole : c.loop-place.firsts.len ≡ length c.note_turn.new.firsts = (let after = noted.firsts_long in let before = c.loop-place.invariant.firsts_long in omega arith) in
    let turns_whole : c.loop-place.turns.len ≡ length c.note_turn.new.turns = (let after = ap (λ (l : List ℕ). length l) turns ∙ length-set c.loop-place.turns.items _ _ in omega arith) in
    rw (front_of c.note_turn.new.late _ c.loop-place.late.len late_whole, front_of c.note_turn.new.turns _ c.loop-place.turns.len turns_whole, front_of c.note_turn.new.firsts _ c.loop-place.firsts.len firsts_whole) noted

pub returns : goal.returns
returns c = all_turned _ _ _ _ _ _ c.requires.order (omega (arith, c.loop-place-test.false)) c.loop-place.invariant
