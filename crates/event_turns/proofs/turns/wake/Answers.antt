use Rattle.std.proofs.Common.{arith}
use Rattle.event_turns.proofs.TurnTables.{reader_early, woken}
use Rattle.event_turns.proofs.turns.wake.Goals as goal

pub wake_range-requires : goal.wake_range-requires
wake_range-requires c =
    let is = c.circuit.invariant in
    let there = rw (← c.circuit.view_is) at c.requires.there in
    let room = rw (← c.circuit.view_is) at c.requires.room in
    rw (c.as_slice.ensures.value, c.as_slice-2.ensures.value) record {
      there = (let long = is.readers.long in omega arith);
      rising = is.readers.rising c.args.net.0 there;
      within = is.readers.within c.args.net.0 there;
      room = reader_early _ c.args.net.0 c.args.queue.now is there room;
    }

pub returns : goal.returns
returns c =
    let is = c.circuit.invariant in
    let there = rw (← c.circuit.view_is) at c.requires.there in
    let e = rw (c.as_slice.ensures.value, c.as_slice-2.ensures.value) at c.wake_range.ensures in
    rw (← c.circuit.view_is) (woken _ c.args.net.0 _ _ is there e.long e.old e.new e.only)
