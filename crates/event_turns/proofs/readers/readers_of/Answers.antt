use Rattle.event_turns.proofs.Waits.{are_readers, key_below}
use Rattle.event_turns.proofs.readers.readers_of.Goals as goal

pub ranges_of-requires-clause-below : goal.ranges_of-requires-clause-below
ranges_of-requires-clause-below c = λ place key is.
    rw c.net_count.ensures (key_below _ c.args.order.now c.args.turns.now _ _ _ _ place key c.is_laid_out.ensures.laid_out c.in_ok-waits.ensures (rw c.as_slice.ensures.value at is))

pub returns : goal.returns
returns c =
    let ranges = rw c.as_slice.ensures.value at c.in_ok-starts.ensures in
    let owned = rw (c.as_slice-2.ensures.value, c.as_slice-3.ensures.value) at c.in_ok-readers.ensures in
    are_readers _ c.args.order.now c.args.turns.now _ _ _ _ _ c.net_count.result c.is_laid_out.ensures.laid_out c.requires.order c.net_count.ensures c.in_ok-waits.ensures ranges owned
