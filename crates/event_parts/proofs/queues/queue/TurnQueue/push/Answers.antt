use Rattle.std.proofs.Common.{◌≡◌, ◌∙◌, sym, length}
use Rattle.event_parts.proofs.QueuesBits.{whole_front, pushed}
use Rattle.event_parts.proofs.queues.queue.TurnQueue.push.Goals as goal

pub returns : goal.returns
returns c =
    let whole : c.self.inside.low.len ≡ length c.set_below.new.low = sym c.as_mut_slice-3.ensures.len ∙ sym c.set_below.ensures.set.long in
    rw (← c.self.view_is, whole_front) (pushed _ _ _ (rw c.as_mut_slice-3.ensures.value at c.set_below.ensures.set))
