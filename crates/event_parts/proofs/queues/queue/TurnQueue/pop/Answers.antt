use Rattle.std.proofs.Common.{◌≡◌, ◌∙◌, sym, length}
use Rattle.event_parts.proofs.QueuesBits.{whole_front, popped, least_within}
use Rattle.event_parts.proofs.queues.queue.TurnQueue.pop.Goals as goal

pub returns : goal.returns
returns c =
    let whole : c.self.inside.low.len ≡ length c.clear_below.new.low = sym c.as_mut_slice-3.ensures.len ∙ sym c.clear_below.ensures.cleared.long in
    let least = rw (← c.self.view_is) at c.in_ok-number.ensures in
    rw (← c.self.view_is, whole_front) (popped _ _ _ least (least_within _ _ least) (rw c.as_mut_slice-3.ensures.value at c.clear_below.ensures.cleared))
