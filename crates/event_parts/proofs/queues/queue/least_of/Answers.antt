use Rattle.event_parts.proofs.QueuesBits.{least_top, least_below}
use Rattle.event_parts.proofs.queues.queue.least_of.Goals as goal

pub returns : goal.returns
returns c =
    let top = c.lowest-top_bit.ensures in
    let mid = c.lowest-mid_bit.ensures in
    let low = c.lowest-2.ensures in
    least_below _ _ _ _ c.requires.mid (least_below _ _ _ _ c.requires.top (least_top _ _ _ c.in-Some.ensures.1 top.there top.set top.least) mid.there mid.set mid.least) low.there low.set low.least
