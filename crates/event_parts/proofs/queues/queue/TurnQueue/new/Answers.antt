use Rattle.std.proofs.Common.{◌≡◌, ◌≤◌, ◌*◌, ℕ, arith}
use Rattle.event_parts.proofs.QueuesBits.{sums_zero}
use Rattle.event_parts.proofs.queues.queue.TurnQueue.new.Goals as goal

pub invariant_of-result : goal.invariant_of-result
invariant_of-result c = record {
  small = omega (arith, c.in_ok-vec.ensures.len);
  mid_small = omega (arith, c.in_ok-vec-2.ensures.len);
  top_small = omega (arith, c.in_ok-vec-3.ensures.len);
  mid = rw (c.in_ok-vec-2.ensures.items_if_clones_equal (λ y e. e), c.in_ok-vec.ensures.items_if_clones_equal (λ y e. e)) (sums_zero _ _ (omega arith));
  top = rw (c.in_ok-vec-3.ensures.items_if_clones_equal (λ y e. e), c.in_ok-vec-2.ensures.items_if_clones_equal (λ y e. e)) (sums_zero _ _ (omega arith));
}
