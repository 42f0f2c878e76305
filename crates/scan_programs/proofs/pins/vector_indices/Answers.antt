use Rattle.std.proofs.Common.{ℕ, Some}
use Rattle.bsdl_device.specs.Ports.{index_at}
use Rattle.scan_programs.proofs.Lists.{counted_more}
use Rattle.scan_programs.proofs.pins.vector_indices.Goals as goal

pub loop-place-preserved : goal.loop-place-preserved
loop-place-preserved c =
    rw (c.in_ok-push.ensures.items, c.index_at.ensures)
    (counted_more (λ (place : ℕ). Some (index_at c.args.range place)) c.loop-place.list.items c.loop-place.place c.width-count.result _ c.loop-place-test.true c.loop-place.invariant)
