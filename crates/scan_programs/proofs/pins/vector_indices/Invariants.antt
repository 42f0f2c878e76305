use Rattle.std.proofs.Common.{◌≡◌, ◌-◌, ◌++◌, ℕ, map, Some}
use Rattle.bsdl_device.specs.Ports.{index_at, counted_from, indices}
use Rattle.scan_programs.proofs.pins.vector_indices.Given as goal

abbrev pub invariant-loop-place : goal.invariant-loop-place
invariant-loop-place l = l.list.items ++ map (λ (place : ℕ). Some (index_at l.range place)) (counted_from l.place (l.count - l.place)) ≡ indices (Some l.range)
