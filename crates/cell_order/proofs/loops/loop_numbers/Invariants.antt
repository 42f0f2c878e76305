use Rattle.std.proofs.Common.{◌≡◌, ◌-◌, ◌<◌, ℕ, length, slice_index}
use Rattle.netlist_model.specs.Orders.{StandsAt}
use Rattle.cell_order.proofs.loops.loop_numbers.Given as goal

abbrev pub invariant-loop-passed : goal.invariant-loop-passed
invariant-loop-passed l = record {
  count : length l.numbers ≡ l.passed;
  each : (i v : ℕ) → i < length l.numbers → StandsAt l.path (length l.path - 1 - i) v → slice_index l.numbers i ≡ v;
}
