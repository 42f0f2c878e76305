use Rattle.std.proofs.Common.{◌≡◌, ◌≤◌, ◌+◌, ◌-◌, ℕ, drop, length}
use Rattle.texts.specs.Repeated.{texts}
use Rattle.cell_text.specs.Reader.{fit_count}
use Rattle.cell_text.proofs.names.fit_count.Given as goal

abbrev pub invariant-loop-count : goal.invariant-loop-count
invariant-loop-count l = record {
  so_far : l.count + fit_count (drop l.count (texts l.names)) ≡ fit_count (texts l.names);
  within : l.count ≤ length l.names;
}

abbrev pub decreases-loop-count : goal.decreases-loop-count
decreases-loop-count l = length l.names - l.count
