use Rattle.std.proofs.Common.{◌≡◌, ◌≤◌, ℕ, Some, length}
use Rattle.std.specs.Prelude.{slice_get}
use Rattle.event_turns.specs.declared.circuit.Gate.{Gate}
use Rattle.event_turns.specs.declared.circuit.Row.{Row}
use Rattle.event_turns.specs.Circuits.{IsRowOf}
use Rattle.event_turns.proofs.rows.rows_of.Given as goal

abbrev pub invariant-loop-gate : goal.invariant-loop-gate
invariant-loop-gate l = record {
  long : length l.rows.items ≡ l.gate-index;
  upto : l.gate-index ≤ length l.gates;
  each : (place : ℕ) (gate : Gate) (row : Row) → slice_get l.gates place ≡ Some gate → slice_get l.rows.items place ≡ Some row → IsRowOf l.library l.feeds l.sides gate row;
}
