use Rattle.std.proofs.Common.{◌≡◌, ◌≤◌, ℕ, ◌<◌, length, slice_index}
use Rattle.event_turns.proofs.readers.owners_at.Given as goal

abbrev pub invariant-loop-place : goal.invariant-loop-place
invariant-loop-place l = record {
  long : length l.readers.items ≡ l.place-index;
  upto : l.place-index ≤ length l.places;
  each : (k : ℕ) → k < l.place-index → slice_index l.readers.items k ≡ slice_index l.owners (slice_index l.places k);
}
