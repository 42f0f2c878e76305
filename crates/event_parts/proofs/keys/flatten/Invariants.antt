use Rattle.std.proofs.Common.{◌≡◌, ◌<◌, ◌+◌, ℕ, length, slice_index}
use Rattle.event_parts.specs.KeysLaws.{IsRange}
use Rattle.event_parts.proofs.keys.flatten.Given as goal

abbrev pub invariant-loop-key : goal.invariant-loop-key
invariant-loop-key l = record {
  ends : length l.starts.items ≡ l.key + 1;
  last : slice_index l.starts.items l.key ≡ length l.places.items;
  each : (key : ℕ) → key < l.key → IsRange l.keys key l.places.items (slice_index l.starts.items key) (slice_index l.starts.items (key + 1));
}
