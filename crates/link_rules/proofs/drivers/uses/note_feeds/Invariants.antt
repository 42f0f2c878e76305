use Rattle.std.proofs.Common.{◌≡◌, ℕ, ◌<◌, length, take}
use Rattle.link_rules.specs.Uses.{uses_at, with_feeds}
use Rattle.link_rules.proofs.drivers.uses.note_feeds.Given as goal

abbrev pub invariant-loop-feed : goal.invariant-loop-feed
invariant-loop-feed l = record {
  len : length l.uses ≡ length l.initial.uses;
  each : (net : ℕ) → net < length l.initial.uses → uses_at l.uses net ≡ with_feeds net (take l.feed-index l.feeds) (uses_at l.initial.uses net);
}
