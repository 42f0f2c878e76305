use Rattle.std.proofs.Common.{◌≡◌, ℕ, ◌<◌, false, Some}
use Rattle.std.specs.Prelude.{slice_get}
use Rattle.netlist_model.specs.declared.Feed.{Feed}
use Rattle.event_turns.specs.Tables.{feed_late, late_at}
use Rattle.event_turns.proofs.tables.has_late.Given as goal

abbrev pub invariant-loop-feed : goal.invariant-loop-feed
invariant-loop-feed l = (k : ℕ) (feed : Feed) → k < l.feed-index → slice_get l.feeds k ≡ Some feed → feed_late (late_at l.late) feed ≡ false
