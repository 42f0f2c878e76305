use Rattle.std.proofs.Common.{◌≤◌, ◌+◌, ℕ, length}
use Rattle.event_parts.specs.KeysLaws.{IsLast}
use Rattle.event_parts.proofs.Walks.{Walked}
use Rattle.event_parts.proofs.keys.walk.Given as goal

abbrev pub invariant-loop-step : goal.invariant-loop-step
invariant-loop-step l = (upto : ℕ) × IsLast l.keys l.key upto l.link × (upto + l._step ≤ length l.keys) × Walked l.keys l.key l.fn.places.items l.places.items upto
