use Rattle.std.proofs.Common.{◌≡◌, drop}
use Rattle.std.specs.List.{position_from}
use Rattle.indexmap.specs.IndexMap.{get}
use Rattle.texts.proofs.first_faults.places.first_places.Given as goal

abbrev pub invariant-loop-place : goal.invariant-loop-place
invariant-loop-place g l = (k : g.row.K.Denot) → get g.K.PartialEq.eq l.places k ≡ position_from (g.K.PartialEq.eq k) l.place (drop l.place l.keys)
