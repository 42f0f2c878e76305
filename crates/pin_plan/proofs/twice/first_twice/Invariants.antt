use Rattle.std.proofs.Common.{◌≡◌, [], map, take, drop}
use Rattle.plan_fitting.specs.Fits.{twice_after}
use Rattle.pin_plan.specs.Taken.{taken_view, key_of_taken}
use Rattle.pin_plan.proofs.twice.first_twice.Given as goal

abbrev pub invariant-loop-one : goal.invariant-loop-one
invariant-loop-one l =
    (l.before.keys ≡ map key_of_taken (take l.one-index l.taken))
    × (twice_after (map taken_view (take l.one-index l.taken)) (map taken_view (drop l.one-index l.taken)) ≡ twice_after [] (map taken_view l.taken))
