use Rattle.std.proofs.Common.{List, ℕ, Bor, position, ◌∙◌, ap}
use Rattle.std.specs.Str.{bytes_eq}
use Rattle.hier_model.proofs.Tables.{finds_modules}
use Rattle.hier_model.proofs.walk.modules.ModuleTable.of.Goals as goal

pub invariant_of-result : goal.invariant_of-result
invariant_of-result c =
    finds_modules c.args.modules.now c.in_ok-names.names.items c.in_ok-places.places.entries c.in_ok-names.ensures
    (λ k. c.in_ok-places.ensures k ∙ ap (λ (names : List (Bor (List ℕ))). position (λ (j : Bor (List ℕ)). bytes_eq k.now j.now) names) c.deref.ensures.value)
