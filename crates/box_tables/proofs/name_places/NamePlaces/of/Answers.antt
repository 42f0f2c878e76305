use Rattle.std.proofs.Common.{List, ℕ, Bor, position, ◌∙◌, ap}
use Rattle.std.specs.Str.{bytes_eq}
use Rattle.box_tables.proofs.Places.{finds_names}
use Rattle.box_tables.proofs.name_places.NamePlaces.of.Goals as goal

pub invariant_of-result : goal.invariant_of-result
invariant_of-result c =
    finds_names c.args.names.items c.in_ok-places.places.entries
    (λ k. c.in_ok-places.ensures k ∙ ap (λ (names : List (Bor (List ℕ))). position (λ (j : Bor (List ℕ)). bytes_eq k.now j.now) names) c.deref.ensures.value)
