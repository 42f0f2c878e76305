use Rattle.std.proofs.Common.{ℕ, List, position, ◌∙◌, ap}
use Rattle.std.specs.Borrow.{Bor}
use Rattle.std.specs.Str.{bytes_eq}
use Rattle.netlist_recovery.proofs.FoundSides.{finds_sides}
use Rattle.netlist_recovery.proofs.side_table.SideTable.of.Goals as goal

pub invariant_of-result : goal.invariant_of-result
invariant_of-result c =
    finds_sides c.args.sides.now c.in_ok-names.names.items c.in_ok-places.places.entries c.in_ok-names.ensures
    (λ k. c.in_ok-places.ensures k ∙ ap (λ (keys : List (Bor (List ℕ))). position (λ (j : Bor (List ℕ)). bytes_eq k.now j.now) keys) c.deref.ensures.value)
