-- The wires of added nets are made from the first number on.
use Rattle.std.proofs.Common.{◌≡◌, ℕ, suc, ◌+◌, List, ◌++◌, drop, refl, ap, sym, ◌∙◌, subst, arith, add-one, append_assoc, Option, Some, None}
use Rattle.std.specs.Prelude.{slice_get}
use Rattle.std.specs.Option.{option_map}
use Rattle.list_laws.proofs.Lists.{left_at}
use Rattle.verilog_tree.specs.declared.tree.Wire.{Wire}
use Rattle.netlist_model.specs.Lists.{NetView}
use Rattle.netlist_unlink.specs.Trees.{added_from, added_wire}

pub added_more : (prefix : List ℕ) (nets : List NetView) (n : ℕ) (front now all : List Wire)
    → option_map (λ (view : NetView). front ++ added_wire prefix n view.name) (slice_get nets n) ≡ Some now
    → front ++ added_from prefix n (drop n nets) ≡ all → now ++ added_from prefix (n + 1) (drop (n + 1) nets) ≡ all
added_more prefix nets n front now all at so_far = go (slice_get nets n) refl at
  where
    go : (o : Option NetView) → slice_get nets n ≡ o → option_map (λ (view : NetView). front ++ added_wire prefix n view.name) o ≡ Some now
        → now ++ added_from prefix (n + 1) (drop (n + 1) nets) ≡ all
    go None e is = absurd (cc)
    go (Some view) e is =
        let split = left_at nets n view e in
        let grown : front ++ added_wire prefix n view.name ≡ now = grind arith in
        let rest = added_from prefix (n + 1) (drop (suc n) nets) in
        let whole : added_from prefix n (drop n nets) ≡ added_wire prefix n view.name ++ rest = ap (added_from prefix n) split in
        let D : ℕ → Type 0 = λ k. now ++ added_from prefix (n + 1) (drop k nets) ≡ all in
        subst D (sym (add-one n)) (ap (λ (xs : List Wire). xs ++ rest) (sym grown) ∙ append_assoc front (added_wire prefix n view.name) rest
        ∙ ap (λ (xs : List Wire). front ++ xs) (sym whole) ∙ so_far)
