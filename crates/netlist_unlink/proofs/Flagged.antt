-- Flags of the names of ports.
use Rattle.std.proofs.Common.{◌≡◌, subst, ℕ, zero, suc, ◌+◌, ◌<◌, inl, inr, Bool, true, false, ◌||◌, ◌==◌, List, [], ◌∷◌, ◌++◌, length, take, refl, ap, sym, ◌∙◌, Option, Some, None, arith}
use Rattle.std.specs.Prelude.{slice_get, slice_set}
use Rattle.std.specs.Option.{option_map}
use Rattle.std.proofs.lemmas.Bool.{cases_eq, or_right}
use Rattle.std.proofs.lemmas.List.Folds.{list_any-append}
use Rattle.list_laws.proofs.Lists.{taken_more, slice_get-set_same, slice_get-set_other}
use Rattle.netlist_model.specs.declared.Name.TheVariants.{Original}
use Rattle.netlist_model.specs.Lists.{PortView}
use Rattle.netlist_unlink.specs.Rows.{has_port_name, is_original}
use Rattle.netlist_unlink.specs.Flags.{ArePortFlags}

length-slice_set : {X : Type 0} (xs : List X) (k : ℕ) (x : X) → length (slice_set xs k x) ≡ length xs
length-slice_set [] k x = refl
length-slice_set (y ∷ xs) zero x = refl
length-slice_set (y ∷ xs) (suc k) x = ap suc (length-slice_set xs k x)

-- one port more
has_port_name-more : (ports : List PortView) (port : PortView) (number other : ℕ) → port.name ≡ Original other → has_port_name (ports ++ port ∷ []) number ≡ (has_port_name ports number || (other == number))
has_port_name-more ports port number other is =
    list_any-append (λ (p : PortView). is_original number p.name) ports (port ∷ []) ∙ rw is (grind arith)

false_or : (a b : Bool) → b ≡ false → (a || b) ≡ a
false_or true b e = refl
false_or false b e = e

pub flags_noted : (table : List (List ℕ)) (ports : List PortView) (flags : List Bool) (p number : ℕ) → number < length table
    → option_map (λ (found : PortView). found.name) (slice_get ports p) ≡ Some (Original number)
    → ArePortFlags table (take p ports) flags → ArePortFlags table (take (p + 1) ports) (slice_set flags number true)
flags_noted table ports flags p number less at are = go (slice_get ports p) refl at
  where
    go : (o : Option PortView) → slice_get ports p ≡ o → option_map (λ (found : PortView). found.name) o ≡ Some (Original number) → ArePortFlags table (take (p + 1) ports) (slice_set flags number true)
    go None e is = absurd (cc)
    go (Some port) e is =
        let name : port.name ≡ Original number = grind arith in
        let whole : take p ports ++ port ∷ [] ≡ take (p + 1) ports = taken_more ports p port (take p ports) (take p ports ++ port ∷ []) e refl refl in
        let count = are.count in
        let P : List PortView → Type 0 = λ xs. ArePortFlags table xs (slice_set flags number true) in
        subst P whole (record {
          count = length-slice_set flags number true ∙ count;
          each = λ k below. elim (cases_eq k number) [
            | inl same ↦ ap (slice_get (slice_set flags number true)) same ∙ slice_get-set_same flags number true (omega arith)
                ∙ ap Some (sym (has_port_name-more (take p ports) port k number name ∙ or_right (has_port_name (take p ports) k) (number == k) (grind arith)))
            | inr apart ↦ slice_get-set_other flags number k true apart ∙ are.each k below
                ∙ ap Some (sym (has_port_name-more (take p ports) port k number name ∙ false_or (has_port_name (take p ports) k) (number == k) (grind arith)))
          ];
        })

pub no_flags : (table : List (List ℕ)) (flags : List Bool) → length flags ≡ length table → ((k : ℕ) → k < length flags → slice_get flags k ≡ Some false) → ArePortFlags table [] flags
no_flags table flags count each = record { count = count; each = λ k less. each k (omega arith) }
