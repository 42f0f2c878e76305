-- What stands before the end of a name.
use Rattle.std.proofs.Common.{◌≡◌, ◌≢◌, ℕ, ◌-◌, Bool, true, false, List, ◌++◌, length, take, drop, if◌then◌else◌, Option, Some, None, refl, sym, ◌∙◌, ap, arith}
use Rattle.std.specs.Str.{bytes_eq}
use Rattle.std.proofs.lemmas.List.{take-append-drop, append_cancel_left, length-drop}
use Rattle.std.proofs.lemmas.Slice.Eq.{bytes_eq-Decides}
use Rattle.list_laws.proofs.Lists.{front_all}
use Rattle.list_laws.proofs.Tests.{never_true}
use Rattle.strip_model.specs.Prefix.{before_end}

pub ends_so : (end name : List ℕ) (n : ℕ) → bytes_eq (drop n name) end ≡ bytes_eq (take n name ++ end) name
ends_so end name n = by (bytes_eq (drop n name) end) refl
  where
    whole : name ≡ take n name ++ drop n name
    whole = sym (take-append-drop n name)

    by : (b : Bool) → bytes_eq (drop n name) end ≡ b → bytes_eq (drop n name) end ≡ bytes_eq (take n name ++ end) name
    by true e =
        let same : drop n name ≡ end = grind (arith, bytes_eq-Decides (drop n name) end) in
        let all : take n name ++ end ≡ name = ap (λ (rest : List ℕ). take n name ++ rest) (sym same) ∙ sym whole in
        let yes : bytes_eq (take n name ++ end) name ≡ true = grind (arith, bytes_eq-Decides (take n name ++ end) name) in
        e ∙ sym yes
    by false e =
        e ∙ sym (never_true (bytes_eq (take n name ++ end) name) (λ yes.
        let all : take n name ++ end ≡ name = grind (arith, bytes_eq-Decides (take n name ++ end) name) in
        let rest : end ≡ drop n name = append_cancel_left (take n name) end (drop n name) (all ∙ whole) in
        let same : bytes_eq (drop n name) end ≡ true = grind (arith, bytes_eq-Decides (drop n name) end) in
        let bad : true ≡ false = sym same ∙ e in cc))

-- all that is left behind a place
whole_end : (end name : List ℕ) (n : ℕ) → bytes_eq (take (length name - n) (drop n name)) end ≡ bytes_eq (drop n name) end
whole_end end name n = ap (λ (rest : List ℕ). bytes_eq rest end) (front_all (drop n name) (length name - n) (omega (arith, length-drop n name)))

-- what stands before the end, by where it begins
before_at : List ℕ → List ℕ → ℕ → Option (List ℕ)
before_at end name n = if bytes_eq (take n name ++ end) name then Some (take n name) else None

pub ends_told : (end name : List ℕ) (n : ℕ) (b : Bool) → n ≡ length name - length end → b ≡ bytes_eq (take (length name - n) (drop n name)) end → b ≡ true → Some (take n name) ≡ before_end end name
unfolding before_at
ends_told end name n b is same told =
    let at : bytes_eq (take n name ++ end) name ≡ true = sym (ends_so end name n) ∙ sym (same ∙ whole_end end name n) ∙ told in
    let here : Some (take n name) ≡ before_at end name n = rw at refl in
    here ∙ ap (before_at end name) is

pub ends_not : (end name : List ℕ) (n : ℕ) (b : Bool) → n ≡ length name - length end → b ≡ bytes_eq (take (length name - n) (drop n name)) end → b ≡ false → None ≡ before_end end name
unfolding before_at
ends_not end name n b is same told =
    let at : bytes_eq (take n name ++ end) name ≡ false = sym (ends_so end name n) ∙ sym (same ∙ whole_end end name n) ∙ told in
    let here : None ≡ before_at end name n = rw at refl in
    here ∙ ap (before_at end name) is
