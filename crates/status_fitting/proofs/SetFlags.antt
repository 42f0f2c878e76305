-- Flags that are set one by one.
use Rattle.std.proofs.Common.{◌≡◌, ◌≢◌, ℕ, zero, suc, ◌<◌, ◌⊎◌, inl, inr, Bool, true, false, List, [], ◌∷◌, length, replicate, refl, ap, sym, ◌∙◌, subst, Some, arith}
use Rattle.std.specs.Prelude.{slice_get, slice_set, ◌↔◌}
use Rattle.std.proofs.lemmas.Bool.{cases_eq}
use Rattle.list_laws.proofs.Lists.{slice_get-set_same, slice_get-set_other}
use Rattle.status_fitting.specs.Tables.{AreFlagged}

length-slice_set : {X : Type 0} (xs : List X) (k : ℕ) (x : X) → length (slice_set xs k x) ≡ length xs
length-slice_set [] k x = refl
length-slice_set (y ∷ xs) zero x = refl
length-slice_set (y ∷ xs) (suc k) x = ap suc (length-slice_set xs k x)

-- one more is so, and it is flagged
pub flag_set : (P Q : ℕ → Type 0) (count : ℕ) (flags : List Bool) (k : ℕ) → k < count → AreFlagged P count flags → Q k → ((n : ℕ) → P n → Q n)
    → ((n : ℕ) → n ≢ k → Q n → P n) → AreFlagged Q count (slice_set flags k true)
flag_set P Q count flags k less are here kept only = record {
  long = length-slice_set flags k true ∙ are.long;
  each = λ n. by n (cases_eq n k);
}
  where
    by : (n : ℕ) → (n ≡ k) ⊎ (n ≢ k) → (slice_get (slice_set flags k true) n ≡ Some true) ↔ Q n
    by n (inl same) =
        let long = are.long in
        let there = slice_get-set_same flags k true (omega arith) in (
          λ set. subst Q (sym same) here,
          λ so. ap (slice_get (slice_set flags k true)) same ∙ there,
        )
    by n (inr apart) =
        let other = slice_get-set_other flags k n true apart in (
          λ set. kept n ((are.each n).0 (sym other ∙ set)),
          λ so. other ∙ (are.each n).1 (only n apart so),
        )

-- nothing more is so
pub flags_kept : (P Q : ℕ → Type 0) (count : ℕ) (flags : List Bool) → AreFlagged P count flags → ((n : ℕ) → P n → Q n) → ((n : ℕ) → Q n → P n) → AreFlagged Q count flags
flags_kept P Q count flags are kept only = record {
  long = are.long;
  each = λ n. (λ set. kept n ((are.each n).0 set), λ so. (are.each n).1 (only n so));
}

none_set : (count n : ℕ) → slice_get (replicate count false) n ≡ Some true → ⊥
none_set zero n set = cc
none_set (suc count) zero set = cc
none_set (suc count) (suc n) set = none_set count n set

length-none : (count : ℕ) → length (replicate count false) ≡ count
length-none zero = refl
length-none (suc count) = ap suc (length-none count)

-- nothing is so
pub none_flagged : (P : ℕ → Type 0) (count : ℕ) (flags : List Bool) → flags ≡ replicate count false → ((n : ℕ) → P n → ⊥) → AreFlagged P count flags
none_flagged P count flags is none = record {
  long = ap length is ∙ length-none count;
  each = λ n. (λ set. absurd (none_set count n (ap (λ (fs : List Bool). slice_get fs n) (sym is) ∙ set)), λ so. absurd (none n so));
}

-- the flag of what is so
pub flag_there : (P : ℕ → Type 0) (count : ℕ) (flags : List Bool) (n : ℕ) (flag : Bool) → AreFlagged P count flags → ((flag ≡ true) ↔ (slice_get flags n ≡ Some true)) → (flag ≡ true) ↔ P n
flag_there P count flags n flag are is = (λ set. (are.each n).0 (is.0 set), λ so. is.1 ((are.each n).1 so))
