-- What steps leave, one after the other.
use Rattle.std.proofs.Common.{◌≡◌, ◌≤◌, ℕ, zero, suc, ◌+◌, ◌-◌, inl, inr, true, false, ◌&&◌, nat_le, List, [], ◌∷◌, length, drop, fold, slice_get, Some, refl, sym, arith, ◌∙◌, ap}
use Rattle.std.proofs.lemmas.Bool.Decides.{leb_tells}
use Rattle.verilog_lexicon.proofs.list_laws.Tests.{and_left, and_right}
use Rattle.verilog_lexicon.proofs.list_laws.Lists.{left_at}
use Rattle.signal_values.specs.declared.Sig.{Sig}
use Rattle.cell_library.specs.declared.listed.Step.{Step}
use Rattle.cell_library.specs.declared.listed.Step.TheVariants as step
use Rattle.cell_library.specs.Listed.{rest, after_step}
use Rattle.cell_library.specs.Sound.{wants, is_of, leaves_one}

drop_one : (n : ℕ) (xs : List Sig) → drop (suc n) xs ≡ rest (drop n xs)
drop_one zero [] = refl
drop_one zero (x ∷ xs) = refl
drop_one (suc n) [] = refl
drop_one (suc n) (x ∷ xs) = drop_one n xs

pub rest_drop : (n : ℕ) (xs : List Sig) → drop (n + 1) xs ≡ rest (drop n xs)
rest_drop n xs = let e : n + 1 ≡ suc n = omega arith in ap (λ (k : ℕ). drop k xs) e ∙ drop_one n xs

length-rest : (us : List Sig) → length (rest us) ≡ length us - 1
length-rest [] = refl
length-rest (u ∷ us) = omega arith

length-after_step : (xs us : List Sig) (s : Step) → length (after_step xs us s) ≡ length us - wants s + 1
length-after_step xs us (step.Input place) = omega arith
length-after_step xs us (step.Const b) = omega arith
length-after_step xs us step.Not = let a = length-rest us in omega arith
length-after_step xs us step.And = let a = length-rest us in let b = length-rest (rest us) in omega arith
length-after_step xs us step.Or = let a = length-rest us in let b = length-rest (rest us) in omega arith
length-after_step xs us step.Xor = let a = length-rest us in let b = length-rest (rest us) in omega arith
length-after_step xs us step.Mux = let a = length-rest us in let b = length-rest (rest us) in let c = length-rest (rest (rest us)) in omega arith

at_most : (a b : ℕ) → nat_le a b ≡ true → a ≤ b
at_most a b e = elim (leb_tells a b) [
  | inl h ↦ h.1
  | inr h ↦ absurd (let clash : true ≡ false = sym e ∙ h.0 in cc)
]

-- a step of a sound body leaves at most 16 values, from which the other steps are sound
pub record StepIsSound (count : ℕ) (xs us : List Sig) (s : Step) (steps : List Step) : Type 0 where
  pub few : length (after_step xs us s) ≤ 16
  pub goes_on : leaves_one count (length (after_step xs us s)) steps ≡ true

pub step_is_sound : (count : ℕ) (xs us : List Sig) (s : Step) (steps : List Step) → leaves_one count (length us) (s ∷ steps) ≡ true → StepIsSound count xs us s steps
step_is_sound count xs us s steps sound =
    let depth = length us - wants s + 1 in
    let a = and_right (is_of count s) (nat_le (wants s) (length us) && (nat_le depth 16 && leaves_one count depth steps)) sound in
    let b = and_right (nat_le (wants s) (length us)) (nat_le depth 16 && leaves_one count depth steps) a in
    let few = and_left (nat_le depth 16) (leaves_one count depth steps) b in
    let more = and_right (nat_le depth 16) (leaves_one count depth steps) b in
    let e = length-after_step xs us s in
    let low : depth ≤ 16 = at_most depth 16 few in
    record {
      few = rw e low;
      goes_on = rw e more;
    }

-- the loop over the steps
pub record Goes (count : ℕ) (xs us : List Sig) (i : ℕ) (steps : List Step) : Type 0 where
  pub same : fold (after_step xs) us (drop i steps) ≡ fold (after_step xs) [] steps
  pub sound : leaves_one count (length us) (drop i steps) ≡ true

pub goes_on : (count : ℕ) (xs us : List Sig) (i : ℕ) (steps : List Step) (s : Step) → slice_get steps i ≡ Some s → Goes count xs us i steps
    → (length (after_step xs us s) ≤ 16) × Goes count xs (after_step xs us s) (suc i) steps
goes_on count xs us i steps s at goes =
    let left : drop i steps ≡ s ∷ drop (suc i) steps = left_at steps i s at in
    let sound : leaves_one count (length us) (s ∷ drop (suc i) steps) ≡ true = ap (λ (l : List Step). leaves_one count (length us) l) (sym left) ∙ goes.sound in
    let next = step_is_sound count xs us s (drop (suc i) steps) sound in (
      next.few,
      record {
        same = ap (λ (l : List Step). fold (after_step xs) us l) (sym left) ∙ goes.same;
        sound = next.goes_on;
      },
    )
