-- What pin lines come to, line by line with their bits.
use Rattle.std.proofs.Common.{◌≡◌, ℕ, ◌⊎◌, inl, inr, Bool, min, List, [], ◌∷◌, ◌++◌, length, drop, refl, ap, sym, ◌∙◌, arith, Option, None}
use Rattle.std.proofs.lemmas.Bool.{cases_lt}
use Rattle.list_laws.proofs.Lists.{none_left}
use Rattle.cell_library.specs.declared.codes.BoundaryKind.{BoundaryKind}
use Rattle.plan_texts.specs.declared.plan.PinLine.{PinLine}
use Rattle.plan_fitting.specs.declared.fault.FitFault.{FitFault}
use Rattle.plan_fitting.specs.declared.fitted.FitRow.{FitRow}
use Rattle.plan_fitting.specs.Pins.{PinSeen}
use Rattle.plan_fitting.specs.Fits as fits
use Rattle.plan_fitting.specs.Fits.{taken_by, cell_fault}
use Rattle.plan_fitting.specs.Rows.{rows_after}
use Rattle.std.proofs.lemmas.List.{append-nil}

-- no element is left of one of the lists
pub ended : {X Y : Type 0} (xs : List X) (ys : List Y) (n : ℕ) → n ≡ min (length xs) (length ys) → (drop n xs ≡ []) ⊎ (drop n ys ≡ [])
ended xs ys n is = elim (cases_lt (length ys) (length xs)) [
  | inl less ↦ inr (none_left ys n (omega (arith, is)))
  | inr more ↦ inl (none_left xs n (omega (arith, is)))
]

-- Boundary cells.

no_rows : (kind : BoundaryKind) (highz : Bool) (rows : List FitRow) (lines : List PinLine) → rows_after kind highz rows lines [] ≡ rows
no_rows kind highz rows [] = refl
no_rows kind highz rows (line ∷ lines) = refl

pub rows_end : (kind : BoundaryKind) (highz : Bool) (rows whole : List FitRow) (lines : List PinLine) (pins : List PinSeen) (n : ℕ) → n ≡ min (length lines) (length pins)
    → rows_after kind highz rows (drop n lines) (drop n pins) ≡ whole → rows ≡ whole
rows_end kind highz rows whole lines pins n is so_far = elim (ended lines pins n is) [
  | inl none ↦ sym (ap (λ (ls : List PinLine). rows_after kind highz rows ls (drop n pins)) none) ∙ so_far
  | inr none ↦ sym (ap (λ (ps : List PinSeen). rows_after kind highz rows (drop n lines) ps) none ∙ no_rows kind highz rows (drop n lines)) ∙ so_far
]

-- What they take.

none_taken : (lines : List PinLine) → taken_by lines [] ≡ []
none_taken [] = refl
none_taken (line ∷ lines) = refl

pub taken_end : (front whole : List fits.Taken) (lines : List PinLine) (pins : List PinSeen) (n : ℕ) → n ≡ min (length lines) (length pins)
    → front ++ taken_by (drop n lines) (drop n pins) ≡ whole → front ≡ whole
taken_end front whole lines pins n is so_far = elim (ended lines pins n is) [
  | inl none ↦ sym (append-nil front) ∙ sym (ap (λ (ls : List PinLine). front ++ taken_by ls (drop n pins)) none) ∙ so_far
  | inr none ↦ sym (append-nil front) ∙ sym (ap (λ (ps : List PinSeen). front ++ taken_by (drop n lines) ps) none ∙ ap (λ (t : List fits.Taken). front ++ t) (none_taken (drop n lines))) ∙ so_far
]

-- Their cells.

no_fault : (lines : List PinLine) → cell_fault lines [] ≡ None
no_fault [] = refl
no_fault (line ∷ lines) = refl

pub suited_end : (whole : Option FitFault) (lines : List PinLine) (pins : List PinSeen) (n : ℕ) → n ≡ min (length lines) (length pins) → cell_fault (drop n lines) (drop n pins) ≡ whole → None ≡ whole
suited_end whole lines pins n is so_far = elim (ended lines pins n is) [
  | inl none ↦ sym (ap (λ (ls : List PinLine). cell_fault ls (drop n pins)) none) ∙ so_far
  | inr none ↦ sym (ap (λ (ps : List PinSeen). cell_fault (drop n lines) ps) none ∙ no_fault (drop n lines)) ∙ so_far
]
