-- Numbers that stand one after the other from a place on.
use Rattle.std.proofs.Common.{◌≡◌, ℕ, zero, suc, ◌+◌, ◌*◌, ◌<◌, ◌≤◌, ◌&&◌, ◌||◌, nat_lt, Bool, true, false, IsTrue, List, [], ◌∷◌, ◌++◌, length, length-append, slice_get, Some, refl, sym, ap, ◌∙◌, subst, inl, inr, ◌⊎◌, arith}
use Rattle.std.specs.List.{slice_index}
use Rattle.std.proofs.lemmas.Bool.{cases_lt}
use Rattle.list_laws.proofs.Lists.{slice_get-append_left, slice_get-append_right}
use Rattle.list_laws.proofs.Tests.{both_hold, other_holds}
use Rattle.gate_parts.specs.declared.Gate.{Gate}
use Rattle.gate_parts.specs.Parts.{is_flop_kind}
use Rattle.surrounded_core.specs.Above.{AreRanked}
use Rattle.std.proofs.lemmas.Option.{slice_get_within}

-- these are the numbers of the nets from this one on
abbrev pub StandAt : (ℕ → ℕ) → ℕ → List ℕ → Type 0
StandAt rank first ranks = (j x : ℕ) → slice_get ranks j ≡ Some x → rank (first + j) ≡ x

pub front_at : (rank : ℕ → ℕ) (first : ℕ) (xs ys : List ℕ) → StandAt rank first (xs ++ ys) → StandAt rank first xs
front_at rank first xs ys at j x h = at j x (slice_get-append_left xs ys j (slice_get_within xs j x h) ∙ h)

pub back_at : (rank : ℕ → ℕ) (first : ℕ) (xs ys : List ℕ) → StandAt rank first (xs ++ ys) → StandAt rank (first + length xs) ys
back_at rank first xs ys at j x h =
    let here : rank (first + (length xs + j)) ≡ x = at (length xs + j) x (slice_get-append_right xs ys (length xs + j) j refl ∙ h) in
    let e : first + (length xs + j) ≡ first + length xs + j = omega arith in
    rw e at here

-- behind a list of this length
pub behind_at : (rank : ℕ → ℕ) (first count : ℕ) (xs ys : List ℕ) → length xs ≡ count → StandAt rank first (xs ++ ys) → StandAt rank (first + count) ys
behind_at rank first count xs ys e at = subst (λ (n : ℕ). StandAt rank (first + n) ys) e (back_at rank first xs ys at)

pub moved_at : (rank : ℕ → ℕ) (first next : ℕ) (xs : List ℕ) → first ≡ next → StandAt rank first xs → StandAt rank next xs
moved_at rank first next xs e at = subst (λ (n : ℕ). StandAt rank n xs) e at

pub first_at : (rank : ℕ → ℕ) (first x : ℕ) (xs : List ℕ) → StandAt rank first xs → slice_get xs 0 ≡ Some x → rank first ≡ x
first_at rank first x xs at h = let e : first + 0 ≡ first = omega arith in let here : rank (first + 0) ≡ x = at 0 x h in rw e at here

-- Levels.

-- own: a net on this level above the base; a flip-flop, on level 0, has the number 0
abbrev pub level_rank : ℕ → ℕ → ℕ
level_rank base zero = 0
level_rank base (suc level) = base + suc level

abbrev pub levels_at : ℕ → List ℕ → List ℕ
levels_at base [] = []
levels_at base (level ∷ levels) = level_rank base level ∷ levels_at base levels

pub length_levels : (base : ℕ) (levels : List ℕ) → length (levels_at base levels) ≡ length levels
length_levels base [] = refl
length_levels base (level ∷ levels) = ap suc (length_levels base levels)

-- own: each gate but a flip-flop is on a level above 0
abbrev pub are_high : List ℕ → List Gate → Bool
are_high [] [] = true
are_high (level ∷ levels) (gate ∷ gates) = (is_flop_kind gate.kind || nat_lt 0 level) && are_high levels gates
are_high levels gates = false

level_up : (base level : ℕ) → level_rank base level ≤ base + level
level_up base zero = omega arith
level_up base (suc level) = omega arith

level_from : (base level : ℕ) → 0 < level → base + level ≤ level_rank base level
level_from base zero high = absurd (omega arith)
level_from base (suc level) high = omega arith

level_there : (base : ℕ) (levels : List ℕ) (gates : List Gate) → IsTrue (are_high levels gates) → (j : ℕ) → j < length gates
    → slice_get (levels_at base levels) j ≡ Some (level_rank base (slice_index levels j))
level_there base [] [] high j low = absurd (omega arith)
level_there base (level ∷ levels) [] high j low = absurd (omega arith)
level_there base [] (gate ∷ gates) high j low = absurd (cc)
level_there base (level ∷ levels) (gate ∷ gates) high zero low = refl
level_there base (level ∷ levels) (gate ∷ gates) high (suc j) low = level_there base levels gates (both_hold (is_flop_kind gate.kind || nat_lt 0 level) (are_high levels gates) high).1 j (omega arith)

level_high : (levels : List ℕ) (gates : List Gate) → IsTrue (are_high levels gates) → (k : ℕ) (gate : Gate) → slice_get gates k ≡ Some gate → is_flop_kind gate.kind ≡ false
    → 0 < slice_index levels k
level_high levels [] high k gate at is = absurd (cc)
level_high [] (g ∷ gates) high k gate at is = absurd (cc)
level_high (level ∷ levels) (g ∷ gates) high zero gate at is =
    let same : g ≡ gate = cc in
    let parts = both_hold (is_flop_kind g.kind || nat_lt 0 level) (are_high levels gates) high in
    let above : IsTrue (nat_lt 0 level) = other_holds (is_flop_kind g.kind) (nat_lt 0 level) parts.0 (ap (λ (x : Gate). is_flop_kind x.kind) same ∙ is) in
    grind (arith, above)
level_high (level ∷ levels) (g ∷ gates) high (suc k) gate at is = level_high levels gates (both_hold (is_flop_kind g.kind || nat_lt 0 level) (are_high levels gates) high).1 k gate at is

-- the nets of a table that stand so are numbered by its levels
pub ranked : (rank : ℕ → ℕ) (first base : ℕ) (levels : List ℕ) (gates : List Gate) → IsTrue (are_high levels gates) → StandAt rank first (levels_at base levels)
    → AreRanked rank first base levels gates
ranked rank first base levels gates high at = record {
  up_to = λ j low. let e = at j (level_rank base (slice_index levels j)) (level_there base levels gates high j low) in
      let up = level_up base (slice_index levels j) in omega arith;
  from = λ k gate there is. let e = at k (level_rank base (slice_index levels k)) (level_there base levels gates high k (slice_get_within gates k gate there)) in
      let from = level_from base (slice_index levels k) (level_high levels gates high k gate there is) in omega arith;
}

-- Parts behind one another.

abbrev pub blocks : (ℕ → List ℕ) → ℕ → List ℕ
blocks part zero = []
blocks part (suc count) = blocks part count ++ part count

last_or_before : (k count : ℕ) → k < suc count → (k ≡ count) ⊎ (k < count)
last_or_before k count low = elim (cases_lt k count) [
  | inl less ↦ inr less
  | inr more ↦ inl (omega arith)
]

-- each of three nets
pub length_triples : (part : ℕ → List ℕ) (count : ℕ) → ((k : ℕ) → length (part k) ≡ 3) → length (blocks part count) ≡ 3 * count
length_triples part zero each = refl
length_triples part (suc count) each =
    let both = length-append (blocks part count) (part count) in
    let one = each count in
    let rest = length_triples part count each in
    omega arith

pub triples_at : (rank : ℕ → ℕ) (first : ℕ) (part : ℕ → List ℕ) (count : ℕ) → ((k : ℕ) → length (part k) ≡ 3) → StandAt rank first (blocks part count)
    → (k : ℕ) → k < count → StandAt rank (first + 3 * k) (part k)
triples_at rank first part zero each at k low = absurd (omega arith)
triples_at rank first part (suc count) each at k low = elim (last_or_before k count low) [
  | inl e ↦ (let here = behind_at rank first (3 * count) (blocks part count) (part count) (length_triples part count each) at in
      subst (λ (n : ℕ). StandAt rank (first + 3 * n) (part n)) (sym e) here)
  | inr less ↦ triples_at rank first part count each (front_at rank first (blocks part count) (part count) at) k less
]

-- and of two
pub length_pairs : (part : ℕ → List ℕ) (count : ℕ) → ((k : ℕ) → length (part k) ≡ 2) → length (blocks part count) ≡ 2 * count
length_pairs part zero each = refl
length_pairs part (suc count) each =
    let both = length-append (blocks part count) (part count) in
    let one = each count in
    let rest = length_pairs part count each in
    omega arith

pub pairs_at : (rank : ℕ → ℕ) (first : ℕ) (part : ℕ → List ℕ) (count : ℕ) → ((k : ℕ) → length (part k) ≡ 2) → StandAt rank first (blocks part count)
    → (k : ℕ) → k < count → StandAt rank (first + 2 * k) (part k)
pairs_at rank first part zero each at k low = absurd (omega arith)
pairs_at rank first part (suc count) each at k low = elim (last_or_before k count low) [
  | inl e ↦ (let here = behind_at rank first (2 * count) (blocks part count) (part count) (length_pairs part count each) at in
      subst (λ (n : ℕ). StandAt rank (first + 2 * n) (part n)) (sym e) here)
  | inr less ↦ pairs_at rank first part count each (front_at rank first (blocks part count) (part count) at) k less
]
