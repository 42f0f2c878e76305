-- What is marked once more numbers are.
use Rattle.std.proofs.Common.{◌≡◌, ℕ, zero, suc, ◌<◌, ◌⊎◌, inl, inr, Bool, true, false, List, [], ◌∷◌, length, set, length-set, Contains, arith, refl, sym, subst, ◌∙◌}
use Rattle.std.specs.Prelude.{slice_index_or}
use Rattle.std.proofs.lemmas.List.{get_or-set_other, get_or-set_same, get_or_past}
use Rattle.std.proofs.lemmas.Bool.Decides.{eqb_tells, leb_tells}
use Rattle.list_laws.specs.Marks.{Marked, mark_all}

pub marked_inside : (marks : List Bool) (v : ℕ) → Marked marks v → v < length marks
marked_inside marks v q = elim (leb_tells (length marks) v) [
  | inl e ↦ absurd (let none = get_or_past marks v false e.1 in let no : false ≡ true = sym none ∙ q in cc)
  | inr e ↦ e.1
]

-- a mark stays when another is set
marked-set : (marks : List Bool) (u v : ℕ) → Marked marks v → Marked (set marks u true) v
marked-set marks u v q = elim (eqb_tells v u) [
  | inl e ↦ subst (λ y. Marked (set marks y true) v) e.1 (get_or-set_same marks v true false (marked_inside marks v q))
  | inr e ↦ get_or-set_other marks u v true false e.1 ∙ q
]

pub length-mark_all : (vertices : List ℕ) (marks : List Bool) → length (mark_all vertices marks) ≡ length marks
length-mark_all [] marks = refl
length-mark_all (u ∷ vertices) marks = length-mark_all vertices (set marks u true) ∙ length-set marks u true

pub mark_all-keeps : (vertices : List ℕ) (marks : List Bool) (v : ℕ) → Marked marks v → Marked (mark_all vertices marks) v
mark_all-keeps [] marks v q = q
mark_all-keeps (u ∷ vertices) marks v q = mark_all-keeps vertices (set marks u true) v (marked-set marks u v q)

mark_all-marks_at : (vertices : List ℕ) (marks : List Bool) (v k : ℕ) → v < length marks → k < length vertices → slice_index_or vertices k v ≡ v → Marked (mark_all vertices marks) v
mark_all-marks_at [] marks v k inside h e = absurd (omega (arith, h))
mark_all-marks_at (u ∷ vertices) marks v zero inside h e = mark_all-keeps vertices (set marks u true) v (subst (λ y. Marked (set marks y true) v) (sym e) (get_or-set_same marks v true false inside))
mark_all-marks_at (u ∷ vertices) marks v (suc k) inside h e = mark_all-marks_at vertices (set marks u true) v k (rw (length-set marks u true) inside) (omega (arith, h)) e

pub mark_all-marks : (vertices : List ℕ) (marks : List Bool) (v : ℕ) → v < length marks → Contains vertices v → Marked (mark_all vertices marks) v
mark_all-marks vertices marks v inside c = mark_all-marks_at vertices marks v c.0 inside c.1 c.2

pub mark_all-only : (vertices : List ℕ) (marks : List Bool) (v : ℕ) → Marked (mark_all vertices marks) v → Marked marks v ⊎ Contains vertices v
mark_all-only [] marks v q = inl q
mark_all-only (u ∷ vertices) marks v q = elim (mark_all-only vertices (set marks u true) v q) [
  | inl old ↦ elim (eqb_tells v u) [
    | inl e ↦ inr (zero, omega arith, sym e.1)
    | inr e ↦ inl (sym (get_or-set_other marks u v true false e.1) ∙ old)
  ]
  | inr c ↦ inr (suc c.0, omega (arith, c.1), c.2)
]
