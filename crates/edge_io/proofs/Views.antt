use Rattle.std.proofs.Common.{◌≡◌, ℕ, Bool, true, false, List, Option, refl, sym, ap, ◌∙◌, ◌⊎◌, inl, inr}
use Rattle.std.specs.Str.{bytes_eq}
use Rattle.std.specs.Cmp.Lexicographic.{bytes_decides}
use Rattle.edge_io.specs.Shelf.{ChangesOne, SameTold}

same_or_other : (b : Bool) (name other : List ℕ) → bytes_eq other name ≡ b → (other ≡ name) ⊎ (other ≡ name → ⊥)
same_or_other true name other h = inl ((bytes_decides other name).0 h)
same_or_other false name other h = inr (λ e. let t : bytes_eq other name ≡ true = (bytes_decides other name).1 e in cc)

-- what is seen of a change at one name
pub ChangesOne-view : {T U : Type 0} (view : Option T → Option U) (old new : List ℕ → Option T) (name : List ℕ) (change : Option T → Option T → Type 0) (seen : Option U → Option U → Type 0)
    → ChangesOne old new name change → seen (view (old name)) (view (new name)) → ChangesOne (λ n. view (old n)) (λ n. view (new n)) name seen
ChangesOne-view view old new name change seen one there = record { there = there; others = λ other ne. ap view (one.others other ne) }

-- what isn't changed at that name is seen the same at each
pub SameTold-view : {T U : Type 0} (view : Option T → Option U) (old new : List ℕ → Option T) (name : List ℕ) (change : Option T → Option T → Type 0)
    → ChangesOne old new name change → view (new name) ≡ view (old name) → SameTold (λ n. view (old n)) (λ n. view (new n))
SameTold-view view old new name change one there other =
    elim (same_or_other (bytes_eq other name) name other refl) [
      | inl same ↦ ap (λ n. view (new n)) same ∙ there ∙ ap (λ n. view (old n)) (sym same)
      | inr ne ↦ ap view (one.others other ne)
    ]
