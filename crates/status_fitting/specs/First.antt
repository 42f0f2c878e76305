-- The first of a list that can't stand behind those before it (own).
use Rattle.std.specs.Prelude.{◌≡◌, Bool, List, ◌∷◌, ◌++◌, IsTrue, IsFalse}

-- each can
abbrev pub Stands : {A : Type 0} → (List A → A → Bool) → List A → Type 0
Stands {A} cannot list = (before more : List A) (x : A) → list ≡ before ++ x ∷ more → IsFalse (cannot before x)

-- this one can't, and each before it can
pub record IsFirst {A : Type 0} (cannot : List A → A → Bool) (list : List A) (x : A) : Type 0 where
  pub before : List A
  pub more : List A
  pub split : list ≡ before ++ x ∷ more
  pub cannot_be : IsTrue (cannot before x)
  pub stand : Stands cannot before
