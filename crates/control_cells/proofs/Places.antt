-- Places in a list with one element more.
use Rattle.std.proofs.Common.{◌≡◌, ℕ, suc, ◌+◌, Bool, true, false, cond, List, [], ◌∷◌, ◌++◌, length, position, Option, Some, None, refl, ap, sym, ◌∙◌, arith}
use Rattle.std.specs.List.{position_from}
use Rattle.std.proofs.lemmas.Iterator.Adapters.{position_from-zero}

from_last_no : {K : Type 0} (test : K → Bool) (i : ℕ) (xs : List K) (x : K) → test x ≡ false → position_from test i (xs ++ x ∷ []) ≡ position_from test i xs
from_last_no test i [] x fails = rw fails refl
from_last_no test i (y ∷ xs) x fails = ap (λ (o : Option ℕ). cond (test y) (Some i) o) (from_last_no test (i + 1) xs x fails)

from_last_yes : {K : Type 0} (test : K → Bool) (i : ℕ) (xs : List K) (x : K) → test x ≡ true → position_from test i xs ≡ None → position_from test i (xs ++ x ∷ []) ≡ Some (i + length xs)
from_last_yes test i [] x passes none = rw passes (ap (λ (n : ℕ). Some n) (omega arith))
from_last_yes test i (y ∷ xs) x passes none = by (test y) refl (from_last_yes test (i + 1) xs x passes)
  where
    by : (b : Bool) → test y ≡ b → (position_from test (i + 1) xs ≡ None → position_from test (i + 1) (xs ++ x ∷ []) ≡ Some (i + 1 + length xs))
        → cond (test y) (Some i) (position_from test (i + 1) (xs ++ x ∷ [])) ≡ Some (i + suc (length xs))
    by true e rest = let no : Some i ≡ None = rw e at none in absurd (cc)
    by false e rest = let more : position_from test (i + 1) xs ≡ None = rw e at none in rw e (rest more ∙ ap (λ (n : ℕ). Some n) (omega arith))

pub position-last_no : {K : Type 0} (test : K → Bool) (xs : List K) (x : K) → test x ≡ false → position test (xs ++ x ∷ []) ≡ position test xs
position-last_no test xs x fails = position_from-zero test (xs ++ x ∷ []) ∙ from_last_no test 0 xs x fails ∙ sym (position_from-zero test xs)

pub position-last_yes : {K : Type 0} (test : K → Bool) (xs : List K) (x : K) → test x ≡ true → position test xs ≡ None → position test (xs ++ x ∷ []) ≡ Some (length xs)
position-last_yes test xs x passes none =
    let all : 0 + length xs ≡ length xs = omega arith in
    position_from-zero test (xs ++ x ∷ []) ∙ from_last_yes test 0 xs x passes (sym (position_from-zero test xs) ∙ none) ∙ ap (λ (n : ℕ). Some n) all
