-- Facts on each of a list.
use Rattle.std.proofs.Common.{ℕ, ◌≤◌, List, [], ◌∷◌}
use Rattle.std.specs.Prelude.{All}
use Rattle.std.proofs.lemmas.List.Elements.{All-nil, All-cons, All-head, All-tail}

pub each_so : {A : Type 0} (P Q : A → Type 0) → ((x : A) → P x → Q x) → (xs : List A) → All P xs → All Q xs
each_so P Q so [] all = All-nil Q
each_so P Q so (x ∷ xs) all = All-cons Q x xs (so x (All-head P x xs all)) (each_so P Q so xs (All-tail P x xs all))

pub both_so : {A : Type 0} (P Q R : A → Type 0) → ((x : A) → P x → Q x → R x) → (xs : List A) → All P xs → All Q xs → All R xs
both_so P Q R so [] all more = All-nil R
both_so P Q R so (x ∷ xs) all more =
    All-cons R x xs (so x (All-head P x xs all) (All-head Q x xs more)) (both_so P Q R so xs (All-tail P x xs all) (All-tail Q x xs more))

-- of what holds of all at each moment
pub at_each : {A : Type 0} (count : ℕ) (P : ℕ → A → Type 0) (xs : List A) → ((t : ℕ) → t ≤ count → All (P t) xs) → All (λ (x : A). (t : ℕ) → t ≤ count → P t x) xs
at_each {A} count P [] each = All-nil (λ (x : A). (t : ℕ) → t ≤ count → P t x)
at_each {A} count P (y ∷ ys) each =
    All-cons (λ (x : A). (t : ℕ) → t ≤ count → P t x) y ys (λ t below. All-head (P t) y ys (each t below))
    (at_each count P ys (λ t below. All-tail (P t) y ys (each t below)))
