-- Strings that are joined one by one.
use Rattle.std.proofs.Common.{◌≡◌, ℕ, ◌+◌, ◌<◌, ◌≤◌, List, ◌++◌, length, drop, get_or, sym, ap, ◌∙◌, append_assoc, append-nil}
use Rattle.std.proofs.lemmas.List.{drop_more, drop_all}
use Rattle.bsdl_device.specs.Shape.{joined}

pub joined_more : (strings : List (List ℕ)) (i : ℕ) (d before : List ℕ) → i < length strings → (before ++ get_or strings i d) ++ joined (drop (i + 1) strings) ≡ before ++ joined (drop i strings)
joined_more strings i d before within =
    append_assoc before (get_or strings i d) (joined (drop (i + 1) strings))
    ∙ sym (ap (λ (l : List (List ℕ)). before ++ joined l) (drop_more strings i d within))

pub joined_past : (strings : List (List ℕ)) (i : ℕ) (before : List ℕ) → length strings ≤ i → before ++ joined (drop i strings) ≡ before
joined_past strings i before past = ap (λ (l : List (List ℕ)). before ++ joined l) (drop_all i strings past) ∙ append-nil before
