use Rattle.std.proofs.Common.{◌≡◌, ℕ, ◌+◌, ◌<◌, List, [], ◌∷◌, ◌++◌, length, take, get_or, ap, ◌∙◌, arith}
use Rattle.std.proofs.lemmas.List.{append-nil, take_more, length-take-le}
use Rattle.std.proofs.lemmas.Grind.{flat_map-append}
use Rattle.std.specs.List.{enumerate_from}
use Rattle.bsdl_device.specs.Canonical.{each_after}

enumerate_from_append : {A : Type 0} (n : ℕ) (xs : List A) (y : A) → enumerate_from n (xs ++ y ∷ []) ≡ enumerate_from n xs ++ (n + length xs, y) ∷ []
enumerate_from_append {A} n [] y =
    let same : n ≡ n + length {A = A} [] = omega arith in
    ap (λ (k : ℕ). let row : ℕ × A = (k, y) in row ∷ []) same
enumerate_from_append {A} n (x ∷ xs) y =
    let same : n + 1 + length xs ≡ n + length (x ∷ xs) = omega arith in
    ap (λ (l : List (ℕ × A)). let row : ℕ × A = (n, x) in row ∷ l) (enumerate_from_append (n + 1) xs y)
    ∙ ap (λ (k : ℕ). let row : ℕ × A = (n, x) in let last : ℕ × A = (k, y) in row ∷ (enumerate_from (n + 1) xs ++ last ∷ [])) same

-- one more row of those that are numbered from 1
pub each_after_more : {A : Type 0} (between : List ℕ) (text : ℕ × A → List ℕ) (rows : List A) (i : ℕ) (d : A) → i < length rows → each_after between text (enumerate_from 1 (take (i + 1) rows)) ≡ each_after between text (enumerate_from 1 (take i rows)) ++ (between ++ text (i + 1, get_or rows i d))
each_after_more {A} between text rows i d within =
    let count : 1 + length (take i rows) ≡ i + 1 = omega (arith, length-take-le i rows (omega (arith, within))) in
    let row : ℕ × A = (i + 1, get_or rows i d) in
    ap (λ (l : List A). each_after between text (enumerate_from 1 l)) (take_more rows i d within)
    ∙ ap (λ (l : List (ℕ × A)). each_after between text l) (enumerate_from_append 1 (take i rows) (get_or rows i d))
    ∙ ap (λ (k : ℕ). let last : ℕ × A = (k, get_or rows i d) in each_after between text (enumerate_from 1 (take i rows) ++ last ∷ [])) count
    ∙ flat_map-append (λ x. between ++ text x) (enumerate_from 1 (take i rows)) (row ∷ [])
    ∙ ap (λ (l : List ℕ). each_after between text (enumerate_from 1 (take i rows)) ++ l) (append-nil (between ++ text row))
