-- What is gathered of lists, one behind another.
use Rattle.std.proofs.Common.{◌≡◌, ◌++◌, List, [], ap, ◌∙◌}

pub two_gathered : {X Y Z : Type 0} (first : List X → List Z) (second : List Y → List Z) (xs xs' : List X) (ys ys' : List Y) (none one two : List Z)
    → none ≡ [] → xs' ≡ xs → ys' ≡ ys → one ≡ none ++ first xs' → two ≡ one ++ second ys' → two ≡ first xs ++ second ys
two_gathered {X} {Y} {Z} first second xs xs' ys ys' none one two empty a b is then =
    then ∙ ap (λ (l : List Z). l ++ second ys') (is ∙ ap (λ (l : List Z). l ++ first xs') empty ∙ ap first a) ∙ ap (λ (l : List Y). first xs ++ second l) b

pub three_gathered : {X Y W Z : Type 0} (first : List X → List Z) (second : List Y → List Z) (third : List W → List Z) (xs xs' : List X) (ys ys' : List Y) (ws ws' : List W) (none one two three : List Z)
    → none ≡ [] → xs' ≡ xs → ys' ≡ ys → ws' ≡ ws → one ≡ none ++ first xs' → two ≡ one ++ second ys' → three ≡ two ++ third ws' → three ≡ first xs ++ second ys ++ third ws
three_gathered {X} {Y} {W} {Z} first second third xs xs' ys ys' ws ws' none one two three empty a b c is then last =
    let front : two ≡ first xs ++ second ys = two_gathered first second xs xs' ys ys' none one two empty a b is then in
    last ∙ ap (λ (l : List Z). l ++ third ws') front ∙ ap (λ (l : List W). first xs ++ second ys ++ third l) c
