-- Words that have the form of a command.
use Rattle.std.proofs.Common.{◌≡◌, ℕ, ◌<◌, ◌≤◌, List, [], ◌∷◌, length, map, get_or, sym, ap, ◌∙◌, arith, string_bytes}
use Rattle.std.specs.declared.string.String.{String}
use Rattle.std.specs.declared.alloc.Global.{Global}

-- a list of five elements, read by their places
pub five_are : {X : Type 0} (ws : List X) (a b c d e : X) → 5 ≤ length ws → length ws < 6 → a ≡ get_or ws 0 a → b ≡ get_or ws 1 b → c ≡ get_or ws 2 c → d ≡ get_or ws 3 d → e ≡ get_or ws 4 e
    → ws ≡ a ∷ b ∷ c ∷ d ∷ e ∷ []
five_are [] a b c d e long short i j k l m = absurd (omega arith)
five_are (x ∷ []) a b c d e long short i j k l m = absurd (omega arith)
five_are (x ∷ y ∷ []) a b c d e long short i j k l m = absurd (omega arith)
five_are (x ∷ y ∷ z ∷ []) a b c d e long short i j k l m = absurd (omega arith)
five_are (x ∷ y ∷ z ∷ v ∷ []) a b c d e long short i j k l m = absurd (omega arith)
five_are (x ∷ y ∷ z ∷ v ∷ w ∷ []) a b c d e long short i j k l m = cc (i, j, k, l, m)
five_are (x ∷ y ∷ z ∷ v ∷ w ∷ u ∷ ws) a b c d e long short i j k l m = absurd (omega arith)

-- five words, read by their places
pub words_of_five : (words : List (List ℕ)) (ws : List (String Global)) (a b c d e : String Global) (v w x y z : List ℕ) → map string_bytes ws ≡ words → ws ≡ a ∷ b ∷ c ∷ d ∷ e ∷ []
    → v ≡ string_bytes a → w ≡ string_bytes b → x ≡ string_bytes c → y ≡ string_bytes d → z ≡ string_bytes e → words ≡ v ∷ w ∷ x ∷ y ∷ z ∷ []
words_of_five words ws a b c d e v w x y z seen are va wb xc yd ze =
    sym seen ∙ ap (map string_bytes) are
    ∙ ap (λ (l : List ℕ). l ∷ string_bytes b ∷ string_bytes c ∷ string_bytes d ∷ string_bytes e ∷ []) (sym va)
    ∙ ap (λ (l : List ℕ). v ∷ l ∷ string_bytes c ∷ string_bytes d ∷ string_bytes e ∷ []) (sym wb)
    ∙ ap (λ (l : List ℕ). v ∷ w ∷ l ∷ string_bytes d ∷ string_bytes e ∷ []) (sym xc)
    ∙ ap (λ (l : List ℕ). v ∷ w ∷ x ∷ l ∷ string_bytes e ∷ []) (sym yd) ∙ ap (λ (l : List ℕ). v ∷ w ∷ x ∷ y ∷ l ∷ []) (sym ze)

-- a list of six elements, read by their places
pub six_are : {X : Type 0} (ws : List X) (a b c d e f : X) → 6 ≤ length ws → length ws < 7 → a ≡ get_or ws 0 a → b ≡ get_or ws 1 b → c ≡ get_or ws 2 c → d ≡ get_or ws 3 d → e ≡ get_or ws 4 e → f ≡ get_or ws 5 f
    → ws ≡ a ∷ b ∷ c ∷ d ∷ e ∷ f ∷ []
six_are [] a b c d e f long short i j k l m n = absurd (omega arith)
six_are (x ∷ []) a b c d e f long short i j k l m n = absurd (omega arith)
six_are (x ∷ y ∷ []) a b c d e f long short i j k l m n = absurd (omega arith)
six_are (x ∷ y ∷ z ∷ []) a b c d e f long short i j k l m n = absurd (omega arith)
six_are (x ∷ y ∷ z ∷ v ∷ []) a b c d e f long short i j k l m n = absurd (omega arith)
six_are (x ∷ y ∷ z ∷ v ∷ w ∷ []) a b c d e f long short i j k l m n = absurd (omega arith)
six_are (x ∷ y ∷ z ∷ v ∷ w ∷ u ∷ []) a b c d e f long short i j k l m n = cc (i, j, k, l, m, n)
six_are (x ∷ y ∷ z ∷ v ∷ w ∷ u ∷ t ∷ ws) a b c d e f long short i j k l m n = absurd (omega arith)

-- six words, read by their places
pub words_of_six : (words : List (List ℕ)) (ws : List (String Global)) (a b c d e f : String Global) (u v w x y z : List ℕ) → map string_bytes ws ≡ words → ws ≡ a ∷ b ∷ c ∷ d ∷ e ∷ f ∷ []
    → u ≡ string_bytes a → v ≡ string_bytes b → w ≡ string_bytes c → x ≡ string_bytes d → y ≡ string_bytes e → z ≡ string_bytes f → words ≡ u ∷ v ∷ w ∷ x ∷ y ∷ z ∷ []
words_of_six words ws a b c d e f u v w x y z seen are ua vb wc xd ye zf =
    sym seen ∙ ap (map string_bytes) are
    ∙ ap (λ (l : List ℕ). l ∷ string_bytes b ∷ string_bytes c ∷ string_bytes d ∷ string_bytes e ∷ string_bytes f ∷ []) (sym ua)
    ∙ ap (λ (l : List ℕ). u ∷ l ∷ string_bytes c ∷ string_bytes d ∷ string_bytes e ∷ string_bytes f ∷ []) (sym vb)
    ∙ ap (λ (l : List ℕ). u ∷ v ∷ l ∷ string_bytes d ∷ string_bytes e ∷ string_bytes f ∷ []) (sym wc)
    ∙ ap (λ (l : List ℕ). u ∷ v ∷ w ∷ l ∷ string_bytes e ∷ string_bytes f ∷ []) (sym xd)
    ∙ ap (λ (l : List ℕ). u ∷ v ∷ w ∷ x ∷ l ∷ string_bytes f ∷ []) (sym ye) ∙ ap (λ (l : List ℕ). u ∷ v ∷ w ∷ x ∷ y ∷ l ∷ []) (sym zf)

-- a list of seven elements, read by their places
pub seven_are : {X : Type 0} (ws : List X) (a b c d e f g : X) → 7 ≤ length ws → length ws < 8 → a ≡ get_or ws 0 a → b ≡ get_or ws 1 b → c ≡ get_or ws 2 c → d ≡ get_or ws 3 d → e ≡ get_or ws 4 e → f ≡ get_or ws 5 f
    → g ≡ get_or ws 6 g → ws ≡ a ∷ b ∷ c ∷ d ∷ e ∷ f ∷ g ∷ []
seven_are [] a b c d e f g long short i j k l m n o = absurd (omega arith)
seven_are (x ∷ []) a b c d e f g long short i j k l m n o = absurd (omega arith)
seven_are (x ∷ y ∷ []) a b c d e f g long short i j k l m n o = absurd (omega arith)
seven_are (x ∷ y ∷ z ∷ []) a b c d e f g long short i j k l m n o = absurd (omega arith)
seven_are (x ∷ y ∷ z ∷ v ∷ []) a b c d e f g long short i j k l m n o = absurd (omega arith)
seven_are (x ∷ y ∷ z ∷ v ∷ w ∷ []) a b c d e f g long short i j k l m n o = absurd (omega arith)
seven_are (x ∷ y ∷ z ∷ v ∷ w ∷ u ∷ []) a b c d e f g long short i j k l m n o = absurd (omega arith)
seven_are (x ∷ y ∷ z ∷ v ∷ w ∷ u ∷ t ∷ []) a b c d e f g long short i j k l m n o = cc (i, j, k, l, m, n, o)
seven_are (x ∷ y ∷ z ∷ v ∷ w ∷ u ∷ t ∷ s ∷ ws) a b c d e f g long short i j k l m n o = absurd (omega arith)

-- seven words, read by their places
pub words_of_seven : (words : List (List ℕ)) (ws : List (String Global)) (a b c d e f g : String Global) (t u v w x y z : List ℕ) → map string_bytes ws ≡ words → ws ≡ a ∷ b ∷ c ∷ d ∷ e ∷ f ∷ g ∷ []
    → t ≡ string_bytes a → u ≡ string_bytes b → v ≡ string_bytes c → w ≡ string_bytes d → x ≡ string_bytes e → y ≡ string_bytes f → z ≡ string_bytes g → words ≡ t ∷ u ∷ v ∷ w ∷ x ∷ y ∷ z ∷ []
words_of_seven words ws a b c d e f g t u v w x y z seen are ta ub vc wd xe yf zg =
    sym seen ∙ ap (map string_bytes) are
    ∙ ap (λ (l : List ℕ). l ∷ string_bytes b ∷ string_bytes c ∷ string_bytes d ∷ string_bytes e ∷ string_bytes f ∷ string_bytes g ∷ []) (sym ta)
    ∙ ap (λ (l : List ℕ). t ∷ l ∷ string_bytes c ∷ string_bytes d ∷ string_bytes e ∷ string_bytes f ∷ string_bytes g ∷ []) (sym ub)
    ∙ ap (λ (l : List ℕ). t ∷ u ∷ l ∷ string_bytes d ∷ string_bytes e ∷ string_bytes f ∷ string_bytes g ∷ []) (sym vc)
    ∙ ap (λ (l : List ℕ). t ∷ u ∷ v ∷ l ∷ string_bytes e ∷ string_bytes f ∷ string_bytes g ∷ []) (sym wd)
    ∙ ap (λ (l : List ℕ). t ∷ u ∷ v ∷ w ∷ l ∷ string_bytes f ∷ string_bytes g ∷ []) (sym xe)
    ∙ ap (λ (l : List ℕ). t ∷ u ∷ v ∷ w ∷ x ∷ l ∷ string_bytes g ∷ []) (sym yf) ∙ ap (λ (l : List ℕ). t ∷ u ∷ v ∷ w ∷ x ∷ y ∷ l ∷ []) (sym zg)
