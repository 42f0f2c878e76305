use Rattle.std.proofs.Common.{◌≡◌, ℕ, ◌+◌, ◌<◌, List, [], ◌∷◌, ◌++◌, length, take, drop, get_or, Option, Some, None, suc, zero, refl, sym, ap, subst, ◌∙◌, arith, append_assoc}
use Rattle.std.specs.Prelude.{option_and_then}
use Rattle.std.proofs.lemmas.Option.{none-some}
use Rattle.std.proofs.lemmas.List.{append-nil, take-append-drop, drop_more, length-take-le}
use Rattle.std.proofs.Math.Seq.{take-length}
use Rattle.word_cutter.specs.Run.{run, Stops}
use Rattle.word_cutter.specs.Language.{Begun, Place, Cuts, outcome}
use Rattle.word_cutter.proofs.Runs.{and_then_assoc, and_then_same}

outcome_append : {S W : Type 0} (step : ℕ → S → ℕ → Option S) (end : S → Option W) (xs ys : List ℕ) (at : ℕ) (s : S) → outcome step end at s (xs ++ ys) ≡ option_and_then (λ t. outcome step end (at + length xs) t ys) (run step at s xs)
outcome_append step end [] ys at s = ap (λ (x : ℕ). outcome step end x s ys) (omega arith)
outcome_append step end (x ∷ xs) ys at s =
    and_then_same (λ t. outcome step end (at + 1) t (xs ++ ys)) (λ t. option_and_then (λ u. outcome step end (at + length (x ∷ xs)) u ys) (run step (at + 1) t xs)) (step at s x)
    (λ t. outcome_append step end xs ys (at + 1) t ∙ ap (λ (k : ℕ). option_and_then (λ u. outcome step end k u ys) (run step (at + 1) t xs)) (omega arith))
    ∙ sym (and_then_assoc (λ t. run step (at + 1) t xs) (λ u. outcome step end (at + length (x ∷ xs)) u ys) (step at s x))

outcome_on : {S W : Type 0} (step : ℕ → S → ℕ → Option S) (end : S → Option W) (start s : S) (bytes more : List ℕ) → run step 0 start bytes ≡ Some s → outcome step end 0 start (bytes ++ more) ≡ outcome step end (length bytes) s more
outcome_on step end start s bytes more ran = outcome_append step end bytes more 0 start ∙ ap (option_and_then (λ t. outcome step end (0 + length bytes) t more)) ran ∙ ap (λ (k : ℕ). outcome step end k s more) (omega arith)

outcome_end : {S W : Type 0} (step : ℕ → S → ℕ → Option S) (end : S → Option W) (start s : S) (bytes : List ℕ) → run step 0 start bytes ≡ Some s → outcome step end 0 start bytes ≡ end s
outcome_end step end start s bytes ran = ap (outcome step end 0 start) (sym (append-nil bytes)) ∙ outcome_on step end start s bytes [] ran

-- where the machine still runs, some text begins so
pub runs_begins : {S W : Type 0} (step : ℕ → S → ℕ → Option S) (end : S → Option (List W)) (start s : S) (WordsOf : List ℕ → List W → Type 0) (bytes : List ℕ) → Cuts step end start WordsOf → run step 0 start bytes ≡ Some s → Begun WordsOf bytes
runs_begins step end start s WordsOf bytes cuts ran =
    let last = cuts.closes (length bytes) s in
    (last.0, last.1, cuts.sound (bytes ++ last.0) last.1 (outcome_on step end start s bytes last.0 ran ∙ last.2))

-- the words of a text at whose end the machine stands
pub ends_words : {S W : Type 0} (step : ℕ → S → ℕ → Option S) (end : S → Option (List W)) (start s : S) (WordsOf : List ℕ → List W → Type 0) (bytes : List ℕ) (words : List W) → Cuts step end start WordsOf → run step 0 start bytes ≡ Some s → end s ≡ Some words → WordsOf bytes words
ends_words step end start s WordsOf bytes words cuts ran ends = cuts.sound bytes words (outcome_end step end start s bytes ran ∙ ends)

-- a text has at most one list of words
pub words_unique : {S W : Type 0} (step : ℕ → S → ℕ → Option S) (end : S → Option (List W)) (start : S) (WordsOf : List ℕ → List W → Type 0) (bytes : List ℕ) (v w : List W) → Cuts step end start WordsOf → WordsOf bytes v → WordsOf bytes w → Some v ≡ Some w
words_unique step end start WordsOf bytes v w cuts a b = sym (cuts.spelled bytes v a) ∙ cuts.spelled bytes w b

-- the text at whose byte the machine stops: the bytes before it, it, and what comes after
parts : (l : List ℕ) (i : ℕ) → i < length l → l ≡ take i l ++ (get_or l i 0 ∷ drop (i + 1) l)
parts l i within = sym (take-append-drop i l) ∙ ap (λ (m : List ℕ). take i l ++ m) (drop_more l i 0 within)

-- no text goes on with a byte at which the machine stops
stuck : {S W : Type 0} (step : ℕ → S → ℕ → Option S) (end : S → Option (List W)) (start s : S) (WordsOf : List ℕ → List W → Type 0) (xs ys : List ℕ) (b : ℕ) (words : List W) → Cuts step end start WordsOf → run step 0 start xs ≡ Some s → step (length xs) s b ≡ None → WordsOf (xs ++ b ∷ ys) words → ⊥
stuck step end start s WordsOf xs ys b words cuts ran stops cut =
    none-some words (sym (ap (option_and_then (λ t. outcome step end (length xs + 1) t ys)) stops) ∙ sym (outcome_on step end start s xs (b ∷ ys) ran) ∙ cuts.spelled (xs ++ b ∷ ys) words cut)

stuck_begins : {S W : Type 0} (step : ℕ → S → ℕ → Option S) (end : S → Option (List W)) (start s : S) (WordsOf : List ℕ → List W → Type 0) (xs ys : List ℕ) (b : ℕ) → Cuts step end start WordsOf → run step 0 start xs ≡ Some s → step (length xs) s b ≡ None → Begun WordsOf (xs ++ b ∷ ys) → ⊥
stuck_begins step end start s WordsOf xs ys b cuts ran stops begins =
    stuck step end start s WordsOf xs (ys ++ begins.0) b begins.1 cuts ran stops (subst (λ (x : List ℕ). WordsOf x begins.1) (append_assoc xs (b ∷ ys) begins.0) begins.2)

take_past : (xs ys : List ℕ) (b q : ℕ) → length xs < q → (more : List ℕ) × (take q (xs ++ b ∷ ys) ≡ xs ++ b ∷ more)
take_past [] ys b zero h = absurd (omega arith)
take_past [] ys b (suc q) h = (take q ys, refl)
take_past (x ∷ xs) ys b zero h = absurd (omega arith)
take_past (x ∷ xs) ys b (suc q) h = let t = take_past xs ys b q (omega arith) in (t.0, ap (λ (l : List ℕ). x ∷ l) t.1)

-- where the machine stops at a byte of a text, that is the place, and no text begins so
pub stops_place : {S W : Type 0} (step : ℕ → S → ℕ → Option S) (end : S → Option (List W)) (start : S) (WordsOf : List ℕ → List W → Type 0) (bytes : List ℕ) (place : ℕ) → Cuts step end start WordsOf → Stops step 0 start bytes place → Place WordsOf bytes place × (Begun WordsOf bytes → ⊥)
stops_place step end start WordsOf bytes place cuts stops =
    let xs : List ℕ = take place bytes in
    let b : ℕ = get_or bytes place 0 in
    let ys : List ℕ = drop (place + 1) bytes in
    let whole : bytes ≡ xs ++ b ∷ ys = parts bytes place stops.within in
    let len : length xs ≡ place = length-take-le place bytes (omega (arith, stops.within)) in
    let halt : step (length xs) stops.state b ≡ None = ap (λ (k : ℕ). step k stops.state b) (len ∙ omega arith) ∙ stops.stops in (
      record {
        within = omega (arith, stops.within);
        begins = runs_begins step end start stops.state WordsOf xs cuts stops.ran;
        greatest = λ q past within begins.
            let t = take_past xs ys b q (omega (arith, len, past)) in
            stuck_begins step end start stops.state WordsOf xs t.0 b cuts stops.ran halt (subst (Begun WordsOf) (ap (take q) whole ∙ t.1) begins);
      },
      λ begins. stuck_begins step end start stops.state WordsOf xs ys b cuts stops.ran halt (subst (Begun WordsOf) whole begins),
    )

-- where a text ends too early, its length is the place, and it has no words
pub ends_place : {S W : Type 0} (step : ℕ → S → ℕ → Option S) (end : S → Option (List W)) (start s : S) (WordsOf : List ℕ → List W → Type 0) (bytes : List ℕ) → Cuts step end start WordsOf → run step 0 start bytes ≡ Some s → end s ≡ None → Place WordsOf bytes (length bytes) × ((words : List W) → WordsOf bytes words → ⊥)
ends_place step end start s WordsOf bytes cuts ran ends = (
  record {
    within = omega arith;
    begins = subst (Begun WordsOf) (sym (take-length bytes)) (runs_begins step end start s WordsOf bytes cuts ran);
    greatest = λ q past within begins. absurd (omega arith);
  },
  λ words cut. none-some words (sym ends ∙ sym (outcome_end step end start s bytes ran) ∙ cuts.spelled bytes words cut),
)
