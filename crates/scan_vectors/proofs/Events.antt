-- The words of the header and of event lines.
use Rattle.std.proofs.Common.{◌≡◌, ℕ, Bool, true, false, ◌&&◌, List, [], ◌∷◌, Option, Some, None, codes, refl, subst}
use Rattle.std.specs.Str.{bytes_eq}
use Rattle.std.specs.Cmp.Lexicographic.{bytes_decides}
use Rattle.list_laws.proofs.Tests.{both_true}
use Rattle.signal_values.specs.declared.PinSig.{PinSig}
use Rattle.signal_values.specs.Values.{pin_sig_of}
use Rattle.scan_vectors.specs.declared.lines.Act.{Act}
use Rattle.scan_vectors.specs.declared.lines.Act.TheVariants as act
use Rattle.scan_vectors.specs.declared.lines.Line.{Line}
use Rattle.scan_vectors.specs.Grammar.{act_word, value_of, event_words, header_words}
use Rattle.scan_vectors.specs.Faults.{act_named, value_named, line_of, line_if, event_of, is_header}

is_header_two : (a b : List ℕ) → bytes_eq a (codes "events") && bytes_eq b (codes "1") ≡ true → a ∷ b ∷ [] ≡ header_words
is_header_two a b h =
    let both = both_true (bytes_eq a (codes "events")) (bytes_eq b (codes "1")) h in
    let e : a ≡ codes "events" = (bytes_decides a (codes "events")).0 both.0 in
    let f : b ≡ codes "1" = (bytes_decides b (codes "1")).0 both.1 in
    cc

pub header_is : (words : List (List ℕ)) → is_header words ≡ true → words ≡ header_words
header_is [] h = cc
header_is (a ∷ []) h = cc
header_is (a ∷ b ∷ []) h = is_header_two a b h
header_is (a ∷ b ∷ d ∷ more) h = cc

-- the letter with which these words write the event line
pub record HasWords (words : List (List ℕ)) (line : Line) : Type 0 where
  pub letter : ℕ
  pub words_are : words ≡ event_words line letter
  pub value_is : pin_sig_of letter ≡ Some (value_of line)

act_is-step : (word : List ℕ) (a : Act) (s t e : Bool) → bytes_eq word (codes "start") ≡ s → bytes_eq word (codes "set") ≡ t → bytes_eq word (codes "expect") ≡ e
    → act_named word ≡ Some a → word ≡ act_word a
act_is-step word act.Start true t e p q r h = (bytes_decides word (codes "start")).0 p
act_is-step word act.Set true t e p q r h = let k : act_named word ≡ Some act.Start = rw p in cc
act_is-step word act.Expect true t e p q r h = let k : act_named word ≡ Some act.Start = rw p in cc
act_is-step word act.Start false true e p q r h = let k : act_named word ≡ Some act.Set = rw (p, q) in cc
act_is-step word act.Set false true e p q r h = (bytes_decides word (codes "set")).0 q
act_is-step word act.Expect false true e p q r h = let k : act_named word ≡ Some act.Set = rw (p, q) in cc
act_is-step word act.Start false false true p q r h = let k : act_named word ≡ Some act.Expect = rw (p, q, r) in cc
act_is-step word act.Set false false true p q r h = let k : act_named word ≡ Some act.Expect = rw (p, q, r) in cc
act_is-step word act.Expect false false true p q r h = (bytes_decides word (codes "expect")).0 r
act_is-step word a false false false p q r h = let k : act_named word ≡ None = rw (p, q, r) in cc

act_is : (word : List ℕ) (a : Act) → act_named word ≡ Some a → word ≡ act_word a
act_is word a h = act_is-step word a (bytes_eq word (codes "start")) (bytes_eq word (codes "set")) (bytes_eq word (codes "expect")) refl refl refl h

letter_of : (word : List ℕ) (value : PinSig) → value_named word ≡ Some value → (letter : ℕ) × (word ≡ letter ∷ []) × (pin_sig_of letter ≡ Some value)
letter_of [] value h = cc
letter_of (letter ∷ []) value h = (letter, refl, h)
letter_of (letter ∷ next ∷ more) value h = cc

line_words : (a : Act) (first pin word : List ℕ) (value : PinSig) → first ≡ act_word a → value_named word ≡ Some value
    → HasWords (first ∷ pin ∷ word ∷ []) (line_of a pin value)
line_words act.Start first pin word value f h = let l = letter_of word value h in record { letter = l.0; words_are = (let k : word ≡ l.0 ∷ [] = l.1 in cc); value_is = l.2 }
line_words act.Set first pin word value f h = let l = letter_of word value h in record { letter = l.0; words_are = (let k : word ≡ l.0 ∷ [] = l.1 in cc); value_is = l.2 }
line_words act.Expect first pin word value f h = let l = letter_of word value h in record { letter = l.0; words_are = (let k : word ≡ l.0 ∷ [] = l.1 in cc); value_is = l.2 }

words_if : (first pin word : List ℕ) (line : Line) (a : Option Act) (value : Option PinSig) → act_named first ≡ a → value_named word ≡ value
    → line_if a pin value ≡ Some line → HasWords (first ∷ pin ∷ word ∷ []) line
words_if first pin word line None value e f h = cc
words_if first pin word line (Some a) None e f h = cc
words_if first pin word line (Some a) (Some value) e f h =
    let same : line_of a pin value ≡ line = cc in
    subst (λ (l : Line). HasWords (first ∷ pin ∷ word ∷ []) l) same (line_words a first pin word value (act_is first a e) f)

pub event_has_words : (words : List (List ℕ)) (line : Line) → event_of words ≡ Some line → HasWords words line
event_has_words [] line h = cc
event_has_words (a ∷ []) line h = cc
event_has_words (a ∷ pin ∷ []) line h = cc
event_has_words (a ∷ pin ∷ value ∷ []) line h = words_if a pin value line (act_named a) (value_named value) refl refl h
event_has_words (a ∷ pin ∷ value ∷ next ∷ more) line h = cc
