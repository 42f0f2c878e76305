-- What is known of the words of a text, and of the runs of a section's strings.
use Rattle.std.proofs.Common.{◌≡◌, ℕ, ◌+◌, ◌-◌, ◌*◌, ◌^◌, ◌<◌, ◌≤◌, List, [], ◌∷◌, Bool, true, false, Option, Some, None, length, refl, sym, ap, subst, ◌∙◌, arith, leb-true}
use Rattle.std.specs.Prelude.{◌==◌, ◌&&◌, not, nat_le, IsTrue, if◌then◌else◌}
use Rattle.std.specs.List.{list_all, AllByRecursion}
use Rattle.list_laws.proofs.Tests.{and_left, and_right}
use Rattle.list_laws.proofs.Lists.{all_front, all_back}
use Rattle.cell_library.specs.declared.codes.Bits.{Bits}
use Rattle.bsdl_lexicon.specs.declared.token.BsdlToken.{BsdlToken}
use Rattle.bsdl_lexicon.specs.declared.token.BsdlToken.TheVariants as word
use Rattle.bsdl_lexicon.specs.Bytes.{is_name_byte, is_digit}
use Rattle.bsdl_lexicon.specs.Reserved.{is_reserved}
use Rattle.bsdl_lexicon.specs.Words.{plain}
use Rattle.bsdl_lexicon.specs.Pieces.{Piece, blank, comment, identifier, integer, real, quoted, symbol, becomes, spelling, IsIdentifier, IsInteger, IsReal, ArePieces, value_from, words_from}
use Rattle.bsdl_device.specs.Patterns.{each_after, separated_by}
use Rattle.bsdl_device.specs.Shape as shape
use Rattle.bsdl_device.specs.Runs as runs
use Rattle.bsdl_device.specs.Runs.{ContentWord, Run, Other, content_words, lengthened, begins_run, value_after, is_integer, is_pattern, is_pin, is_identifier}

-- Numbers of few digits.

-- the greatest value of so many digits, behind a number that was read before
abbrev most : ℕ → List ℕ → ℕ
most n [] = n
most n (d ∷ ds) = most (10 * n + 9) ds

few_digits : (ds : List ℕ) → length ds ≤ 9 → most 0 ds < 10 ^ 9
few_digits [] h = omega arith
few_digits (a ∷ []) h = omega arith
few_digits (a ∷ b ∷ []) h = omega arith
few_digits (a ∷ b ∷ c ∷ []) h = omega arith
few_digits (a ∷ b ∷ c ∷ d ∷ []) h = omega arith
few_digits (a ∷ b ∷ c ∷ d ∷ e ∷ []) h = omega arith
few_digits (a ∷ b ∷ c ∷ d ∷ e ∷ f ∷ []) h = omega arith
few_digits (a ∷ b ∷ c ∷ d ∷ e ∷ f ∷ g ∷ []) h = omega arith
few_digits (a ∷ b ∷ c ∷ d ∷ e ∷ f ∷ g ∷ i ∷ []) h = omega arith
few_digits (a ∷ b ∷ c ∷ d ∷ e ∷ f ∷ g ∷ i ∷ j ∷ []) h = omega arith
few_digits (a ∷ b ∷ c ∷ d ∷ e ∷ f ∷ g ∷ i ∷ j ∷ k ∷ ds) h = absurd (omega arith)

digit_below : (d : ℕ) → is_digit d ≡ true → d - 48 ≤ 9
digit_below d h = grind arith

value_most : (n m : ℕ) (ds : List ℕ) → n ≤ m → AllByRecursion (λ d. IsTrue (is_digit d)) ds → value_from n ds ≤ most m ds
value_most n m [] le all = le
value_most n m (d ∷ ds) le all = value_most (10 * n + (d - 48)) (10 * m + 9) ds (let low : d - 48 ≤ 9 = digit_below d all.0 in omega arith) all.1

integer_small : (digits : List ℕ) → IsInteger digits → value_from 0 digits < 10 ^ 9
integer_small digits is = let below : most 0 digits < 10 ^ 9 = few_digits digits is.1 in let value : value_from 0 digits ≤ most 0 digits = value_most 0 0 digits (omega arith) is.0.1 in omega arith

value_after_most : (n m : ℕ) (ds : List ℕ) → n ≤ m → list_all is_digit ds ≡ true → value_after 10 n ds ≤ most m ds
value_after_most n m [] le all = le
value_after_most n m (d ∷ ds) le all = value_after_most (10 * n + (d - 48)) (10 * m + 9) ds (let low : d - 48 ≤ 9 = digit_below d (and_left (is_digit d) (list_all is_digit ds) all) in omega arith) (and_right (is_digit d) (list_all is_digit ds) all)

-- Words of a text.

abbrev pub GoodToken : BsdlToken → Type 0
GoodToken (word.Name name) = IsIdentifier name
GoodToken (word.Integer value) = value < 10 ^ 9
GoodToken (word.Real bytes) = IsReal bytes
GoodToken (word.Quoted bytes) = Unit {0}
GoodToken (word.Symbol s) = Unit {0}
GoodToken word.Becomes = Unit {0}

pub good_tokens : (at : ℕ) (ps : List Piece) → ArePieces ps → AllByRecursion GoodToken (plain (words_from at ps))
good_tokens at [] are = tt
good_tokens at (blank b ∷ ps) are = good_tokens (at + length (spelling (blank b))) ps are.2
good_tokens at (comment bytes ∷ ps) are = good_tokens (at + length (spelling (comment bytes))) ps are.2
good_tokens at (identifier bytes ∷ ps) are = (are.0, good_tokens (at + length (spelling (identifier bytes))) ps are.2)
good_tokens at (integer digits ∷ ps) are = (integer_small digits are.0, good_tokens (at + length (spelling (integer digits))) ps are.2)
good_tokens at (real bytes ∷ ps) are = (are.0, good_tokens (at + length (spelling (real bytes))) ps are.2)
good_tokens at (quoted bytes ∷ ps) are = (tt, good_tokens (at + length (spelling (quoted bytes))) ps are.2)
good_tokens at (symbol s ∷ ps) are = (tt, good_tokens (at + length (spelling (symbol s))) ps are.2)
good_tokens at (becomes ∷ ps) are = (tt, good_tokens (at + length (spelling becomes)) ps are.2)

-- Runs of strings.

abbrev pub GoodWord : ContentWord → Type 0
GoodWord (Run bytes) = list_all is_name_byte bytes ≡ true
GoodWord (Other b) = Unit {0}

lengthened_good : (b : ℕ) (ws : List ContentWord) → is_name_byte b ≡ true → AllByRecursion GoodWord ws → AllByRecursion GoodWord (lengthened b ws)
lengthened_good b [] h all = (ap (λ (x : Bool). x && true) h, tt)
lengthened_good b (Run bytes ∷ ws) h all = (ap (λ (x : Bool). x && list_all is_name_byte bytes) h ∙ all.0, all.1)
lengthened_good b (Other other ∷ ws) h all = (ap (λ (x : Bool). x && true) h, all)

pub good_words : (bytes : List ℕ) → AllByRecursion GoodWord (content_words bytes)
good_words [] = tt
good_words (b ∷ bytes) = by (is_name_byte b) refl (begins_run bytes) (b == 32) (good_words bytes)
  where
    by : (n : Bool) → is_name_byte b ≡ n → (r s : Bool) → AllByRecursion GoodWord (content_words bytes)
        → AllByRecursion GoodWord (if n then (if r then lengthened b (content_words bytes) else Run (b ∷ []) ∷ content_words bytes) else if s then content_words bytes else Other b ∷ content_words bytes)
    by true is true s rest = lengthened_good b (content_words bytes) is rest
    by true is false s rest = (ap (λ (x : Bool). x && true) is, rest)
    by false is r true rest = rest
    by false is r false rest = (tt, rest)

-- What patterns want that good words are.

abbrev pub GoodPattern : shape.Pattern → Type 0
GoodPattern (shape.KeyWord w) = Unit {0}
GoodPattern (shape.NameOf name) = IsIdentifier name × (is_reserved name ≡ false)
GoodPattern (shape.IntegerOf value) = value < 10 ^ 9
GoodPattern (shape.RealOf bytes) = IsReal bytes
GoodPattern (shape.StringOf bytes) = Unit {0}
GoodPattern (shape.Mark s) = Unit {0}
GoodPattern shape.BecomesMark = Unit {0}

name_good : (name wanted : List ℕ) (r : Bool) → is_reserved name ≡ r → IsIdentifier name → (if r then None else Some name) ≡ Some wanted → IsIdentifier wanted × (is_reserved wanted ≡ false)
name_good name wanted true is id h = absurd (cc)
name_good name wanted false is id h = let same : name ≡ wanted = cc in subst (λ (n : List ℕ). IsIdentifier n × (is_reserved n ≡ false)) same (id, is)

pattern_good : (p : shape.Pattern) (w : BsdlToken) → GoodToken w → shape.Fits p w → GoodPattern p
pattern_good (shape.KeyWord k) w good fits = tt
pattern_good (shape.NameOf name) (word.Name n) good fits = name_good n name (is_reserved n) refl good fits
pattern_good (shape.NameOf name) (word.Integer v) good fits = absurd (cc)
pattern_good (shape.NameOf name) (word.Real r) good fits = absurd (cc)
pattern_good (shape.NameOf name) (word.Quoted q) good fits = absurd (cc)
pattern_good (shape.NameOf name) (word.Symbol s) good fits = absurd (cc)
pattern_good (shape.NameOf name) word.Becomes good fits = absurd (cc)
pattern_good (shape.IntegerOf v) (word.Integer n) good fits = let same : n ≡ v = cc in subst (λ (k : ℕ). k < 10 ^ 9) same good
pattern_good (shape.IntegerOf v) (word.Name n) good fits = absurd (cc)
pattern_good (shape.IntegerOf v) (word.Real r) good fits = absurd (cc)
pattern_good (shape.IntegerOf v) (word.Quoted q) good fits = absurd (cc)
pattern_good (shape.IntegerOf v) (word.Symbol s) good fits = absurd (cc)
pattern_good (shape.IntegerOf v) word.Becomes good fits = absurd (cc)
pattern_good (shape.RealOf bytes) (word.Real r) good fits = let same : r ≡ bytes = cc in subst (λ (b : List ℕ). IsReal b) same good
pattern_good (shape.RealOf bytes) (word.Name n) good fits = absurd (cc)
pattern_good (shape.RealOf bytes) (word.Integer n) good fits = absurd (cc)
pattern_good (shape.RealOf bytes) (word.Quoted q) good fits = absurd (cc)
pattern_good (shape.RealOf bytes) (word.Symbol s) good fits = absurd (cc)
pattern_good (shape.RealOf bytes) word.Becomes good fits = absurd (cc)
pattern_good (shape.StringOf b) w good fits = tt
pattern_good (shape.Mark s) w good fits = tt
pattern_good shape.BecomesMark w good fits = tt

-- a pattern of bits: 1 to 32, and a value of so many
pub record GoodBits (bits : Bits) : Type 0 where
  pub run : List ℕ
  pub is : is_pattern run ≡ true
  pub len : bits.len ≡ length run
  pub value : bits.value ≡ value_after 2 0 run

pub record GoodPin (pin : List ℕ) : Type 0 where
  pub short : is_pin pin ≡ true
  pub bytes : list_all is_name_byte pin ≡ true

abbrev pub is_name : List ℕ → Bool
is_name name = is_identifier name && not (is_reserved name)

abbrev pub GoodContent : runs.ContentPattern → Type 0
GoodContent (runs.KeyRun w) = Unit {0}
GoodContent (runs.IdentifierRun name) = is_identifier name ≡ true
GoodContent (runs.NameRun name) = is_name name ≡ true
GoodContent (runs.PinRun pin) = GoodPin pin
GoodContent (runs.IntegerRun value) = value < 10 ^ 9
GoodContent (runs.BitsRun bits) = GoodBits bits
GoodContent (runs.MarkByte b) = Unit {0}

run_good : (test : List ℕ → Bool) (run wanted : List ℕ) (b : Bool) → test run ≡ b → (if b then Some run else None) ≡ Some wanted → (test wanted ≡ true) × (run ≡ wanted)
run_good test run wanted true is h = let same : run ≡ wanted = cc in (subst (λ (r : List ℕ). test r ≡ true) same is, same)
run_good test run wanted false is h = absurd (cc)

value_good : (run : List ℕ) (value : ℕ) (b : Bool) → is_integer run ≡ b → (if b then Some (value_after 10 0 run) else None) ≡ Some value → value < 10 ^ 9
value_good run value true is h =
    let same : value_after 10 0 run ≡ value = cc in
    let two = and_left (nat_le 1 (length run) && nat_le (length run) 9) (list_all is_digit run) is in
    let short : length run ≤ 9 = leb-true (length run) 9 (and_right (nat_le 1 (length run)) (nat_le (length run) 9) two) in
    let digits = and_right (nat_le 1 (length run) && nat_le (length run) 9) (list_all is_digit run) is in
    let below : most 0 run < 10 ^ 9 = few_digits run short in
    let value_is : value_after 10 0 run ≤ most 0 run = value_after_most 0 0 run (omega arith) digits in
    omega arith
value_good run value false is h = absurd (cc)

bits_good : (run : List ℕ) (bits : Bits) (b : Bool) → is_pattern run ≡ b → (if b then (let made : Bits = record { len = length run; value = value_after 2 0 run } in Some made) else None) ≡ Some bits → GoodBits bits
bits_good run bits true is h =
    let made : Bits = record { len = length run; value = value_after 2 0 run } in
    let same : made ≡ bits = got made bits h in
    record { run = run; is = is; len = ap (λ (x : Bits). x.len) (sym same); value = ap (λ (x : Bits). x.value) (sym same) }
  where
    got : (x y : Bits) → ◌≡◌ {A = Option Bits} (Some x) (Some y) → x ≡ y
    got x y e = cc
bits_good run bits false is h = absurd (cc)

content_good : (p : runs.ContentPattern) (w : ContentWord) → GoodWord w → runs.Fits p w → GoodContent p
content_good (runs.KeyRun k) w good fits = tt
content_good (runs.IdentifierRun name) (Run run) good fits = (run_good is_identifier run name (is_identifier run) refl fits).0
content_good (runs.IdentifierRun name) (Other b) good fits = absurd (cc)
content_good (runs.NameRun name) (Run run) good fits = (run_good is_name run name (is_name run) refl fits).0
content_good (runs.NameRun name) (Other b) good fits = absurd (cc)
content_good (runs.PinRun pin) (Run run) good fits = let r = run_good is_pin run pin (is_pin run) refl fits in record { short = r.0; bytes = subst (λ (l : List ℕ). list_all is_name_byte l ≡ true) r.1 good }
content_good (runs.PinRun pin) (Other b) good fits = absurd (cc)
content_good (runs.IntegerRun value) (Run run) good fits = value_good run value (is_integer run) refl fits
content_good (runs.IntegerRun value) (Other b) good fits = absurd (cc)
content_good (runs.BitsRun bits) (Run run) good fits = bits_good run bits (is_pattern run) refl fits
content_good (runs.BitsRun bits) (Other b) good fits = absurd (cc)
content_good (runs.MarkByte b) w good fits = tt

-- Lists of patterns.

pub all_patterns : (ps : List shape.Pattern) (ws : List BsdlToken) → shape.Matches ps ws → AllByRecursion GoodToken ws → AllByRecursion GoodPattern ps
all_patterns [] ws m all = tt
all_patterns (p ∷ ps) [] m all = absurd m
all_patterns (p ∷ ps) (w ∷ ws) m all = (pattern_good p w all.0 m.0, all_patterns ps ws m.1 all.1)

pub all_contents : (ps : List runs.ContentPattern) (ws : List ContentWord) → runs.Matches ps ws → AllByRecursion GoodWord ws → AllByRecursion GoodContent ps
all_contents [] ws m all = tt
all_contents (p ∷ ps) [] m all = absurd m
all_contents (p ∷ ps) (w ∷ ws) m all = (content_good p w all.0 m.0, all_contents ps ws m.1 all.1)

all_each : {A B : Type 0} (P : B → Type 0) (mark : B) (words : A → List B) (xs : List A) → AllByRecursion P (each_after mark words xs) → AllByRecursion (λ x. AllByRecursion P (words x)) xs
all_each P mark words [] all = tt
all_each P mark words (x ∷ xs) all = (all_front P (words x) (each_after mark words xs) all.1, all_each P mark words xs (all_back P (words x) (each_after mark words xs) all.1))

pub all_separated : {A B : Type 0} (P : B → Type 0) (mark : B) (words : A → List B) (xs : List A) → AllByRecursion P (separated_by mark words xs) → AllByRecursion (λ x. AllByRecursion P (words x)) xs
all_separated P mark words [] all = tt
all_separated P mark words (x ∷ xs) all = (all_front P (words x) (each_after mark words xs) all, all_each P mark words xs (all_back P (words x) (each_after mark words xs) all))
