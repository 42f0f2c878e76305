use Rattle.std.proofs.Common.{◌≡◌, ℕ, ◌+◌, List, [], ◌∷◌, ◌++◌, length, drop, slice_get, Option, Some, None, true, suc, zero, refl, sym, ap, subst, ◌∙◌, arith, length-append, length-drop, ◌==◌, false}
use Rattle.std.specs.Prelude.{option_and_then, nat_lt, codes}
use Rattle.std.specs.List.{list_all}
use Rattle.std.specs.Option.{option_map, option_map_or}
use Rattle.std.proofs.lemmas.Bool.{lt-ltb, le-leb, cond-true}
use Rattle.std.proofs.lemmas.Option.{none-some, same_Some}
use Rattle.list_laws.proofs.Numbers.{eqb_same}
use Rattle.list_laws.proofs.Lists.{all_at, all_from_list_all}
use Rattle.verilog_lexicon.specs.declared.word.Spanned.{Spanned}
use Rattle.verilog_lexicon.specs.Bytes.{is_name_byte}
use Rattle.verilog_lexicon.specs.Pieces.{words_of, Begins, IsPlace}
use Rattle.verilog_lexicon.specs.Words.{WordText}
use Rattle.verilog_words.specs.declared.mode.Mode.{Mode}
use Rattle.verilog_words.specs.declared.mode.Mode.TheVariants as in_
use Rattle.verilog_words.specs.declared.mode.Enclosure.{Enclosure}
use Rattle.verilog_words.specs.declared.mode.Enclosure.TheVariants.{BlockComment, Attribute}
use Rattle.verilog_words.specs.declared.mode.Directive.{Directive}
use Rattle.verilog_words.specs.declared.mode.Directive.TheVariants.{Timescale, DefaultNettype, Celldefine, Endcelldefine}
use Rattle.word_cutter.specs.declared.fault.CutFault.{CutFault}
use Rattle.word_cutter.specs.declared.fault.CutFault.TheVariants as cut
use Rattle.word_cutter.specs.Run.{run, IsRefusal, IsStepFault}
use Rattle.word_cutter.specs.Language.{Place, Cuts}
use Rattle.word_cutter.proofs.Cases.{map_none}
use Rattle.word_cutter.proofs.Language.{runs_begins, ends_words, words_unique, stops_place, ends_place}
use Rattle.verilog_words.specs.Machine.{State, state, start, step, end, text_at, closer, directive_name, is_whole, goes_on}
use Rattle.verilog_words.specs.Kinds.{word_fault}
use Rattle.verilog_words.specs.Fed.{IsFault, IsEndFault}
use Rattle.verilog_words.proofs.Outcome.{outcome}
use Rattle.verilog_words.proofs.Complete.{complete}
use Rattle.verilog_words.proofs.Sound.{sound}

-- what is left to say in each mode
abbrev closing : Mode → List ℕ → List ℕ
closing in_.Between p = []
closing in_.Slash p = 47 ∷ []
closing in_.Line p = []
closing in_.Open p = []
closing (in_.Enclosed e) p = 42 ∷ closer e ∷ []
closing (in_.EnclosedStar e) p = closer e ∷ []
closing in_.Backquote p = codes "celldefine"
closing (in_.Directive d) p = drop (length p) (directive_name d)
closing in_.Name p = []
closing in_.Escaped [] = 97 ∷ 32 ∷ []
closing in_.Escaped (x ∷ p) = 32 ∷ []
closing in_.Number p = []
closing in_.Quote p = 98 ∷ 48 ∷ []
closing in_.Base p = 48 ∷ []
closing (in_.Constant value) p = []

-- the rest of a directive's name

drop_get : (xs : List ℕ) (n b : ℕ) (left : List ℕ) → b ∷ left ≡ drop n xs → (slice_get xs n ≡ Some b) × (left ≡ drop (suc n) xs)
drop_get [] zero b left h = cc
drop_get [] (suc n) b left h = cc
drop_get (x ∷ xs) zero b left h = (ap Some cc, cc)
drop_get (x ∷ xs) (suc n) b left h = drop_get xs n b left h

directive_bytes : (d : Directive) → list_all is_name_byte (directive_name d) ≡ true
directive_bytes Timescale = refl
directive_bytes DefaultNettype = refl
directive_bytes Celldefine = refl
directive_bytes Endcelldefine = refl

directive_closes : (d : Directive) (left p : List ℕ) (at from : ℕ) (words : List Spanned) → left ≡ drop (length p) (directive_name d) → outcome at (state words (in_.Directive d) from p) left ≡ Some words
directive_closes d [] p at from words is =
    cond-true (is_whole d p) _ _ (le-leb (length (directive_name d)) (length p) (omega (arith, ap length is, length-drop (length p) (directive_name d))))
directive_closes d (b ∷ left) p at from words is =
    let got = drop_get (directive_name d) (length p) b left is in
    let longer : suc (length p) ≡ length (p ++ b ∷ []) = omega (arith, length-append p (b ∷ [])) in
    ap (option_and_then (λ t. outcome (at + 1) t left))
    (cond-true (is_name_byte b) _ _ (all_at _ (directive_name d) (length p) b (all_from_list_all is_name_byte (directive_name d) (directive_bytes d)) got.0)
    ∙ cond-true (goes_on d p b) _ _ (ap (λ (o : Option ℕ). option_map_or (λ c. c == b) o false) got.0 ∙ eqb_same b))
    ∙ directive_closes d left (p ++ b ∷ []) (at + 1) 0 words (got.1 ∙ ap (λ (n : ℕ). drop n (directive_name d)) longer)

enclosure_closes : (e : Enclosure) (at : ℕ) (words : List Spanned) (from : ℕ) (p : List ℕ) → outcome at (state words (in_.Enclosed e) from p) (42 ∷ closer e ∷ []) ≡ Some words
enclosure_closes BlockComment at words from p = refl
enclosure_closes Attribute at words from p = refl

star_closes : (e : Enclosure) (at : ℕ) (words : List Spanned) (from : ℕ) (p : List ℕ) → outcome at (state words (in_.EnclosedStar e) from p) (closer e ∷ []) ≡ Some words
star_closes BlockComment at words from p = refl
star_closes Attribute at words from p = refl

closes : (m : Mode) (at : ℕ) (words : List Spanned) (from : ℕ) (p : List ℕ) → (all : List Spanned) × (outcome at (state words m from p) (closing m p) ≡ Some all)
closes in_.Between at words from p = (_, refl)
closes in_.Slash at words from p = (_, refl)
closes in_.Line at words from p = (_, refl)
closes in_.Open at words from p = (_, refl)
closes (in_.Enclosed e) at words from p = (words, enclosure_closes e at words from p)
closes (in_.EnclosedStar e) at words from p = (words, star_closes e at words from p)
closes in_.Backquote at words from p = (_, refl)
closes (in_.Directive d) at words from p = (words, directive_closes d (drop (length p) (directive_name d)) p at from words refl)
closes in_.Name at words from p = (_, refl)
closes in_.Escaped at words from [] = (_, refl)
closes in_.Escaped at words from (x ∷ p) = (_, ap (option_and_then end) (cond-true (nat_lt 0 (length (x ∷ p))) _ _ (lt-ltb 0 (length (x ∷ p)) (omega arith))))
closes in_.Number at words from p = (_, refl)
closes in_.Quote at words from p = (_, refl)
closes in_.Base at words from p = (_, refl)
closes (in_.Constant value) at words from p = (_, refl)

-- the machine gives the words of each text of the grammar
spelled : (bytes : List ℕ) (words : List Spanned) → words_of bytes words → outcome 0 start bytes ≡ Some words
spelled bytes words cut = ap (λ (x : List ℕ). outcome 0 start x) cut.text ∙ complete cut.pieces 0 [] cut.are ∙ ap (λ (x : List Spanned). Some x) (sym cut.words_are)

-- the machine cuts the language
pub cuts : Cuts step end start words_of
cuts = record {
  spelled = spelled;
  sound = sound;
  closes = λ at s. let last = closes s.mode at s.words s.from s.pending in (closing s.mode s.pending, last.0, last.1);
}

-- the place of the lexicon is the cutter's

is_place : (bytes : List ℕ) (place : ℕ) → Place words_of bytes place → IsPlace bytes place
is_place bytes place is = record { within = is.within; begins = is.begins; greatest = is.greatest }

pub runs : (bytes : List ℕ) (s : State) → run step 0 start bytes ≡ Some s → Begins bytes
runs bytes s ran = runs_begins step end start s words_of bytes cuts ran

pub ends : (bytes : List ℕ) (s : State) (words : List Spanned) → run step 0 start bytes ≡ Some s → end s ≡ Some words → words_of bytes words
ends bytes s words ran is = ends_words step end start s words_of bytes words cuts ran is

pub unique : (bytes : List ℕ) (v w : List Spanned) → words_of bytes v → words_of bytes w → Some v ≡ Some w
unique bytes v w a b = words_unique step end start words_of bytes v w cuts a b

-- a fault at a byte
pub stops_fault : (bytes : List ℕ) (e : CutFault) → IsRefusal step 0 start bytes e → IsFault (word_fault e) bytes
stops_fault bytes cut.OutOfMemory is = tt
stops_fault bytes (cut.BadByte place) is =
    let there : is.0 ≡ place = omega (arith, is.1) in
    let got = stops_place step end start words_of bytes is.0 cuts is.2 in
    (subst (λ (k : ℕ). IsPlace bytes k) there (is_place bytes is.0 got.0), got.1)

-- a fault at the end
pub end_fault : (bytes : List ℕ) (s : State) (e : CutFault) → run step 0 start bytes ≡ Some s → IsStepFault e (length bytes) (end s) → IsEndFault (word_fault e) bytes
end_fault bytes s cut.OutOfMemory ran is = tt
end_fault bytes s (cut.BadByte place) ran is =
    let got = ends_place step end start s words_of bytes cuts ran is.1 in
    (subst (λ (k : ℕ). IsPlace bytes k) (sym is.0) (is_place bytes (length bytes) got.0), got.1)

-- the words of a text and its length

abbrev with_end : ℕ → List Spanned → WordText
with_end at words = record { list = words; end = at }

text_parts : (at : ℕ) (o : Option (List Spanned)) (w : WordText) → option_map (with_end at) o ≡ Some w → (o ≡ Some w.list) × (w.end ≡ at)
text_parts at None w h = absurd (none-some w h)
text_parts at (Some words) w h =
    let same : with_end at words ≡ w = same_Some (with_end at words) w h in
    (ap (λ (t : WordText). Some t.list) same, ap (λ (t : WordText). t.end) (sym same))

pub text_ends : (bytes : List ℕ) (at : ℕ) (s : State) (w : WordText) → run step 0 start bytes ≡ Some s → text_at at s ≡ Some w → words_of bytes w.list
text_ends bytes at s w ran is = ends bytes s w.list ran (text_parts at (end s) w is).0

pub text_end : (at : ℕ) (s : State) (w : WordText) → text_at at s ≡ Some w → w.end ≡ at
text_end at s w is = (text_parts at (end s) w is).1

pub text_fault : (bytes : List ℕ) (at : ℕ) (s : State) (e : CutFault) → run step 0 start bytes ≡ Some s → at ≡ length bytes → IsStepFault e at (text_at at s) → IsEndFault (word_fault e) bytes
text_fault bytes at s cut.OutOfMemory ran there is = tt
text_fault bytes at s (cut.BadByte place) ran there is = end_fault bytes s (cut.BadByte place) ran (is.0 ∙ there, map_none _ (end s) is.1)
