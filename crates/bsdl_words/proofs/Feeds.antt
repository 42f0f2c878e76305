use Rattle.std.proofs.Common.{◌≡◌, ℕ, List, [], ◌∷◌, length, Option, Some, None, refl, sym, ap, subst, ◌∙◌, arith}
use Rattle.std.proofs.lemmas.List.{append-nil}
use Rattle.std.specs.Option.{option_map}
use Rattle.std.proofs.lemmas.Option.{none-some, same_Some}
use Rattle.bsdl_lexicon.specs.declared.token.BsdlSpanned.{BsdlSpanned}
use Rattle.bsdl_lexicon.specs.Pieces.{words_of, Begins, IsPlace}
use Rattle.bsdl_lexicon.specs.declared.words.BsdlWords.{BsdlWords}
use Rattle.bsdl_words.specs.declared.fault.BsdlWordFault.{BsdlWordFault}
use Rattle.bsdl_words.specs.declared.fault.BsdlWordFault.TheVariants.{BsdlWord, OutOfMemory}
use Rattle.bsdl_words.specs.declared.mode.Mode.{Mode}
use Rattle.bsdl_words.specs.declared.mode.Mode.TheVariants as in_
use Rattle.word_cutter.specs.declared.fault.CutFault.{CutFault}
use Rattle.word_cutter.specs.declared.fault.CutFault.TheVariants as cut
use Rattle.word_cutter.specs.Run.{run, IsRefusal, IsStepFault}
use Rattle.word_cutter.specs.Language.{Place, Cuts}
use Rattle.word_cutter.proofs.Cases.{map_none}
use Rattle.word_cutter.proofs.Language.{runs_begins, ends_words, words_unique, stops_place, ends_place}
use Rattle.bsdl_words.specs.Machine.{State, state, start, step, end, text_at}
use Rattle.bsdl_words.specs.Kinds.{word_fault}
use Rattle.bsdl_words.specs.Fed.{IsFault, IsEndFault}
use Rattle.bsdl_words.proofs.Outcome.{outcome}
use Rattle.bsdl_words.proofs.Complete.{complete}
use Rattle.bsdl_words.proofs.Sound.{sound}

-- what is left to say in each mode
abbrev closing : Mode → List ℕ
closing in_.Between = []
closing in_.Dash = 45 ∷ []
closing in_.Comment = []
closing in_.Colon = []
closing in_.Name = []
closing in_.Underscore = 97 ∷ []
closing in_.Digits = 46 ∷ 48 ∷ []
closing in_.Point = 48 ∷ []
closing in_.Fraction = []
closing in_.Exponent = 48 ∷ []
closing in_.Sign = 48 ∷ []
closing in_.Power = []
closing in_.Quoted = 34 ∷ []

closes : (m : Mode) (at : ℕ) (words : List BsdlSpanned) (from : ℕ) (p : List ℕ) → (all : List BsdlSpanned) × (outcome at (state words m from p) (closing m) ≡ Some all)
closes in_.Between at words from p = (_, refl)
closes in_.Dash at words from p = (_, refl)
closes in_.Comment at words from p = (_, refl)
closes in_.Colon at words from p = (_, refl)
closes in_.Name at words from p = (_, refl)
closes in_.Underscore at words from p = (_, refl)
closes in_.Digits at words from p = (_, refl)
closes in_.Point at words from p = (_, refl)
closes in_.Fraction at words from p = (_, refl)
closes in_.Exponent at words from p = (_, refl)
closes in_.Sign at words from p = (_, refl)
closes in_.Power at words from p = (_, refl)
closes in_.Quoted at words from p = (_, refl)

-- the machine gives the words of each text of the grammar
spelled : (bytes : List ℕ) (words : List BsdlSpanned) → words_of bytes words → outcome 0 start bytes ≡ Some words
spelled bytes words cut = ap (λ (x : List ℕ). outcome 0 start x) cut.text ∙ complete cut.pieces 0 [] cut.are ∙ ap (λ (x : List BsdlSpanned). Some x) (sym cut.words_are)

-- the machine cuts the language
pub cuts : Cuts step end start words_of
cuts = record {
  spelled = spelled;
  sound = sound;
  closes = λ at s. let last = closes s.mode at s.words s.from s.pending in (closing s.mode, last.0, last.1);
}

-- the place of the lexicon is the cutter's

is_place : (bytes : List ℕ) (place : ℕ) → Place words_of bytes place → IsPlace bytes place
is_place bytes place is = record { within = is.within; begins = is.begins; greatest = is.greatest }

pub runs : (bytes : List ℕ) (s : State) → run step 0 start bytes ≡ Some s → Begins bytes
runs bytes s ran = runs_begins step end start s words_of bytes cuts ran

pub ends : (bytes : List ℕ) (s : State) (words : List BsdlSpanned) → run step 0 start bytes ≡ Some s → end s ≡ Some words → words_of bytes words
ends bytes s words ran is = ends_words step end start s words_of bytes words cuts ran is

pub unique : (bytes : List ℕ) (v w : List BsdlSpanned) → words_of bytes v → words_of bytes w → Some v ≡ Some w
unique bytes v w a b = words_unique step end start words_of bytes v w cuts a b

-- a fault at a byte
pub stops_fault : (bytes : List ℕ) (e : CutFault) → IsRefusal step 0 start bytes e → IsFault (word_fault e) bytes
stops_fault bytes cut.OutOfMemory is = tt
stops_fault bytes (cut.BadByte place) is =
    let there : is.0 ≡ place = omega (arith, is.1) in
    let got = stops_place step end start words_of bytes is.0 cuts is.2 in
    (subst (λ (k : ℕ). IsPlace bytes k) there (is_place bytes is.0 got.0), got.1)

-- a fault at the end
pub end_fault : (bytes : List ℕ) (s : State) (e : CutFault) → run step 0 start bytes ≡ Some s → IsStepFault e (length bytes) (end s) → IsEndFault (word_fault e) bytes
end_fault bytes s cut.OutOfMemory ran is = tt
end_fault bytes s (cut.BadByte place) ran is =
    let got = ends_place step end start s words_of bytes cuts ran is.1 in
    (subst (λ (k : ℕ). IsPlace bytes k) (sym is.0) (is_place bytes (length bytes) got.0), got.1)

-- a fault of a text that begins with these bytes is one of the text of these bytes
pub fault_whole : (e : BsdlWordFault) (bytes : List ℕ) → IsFault e bytes → IsEndFault e bytes
fault_whole OutOfMemory bytes is = tt
fault_whole (BsdlWord place) bytes is =
    (is.0, λ words cut. is.1 ([], words, subst (λ (l : List ℕ). words_of l words) (sym (append-nil bytes)) cut))

-- the words of a text and its length

abbrev with_end : ℕ → List BsdlSpanned → BsdlWords
with_end at words = record { list = words; end = at }

text_parts : (at : ℕ) (o : Option (List BsdlSpanned)) (w : BsdlWords) → option_map (with_end at) o ≡ Some w → (o ≡ Some w.list) × (w.end ≡ at)
text_parts at None w h = absurd (none-some w h)
text_parts at (Some words) w h =
    let same : with_end at words ≡ w = same_Some (with_end at words) w h in
    (ap (λ (t : BsdlWords). Some t.list) same, ap (λ (t : BsdlWords). t.end) (sym same))

pub text_ends : (bytes : List ℕ) (at : ℕ) (s : State) (w : BsdlWords) → run step 0 start bytes ≡ Some s → text_at at s ≡ Some w → words_of bytes w.list
text_ends bytes at s w ran is = ends bytes s w.list ran (text_parts at (end s) w is).0

pub text_end : (at : ℕ) (s : State) (w : BsdlWords) → text_at at s ≡ Some w → w.end ≡ at
text_end at s w is = (text_parts at (end s) w is).1

pub text_fault : (bytes : List ℕ) (at : ℕ) (s : State) (e : CutFault) → run step 0 start bytes ≡ Some s → at ≡ length bytes → IsStepFault e at (text_at at s) → IsEndFault (word_fault e) bytes
text_fault bytes at s cut.OutOfMemory ran there is = tt
text_fault bytes at s (cut.BadByte place) ran there is = end_fault bytes s (cut.BadByte place) ran (is.0 ∙ there, map_none _ (end s) is.1)
