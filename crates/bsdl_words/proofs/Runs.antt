use Rattle.std.proofs.Common.{◌≡◌, ℕ, ◌+◌, ◌<◌, ◌≤◌, List, [], ◌∷◌, ◌++◌, length, take, Some, None, true, not, sym, ap, subst, ◌∙◌, ◌==◌, arith}
use Rattle.std.specs.Prelude.{nat_lt}
use Rattle.std.specs.List.{prefix_len}
use Rattle.std.proofs.lemmas.Bool.{lt-ltb, cond-true, cond-false, not-true, le-ltb}
use Rattle.bsdl_lexicon.specs.declared.token.BsdlSpanned.{BsdlSpanned}
use Rattle.bsdl_lexicon.specs.Bytes.{is_blank, is_letter_or_digit, is_name_byte, is_quotable}
use Rattle.word_cutter.specs.Run.{run, Stops}
use Rattle.word_cutter.proofs.KeptWords.{keeps, stays, too_long}
use Rattle.bsdl_words.specs.declared.mode.Mode.{Mode}
use Rattle.bsdl_words.specs.declared.mode.Mode.TheVariants as in_
use Rattle.bsdl_words.specs.declared.machine.BsdlMachine.{BsdlMachine}
use Rattle.bsdl_words.specs.Machine.{State, state, between, step}
use Rattle.bsdl_words.specs.Steps.{state_of, from_in, pending_in}
use Rattle.bsdl_words.proofs.Bytes.{letter_in_name, letter_no_underscore, quotable_no_quote}

-- Runs of bytes of one kind.

-- the state of a machine in a mode
as_state : (m : BsdlMachine) (mode : Mode) → m.mode ≡ mode → state_of m ≡ state m.words mode (from_in mode m.from) (pending_in mode m.pending)
as_state m mode is = ap (λ (k : Mode). state m.words k (from_in k m.from) (pending_in k m.pending)) is

-- letters and digits of a name

abbrev named : List BsdlSpanned → ℕ → List ℕ → State
named words from p = state words in_.Name from p

name_one : (words : List BsdlSpanned) (from at : ℕ) (p : List ℕ) (b : ℕ) → is_letter_or_digit b ≡ true → length p < 255 → step at (named words from p) b ≡ Some (named words from (p ++ b ∷ []))
name_one words from at p b is short = cond-true (is_name_byte b) _ _ (letter_in_name b is) ∙ cond-false (b == 95) _ _ (letter_no_underscore b is) ∙ cond-true (nat_lt (length p) 255) _ _ (lt-ltb (length p) 255 short)

name_none : (words : List BsdlSpanned) (from at : ℕ) (p : List ℕ) (b : ℕ) → is_letter_or_digit b ≡ true → 255 ≤ length p → step at (named words from p) b ≡ None
name_none words from at p b is long = cond-true (is_name_byte b) _ _ (letter_in_name b is) ∙ cond-false (b == 95) _ _ (letter_no_underscore b is) ∙ cond-false (nat_lt (length p) 255) _ _ (le-ltb (length p) 255 long)

pub name_goes : (m : BsdlMachine) (bytes : List ℕ) (at n : ℕ) → m.mode ≡ in_.Name → n ≤ prefix_len is_letter_or_digit bytes → length m.pending + n ≤ 255 → run step at (state_of m) (take n bytes) ≡ Some (state m.words in_.Name m.from (m.pending ++ take n bytes))
name_goes m bytes at n is all short =
    ap (λ (s : State). run step at s (take n bytes)) (as_state m in_.Name is)
    ∙ keeps step is_letter_or_digit 255 (named m.words m.from) (name_one m.words m.from) bytes m.pending n at all short

pub name_refused : (m : BsdlMachine) (bytes : List ℕ) (at n : ℕ) → m.mode ≡ in_.Name → length m.pending + n ≡ 255 → n < prefix_len is_letter_or_digit bytes → Stops step at (state_of m) bytes n
name_refused m bytes at n is full long =
    subst (λ (s : State). Stops step at s bytes n) (sym (as_state m in_.Name is))
    (too_long step is_letter_or_digit 255 (named m.words m.from) (name_one m.words m.from) (name_none m.words m.from) bytes m.pending n at full long)

-- bytes of a string

pub quoted_goes : (m : BsdlMachine) (bytes : List ℕ) (at n : ℕ) → m.mode ≡ in_.Quoted → n ≤ prefix_len is_quotable bytes → run step at (state_of m) (take n bytes) ≡ Some (state m.words in_.Quoted m.from (m.pending ++ take n bytes))
quoted_goes m bytes at n is all =
    ap (λ (s : State). run step at s (take n bytes)) (as_state m in_.Quoted is)
    ∙ keeps step is_quotable (length m.pending + n) (λ p. state m.words in_.Quoted m.from p)
    (λ here p b quotable short. cond-false (b == 34) _ _ (quotable_no_quote b quotable) ∙ cond-true (is_quotable b) _ _ quotable)
    bytes m.pending n at all (omega arith)

-- blanks, and the rest of a line

pub blanks_stay : (m : BsdlMachine) (bytes : List ℕ) (n at : ℕ) → m.mode ≡ in_.Between → n ≤ prefix_len is_blank bytes → run step at (state_of m) (take n bytes) ≡ Some (state_of m)
blanks_stay m bytes n at is all =
    ap (λ (s : State). run step at s (take n bytes)) (as_state m in_.Between is)
    ∙ stays step is_blank (between m.words) (λ here b blank. cond-true (is_blank b) _ _ blank) bytes n at all
    ∙ ap (λ (s : State). Some s) (sym (as_state m in_.Between is))

pub comment_stays : (m : BsdlMachine) (bytes : List ℕ) (n at : ℕ) → m.mode ≡ in_.Comment → n ≤ prefix_len (λ b. not (b == 10)) bytes → run step at (state_of m) (take n bytes) ≡ Some (state_of m)
comment_stays m bytes n at is all =
    ap (λ (s : State). run step at s (take n bytes)) (as_state m in_.Comment is)
    ∙ stays step (λ b. not (b == 10)) (state m.words in_.Comment 0 []) (λ here b goes. cond-false (b == 10) _ _ (not-true (b == 10) goes)) bytes n at all
    ∙ ap (λ (s : State). Some s) (sym (as_state m in_.Comment is))
