use Rattle.std.proofs.Common.{◌≡◌, ℕ, ◌+◌, ◌-◌, ◌<◌, ◌≤◌, List, [], ◌∷◌, ◌++◌, length, take, get_or, Some, true, false, not, ◌==◌, sym, ap, subst, ◌∙◌, arith}
use Rattle.std.specs.Prelude.{Result, Ok, Err}
use Rattle.std.specs.List.{prefix_len}
use Rattle.std.proofs.lemmas.List.{length-take-le}
use Rattle.std.proofs.lemmas.List.Sums.{prefix_len_stops}
use Rattle.std.proofs.lemmas.Bool.{cond-false}
use Rattle.verilog_lexicon.specs.declared.word.Word.TheVariants as word
use Rattle.verilog_lexicon.specs.declared.word.Spanned.{Spanned}
use Rattle.verilog_lexicon.specs.Words.{spanned}
use Rattle.verilog_lexicon.specs.Pieces.{value_from}
use Rattle.verilog_lexicon.specs.Bytes.{is_blank, is_letter, is_digit, is_name_byte, clings, is_escaped_byte}
use Rattle.word_cutter.specs.declared.fault.CutFault.{CutFault}
use Rattle.word_cutter.specs.declared.fault.CutFault.TheVariants.{BadByte, OutOfMemory}
use Rattle.word_cutter.specs.Run.{run, Stops, IsRefusal, IsStepFault}
use Rattle.word_cutter.proofs.Runs.{refusal_at, run_alike, refusal_alike}
use Rattle.verilog_words.specs.declared.mode.Mode.{Mode}
use Rattle.verilog_words.specs.declared.mode.Mode.TheVariants as in_
use Rattle.verilog_words.specs.declared.mode.Enclosure.{Enclosure}
use Rattle.verilog_words.specs.declared.machine.WordMachine.{WordMachine}
use Rattle.verilog_words.specs.Machine.{State, state, between, begin, step, with_name, with_number, with_parenthesis}
use Rattle.verilog_words.specs.Steps.{state_of, from_in, pending_in, IsTooLong, Takes}
use Rattle.verilog_words.proofs.Runs.{name_keeps, name_too_long, escaped_keeps, escaped_too_long, name_taken, name_begun_too_long, name_ended, number_taken, number_over, number_ended, blanks_stay, line_stays, enclosed_stays}

-- What the code takes in a run.

-- the state of a machine in a mode
pub as_state : (m : WordMachine) (mode : Mode) → m.mode ≡ mode → state_of m ≡ state m.words.list mode (from_in mode m.from) (pending_in mode m.pending)
as_state m mode is = ap (λ (k : Mode). state m.words.list k (from_in k m.from) (pending_in k m.pending)) is

-- so many bytes more than fit
refused : (s : State) (bytes : List ℕ) (at had n : ℕ) (e : CutFault) → had ≤ 255 → ((k : ℕ) → had + k ≡ 255 → k < n → Stops step at s bytes k) → IsTooLong at had n e → IsRefusal step at s bytes e
refused s bytes at had n OutOfMemory short stops long = tt
refused s bytes at had n (BadByte place) short stops long = (255 - had, omega (arith, long.0, short), stops (255 - had) (omega (arith, short)) (omega (arith, long.1, short)))

-- a name goes on
pub name_refused : (m : WordMachine) (bytes : List ℕ) (at n : ℕ) (e : CutFault) → m.mode ≡ in_.Name → length m.pending ≤ 255 → n ≤ prefix_len is_name_byte bytes → IsTooLong at (length m.pending) n e → IsRefusal step at (state_of m) bytes e
name_refused m bytes at n e is short all long =
    subst (λ (s : State). IsRefusal step at s bytes e) (sym (as_state m in_.Name is))
    (refused (state m.words.list in_.Name m.from m.pending) bytes at (length m.pending) n e short (λ k full below. name_too_long m.words.list m.from bytes m.pending k at full (omega (arith, below, all))) long)

pub name_goes : (m : WordMachine) (bytes : List ℕ) (at n : ℕ) → m.mode ≡ in_.Name → n ≤ prefix_len is_name_byte bytes → length m.pending + n ≤ 255 → run step at (state_of m) (take n bytes) ≡ Some (state m.words.list in_.Name m.from (m.pending ++ take n bytes))
name_goes m bytes at n is all short = ap (λ (s : State). run step at s (take n bytes)) (as_state m in_.Name is) ∙ name_keeps m.words.list m.from bytes m.pending n at all short

-- an escaped name goes on
pub escaped_refused : (m : WordMachine) (bytes : List ℕ) (at n : ℕ) (e : CutFault) → m.mode ≡ in_.Escaped → length m.pending ≤ 255 → n ≤ prefix_len is_escaped_byte bytes → IsTooLong at (length m.pending) n e → IsRefusal step at (state_of m) bytes e
escaped_refused m bytes at n e is short all long =
    subst (λ (s : State). IsRefusal step at s bytes e) (sym (as_state m in_.Escaped is))
    (refused (state m.words.list in_.Escaped m.from m.pending) bytes at (length m.pending) n e short (λ k full below. escaped_too_long m.words.list m.from bytes m.pending k at full (omega (arith, below, all))) long)

pub escaped_goes : (m : WordMachine) (bytes : List ℕ) (at n : ℕ) → m.mode ≡ in_.Escaped → n ≤ prefix_len is_escaped_byte bytes → length m.pending + n ≤ 255 → run step at (state_of m) (take n bytes) ≡ Some (state m.words.list in_.Escaped m.from (m.pending ++ take n bytes))
escaped_goes m bytes at n is all short = ap (λ (s : State). run step at s (take n bytes)) (as_state m in_.Escaped is) ∙ escaped_keeps m.words.list m.from bytes m.pending n at all short

-- the state of a machine that kept more
pub kept_more : (m : WordMachine) (words : List Spanned) (mode : Mode) (from : ℕ) (pending : List ℕ) → m.words.list ≡ words → m.mode ≡ mode → from_in mode m.from ≡ from → pending_in mode m.pending ≡ pending → state words mode from pending ≡ state_of m
kept_more m words mode from pending same is there kept =
    ap (λ (w : List Spanned). state w mode from pending) (sym same)
    ∙ ap (λ (k : ℕ). state m.words.list mode k pending) (sym there)
    ∙ ap (λ (l : List ℕ). state m.words.list mode (from_in mode m.from) l) (sym kept)
    ∙ sym (as_state m mode is)

-- the byte that ends a name can't begin another piece
pub name_end_refused : (words : List Spanned) (piece : List ℕ) (n at : ℕ) (e : CutFault) → is_letter (get_or piece 0 0) ≡ true → 0 < n → n ≡ prefix_len is_name_byte piece → n < length piece → n ≤ 255 → IsStepFault e (at + n) (begin (at + n) (with_name words at (take n piece)) (get_or piece n 0)) → IsRefusal step at (between words) piece e
name_end_refused words piece n at e is some all within short stops =
    let named : State = state words in_.Name at (take n piece) in
    let other : is_name_byte (get_or piece n 0) ≡ false = ap (λ (k : ℕ). is_name_byte (get_or piece k 0)) all ∙ prefix_len_stops is_name_byte piece 0 (omega (arith, all, within)) in
    refusal_at step piece n at (between words) named e within (name_taken words piece n at is some (omega (arith, all)) short)
    (subst (IsStepFault e (at + n)) (sym (cond-false (is_name_byte (get_or piece n 0)) _ _ other)) stops)

-- where the state stays

pub blanks_same : (m : WordMachine) (bytes : List ℕ) (at n : ℕ) → m.mode ≡ in_.Between → n ≤ prefix_len is_blank bytes → run step at (state_of m) (take n bytes) ≡ Some (state_of m)
blanks_same m bytes at n is all =
    ap (λ (s : State). run step at s (take n bytes)) (as_state m in_.Between is)
    ∙ blanks_stay m.words.list bytes n at all
    ∙ ap (λ (s : State). Some s) (sym (as_state m in_.Between is))

pub line_same : (m : WordMachine) (bytes : List ℕ) (at n : ℕ) → m.mode ≡ in_.Line → n ≤ prefix_len (λ b. not (b == 10)) bytes → run step at (state_of m) (take n bytes) ≡ Some (state_of m)
line_same m bytes at n is all =
    ap (λ (s : State). run step at s (take n bytes)) (as_state m in_.Line is)
    ∙ line_stays m.words.list bytes n at all
    ∙ ap (λ (s : State). Some s) (sym (as_state m in_.Line is))

pub enclosed_same : (m : WordMachine) (e : Enclosure) (bytes : List ℕ) (at n : ℕ) → m.mode ≡ in_.Enclosed e → n ≤ prefix_len (λ b. not (b == 42)) bytes → run step at (state_of m) (take n bytes) ≡ Some (state_of m)
enclosed_same m e bytes at n is all =
    ap (λ (s : State). run step at s (take n bytes)) (as_state m (in_.Enclosed e) is)
    ∙ enclosed_stays e m.words.list bytes n at all
    ∙ ap (λ (s : State). Some s) (sym (as_state m (in_.Enclosed e) is))

-- a machine between pieces

pub begun : (m : WordMachine) (piece : List ℕ) (n at : ℕ) → m.mode ≡ in_.Between → is_letter (get_or piece 0 0) ≡ true → 0 < n → n ≤ prefix_len is_name_byte piece → n ≤ 255 → run step at (state_of m) (take n piece) ≡ Some (state m.words.list in_.Name at (take n piece))
begun m piece n at is letter some all short = ap (λ (s : State). run step at s (take n piece)) (as_state m in_.Between is) ∙ name_taken m.words.list piece n at letter some all short

pub begun_refused : (m : WordMachine) (piece : List ℕ) (at : ℕ) → m.mode ≡ in_.Between → is_letter (get_or piece 0 0) ≡ true → 255 < prefix_len is_name_byte piece → Stops step at (state_of m) piece 255
begun_refused m piece at is letter long = subst (λ (s : State). Stops step at s piece 255) (sym (as_state m in_.Between is)) (name_begun_too_long m.words.list piece at letter long)

pub ended : (m : WordMachine) (piece : List ℕ) (n at : ℕ) → m.mode ≡ in_.Between → is_letter (get_or piece 0 0) ≡ true → 0 < n → n ≡ prefix_len is_name_byte piece → n < length piece → n ≤ 255 → run step at (state_of m) (take (n + 1) piece) ≡ begin (at + n) (with_name m.words.list at (take n piece)) (get_or piece n 0)
ended m piece n at is letter some all within short = ap (λ (s : State). run step at s (take (n + 1) piece)) (as_state m in_.Between is) ∙ name_ended m.words.list piece n at letter some all within short

pub end_refused : (m : WordMachine) (piece : List ℕ) (n at : ℕ) (e : CutFault) → m.mode ≡ in_.Between → is_letter (get_or piece 0 0) ≡ true → 0 < n → n ≡ prefix_len is_name_byte piece → n < length piece → n ≤ 255 → IsStepFault e (at + n) (begin (at + n) (with_name m.words.list at (take n piece)) (get_or piece n 0)) → IsRefusal step at (state_of m) piece e
end_refused m piece n at e is letter some all within short stops =
    subst (λ (s : State). IsRefusal step at s piece e) (sym (as_state m in_.Between is)) (name_end_refused m.words.list piece n at e letter some all within short stops)

pub between_steps : (m : WordMachine) (at b : ℕ) → m.mode ≡ in_.Between → step at (state_of m) b ≡ begin at m.words.list b
between_steps m at b is = ap (λ (s : State). step at s b) (as_state m in_.Between is)

-- a number that ends within the piece

pub number_words : (words : List Spanned) (piece : List ℕ) (n at value : ℕ) → value ≡ value_from 0 (take n piece) → n ≤ length piece → words ++ spanned (word.Number value) at n ∷ [] ≡ with_number words at (take n piece)
number_words words piece n at value is within =
    ap (λ (v : ℕ). words ++ spanned (word.Number v) at n ∷ []) is
    ∙ ap (λ (k : ℕ). words ++ spanned (word.Number (value_from 0 (take n piece))) at k ∷ []) (sym (length-take-le n piece within))

pub number_ends : (m : WordMachine) (piece : List ℕ) (n at : ℕ) → m.mode ≡ in_.Between → 0 < n → n ≤ prefix_len is_digit piece → n < length piece → n ≤ 9 → clings (get_or piece n 0) ≡ false → run step at (state_of m) (take (n + 1) piece) ≡ begin (at + n) (with_number m.words.list at (take n piece)) (get_or piece n 0)
number_ends m piece n at is some all within few free = ap (λ (s : State). run step at s (take (n + 1) piece)) (as_state m in_.Between is) ∙ number_ended m.words.list piece n at some all within few free

pub number_end_refused : (m : WordMachine) (piece : List ℕ) (n at : ℕ) (e : CutFault) → m.mode ≡ in_.Between → 0 < n → n ≤ prefix_len is_digit piece → n < length piece → n ≤ 9 → clings (get_or piece n 0) ≡ false → IsStepFault e (at + n) (begin (at + n) (with_number m.words.list at (take n piece)) (get_or piece n 0)) → IsRefusal step at (state_of m) piece e
number_end_refused m piece n at e is some all within few free stops =
    subst (λ (s : State). IsRefusal step at s piece e) (sym (as_state m in_.Between is))
    (refusal_at step piece n at (between m.words.list) (state m.words.list in_.Number at (take n piece)) e within (number_taken m.words.list piece n at some all few)
    (subst (IsStepFault e (at + n)) (sym (number_over m.words.list at (at + n) (take n piece) (get_or piece n 0) free)) stops))

-- two states that go on alike
pub takes_alike : (new : WordMachine) (s t : State) (at : ℕ) (piece : List ℕ) (r : Result ℕ CutFault) → step at s (get_or piece 0 0) ≡ step at t (get_or piece 0 0) → Takes new t at piece r → Takes new s at piece r
takes_alike new s t at piece (Ok n) same is = (is.0, is.1, run_alike step piece n at s t is.0 is.1 same ∙ is.2)
takes_alike new s t at piece (Err e) same is = refusal_alike step piece at s t e same is

-- after a parenthesis, any byte but a star begins another piece
pub open_alike : (old mid : WordMachine) (at b : ℕ) → old.mode ≡ in_.Open → mid.mode ≡ in_.Between → mid.words.list ≡ with_parenthesis old.words.list old.from → (b == 42) ≡ false → step at (state_of old) b ≡ step at (state_of mid) b
open_alike old mid at b opened is words other =
    ap (λ (s : State). step at s b) (as_state old in_.Open opened)
    ∙ cond-false (b == 42) _ _ other
    ∙ ap (λ (w : List Spanned). begin at w b) (sym words)
    ∙ ap (λ (s : State). step at s b) (sym (as_state mid in_.Between is))
