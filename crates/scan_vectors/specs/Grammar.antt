-- own: event lines, and what bytes spell.
use Rattle.std.specs.Prelude.{◌≡◌, ℕ, ◌+◌, ◌≤◌, List, [], ◌∷◌, All, map, length, Some, codes}
use Rattle.signal_values.specs.declared.PinSig.{PinSig}
use Rattle.signal_values.specs.Values.{pin_sig_of}
use Rattle.scan_vectors.specs.declared.lines.Act.{Act}
use Rattle.scan_vectors.specs.declared.lines.Act.TheVariants as act
use Rattle.scan_vectors.specs.declared.lines.Line.{Line}
use Rattle.scan_vectors.specs.declared.lines.Line.TheVariants.{Start, Set, Expect}
use Rattle.scan_vectors.specs.declared.lines.Lines.{Lines}
use Rattle.word_cutter.specs.LinesWords.{lines_of, kept_lines}

abbrev pub act_word : Act → List ℕ
act_word act.Start = codes "start"
act_word act.Set = codes "set"
act_word act.Expect = codes "expect"

abbrev pub act_of : Line → Act
act_of (Start pin value) = act.Start
act_of (Set pin value) = act.Set
act_of (Expect pin value) = act.Expect

abbrev pub pin_of : Line → List ℕ
pin_of (Start pin value) = pin
pin_of (Set pin value) = pin
pin_of (Expect pin value) = pin

abbrev pub value_of : Line → PinSig
value_of (Start pin value) = value
value_of (Set pin value) = value
value_of (Expect pin value) = value

-- the words of an event line whose value has this letter
abbrev pub event_words : Line → ℕ → List (List ℕ)
event_words line letter = act_word (act_of line) ∷ pin_of line ∷ (letter ∷ []) ∷ []

-- the words of the first line that is kept
abbrev pub header_words : List (List ℕ)
header_words = codes "events" ∷ codes "1" ∷ []

-- an event line as it is written: its number in the text, what it is, and the letter of its value
pub record Written : Type 0 where
  pub number : ℕ
  pub line : Line
  pub letter : ℕ

abbrev pub written_words : Written → ℕ × List (List ℕ)
written_words w = (w.number, event_words w.line w.letter)

-- the letter is one of the value's
abbrev pub HasLetter : Written → Type 0
HasLetter w = pin_sig_of w.letter ≡ Some (value_of w.line)

-- the bytes spell these event lines: the header, then the lines as they are written
pub record SpellsLines (bytes : List ℕ) (lines : Lines) : Type 0 where
  pub header : ℕ
  pub written : List Written
  pub kept_are : kept_lines bytes ≡ (header, header_words) ∷ map written_words written
  pub letters : All HasLetter written
  pub few : length written ≤ 1000000
  pub list_is : lines.list ≡ map (λ w. w.line) written
  pub numbers_are : lines.numbers ≡ map (λ w. w.number) written
  pub end_is : lines.end ≡ length (lines_of bytes) + 1
