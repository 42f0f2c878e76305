-- own: the canonical text of event lines.
use Rattle.std.specs.Prelude.{ℕ, ◌+◌, ◌≤◌, List, ◌∷◌, All, map, length}
use Rattle.std.specs.List.{enumerate_from}
use Rattle.signal_values.specs.Values.{show_byte}
use Rattle.word_cutter.specs.Rows.{IsWord, rows_text}
use Rattle.scan_vectors.specs.declared.lines.Line.{Line}
use Rattle.scan_vectors.specs.declared.lines.Lines.{Lines}
use Rattle.scan_vectors.specs.Grammar.{pin_of, value_of, event_words, header_words}

-- a value's canonical letter
abbrev pub canonical_words : Line → List (List ℕ)
canonical_words line = event_words line (show_byte (value_of line))

-- the header, and a line each, with one blank between words
abbrev pub canonical_text : List Line → List ℕ
canonical_text list = rows_text (header_words ∷ map canonical_words list)

-- these event lines as they stand in their canonical text
abbrev pub canonical_lines : List Line → Lines
canonical_lines list = record {
  list = list;
  numbers = map (λ row. row.0) (enumerate_from 2 list);
  end = length list + 2;
}

-- some text spells these event lines: each pin is a word, and they aren't too many
pub record IsLines (list : List Line) : Type 0 where
  pub pins : All (λ line. IsWord (pin_of line)) list
  pub few : length list ≤ 1000000
