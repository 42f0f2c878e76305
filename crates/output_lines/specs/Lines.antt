-- Lines of words. Own.
use Rattle.std.specs.Prelude.{ℕ, List, [], ◌∷◌, ◌++◌, map, Option, Some, None, codes}
use Rattle.std.specs.Fmt.{decimal}
use Rattle.std.specs.List.{flat_map}
use Rattle.output_lines.specs.declared.field.Field.{Field}
use Rattle.output_lines.specs.declared.field.Field.TheVariants.{Word, Number, Bit}

-- a bit of a port or a wire: its name, and its index in brackets, if it has one
abbrev pub bit_text : List ℕ → Option ℕ → List ℕ
bit_text name None = name
bit_text name (Some index) = name ++ codes "[" ++ decimal index ++ codes "]"

abbrev pub field_text : Field → List ℕ
field_text (Word bytes) = bytes.now
field_text (Number number) = decimal number
field_text (Bit name index) = bit_text name.now (Some index)

-- a word behind a blank
abbrev pub blank_word : List ℕ → List ℕ
blank_word word = codes " " ++ word

abbrev pub blank_field : Field → List ℕ
blank_field field = blank_word (field_text field)

-- words with one blank between them, and LF
unfoldable pub words_line : List ℕ → List (List ℕ) → List ℕ
words_line first others = first ++ (flat_map blank_word others ++ codes "\n")

-- the same of fields
abbrev pub line_text : Field → List Field → List ℕ
line_text first others = words_line (field_text first) (map field_text others)
