-- The words of a box's ports: a name, and `[L:R]` behind it where the port is a vector. Own, but for names.
-- IEEE Std 1364-2001: lexical conventions (identifiers).
use Rattle.std.specs.Prelude.{ℕ, ◌==◌, ◌&&◌, nat_le, Bool, List, [], ◌∷◌, length, take, drop, codes, Option, Some, None, option_and_then, if◌then◌else◌}
use Rattle.std.specs.List.{prefix_len}
use Rattle.std.specs.Option.{option_map}
use Rattle.std.specs.Str.{bytes_eq}
use Rattle.verilog_lexicon.specs.Bytes.{is_digit, is_name_byte}
use Rattle.verilog_lexicon.specs.Pieces.{value_from}
use Rattle.verilog_tree.specs.declared.tree.Range.{Range}
use Rattle.cell_library.specs.Sound.{is_port_name}
use Rattle.box_model.specs.declared.boxes.BoxDir.{BoxDir}
use Rattle.box_model.specs.declared.boxes.BoxPort.{BoxPort}

-- so many digits are a number's
abbrev pub is_digit_count : ℕ → Bool
is_digit_count count = nat_le 1 count && nat_le count 9

-- the value of digits, if they are so many, and what follows them
abbrev pub number_before : List ℕ → List ℕ → Option (ℕ × List ℕ)
number_before digits rest = if is_digit_count (length digits) then Some (value_from 0 digits, rest) else None

-- the number in front, and what follows it
abbrev pub number_first : List ℕ → Option (ℕ × List ℕ)
number_first bytes = number_before (take (prefix_len is_digit bytes) bytes) (drop (prefix_len is_digit bytes) bytes)

-- the right bound and `]`
abbrev pub range_closed : ℕ → ℕ × List ℕ → Option Range
range_closed left found = if bytes_eq found.1 (codes "]") then Some (record { left = left; right = found.0 }) else None

-- `:`, the right bound and `]`
abbrev pub range_from : ℕ → List ℕ → Option Range
range_from left [] = None
range_from left (b ∷ bytes) = if b == 58 then option_and_then (range_closed left) (number_first bytes) else None

-- the range of `[L:R]`
abbrev pub range_in : List ℕ → Option Range
range_in [] = None
range_in (b ∷ bytes) = if b == 91 then option_and_then (λ (found : ℕ × List ℕ). range_from found.0 found.1) (number_first bytes) else None

abbrev pub port : BoxDir → List ℕ → Option Range → BoxPort
port dir name range = record { name = name; dir = dir; range = range }

-- the port of this name, a scalar where nothing stands behind it
abbrev pub port_of : BoxDir → List ℕ → List ℕ → Option BoxPort
port_of dir name [] = Some (port dir name None)
port_of dir name (b ∷ bytes) = option_map (λ (range : Range). port dir name (Some range)) (range_in (b ∷ bytes))

abbrev pub port_named : BoxDir → List ℕ → List ℕ → Option BoxPort
port_named dir name behind = if is_port_name name then port_of dir name behind else None

-- the port that a word tells
abbrev pub port_in : BoxDir → List ℕ → Option BoxPort
port_in dir word = port_named dir (take (prefix_len is_name_byte word) word) (drop (prefix_len is_name_byte word) word)
