-- own: the forms of a library's lines.
use Rattle.std.specs.Prelude.{◌≡◌, ◌<◌, ◌≤◌, ℕ, ◌+◌, ◌-◌, ◌==◌, ◌&&◌, nat_le, take, drop, slice_index_or, Bool, false, [], ◌∷◌, ◌++◌, length, codes, Option, Some, None, is_some, if◌then◌else◌}
use Rattle.std.specs.Option.{option_map_or}
use Rattle.std.specs.Str.{bytes_eq}
use Rattle.cell_library.specs.declared.FlopKind.{FlopKind}
use Rattle.cell_library.specs.Gates.{flop_operand_count}
use Rattle.cell_text.specs.Words.{Words, is_colon, is_step_count, flop_named}

-- The words before and behind the first colon that has at most 16 before it and 1 to 64 behind it, where
-- `front` came before.
abbrev pub parted : Words → Words → Option (Words × Words)
parted front [] = None
parted front (word ∷ words) =
    if is_colon word && (nat_le (length front) 16 && is_step_count (length words)) then Some (front, words)
    else parted (front ++ word ∷ []) words

-- the word at this place is such a colon
abbrev pub parts_at : Words → ℕ → Bool
parts_at words place = is_colon (slice_index_or words place []) && (nat_le place 16 && is_step_count (length words - place - 1))

-- the words are parted at this place
pub record IsParted (words : Words) (place : ℕ) : Type 0 where
  pub within : place < length words
  pub few : place ≤ 16
  pub parts : parted [] words ≡ Some (take place words, drop (place + 1) words)

-- `cells 1`
abbrev pub is_version : Words → Bool
is_version (a ∷ b ∷ []) = bytes_eq a (codes "cells") && bytes_eq b (codes "1")
is_version _ = false

-- an output, and as many inputs as the kind's operands
abbrev pub takes : Words → FlopKind → Bool
takes ports kind = length ports == 1 + flop_operand_count kind.reset

-- `NAME OUT {IN} : STEP {STEP}`
abbrev pub is_gate : Words → Bool
is_gate (name ∷ output ∷ words) = is_some (parted [] words)
is_gate _ = false

-- `NAME KIND Q D CK` or `NAME KIND Q D CK R`
abbrev pub is_flop : Words → Bool
is_flop (name ∷ kind ∷ ports) = option_map_or (takes ports) (flop_named kind) false
is_flop _ = false

-- a line `gate` or `flop`
abbrev pub is_cell_line : Words → Bool
is_cell_line [] = false
is_cell_line (key ∷ words) = if bytes_eq key (codes "gate") then is_gate words else bytes_eq key (codes "flop") && is_flop words
