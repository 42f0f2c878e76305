-- own: what the words of a line are seen as.
use Rattle.std.specs.Prelude.{ℕ, ◌&&◌, nat_le, Bool, false, List, [], ◌∷◌, length, codes, Option, Some, None, if◌then◌else◌, option_and_then}
use Rattle.std.specs.Str.{bytes_eq}
use Rattle.cell_library.specs.declared.codes.Bits.{Bits}
use Rattle.bsdl_device.specs.Runs.{is_pattern}
use Rattle.word_cutter.specs.Forms.{after_key}
use Rattle.status_fitting.specs.declared.register_texts.plan.StatusRow.{StatusRow}
use Rattle.status_fitting.specs.Grammar.{bits_of}

-- `status 1`
abbrev pub is_first : List (List ℕ) → Bool
is_first (key ∷ number ∷ []) = bytes_eq key (codes "status") && bytes_eq number (codes "1")
is_first _ = false

abbrev pub bits_if : List ℕ → Option Bits
bits_if word = if is_pattern word then Some (bits_of word) else None

-- the words, where they are 1 to 256
abbrev pub words_if : List (List ℕ) → Option (List (List ℕ))
words_if words = if nat_le 1 (length words) && nat_le (length words) 256 then Some words else None

abbrev pub with_words : List ℕ → List ℕ → Bits → Option (List (List ℕ)) → Option StatusRow
with_words name instr bits None = None
with_words name instr bits (Some words) = Some (record { name = name; instr = instr; bits = bits; words = words })

-- of a name of at most 255 bytes
abbrev pub named_row : List ℕ → List ℕ → List (List ℕ) → Bits → Option StatusRow
named_row name instr words bits = if nat_le (length name) 255 then with_words name instr bits (words_if words) else None

abbrev pub row_if : List ℕ → List ℕ → List ℕ → List (List ℕ) → Option StatusRow
row_if name instr bits words = option_and_then (named_row name instr words) (bits_if bits)

-- what stands behind the key
abbrev pub register_in : List (List ℕ) → Option StatusRow
register_in (name ∷ instr ∷ bits ∷ words) = row_if name instr bits words
register_in _ = None

-- `register NAME INSTR BITS WORD {WORD}`
abbrev pub register_line : List (List ℕ) → Option StatusRow
register_line words = option_and_then register_in (after_key (codes "register") words)
