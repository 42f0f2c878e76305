-- The lines of a text of registers, and the registers that bytes spell.
-- IEEE Std 1149.1-2001: test data registers. The form of the lines is own.
use Rattle.std.specs.Prelude.{◌≡◌, ◌≤◌, ℕ, true, List, [], ◌∷◌, All, length, map, codes}
use Rattle.cell_library.specs.declared.codes.Bits.{Bits}
use Rattle.bsdl_device.specs.Runs.{is_pattern, value_after}
use Rattle.word_cutter.specs.LinesWords.{kept_lines}
use Rattle.status_fitting.specs.declared.register_texts.plan.StatusRow.{StatusRow}
use Rattle.status_fitting.specs.declared.register_texts.plan.StatusPlan.{StatusPlan}

-- a register as it is written
pub record RegisterWords : Type 0 where
  pub name : List ℕ
  pub instr : List ℕ
  pub bits : List ℕ
  pub words : List (List ℕ)

-- The words of the lines.

abbrev pub first_words : List (List ℕ)
first_words = codes "status" ∷ codes "1" ∷ []

abbrev pub register_words : RegisterWords → List (List ℕ)
register_words r = codes "register" ∷ r.name ∷ r.instr ∷ r.bits ∷ r.words

-- all lines in their order
abbrev pub status_rows : List RegisterWords → List (List (List ℕ))
status_rows registers = first_words ∷ map register_words registers

-- The forms of the words: the instruction and the wires may be any.

pub record IsRegister (r : RegisterWords) : Type 0 where
  pub name : length r.name ≤ 255
  pub bits : is_pattern r.bits ≡ true
  pub some : 1 ≤ length r.words
  pub few : length r.words ≤ 256

-- 1 to 16 of them
pub record AreRegisters (registers : List RegisterWords) : Type 0 where
  pub some : 1 ≤ length registers
  pub few : length registers ≤ 16
  pub each : All IsRegister registers

-- What is written, with its bits.

abbrev pub bits_of : List ℕ → Bits
bits_of word = record { len = length word; value = value_after 2 0 word }

abbrev pub register_of : RegisterWords → StatusRow
register_of r = record { name = r.name; instr = r.instr; bits = bits_of r.bits; words = r.words }

abbrev pub plan_of : List RegisterWords → StatusPlan
plan_of registers = record { registers = map register_of registers }

-- the words of the kept lines
abbrev pub kept_words : List ℕ → List (List (List ℕ))
kept_words bytes = map (λ (row : ℕ × List (List ℕ)). row.1) (kept_lines bytes)

-- the bytes spell the registers: their lines are those that are kept
pub record SpellsStatus (bytes : List ℕ) (plan : StatusPlan) : Type 0 where
  pub source : List RegisterWords
  pub lines_are : kept_words bytes ≡ status_rows source
  pub forms : AreRegisters source
  pub plan_is : plan ≡ plan_of source
