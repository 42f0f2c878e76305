-- The names that lines give registers and instructions, and which can't be theirs.
-- IEEE Std 1149.1-2001: instructions, test data registers, the annex on BSDL; VHDL-93, lexical elements.
use Rattle.std.specs.Prelude.{ℕ, ◌||◌, not, Bool, false, List, [], ◌∷◌, flat_map, codes}
use Rattle.std.specs.List.{list_any}
use Rattle.bsdl_lexicon.specs.Names.{is_same_name}
use Rattle.bsdl_lexicon.specs.Reserved.{is_reserved}
use Rattle.bsdl_device.specs.Runs.{is_identifier}
use Rattle.bsdl_device.specs.Rules.{names_register, names_some_instruction}
use Rattle.status_fitting.specs.declared.register_texts.plan.StatusRow.{StatusRow}
use Rattle.status_fitting.specs.declared.register_texts.plan.StatusPlan.{StatusPlan}

-- what a line gives a name
pub data Given : Type 0 where
  RegisterName : List ℕ → Given
  InstructionName : List ℕ → Given

abbrev pub name_of : Given → List ℕ
name_of (RegisterName name) = name
name_of (InstructionName name) = name

-- two registers, or two instructions, of one name, without regard to case
abbrev pub same_given : Given → Given → Bool
same_given (RegisterName a) (RegisterName b) = is_same_name a b
same_given (InstructionName a) (InstructionName b) = is_same_name a b
same_given _ _ = false

-- on a line the register comes first
abbrev pub given_by : StatusRow → List Given
given_by row = RegisterName row.name ∷ InstructionName row.instr ∷ []

abbrev pub all_given : StatusPlan → List Given
all_given plan = flat_map given_by plan.registers

-- BOUNDARY, BYPASS and DEVICE_ID; the profile's instructions, INTEST and RUNBIST
abbrev pub is_standard : Given → Bool
is_standard (RegisterName name) = names_register name
is_standard (InstructionName name) = names_some_instruction name || is_same_name name (codes "INTEST") || is_same_name name (codes "RUNBIST")

-- no identifier, or a reserved word; or a name of the standard, or one that was given before
abbrev pub is_barred : List Given → Given → Bool
is_barred before given = not (is_identifier (name_of given)) || is_reserved (name_of given) || is_standard given || list_any (same_given given) before
