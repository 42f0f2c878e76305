-- What the strings of REGISTER_ACCESS hold where the design has registers of its own.
-- IEEE Std 1149.1-2001: the annex on BSDL (register access).
use Rattle.std.specs.Prelude.{ℕ, List, [], ◌∷◌, ◌++◌}
use Rattle.bsdl_device.specs.declared.entries.AccessEntry.{AccessEntry}
use Rattle.bsdl_device.specs.declared.entries.Contents.{Contents}
use Rattle.bsdl_device.specs.declared.written.File.{File}
use Rattle.bsdl_device.specs.Patterns.{each_after}
use Rattle.bsdl_device.specs.Runs.{ContentPattern, IdentifierRun, NameRun, IntegerRun, MarkByte, left_parenthesis, right_parenthesis, comma}
use Rattle.bsdl_device.specs.Grammar.{accesses_words, IsAccess}
use Rattle.bsdl_device.specs.Spelled.{Hold, HoldPinMap, HoldOpcodes, HoldCapture, HoldIdcode, HoldRows}
use Rattle.bsdl_device.specs.declared.registers.values.RegisterEntry.{RegisterEntry}

-- `NAME [length] (INSTRUCTION)`
abbrev pub entry_words : RegisterEntry → List ContentPattern
entry_words e =
    NameRun e.name ∷ MarkByte 91 ∷ IntegerRun e.length ∷ MarkByte 93 ∷ left_parenthesis ∷ IdentifierRun e.instruction ∷ right_parenthesis ∷ []

-- the entries of the profile's registers, and behind them those of the design's own, each behind a comma
abbrev pub extended_words : List AccessEntry → List RegisterEntry → List ContentPattern
extended_words list entries = accesses_words list ++ each_after comma entry_words entries

pub record HoldExtended (strings : List (List ℕ)) (list : List AccessEntry) (entries : List RegisterEntry) : Type 0 where
  pub is : IsAccess list
  pub hold : Hold strings (extended_words list entries)

-- the strings of a file hold these contents, and these entries behind those of the profile's registers
pub record HasExtendedContents (f : File) (c : Contents) (entries : List RegisterEntry) : Type 0 where
  pub pin_map : HoldPinMap f.pin_map c.pin_map
  pub opcodes : HoldOpcodes f.opcodes.strings c.opcodes
  pub capture : HoldCapture f.capture.strings c.capture
  pub idcode : HoldIdcode f.idcode c.idcode
  pub usercode : HoldIdcode f.usercode c.usercode
  pub access : HoldExtended f.access.strings c.access entries
  pub rows : HoldRows f.boundary.strings c.rows
