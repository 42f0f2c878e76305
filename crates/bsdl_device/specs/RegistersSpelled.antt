-- What words and what bytes spell a device with registers of its own.
-- IEEE Std 1149.1-2001: the annex on BSDL.
use Rattle.std.specs.Prelude.{◌≡◌, ℕ, List, Option, None, find, IsFalse}
use Rattle.std.specs.List.{filter_map}
use Rattle.std.specs.Option.{option_map}
use Rattle.bsdl_lexicon.specs.declared.token.BsdlSpanned.{BsdlSpanned}
use Rattle.bsdl_lexicon.specs.Names.{is_same_name}
use Rattle.bsdl_lexicon.specs.Pieces.{words_of}
use Rattle.bsdl_lexicon.specs.Words.{plain}
use Rattle.bsdl_device.specs.declared.written.File.{File}
use Rattle.bsdl_device.specs.declared.entries.OpcodeEntry.{OpcodeEntry}
use Rattle.bsdl_device.specs.declared.entries.Contents.{Contents}
use Rattle.bsdl_device.specs.Spelled.{SpellsFile}
use Rattle.bsdl_device.specs.Meanings.{first_meaning_fault}
use Rattle.bsdl_device.specs.Denoted.{device_of}
use Rattle.bsdl_device.specs.declared.registers.values.RegisterEntry.{RegisterEntry}
use Rattle.bsdl_device.specs.declared.registers.values.TestRegister.{TestRegister}
use Rattle.bsdl_device.specs.declared.registers.values.Extended.{Extended}
use Rattle.bsdl_device.specs.Entries.{HasExtendedContents}
use Rattle.bsdl_device.specs.Rules.{base_contents, own_opcodes, own_registers_fail}

-- the register of an entry, with its instruction as INSTRUCTION_OPCODE spells it; none where that has no opcode,
-- which is a fault
abbrev pub register_of : List OpcodeEntry → RegisterEntry → Option TestRegister
register_of opcodes e =
    option_map (λ (o : OpcodeEntry). let made : TestRegister = record { name = e.name; instr = o.name; bits = o.bits; length = e.length } in made)
    (find (λ (o : OpcodeEntry). is_same_name e.instruction o.name) opcodes)

-- the device of the base, and the registers in the order of their entries
abbrev pub extended_of : File → Contents → List RegisterEntry → Extended
extended_of f c entries = record { device = device_of f (base_contents c entries); registers = filter_map (register_of (own_opcodes entries c.opcodes)) entries }

-- The words are those of a file whose base breaks no rule, nor do its own registers, and that describes this device.
pub record SpellsExtended (words : List BsdlSpanned) (extended : Extended) : Type 0 where
  pub file : File
  pub spells : SpellsFile (plain words) file
  pub contents : Contents
  pub entries : List RegisterEntry
  pub holds : HasExtendedContents file contents entries
  pub means : first_meaning_fault file (base_contents contents entries) ≡ None
  pub right : IsFalse (own_registers_fail file contents entries)
  pub extended_is : extended ≡ extended_of file contents entries

-- The bytes have words, which spell this device.
pub record SpellsExtendedText (bytes : List ℕ) (extended : Extended) : Type 0 where
  pub words : List BsdlSpanned
  pub cut : words_of bytes words
  pub spells : SpellsExtended words extended
