-- own: the file of words without the entries of the design's own registers, and its contents.
use Rattle.std.specs.Prelude.{◌≡◌, ◌<◌, ◌^◌, Bool, List}
use Rattle.std.specs.List.{filter_map}
use Rattle.bsdl_lexicon.specs.declared.token.BsdlSpanned.{BsdlSpanned}
use Rattle.bsdl_lexicon.specs.Words.{plain}
use Rattle.bsdl_device.specs.declared.written.File.{File}
use Rattle.bsdl_device.specs.declared.entries.OpcodeEntry.{OpcodeEntry}
use Rattle.bsdl_device.specs.declared.entries.Contents.{Contents}
use Rattle.bsdl_device.specs.Spelled.{SpellsFile, HasContents}
use Rattle.bsdl_checks.specs.Counts.{all_words}
use Rattle.bsdl_device.specs.declared.registers.values.RegisterEntry.{RegisterEntry}
use Rattle.bsdl_device.specs.declared.registers.values.TestRegister.{TestRegister}
use Rattle.bsdl_device.specs.Rules.{base_contents, own_opcodes, registers_fail}
use Rattle.bsdl_device.specs.RegistersSpelled.{register_of}
use Rattle.bsdl_contents.specs.declared.entries.parted.Parted.{Parted}
use Rattle.bsdl_contents.specs.BaseFile.{IsParted}
use Rattle.bsdl_checks.specs.declared.registers.opcodes.PartedContents.{PartedContents}

-- the file of the words, so parted
pub record HasParted (words : List BsdlSpanned) (p : Parted) : Type 0 where
  pub file : File
  pub spells : SpellsFile (plain words) file
  pub parted : IsParted file p
  pub few : all_words p.file < 2 ^ 64

-- the contents of the file without the opcodes of the design's own instructions, and these
pub record IsPartedFrom (p : Parted) (found : PartedContents) : Type 0 where
  pub whole : Contents
  pub holds : HasContents p.file whole
  pub base : found.contents ≡ base_contents whole p.entries
  pub own : found.own ≡ own_opcodes p.entries whole.opcodes

-- the registers of these entries break a rule
abbrev pub fails_at : File → PartedContents → Parted → Bool
fails_at f found p = registers_fail f.length.value found.contents.opcodes found.own p.entries

-- the registers of the entries that have an opcode
abbrev pub registers_for : List RegisterEntry → List OpcodeEntry → List TestRegister
registers_for entries own = filter_map (register_of own) entries
