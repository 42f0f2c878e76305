-- A device with registers of its own that keeps the conditions is spelled by its canonical text.
use Rattle.std.proofs.Common.{◌≡◌, ℕ, List, [], ◌∷◌, ◌++◌, false, true, None, map, refl, sym, ap, ◌∙◌}
use Rattle.std.specs.List.{filter_map, AllByRecursion}
use Rattle.cell_library.specs.declared.codes.Opcode.{Opcode}
use Rattle.bsdl_lexicon.specs.Pieces.{words_from}
use Rattle.bsdl_device.specs.declared.values.Device.{Device}
use Rattle.bsdl_device.specs.declared.entries.OpcodeEntry.{OpcodeEntry}
use Rattle.bsdl_device.specs.declared.entries.Contents.{Contents}
use Rattle.bsdl_device.specs.Patterns.{is_filled}
use Rattle.bsdl_device.specs.Shape.{joined}
use Rattle.bsdl_device.specs.Meanings.{first_meaning_fault}
use Rattle.bsdl_device.specs.Denoted.{device_of}
use Rattle.bsdl_device.proofs.EntryAtoms.{opcode_bytes}
use Rattle.bsdl_device.proofs.Rebuilt.{opcode_entry, rebuilt_by, rebuilt_file, rebuilt_contents}
use Rattle.bsdl_device.proofs.RoundTripHeld.{opcodes_filled}
use Rattle.bsdl_device.proofs.Means.{Keeps, none_broken}
use Rattle.bsdl_device.proofs.FileAtoms.{pieces_of, text_of-atoms, are_pieces, Free}
use Rattle.bsdl_device.proofs.FileTexts.{section_atoms_by, sections_are_by, all_joined}
use Rattle.bsdl_device.proofs.FileWords.{spells_file_by, strings_filled}
use Rattle.bsdl_device.proofs.CanonicalText.{chain_joined}
use Rattle.bsdl_device.proofs.ReadBack.{Stands}
use Rattle.bsdl_device.proofs.DeviceKept.{device_stands}
use Rattle.bsdl_device.specs.declared.registers.values.TestRegister.{TestRegister}
use Rattle.bsdl_device.specs.declared.registers.values.Extended.{Extended}
use Rattle.bsdl_device.specs.Rules.{base_contents, own_opcodes, registers_fail, own_registers_fail}
use Rattle.bsdl_device.specs.IsExtended.{IsTestRegister, IsExtended}
use Rattle.bsdl_device.specs.RegistersSpelled.{register_of, extended_of, SpellsExtendedText}
use Rattle.bsdl_device.specs.RegistersCanonical.{canonical_extended}
use Rattle.bsdl_device.proofs.RegistersRoundTripRules.{own_entry, entries_of, whole_opcodes, IsApart, base_same, own_same, registers_again, registers_right}
use Rattle.bsdl_device.proofs.RegistersRoundTripHeld.{item_bytes, items, whole_opcode_strings, whole_access_strings, extended_file, extended_contents, extended_holds, whole_opcode_strings_are, whole_access_strings_are}
use Rattle.bsdl_device.proofs.RegistersRoundTripTexts.{extended_text}

all_apart : (d : Device) (rs : List TestRegister) → AllByRecursion (IsTestRegister d) rs → AllByRecursion IsApart rs
all_apart d [] each = tt
all_apart d (r ∷ rs) each = (each.0.own, all_apart d rs each.1)

abbrev with_opcodes : Device → List OpcodeEntry → Contents
with_opcodes d os = record {
  pin_map = (rebuilt_contents d).pin_map;
  opcodes = os;
  capture = (rebuilt_contents d).capture;
  idcode = (rebuilt_contents d).idcode;
  usercode = (rebuilt_contents d).usercode;
  access = (rebuilt_contents d).access;
  rows = (rebuilt_contents d).rows;
}

-- the base of its contents are those of its device
base_is : (e : Extended) → IsExtended e → base_contents (extended_contents e) (entries_of e.registers) ≡ rebuilt_contents e.device
base_is e is = ap (with_opcodes e.device) (base_same e.device.opcodes e.registers (all_apart e.device e.registers is.each))

own_is : (e : Extended) → IsExtended e → own_opcodes (entries_of e.registers) (extended_contents e).opcodes ≡ map own_entry e.registers
own_is e is = own_same e.device.opcodes e.registers (all_apart e.device e.registers is.each)

-- other strings break no other rule
keeps_by : (d : Device) (opcodes access : List (List ℕ)) → Keeps (rebuilt_file d) (rebuilt_contents d) → Keeps (rebuilt_by d opcodes access) (rebuilt_contents d)
keeps_by d opcodes access k = record {
  name = k.name;
  pin_map = k.pin_map;
  tap = k.tap;
  length = k.length;
  opcode = k.opcode;
  capture = k.capture;
  idcode = k.idcode;
  usercode = k.usercode;
  register = k.register;
  boundary = k.boundary;
  row = k.row;
}

means : (e : Extended) → IsExtended e → Stands e.device → first_meaning_fault (extended_file e) (base_contents (extended_contents e) (entries_of e.registers)) ≡ None
means e is s =
    ap (first_meaning_fault (extended_file e)) (base_is e is) ∙ none_broken (extended_file e) (rebuilt_contents e.device) (keeps_by e.device (whole_opcode_strings e) (whole_access_strings e) s.keeps)

right : (e : Extended) → IsExtended e → own_registers_fail (extended_file e) (extended_contents e) (entries_of e.registers) ≡ false
right e is =
    let entries = entries_of e.registers in
    ap (λ (c : Contents). registers_fail e.device.length c.opcodes (own_opcodes entries (extended_contents e).opcodes) entries) (base_is e is)
    ∙ ap (λ (own : List OpcodeEntry). registers_fail e.device.length (map opcode_entry e.device.opcodes) own entries) (own_is e is)
    ∙ registers_right e is

abbrev extended_from : Device → List TestRegister → Extended
extended_from d rs = record { device = d; registers = rs }

described : (e : Extended) → IsExtended e → Stands e.device → e ≡ extended_of (extended_file e) (extended_contents e) (entries_of e.registers)
described e is s =
    let entries = entries_of e.registers in
    let again : device_of (extended_file e) (rebuilt_contents e.device) ≡ e.device = s.again in
    sym (
    ap (λ (c : Contents). extended_from (device_of (extended_file e) c) (filter_map (register_of (own_opcodes entries (extended_contents e).opcodes)) entries)) (base_is e is)
    ∙ ap (λ (own : List OpcodeEntry). extended_from (device_of (extended_file e) (rebuilt_contents e.device)) (filter_map (register_of own) entries)) (own_is e is)
    ∙ ap (λ (d : Device). extended_from d (filter_map (register_of (map own_entry e.registers)) entries)) again
    ∙ ap (extended_from e.device) (registers_again e.registers is.instructions))

opcodes_there : (ops : List Opcode) (rs : List TestRegister) → is_filled ops ≡ true → is_filled (whole_opcodes ops rs) ≡ true
opcodes_there [] rs h = absurd (cc)
opcodes_there (o ∷ ops) rs h = refl

pub extended_spelled : (e : Extended) → IsExtended e → SpellsExtendedText (canonical_extended e) e
extended_spelled e is =
    let d = e.device in
    let s : Stands d = device_stands d is.device in
    let os = whole_opcode_strings e in
    let bs = whole_access_strings e in
    let atoms = joined (section_atoms_by d os bs) in
    let os_are = whole_opcode_strings_are e s.good is in
    let bs_are = whole_access_strings_are e is in
    let whole = all_joined (section_atoms_by d os bs) (sections_are_by d s.good os bs os_are bs_are) in record {
      words = words_from 0 (pieces_of atoms);
      cut = record {
        pieces = pieces_of atoms;
        are = are_pieces Free atoms whole.all whole.fits;
        text = extended_text e s.good ∙ sym (chain_joined (section_atoms_by d os bs)) ∙ sym (text_of-atoms atoms);
        words_are = refl;
      };
      spells = record {
        file = extended_file e;
        spells = spells_file_by d os bs s.good os_are bs_are
            (strings_filled opcode_bytes (whole_opcodes d.opcodes e.registers) (opcodes_there d.opcodes e.registers (opcodes_filled d.opcodes s.good.all)))
            (strings_filled item_bytes (items d.opcodes e.registers) refl);
        contents = extended_contents e;
        entries = entries_of e.registers;
        holds = extended_holds e s.good is;
        means = means e is s;
        right = right e is;
        extended_is = described e is s;
      };
    }
