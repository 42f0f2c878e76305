-- The strings of the canonical file with registers of its own hold the canonical contents and their entries.
use Rattle.std.proofs.Common.{◌≡◌, ℕ, ◌<◌, ◌^◌, List, [], ◌∷◌, ◌++◌, true, map, refl, sym, ap, subst, ◌∙◌, arith, append_assoc}
use Rattle.std.specs.List.{AllByRecursion}
use Rattle.list_laws.proofs.Lists.{all_append, all_mapped}
use Rattle.cell_library.specs.declared.codes.Opcode.{Opcode}
use Rattle.bsdl_device.specs.declared.values.Device.{Device}
use Rattle.bsdl_device.specs.declared.written.File.{File}
use Rattle.bsdl_device.specs.declared.entries.OpcodeEntry.{OpcodeEntry}
use Rattle.bsdl_device.specs.declared.entries.AccessEntry.{AccessEntry}
use Rattle.bsdl_device.specs.declared.entries.Contents.{Contents}
use Rattle.bsdl_device.specs.Patterns.{is_filled, each_after, separated_by}
use Rattle.bsdl_device.specs.Runs.{ContentPattern, comma}
use Rattle.bsdl_device.specs.Grammar.{opcode_words, access_words}
use Rattle.bsdl_device.specs.Spelled.{Hold}
use Rattle.bsdl_device.proofs.ContentAtoms.{ContentAtom, Space, Identifier, Name, Integer, Mark, bytes_of, Entry}
use Rattle.bsdl_device.proofs.EntryAtoms.{opcode_atoms, access_atoms, opcode_bytes, comma_strings}
use Rattle.bsdl_device.proofs.RoundTripIdentifiers.{identifier_test, name_test}
use Rattle.bsdl_device.proofs.DevicePorts.{bits_good}
use Rattle.bsdl_device.proofs.RoundTripHeld.{GoodDevice, hold_entries, entry_strings, AreStrings, opcodes_are, access_are, opcodes_filled, filled_map, holds_again}
use Rattle.bsdl_device.proofs.Access.{is_access}
use Rattle.bsdl_device.proofs.Rebuilt.{opcode_entry, access_entries, rebuilt_by, rebuilt_contents}
use Rattle.bsdl_device.specs.declared.registers.values.RegisterEntry.{RegisterEntry}
use Rattle.bsdl_device.specs.declared.registers.values.TestRegister.{TestRegister}
use Rattle.bsdl_device.specs.declared.registers.values.Extended.{Extended}
use Rattle.bsdl_device.specs.Entries.{entry_words, extended_words, HasExtendedContents}
use Rattle.bsdl_device.specs.IsExtended.{IsTestRegister, IsExtended}
use Rattle.bsdl_device.proofs.RegistersRoundTripRules.{own_entry, entry_of, entries_of, whole_opcodes}

-- Entries.

abbrev pub own_atoms : RegisterEntry → List ContentAtom
own_atoms e = Name e.name ∷ Mark 91 ∷ Integer e.length ∷ Mark 93 ∷ Space ∷ Mark 40 ∷ Identifier e.instruction ∷ Mark 41 ∷ []

own_is : (d : Device) (r : TestRegister) → IsTestRegister d r → Entry (own_atoms (entry_of r)) (entry_words (entry_of r))
own_is d r is =
    let low : r.length < 10 ^ 9 = omega (arith, is.few) in
    record { all = (name_test r.name (is.name.identifier, is.name.free), (refl, (low, (refl, (tt, (refl, (identifier_test r.instr is.instr, (refl, tt)))))))); apart = refl; patterns = refl }

opcode_own : (d : Device) (r : TestRegister) → IsTestRegister d r → Entry (opcode_atoms (own_entry r)) (opcode_words (own_entry r))
opcode_own d r is = record { all = (identifier_test r.instr is.instr, (tt, (refl, (bits_good r.bits is.bits, (refl, tt))))); apart = refl; patterns = refl }

-- an entry of either kind: its atoms and its patterns
abbrev pub Item : Type 0
Item = List ContentAtom × List ContentPattern

abbrev pub access_item : AccessEntry → Item
access_item a = (access_atoms a, access_words a)

abbrev pub own_item : RegisterEntry → Item
own_item e = (own_atoms e, entry_words e)

abbrev pub items : List Opcode → List TestRegister → List Item
items ops rs = map access_item (access_entries ops) ++ map own_item (entries_of rs)

abbrev pub item_bytes : Item → List ℕ
item_bytes z = bytes_of z.0

abbrev pub IsItem : Item → Type 0
IsItem z = Entry z.0 z.1

each_own : (d : Device) (rs : List TestRegister) → AllByRecursion (IsTestRegister d) rs → AllByRecursion IsItem (map own_item (entries_of rs))
each_own d [] each = tt
each_own d (r ∷ rs) each = (own_is d r each.0, each_own d rs each.1)

each_opcode : (d : Device) (rs : List TestRegister) → AllByRecursion (IsTestRegister d) rs → AllByRecursion (λ (o : OpcodeEntry). Entry (opcode_atoms o) (opcode_words o)) (map own_entry rs)
each_opcode d [] each = tt
each_opcode d (r ∷ rs) each = (opcode_own d r each.0, each_opcode d rs each.1)

pub items_are : (e : Extended) → IsExtended e → AllByRecursion IsItem (items e.device.opcodes e.registers)
items_are e is = all_append IsItem (map access_item (access_entries e.device.opcodes)) (map own_item (entries_of e.registers)) (all_mapped IsItem access_item (access_entries e.device.opcodes) (access_are e.device.opcodes)) (each_own e.device e.registers is.each)

pub whole_are : (e : Extended) → GoodDevice e.device → IsExtended e → AllByRecursion (λ (o : OpcodeEntry). Entry (opcode_atoms o) (opcode_words o)) (whole_opcodes e.device.opcodes e.registers)
whole_are e g is =
    all_append (λ (o : OpcodeEntry). Entry (opcode_atoms o) (opcode_words o)) (map opcode_entry e.device.opcodes) (map own_entry e.registers) (opcodes_are e.device.opcodes g.opcodes) (each_opcode e.device e.registers is.each)

-- Patterns.

after_append : (xs ys : List Item) → each_after comma (λ (z : Item). z.1) (xs ++ ys) ≡ each_after comma (λ (z : Item). z.1) xs ++ each_after comma (λ (z : Item). z.1) ys
after_append [] ys = refl
after_append (x ∷ xs) ys =
    ap (λ (l : List ContentPattern). comma ∷ (x.1 ++ l)) (after_append xs ys)
    ∙ ap (λ (l : List ContentPattern). comma ∷ l) (sym (append_assoc x.1 (each_after comma (λ (z : Item). z.1) xs) (each_after comma (λ (z : Item). z.1) ys)))

after_map : {A : Type 0} (atoms : A → List ContentAtom) (words : A → List ContentPattern) (xs : List A) → each_after comma (λ (z : Item). z.1) (map (λ (x : A). let z : Item = (atoms x, words x) in z) xs) ≡ each_after comma words xs
after_map atoms words [] = refl
after_map atoms words (x ∷ xs) = ap (λ (l : List ContentPattern). comma ∷ (words x ++ l)) (after_map atoms words xs)

from_first : (a : AccessEntry) (more : List AccessEntry) (es : List RegisterEntry) → separated_by comma (λ (z : Item). z.1) (map access_item (a ∷ more) ++ map own_item es) ≡ extended_words (a ∷ more) es
from_first a more es =
    ap (λ (l : List ContentPattern). access_words a ++ l) (after_append (map access_item more) (map own_item es)
    ∙ ap (λ (l : List ContentPattern). l ++ each_after comma (λ (z : Item). z.1) (map own_item es)) (after_map access_atoms access_words more)
    ∙ ap (λ (l : List ContentPattern). each_after comma access_words more ++ l) (after_map own_atoms entry_words es))
    ∙ sym (append_assoc (access_words a) (each_after comma access_words more) (each_after comma entry_words es))

words_of : (list : List AccessEntry) (es : List RegisterEntry) → is_filled list ≡ true → separated_by comma (λ (z : Item). z.1) (map access_item list ++ map own_item es) ≡ extended_words list es
words_of [] es some = absurd (cc)
words_of (a ∷ more) es some = from_first a more es

items_words : (ops : List Opcode) (rs : List TestRegister) → separated_by comma (λ (z : Item). z.1) (items ops rs) ≡ extended_words (access_entries ops) (entries_of rs)
items_words ops rs = words_of (access_entries ops) (entries_of rs) refl

-- The file.

abbrev pub whole_opcode_strings : Extended → List (List ℕ)
whole_opcode_strings e = comma_strings opcode_bytes (whole_opcodes e.device.opcodes e.registers)

abbrev pub whole_access_strings : Extended → List (List ℕ)
whole_access_strings e = comma_strings item_bytes (items e.device.opcodes e.registers)

abbrev pub extended_file : Extended → File
extended_file e = rebuilt_by e.device (whole_opcode_strings e) (whole_access_strings e)

abbrev pub extended_contents : Extended → Contents
extended_contents e = record {
  pin_map = (rebuilt_contents e.device).pin_map;
  opcodes = whole_opcodes e.device.opcodes e.registers;
  capture = (rebuilt_contents e.device).capture;
  idcode = (rebuilt_contents e.device).idcode;
  usercode = (rebuilt_contents e.device).usercode;
  access = (rebuilt_contents e.device).access;
  rows = (rebuilt_contents e.device).rows;
}

filled_append : {A : Type 0} (xs ys : List A) → is_filled xs ≡ true → is_filled (xs ++ ys) ≡ true
filled_append [] ys h = absurd (cc)
filled_append (x ∷ xs) ys h = refl

pub extended_holds : (e : Extended) → GoodDevice e.device → IsExtended e → HasExtendedContents (extended_file e) (extended_contents e) (entries_of e.registers)
extended_holds e g is =
    let h = holds_again e.device g in
    record {
      pin_map = h.pin_map;
      opcodes = record {
        filled = filled_append (map opcode_entry e.device.opcodes) (map own_entry e.registers) (filled_map opcode_entry e.device.opcodes (opcodes_filled e.device.opcodes g.all));
        hold = hold_entries opcode_atoms opcode_words (whole_opcodes e.device.opcodes e.registers) (whole_are e g is);
      };
      capture = h.capture;
      idcode = h.idcode;
      usercode = h.usercode;
      access = record {
        is = is_access e.device.opcodes g.all;
        hold = subst (λ (ps : List ContentPattern). Hold (whole_access_strings e) ps) (items_words e.device.opcodes e.registers) (hold_entries (λ (z : Item). z.0) (λ (z : Item). z.1) (items e.device.opcodes e.registers) (items_are e is));
      };
      rows = h.rows;
    }

pub whole_opcode_strings_are : (e : Extended) → GoodDevice e.device → IsExtended e → AreStrings (whole_opcode_strings e)
whole_opcode_strings_are e g is = entry_strings opcode_atoms opcode_words (whole_opcodes e.device.opcodes e.registers) (whole_are e g is)

pub whole_access_strings_are : (e : Extended) → IsExtended e → AreStrings (whole_access_strings e)
whole_access_strings_are e is = entry_strings (λ (z : Item). z.0) (λ (z : Item). z.1) (items e.device.opcodes e.registers) (items_are e is)
