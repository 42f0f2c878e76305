-- The strings of the canonical file hold the canonical contents.
use Rattle.std.proofs.Common.{◌≡◌, ℕ, suc, zero, ◌+◌, ◌/◌, ◌%◌, ◌^◌, ◌<◌, List, [], ◌∷◌, ◌++◌, Bool, true, false, Option, Some, None, map, refl, sym, ap, subst, ◌∙◌, arith, append_assoc, append-nil}
use Rattle.std.specs.Prelude.{◌&&◌, codes}
use Rattle.std.specs.List.{list_all, filter, AllByRecursion}
use Rattle.std.specs.Option.{option_map}
use Rattle.std.proofs.Math.Nat.{div-div-eq-div-mul, pow-succ'}
use Rattle.std.proofs.lemmas.List.Folds.{list_all-append}
use Rattle.cell_library.specs.declared.codes.Bits.{Bits}
use Rattle.cell_library.specs.declared.codes.Instr.TheVariants as instr
use Rattle.cell_library.specs.declared.codes.Opcode.{Opcode}
use Rattle.bsdl_lexicon.specs.Bytes.{is_quotable}
use Rattle.bsdl_lexicon.specs.Reserved.{is_reserved}
use Rattle.bsdl_lexicon.specs.Pieces.{IsIdentifier, IsReal}
use Rattle.bsdl_device.specs.declared.values.PortRange.{PortRange}
use Rattle.bsdl_device.specs.declared.values.DevPort.{DevPort}
use Rattle.bsdl_device.specs.declared.values.Device.{Device}
use Rattle.bsdl_device.specs.declared.entries.PinEntry.{PinEntry}
use Rattle.bsdl_device.specs.declared.entries.OpcodeEntry.{OpcodeEntry}
use Rattle.bsdl_device.specs.declared.entries.Register.TheVariants as register
use Rattle.bsdl_device.specs.declared.entries.AccessEntry.{AccessEntry}
use Rattle.bsdl_device.specs.declared.entries.RowEntry.{RowEntry}
use Rattle.bsdl_device.specs.Patterns.{is_filled, separated_by}
use Rattle.bsdl_device.specs.Runs as runs
use Rattle.bsdl_device.specs.Runs.{ContentPattern, content_words, comma}
use Rattle.bsdl_device.specs.Shape.{joined}
use Rattle.bsdl_device.specs.Grammar.{has_pins, pin_entry_words, opcode_words, access_words, row_words}
use Rattle.bsdl_device.specs.Spelled.{Hold, HoldIdcode, HasContents}
use Rattle.bsdl_device.specs.Canonical.{bits_text, pattern_text, has_opcode}
use Rattle.bsdl_device.proofs.Good.{GoodBits}
use Rattle.bsdl_device.proofs.ContentAtoms.{ContentAtom, Pattern, Mark, bytes_of, bytes_of-append, Entry, between_commas, entries, entry_read, atoms_quotable}
use Rattle.bsdl_device.proofs.EntryAtoms.{pin_entry_atoms, opcode_atoms, access_atoms, row_atoms, comma_strings}
use Rattle.bsdl_device.proofs.ContentTexts.{IsPort, IsRow, pin_entry_is, opcode_is, access_is, row_entry_is}
use Rattle.bsdl_device.proofs.Access.{HasAll, is_access}
use Rattle.bsdl_device.proofs.Rebuilt.{entry_of, opcode_entry, access_entries, ident_list, device_id_entries, row_entries, code_strings, user_strings, of_entity, rebuilt_file, rebuilt_contents}

-- Strings of entries.

pub joined_entries : {A : Type 0} (atoms : A → List ContentAtom) (xs : List A) → joined (comma_strings (λ x. bytes_of (atoms x)) xs) ≡ bytes_of (between_commas atoms xs)
joined_entries atoms [] = refl
joined_entries atoms (x ∷ []) = sym (bytes_of-append (atoms x) [])
joined_entries atoms (x ∷ y ∷ xs) =
    append_assoc (bytes_of (atoms x)) (codes ",") (joined (comma_strings (λ z. bytes_of (atoms z)) (y ∷ xs)))
    ∙ ap (λ (t : List ℕ). bytes_of (atoms x) ++ (44 ∷ t)) (joined_entries atoms (y ∷ xs))
    ∙ sym (bytes_of-append (atoms x) (Mark 44 ∷ between_commas atoms (y ∷ xs)))

pub hold_entries : {A : Type 0} (atoms : A → List ContentAtom) (words : A → List ContentPattern) (xs : List A) → AllByRecursion (λ x. Entry (atoms x) (words x)) xs → Hold (comma_strings (λ x. bytes_of (atoms x)) xs) (separated_by comma words xs)
hold_entries atoms words xs all = subst (λ (t : List ℕ). runs.Matches (separated_by comma words xs) (content_words t)) (sym (joined_entries atoms xs)) (entry_read (between_commas atoms xs) (separated_by comma words xs) (entries atoms words xs all))

-- each string can stand between quotes
abbrev pub AreStrings : List (List ℕ) → Type 0
AreStrings strings = AllByRecursion (λ (s : List ℕ). list_all is_quotable s ≡ true) strings

pub entry_strings : {A : Type 0} (atoms : A → List ContentAtom) (words : A → List ContentPattern) (xs : List A) → AllByRecursion (λ x. Entry (atoms x) (words x)) xs → AreStrings (comma_strings (λ x. bytes_of (atoms x)) xs)
entry_strings atoms words [] all = tt
entry_strings atoms words (x ∷ []) all = (atoms_quotable (atoms x) all.0.all, tt)
entry_strings atoms words (x ∷ y ∷ xs) all = (
  list_all-append is_quotable (bytes_of (atoms x)) (codes ",") ∙ ap (λ (b : Bool). b && true) (atoms_quotable (atoms x) all.0.all),
  entry_strings atoms words (y ∷ xs) all.1,
)

-- What is known of a device that a text spells.

abbrev pub IsCode : Option ℕ → Type 0
IsCode None = Unit {0}
IsCode (Some code) = GoodBits (record { len = 32; value = code })

abbrev pub IsFileName : List ℕ → Type 0
IsFileName name = IsIdentifier name × (is_reserved name ≡ false)

abbrev pub IsSmallRange : Option PortRange → Type 0
IsSmallRange None = Unit {0}
IsSmallRange (Some r) = (r.left < 10 ^ 9) × (r.right < 10 ^ 9)

pub record IsDeclared (p : DevPort) : Type 0 where
  pub name : IsFileName p.name
  pub range : IsSmallRange p.range

pub record GoodDevice (d : Device) : Type 0 where
  pub entity : IsFileName d.entity
  pub «package» : IsFileName d.«package»
  pub declared : AllByRecursion IsDeclared d.ports
  pub ports : AllByRecursion IsPort d.ports
  pub some_port : is_filled d.ports ≡ true
  pub pins : list_all (λ (e : PinEntry). has_pins e.pins) (map entry_of d.ports) ≡ true
  pub tdi : IsFileName (rebuilt_file d).tap.tdi
  pub tms : IsFileName (rebuilt_file d).tap.tms
  pub tdo : IsFileName (rebuilt_file d).tap.tdo
  pub trst : IsFileName (rebuilt_file d).tap.trst
  pub tck : IsFileName (rebuilt_file d).tap.tck
  pub clock : IsReal d.clock
  pub length : d.length < 10 ^ 9
  pub opcodes : AllByRecursion (λ (o : Opcode). GoodBits o.bits) d.opcodes
  pub all : HasAll d.opcodes
  pub capture : GoodBits d.capture
  pub idcode : IsCode d.idcode
  pub usercode : IsCode d.usercode
  pub count : (rebuilt_file d).boundary_length.value < 10 ^ 9
  pub rows : AllByRecursion IsRow (row_entries d.ports 0 d.cells)
  pub some_row : is_filled (row_entries d.ports 0 d.cells) ≡ true

-- Entries.

pub pin_entries_are : (ports : List DevPort) → AllByRecursion IsPort ports → AllByRecursion (λ (e : PinEntry). Entry (pin_entry_atoms e) (pin_entry_words e)) (map entry_of ports)
pin_entries_are [] all = tt
pin_entries_are (p ∷ ps) all = (pin_entry_is p all.0, pin_entries_are ps all.1)

pub opcodes_are : (opcodes : List Opcode) → AllByRecursion (λ (o : Opcode). GoodBits o.bits) opcodes → AllByRecursion (λ (o : OpcodeEntry). Entry (opcode_atoms o) (opcode_words o)) (map opcode_entry opcodes)
opcodes_are [] all = tt
opcodes_are (o ∷ os) all = (opcode_is o all.0, opcodes_are os all.1)

pub access_are : (opcodes : List Opcode) → AllByRecursion (λ (a : AccessEntry). Entry (access_atoms a) (access_words a)) (access_entries opcodes)
access_are opcodes = (
  access_is register.Boundary (filter (has_opcode opcodes) (instr.Extest ∷ instr.Sample ∷ instr.Preload ∷ [])),
  (access_is register.Bypass (filter (has_opcode opcodes) (instr.Bypass ∷ instr.Highz ∷ instr.Clamp ∷ [])), by (has_opcode opcodes instr.Idcode) (has_opcode opcodes instr.Usercode)),
)
  where
    by : (b u : Bool) → AllByRecursion (λ (a : AccessEntry). Entry (access_atoms a) (access_words a)) (device_id_entries b u)
    by true u = (access_is register.DeviceId (ident_list u), tt)
    by false u = tt

pub rows_are : (rows : List RowEntry) → AllByRecursion IsRow rows → AllByRecursion (λ (r : RowEntry). Entry (row_atoms r) (row_words r)) rows
rows_are [] all = tt
rows_are (r ∷ rs) all = (row_entry_is r all.0, rows_are rs all.1)

-- Patterns and codes.

hold_bits : (bits : Bits) → GoodBits bits → Hold (pattern_text bits ∷ []) (runs.BitsRun bits ∷ [])
hold_bits bits good = entry_read (Pattern bits ∷ []) (runs.BitsRun bits ∷ []) (record { all = (good, tt); apart = refl; patterns = refl })

bits_split : (a b value : ℕ) → bits_text (a + b) value ≡ bits_text a (value / 2 ^ b) ++ bits_text b value
unfolding bits_text
bits_split a zero value =
    let none : a + zero ≡ a = omega arith in
    let whole : value ≡ value / 2 ^ 0 = omega arith in
    ap (λ (n : ℕ). bits_text n value) none ∙ ap (λ (n : ℕ). bits_text a n) whole ∙ sym (append-nil (bits_text a (value / 2 ^ 0)))
bits_split a (suc b) value =
    let one_more : a + suc b ≡ suc (a + b) = omega arith in
    ap (λ (n : ℕ). bits_text n value) one_more
    ∙ ap (λ (t : List ℕ). t ++ (48 + value % 2) ∷ []) (bits_split a b (value / 2))
    ∙ append_assoc (bits_text a (value / 2 / 2 ^ b)) (bits_text b (value / 2)) ((48 + value % 2) ∷ [])
    ∙ ap (λ (n : ℕ). bits_text a n ++ (bits_text b (value / 2) ++ (48 + value % 2) ∷ [])) (div-div-eq-div-mul value 2 (2 ^ b) ∙ ap (λ (n : ℕ). value / n) (sym (pow-succ' 2 b)))

code_joined : (code : ℕ) → joined (code_strings code) ≡ bits_text 32 code ++ []
code_joined code = sym (
    ap (λ (t : List ℕ). t ++ []) (bits_split 4 28 code ∙ ap (λ (t : List ℕ). bits_text 4 (code / 2 ^ 28) ++ t) (bits_split 16 12 code ∙ ap (λ (t : List ℕ). bits_text 16 (code / 2 ^ 12) ++ t) (bits_split 11 1 code)))
    ∙ four (bits_text 4 (code / 2 ^ 28)) (bits_text 16 (code / 2 ^ 12)) (bits_text 11 (code / 2 ^ 1)) (bits_text 1 code))
  where
    four : (a b c d : List ℕ) → (a ++ (b ++ (c ++ d))) ++ [] ≡ a ++ (b ++ (c ++ (d ++ [])))
    four a b c d = simp append_assoc

hold_code : (entity : List ℕ) (code : Option ℕ) → IsCode code → HoldIdcode (option_map (λ (n : ℕ). of_entity entity (code_strings n)) code) code
hold_code entity None good = tt
hold_code entity (Some code) good = subst (λ (t : List ℕ). runs.Matches (runs.BitsRun (record { len = 32; value = code }) ∷ []) (content_words t)) (sym (code_joined code)) (hold_bits (record { len = 32; value = code }) good)

hold_user : (entity : List ℕ) (code : Option ℕ) → IsCode code → HoldIdcode (option_map (λ (n : ℕ). of_entity entity (user_strings n)) code) code
hold_user entity None good = tt
hold_user entity (Some code) good = hold_bits (record { len = 32; value = code }) good

bits_quotable : (len value : ℕ) → list_all is_quotable (bits_text len value) ≡ true
unfolding bits_text
bits_quotable zero value = refl
bits_quotable (suc len) value = list_all-append is_quotable (bits_text len (value / 2)) ((48 + value % 2) ∷ []) ∙ ap (λ (b : Bool). b && (is_quotable (48 + value % 2) && true)) (bits_quotable len (value / 2)) ∙ ap (λ (b : Bool). b && true) (one (value % 2) (omega arith))
  where
    one : (n : ℕ) → n < 2 → is_quotable (48 + n) ≡ true
    one n low = grind arith

pub code_are_strings : (code : ℕ) → AreStrings (code_strings code)
code_are_strings code = (bits_quotable 4 (code / 2 ^ 28), (bits_quotable 16 (code / 2 ^ 12), (bits_quotable 11 (code / 2), (bits_quotable 1 code, tt))))

pub user_are_strings : (code : ℕ) → AreStrings (user_strings code)
user_are_strings code = (bits_quotable 32 code, tt)

pub bits_are_strings : (bits : Bits) → AreStrings (pattern_text bits ∷ [])
bits_are_strings bits = (bits_quotable bits.len bits.value, tt)

-- The contents.

pub filled_map : {A B : Type 0} (g : A → B) (xs : List A) → is_filled xs ≡ true → is_filled (map g xs) ≡ true
filled_map g [] h = absurd (cc)
filled_map g (x ∷ xs) h = refl

pub opcodes_filled : (opcodes : List Opcode) → HasAll opcodes → is_filled opcodes ≡ true
unfolding has_opcode
opcodes_filled [] all = let none : false ≡ true = all.extest in absurd (cc)
opcodes_filled (o ∷ os) all = refl

pub holds_again : (d : Device) → GoodDevice d → HasContents (rebuilt_file d) (rebuilt_contents d)
holds_again d g = record {
  pin_map = record { is = record { filled = filled_map entry_of d.ports g.some_port; pins = g.pins }; hold = hold_entries pin_entry_atoms pin_entry_words (map entry_of d.ports) (pin_entries_are d.ports g.ports) };
  opcodes = record { filled = filled_map opcode_entry d.opcodes (opcodes_filled d.opcodes g.all); hold = hold_entries opcode_atoms opcode_words (map opcode_entry d.opcodes) (opcodes_are d.opcodes g.opcodes) };
  capture = hold_bits d.capture g.capture;
  idcode = hold_code d.entity d.idcode g.idcode;
  usercode = hold_user d.entity d.usercode g.usercode;
  access = record { is = is_access d.opcodes g.all; hold = hold_entries access_atoms access_words (access_entries d.opcodes) (access_are d.opcodes) };
  rows = record { filled = g.some_row; hold = hold_entries row_atoms row_words (row_entries d.ports 0 d.cells) (rows_are (row_entries d.ports 0 d.cells) g.rows) };
}
