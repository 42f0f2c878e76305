-- The canonical text as atoms, section by section.
use Rattle.std.proofs.Common.{◌≡◌, ℕ, ◌^◌, ◌<◌, List, [], ◌∷◌, ◌++◌, Bool, true, Option, Some, None, map, length, refl, sym, ap, ◌∙◌, append-nil}
use Rattle.std.specs.Prelude.{◌&&◌, codes}
use Rattle.std.specs.List.{list_all, AllByRecursion}
use Rattle.list_laws.proofs.Tests.{and_left, and_right}
use Rattle.list_laws.proofs.Lists.{all_append}
use Rattle.bsdl_lexicon.specs.declared.symbol.BsdlSymbol.TheVariants.{LeftParenthesis, RightParenthesis, Colon, Semicolon, Comma, Ampersand, Dot}
use Rattle.bsdl_lexicon.specs.Bytes.{is_quotable}
use Rattle.bsdl_device.specs.declared.values.PortMode.{PortMode}
use Rattle.bsdl_device.specs.declared.values.PortMode.TheVariants as mode
use Rattle.bsdl_device.specs.declared.values.PortRange.{PortRange}
use Rattle.bsdl_device.specs.declared.values.Stop.{Stop}
use Rattle.bsdl_device.specs.declared.values.Stop.TheVariants as stop
use Rattle.bsdl_device.specs.declared.values.DevPort.{DevPort}
use Rattle.bsdl_device.specs.declared.values.Device.{Device}
use Rattle.bsdl_device.specs.declared.written.Direction.{Direction}
use Rattle.bsdl_device.specs.declared.written.Direction.TheVariants as direction
use Rattle.bsdl_device.specs.Shape.{mode_word, direction_word, stop_word, joined}
use Rattle.bsdl_device.proofs.FileAtoms.{FileAtom, Blank, Key, Name, Integer, Real, String, Symbol, Becomes, IsFileAtom, is_space, Ending, Free, ending, goes, is_free, fitting}
use Rattle.bsdl_device.proofs.ContentAtoms.{Name as ContentName, atoms_quotable}
use Rattle.bsdl_device.proofs.EntryAtoms.{pin_entry_atoms, opcode_atoms, access_atoms, row_atoms}
use Rattle.bsdl_device.proofs.RoundTripIdentifiers.{name_test}
use Rattle.bsdl_device.specs.Grammar.{pin_entry_words, opcode_words, access_words, row_words}
use Rattle.bsdl_device.specs.Canonical.{pattern_text}
use Rattle.bsdl_device.specs.Runs.{is_identifier}
use Rattle.bsdl_device.proofs.RoundTripHeld.{IsFileName, IsSmallRange, IsDeclared, AreStrings, GoodDevice, entry_strings, code_are_strings, user_are_strings, bits_are_strings, pin_entries_are, opcodes_are, access_are, rows_are}
use Rattle.bsdl_device.proofs.Rebuilt.{direction_of, code_strings, user_strings, opcode_strings, access_strings, rebuilt_file, entry_of, opcode_entry, access_entries, row_entries}

-- Parts.

-- `  attribute kind of entity : entity is`, and a blank
abbrev pub attribute_atoms : List ℕ → List ℕ → ℕ → List FileAtom
attribute_atoms kind entity behind = Blank 32 ∷ Blank 32 ∷ Key (codes "attribute") ∷ Blank 32 ∷ Key kind ∷ Blank 32 ∷ Key (codes "of") ∷ Blank 32 ∷ Name entity ∷ Blank 32 ∷ Symbol Colon ∷ Blank 32 ∷ Key (codes "entity") ∷ Blank 32 ∷ Key (codes "is") ∷ Blank behind ∷ []

-- `  attribute kind of name : signal is `
abbrev pub signal_atoms : List ℕ → List ℕ → List FileAtom
signal_atoms kind name = Blank 32 ∷ Blank 32 ∷ Key (codes "attribute") ∷ Blank 32 ∷ Key kind ∷ Blank 32 ∷ Key (codes "of") ∷ Blank 32 ∷ Name name ∷ Blank 32 ∷ Symbol Colon ∷ Blank 32 ∷ Key (codes "signal") ∷ Blank 32 ∷ Key (codes "is") ∷ Blank 32 ∷ []

abbrev pub tap_atoms : List ℕ → List ℕ → List FileAtom
tap_atoms kind name = signal_atoms kind name ++ (Key (codes "true") ∷ Symbol Semicolon ∷ Blank 10 ∷ [])

-- strings, each on a line of its own
abbrev pub strings_atoms : List (List ℕ) → List FileAtom
strings_atoms [] = []
strings_atoms (s ∷ []) = String s ∷ []
strings_atoms (s ∷ t ∷ more) = String s ∷ Blank 32 ∷ Symbol Ampersand ∷ Blank 10 ∷ Blank 32 ∷ Blank 32 ∷ Blank 32 ∷ Blank 32 ∷ strings_atoms (t ∷ more)

abbrev pub margin : List FileAtom
margin = Blank 32 ∷ Blank 32 ∷ Blank 32 ∷ Blank 32 ∷ []

abbrev pub line_end : List FileAtom
line_end = Symbol Semicolon ∷ Blank 10 ∷ []

abbrev pub listed_atoms : List ℕ → List ℕ → List (List ℕ) → List FileAtom
listed_atoms kind entity strings = attribute_atoms kind entity 10 ++ (margin ++ (strings_atoms strings ++ line_end))

abbrev pub integer_atoms : List ℕ → List ℕ → ℕ → List FileAtom
integer_atoms kind entity value = attribute_atoms kind entity 32 ++ (Integer value ∷ line_end)

-- Ports.

abbrev pub type_atoms : Option PortRange → List FileAtom
type_atoms None = Key (codes "bit") ∷ []
type_atoms (Some r) = Key (codes "bit_vector") ∷ Symbol LeftParenthesis ∷ Integer r.left ∷ Blank 32 ∷ Key (direction_word (direction_of r)) ∷ Blank 32 ∷ Integer r.right ∷ Symbol RightParenthesis ∷ []

abbrev pub port_atoms : DevPort → List FileAtom
port_atoms p = Blank 32 ∷ Blank 32 ∷ Blank 32 ∷ Blank 32 ∷ Name p.name ∷ Blank 32 ∷ Symbol Colon ∷ Blank 32 ∷ Key (mode_word p.mode) ∷ Blank 32 ∷ type_atoms p.range

abbrev pub port_end : List FileAtom
port_end = Symbol Semicolon ∷ Blank 10 ∷ []

abbrev pub port_close : List FileAtom
port_close = Blank 10 ∷ Blank 32 ∷ Blank 32 ∷ Symbol RightParenthesis ∷ Symbol Semicolon ∷ Blank 10 ∷ []

-- the ports and what closes them
abbrev pub ports_atoms : List DevPort → List FileAtom
ports_atoms [] = port_close
ports_atoms (p ∷ []) = port_atoms p ++ port_close
ports_atoms (p ∷ q ∷ ps) = (port_atoms p ++ port_end) ++ ports_atoms (q ∷ ps)

-- Sections.

abbrev pub entity_atoms : List ℕ → List FileAtom
entity_atoms entity = Key (codes "entity") ∷ Blank 32 ∷ Name entity ∷ Blank 32 ∷ Key (codes "is") ∷ Blank 10 ∷ []

abbrev pub generic_atoms : List ℕ → List FileAtom
generic_atoms name = Blank 32 ∷ Blank 32 ∷ Key (codes "generic") ∷ Blank 32 ∷ Symbol LeftParenthesis ∷ Key (codes "PHYSICAL_PIN_MAP") ∷ Blank 32 ∷ Symbol Colon ∷ Blank 32 ∷ Key (codes "string") ∷ Blank 32 ∷ Becomes ∷ Blank 32 ∷ String name ∷ Symbol RightParenthesis ∷ Symbol Semicolon ∷ Blank 10 ∷ []

abbrev pub port_open : List FileAtom
port_open = Blank 32 ∷ Blank 32 ∷ Key (codes "port") ∷ Blank 32 ∷ Symbol LeftParenthesis ∷ Blank 10 ∷ []

abbrev pub use_atoms : List FileAtom
use_atoms = Blank 32 ∷ Blank 32 ∷ Key (codes "use") ∷ Blank 32 ∷ Key (codes "STD_1149_1_2001") ∷ Symbol Dot ∷ Key (codes "all") ∷ Symbol Semicolon ∷ Blank 10 ∷ []

abbrev pub conformance_atoms : List ℕ → List FileAtom
conformance_atoms entity = attribute_atoms (codes "COMPONENT_CONFORMANCE") entity 32 ++ (String (codes "STD_1149_1_2001") ∷ line_end)

abbrev pub pin_map_atoms : List ℕ → List FileAtom
pin_map_atoms entity = attribute_atoms (codes "PIN_MAP") entity 32 ++ (Key (codes "PHYSICAL_PIN_MAP") ∷ line_end)

abbrev pub constant_open : List ℕ → List FileAtom
constant_open name = Blank 32 ∷ Blank 32 ∷ Key (codes "constant") ∷ Blank 32 ∷ Name name ∷ Blank 32 ∷ Symbol Colon ∷ Blank 32 ∷ Key (codes "PIN_MAP_STRING") ∷ Blank 32 ∷ Becomes ∷ Blank 10 ∷ []

abbrev pub clock_atoms : List ℕ → List ℕ → Stop → List FileAtom
clock_atoms name clock at = signal_atoms (codes "TAP_SCAN_CLOCK") name ++ (Symbol LeftParenthesis ∷ Real clock ∷ Symbol Comma ∷ Blank 32 ∷ Key (stop_word at) ∷ Symbol RightParenthesis ∷ line_end)

abbrev pub capture_atoms : List ℕ → List ℕ → List FileAtom
capture_atoms entity bits = attribute_atoms (codes "INSTRUCTION_CAPTURE") entity 32 ++ (String bits ∷ line_end)

abbrev pub code_atoms : List (List ℕ) → List FileAtom
code_atoms [] = []
code_atoms (s ∷ []) = String s ∷ []
code_atoms (s ∷ t ∷ more) = String s ∷ Blank 32 ∷ Symbol Ampersand ∷ Blank 32 ∷ code_atoms (t ∷ more)

abbrev pub idcode_atoms : List ℕ → Option ℕ → List FileAtom
idcode_atoms entity None = []
idcode_atoms entity (Some code) = attribute_atoms (codes "IDCODE_REGISTER") entity 10 ++ (margin ++ (code_atoms (code_strings code) ++ line_end))

abbrev pub usercode_atoms : List ℕ → Option ℕ → List FileAtom
usercode_atoms entity None = []
usercode_atoms entity (Some code) = listed_atoms (codes "USERCODE_REGISTER") entity (user_strings code)

-- the identification register's attributes count as one section
abbrev pub ident_atoms : List ℕ → Option ℕ → Option ℕ → List FileAtom
ident_atoms entity code user = idcode_atoms entity code ++ usercode_atoms entity user

abbrev pub end_atoms : List ℕ → List FileAtom
end_atoms entity = Key (codes "end") ∷ Blank 32 ∷ Name entity ∷ line_end

-- with these strings of opcodes and of access
abbrev pub section_atoms_by : Device → List (List ℕ) → List (List ℕ) → List (List FileAtom)
section_atoms_by d opcodes access =
    entity_atoms d.entity ∷ generic_atoms d.«package» ∷ (port_open ++ ports_atoms d.ports) ∷ use_atoms ∷ conformance_atoms d.entity ∷ pin_map_atoms d.entity
    ∷ (constant_open d.«package» ++ (margin ++ (strings_atoms (rebuilt_file d).pin_map ++ line_end)))
    ∷ (tap_atoms (codes "TAP_SCAN_IN") (rebuilt_file d).tap.tdi ++ (tap_atoms (codes "TAP_SCAN_MODE") (rebuilt_file d).tap.tms ++ (tap_atoms (codes "TAP_SCAN_OUT") (rebuilt_file d).tap.tdo ++ tap_atoms (codes "TAP_SCAN_RESET") (rebuilt_file d).tap.trst)))
    ∷ clock_atoms (rebuilt_file d).tap.tck d.clock d.stop ∷ integer_atoms (codes "INSTRUCTION_LENGTH") d.entity d.length ∷ listed_atoms (codes "INSTRUCTION_OPCODE") d.entity opcodes
    ∷ capture_atoms d.entity (pattern_text d.capture) ∷ ident_atoms d.entity d.idcode d.usercode ∷ listed_atoms (codes "REGISTER_ACCESS") d.entity access
    ∷ integer_atoms (codes "BOUNDARY_LENGTH") d.entity (length d.cells) ∷ listed_atoms (codes "BOUNDARY_REGISTER") d.entity (rebuilt_file d).boundary.strings ∷ end_atoms d.entity ∷ []

abbrev pub section_atoms : Device → List (List FileAtom)
section_atoms d = section_atoms_by d (opcode_strings d) (access_strings d)

-- Atoms that follow each other, from a free place to a free place.

abbrev pub last_ending : Ending → List FileAtom → Ending
last_ending e [] = e
last_ending e (a ∷ atoms) = last_ending (ending a) atoms

pub record Section (atoms : List FileAtom) : Type 0 where
  pub all : AllByRecursion IsFileAtom atoms
  pub fits : fitting Free atoms ≡ true
  pub ends : last_ending Free atoms ≡ Free

fitting-append : (e : Ending) (xs ys : List FileAtom) → fitting e xs ≡ true → fitting (last_ending e xs) ys ≡ true → fitting e (xs ++ ys) ≡ true
fitting-append e [] ys a b = b
fitting-append e (x ∷ xs) ys a b = ap (λ (k : Bool). k && fitting (ending x) (xs ++ ys)) (and_left (goes e x) (fitting (ending x) xs) a) ∙ fitting-append (ending x) xs ys (and_right (goes e x) (fitting (ending x) xs) a) b

last-append : (e : Ending) (xs ys : List FileAtom) → last_ending e (xs ++ ys) ≡ last_ending (last_ending e xs) ys
last-append e [] ys = refl
last-append e (x ∷ xs) ys = last-append (ending x) xs ys

pub both : (xs ys : List FileAtom) → Section xs → Section ys → Section (xs ++ ys)
both xs ys a b = record {
  all = all_append IsFileAtom xs ys a.all b.all;
  fits = fitting-append Free xs ys a.fits (ap (λ (e : Ending). fitting e ys) a.ends ∙ b.fits);
  ends = last-append Free xs ys ∙ ap (λ (e : Ending). last_ending e ys) a.ends ∙ b.ends;
}

pub all_joined : (list : List (List FileAtom)) → AllByRecursion Section list → Section (joined list)
all_joined [] all = record { all = tt; fits = refl; ends = refl }
all_joined (atoms ∷ more) all = both atoms (joined more) all.0 (all_joined more all.1)

-- Parts are such.

attribute_is : (kind entity : List ℕ) (behind : ℕ) → is_identifier kind ≡ true → IsFileName entity → is_space behind ≡ true → Section (attribute_atoms kind entity behind)
attribute_is kind entity behind key name space = record { all = (refl, (refl, (refl, (refl, (key, (refl, (refl, (refl, (name, (refl, (tt, (refl, (refl, (refl, (refl, (space, tt)))))))))))))))); fits = refl; ends = refl }

signal_is : (kind name : List ℕ) → is_identifier kind ≡ true → IsFileName name → Section (signal_atoms kind name)
signal_is kind name key is = record { all = (refl, (refl, (refl, (refl, (key, (refl, (refl, (refl, (is, (refl, (tt, (refl, (refl, (refl, (refl, (refl, tt)))))))))))))))); fits = refl; ends = refl }

tap_is : (kind name : List ℕ) → is_identifier kind ≡ true → IsFileName name → Section (tap_atoms kind name)
tap_is kind name key is = both (signal_atoms kind name) (Key (codes "true") ∷ Symbol Semicolon ∷ Blank 10 ∷ []) (signal_is kind name key is) (record { all = (refl, (tt, (refl, tt))); fits = refl; ends = refl })

strings_fit : (e : Ending) (strings : List (List ℕ)) → is_free e ≡ true → fitting e (strings_atoms strings) ≡ true
strings_fit e [] h = refl
strings_fit e (s ∷ []) h = ap (λ (k : Bool). k && true) h
strings_fit e (s ∷ t ∷ more) h = ap (λ (k : Bool). k && fitting Free (strings_atoms (t ∷ more))) h ∙ strings_fit Free (t ∷ more) refl

strings_is : (strings : List (List ℕ)) → AreStrings strings → Section (strings_atoms strings)
strings_is strings are = record { all = each strings are; fits = strings_fit Free strings refl; ends = ended strings }
  where
    each : (list : List (List ℕ)) → AreStrings list → AllByRecursion IsFileAtom (strings_atoms list)
    each [] all = tt
    each (s ∷ []) all = (all.0, tt)
    each (s ∷ t ∷ more) all = (all.0, (refl, (tt, (refl, (refl, (refl, (refl, (refl, each (t ∷ more) all.1))))))))

    ended : (list : List (List ℕ)) → last_ending Free (strings_atoms list) ≡ Free
    ended [] = refl
    ended (s ∷ []) = refl
    ended (s ∷ t ∷ more) = ended (t ∷ more)

line_end_is : Section line_end
line_end_is = record { all = (tt, (refl, tt)); fits = refl; ends = refl }

margin_is : Section margin
margin_is = record { all = (refl, (refl, (refl, (refl, tt)))); fits = refl; ends = refl }

strings_end : (strings : List (List ℕ)) → AreStrings strings → Section (margin ++ (strings_atoms strings ++ line_end))
strings_end strings are = both margin (strings_atoms strings ++ line_end) margin_is (both (strings_atoms strings) line_end (strings_is strings are) line_end_is)

listed_is : (kind entity : List ℕ) (strings : List (List ℕ)) → is_identifier kind ≡ true → IsFileName entity → AreStrings strings → Section (listed_atoms kind entity strings)
listed_is kind entity strings key name are = both (attribute_atoms kind entity 10) (margin ++ (strings_atoms strings ++ line_end)) (attribute_is kind entity 10 key name refl) (strings_end strings are)

integer_is : (kind entity : List ℕ) (value : ℕ) → is_identifier kind ≡ true → IsFileName entity → value < 10 ^ 9 → Section (integer_atoms kind entity value)
integer_is kind entity value key name small = both (attribute_atoms kind entity 32) (Integer value ∷ line_end) (attribute_is kind entity 32 key name refl) (record { all = (small, (tt, (refl, tt))); fits = refl; ends = refl })

mode_key : (m : PortMode) → is_identifier (mode_word m) ≡ true
mode_key mode.Input = refl
mode_key mode.Output = refl
mode_key mode.Inout = refl
mode_key mode.Linkage = refl

direction_key : (d : Direction) → is_identifier (direction_word d) ≡ true
direction_key direction.To = refl
direction_key direction.Downto = refl

stop_key : (s : Stop) → is_identifier (stop_word s) ≡ true
stop_key stop.Low = refl
stop_key stop.Both = refl

type_all : (range : Option PortRange) → IsSmallRange range → AllByRecursion IsFileAtom (type_atoms range)
type_all None small = (refl, tt)
type_all (Some r) small = (refl, (tt, (small.0, (refl, (direction_key (direction_of r), (refl, (small.1, (tt, tt))))))))

port_all : (p : DevPort) → IsDeclared p → AllByRecursion IsFileAtom (port_atoms p)
port_all p is = (refl, (refl, (refl, (refl, (is.name, (refl, (tt, (refl, (mode_key p.mode, (refl, type_all p.range is.range))))))))))

port_fits : (p : DevPort) → (fitting Free (port_atoms p ++ port_end) ≡ true) × (last_ending Free (port_atoms p ++ port_end) ≡ Free)
port_fits p = by p.range
  where
    by : (range : Option PortRange) → (fitting Free (port_atoms (record { name = p.name; mode = p.mode; range = range; pins = p.pins }) ++ port_end) ≡ true) × (last_ending Free (port_atoms (record { name = p.name; mode = p.mode; range = range; pins = p.pins }) ++ port_end) ≡ Free)
    by None = (refl, refl)
    by (Some r) = (refl, refl)

last_fits : (p : DevPort) → (fitting Free (port_atoms p ++ port_close) ≡ true) × (last_ending Free (port_atoms p ++ port_close) ≡ Free)
last_fits p = by p.range
  where
    by : (range : Option PortRange) → (fitting Free (port_atoms (record { name = p.name; mode = p.mode; range = range; pins = p.pins }) ++ port_close) ≡ true) × (last_ending Free (port_atoms (record { name = p.name; mode = p.mode; range = range; pins = p.pins }) ++ port_close) ≡ Free)
    by None = (refl, refl)
    by (Some r) = (refl, refl)

ports_are : (ports : List DevPort) → AllByRecursion IsDeclared ports → Section (ports_atoms ports)
ports_are [] all = record { all = (refl, (refl, (refl, (tt, (tt, (refl, tt)))))); fits = refl; ends = refl }
ports_are (p ∷ []) all = record { all = all_append IsFileAtom (port_atoms p) port_close (port_all p all.0) (refl, (refl, (refl, (tt, (tt, (refl, tt)))))); fits = (last_fits p).0; ends = (last_fits p).1 }
ports_are (p ∷ q ∷ ps) all = both (port_atoms p ++ port_end) (ports_atoms (q ∷ ps))
    (record { all = all_append IsFileAtom (port_atoms p) port_end (port_all p all.0) (tt, (refl, tt)); fits = (port_fits p).0; ends = (port_fits p).1 })
    (ports_are (q ∷ ps) all.1)

code_is : (entity : List ℕ) (code : Option ℕ) → IsFileName entity → Section (idcode_atoms entity code)
code_is entity None name = record { all = tt; fits = refl; ends = refl }
code_is entity (Some code) name =
    let are = code_are_strings code in
    both (attribute_atoms (codes "IDCODE_REGISTER") entity 10) (margin ++ (code_atoms (code_strings code) ++ line_end)) (attribute_is (codes "IDCODE_REGISTER") entity 10 refl name refl)
    (both margin (code_atoms (code_strings code) ++ line_end) margin_is
    (record { all = (are.0, (refl, (tt, (refl, (are.1.0, (refl, (tt, (refl, (are.1.1.0, (refl, (tt, (refl, (are.1.1.1.0, (tt, (refl, tt))))))))))))))); fits = refl; ends = refl }))

user_is : (entity : List ℕ) (code : Option ℕ) → IsFileName entity → Section (usercode_atoms entity code)
user_is entity None name = record { all = tt; fits = refl; ends = refl }
user_is entity (Some code) name = listed_is (codes "USERCODE_REGISTER") entity (user_strings code) refl name (user_are_strings code)

-- The whole text.

name_string : (name : List ℕ) → IsFileName name → list_all is_quotable name ≡ true
name_string name is = ap (list_all is_quotable) (sym (append-nil name)) ∙ atoms_quotable (ContentName name ∷ []) (name_test name is, tt)

pub sections_are_by : (d : Device) → GoodDevice d → (opcodes access : List (List ℕ)) → AreStrings opcodes → AreStrings access → AllByRecursion Section (section_atoms_by d opcodes access)
sections_are_by d g opcodes access os bs = (
  record { all = (refl, (refl, (g.entity, (refl, (refl, (refl, tt)))))); fits = refl; ends = refl },
  (
    record { all = (refl, (refl, (refl, (refl, (tt, (refl, (refl, (tt, (refl, (refl, (refl, (tt, (refl, (name_string d.«package» g.«package», (tt, (tt, (refl, tt))))))))))))))))); fits = refl; ends = refl },
    (
      both port_open (ports_atoms d.ports) (record { all = (refl, (refl, (refl, (refl, (tt, (refl, tt)))))); fits = refl; ends = refl }) (ports_are d.ports g.declared),
      (
        record { all = (refl, (refl, (refl, (refl, (refl, (tt, (refl, (tt, (refl, tt))))))))); fits = refl; ends = refl },
        (
          both (attribute_atoms (codes "COMPONENT_CONFORMANCE") d.entity 32) (String (codes "STD_1149_1_2001") ∷ line_end) (attribute_is (codes "COMPONENT_CONFORMANCE") d.entity 32 refl g.entity refl) (record { all = (refl, (tt, (refl, tt))); fits = refl; ends = refl }),
          (
            both (attribute_atoms (codes "PIN_MAP") d.entity 32) (Key (codes "PHYSICAL_PIN_MAP") ∷ line_end) (attribute_is (codes "PIN_MAP") d.entity 32 refl g.entity refl) (record { all = (refl, (tt, (refl, tt))); fits = refl; ends = refl }),
            (
              both (constant_open d.«package») (margin ++ (strings_atoms (rebuilt_file d).pin_map ++ line_end)) (record { all = (refl, (refl, (refl, (refl, (g.«package», (refl, (tt, (refl, (refl, (refl, (tt, (refl, tt)))))))))))); fits = refl; ends = refl }) (strings_end (rebuilt_file d).pin_map (entry_strings pin_entry_atoms pin_entry_words (map entry_of d.ports) (pin_entries_are d.ports g.ports))),
              (
                both (tap_atoms (codes "TAP_SCAN_IN") (rebuilt_file d).tap.tdi) _ (tap_is (codes "TAP_SCAN_IN") (rebuilt_file d).tap.tdi refl g.tdi)
                    (both (tap_atoms (codes "TAP_SCAN_MODE") (rebuilt_file d).tap.tms) _ (tap_is (codes "TAP_SCAN_MODE") (rebuilt_file d).tap.tms refl g.tms)
                    (both (tap_atoms (codes "TAP_SCAN_OUT") (rebuilt_file d).tap.tdo) (tap_atoms (codes "TAP_SCAN_RESET") (rebuilt_file d).tap.trst) (tap_is (codes "TAP_SCAN_OUT") (rebuilt_file d).tap.tdo refl g.tdo) (tap_is (codes "TAP_SCAN_RESET") (rebuilt_file d).tap.trst refl g.trst))),
                (
                  both (signal_atoms (codes "TAP_SCAN_CLOCK") (rebuilt_file d).tap.tck) _ (signal_is (codes "TAP_SCAN_CLOCK") (rebuilt_file d).tap.tck refl g.tck) (record { all = (tt, (g.clock, (tt, (refl, (stop_key d.stop, (tt, (tt, (refl, tt)))))))); fits = refl; ends = refl }),
                  (
                    integer_is (codes "INSTRUCTION_LENGTH") d.entity d.length refl g.entity g.length,
                    (
                      listed_is (codes "INSTRUCTION_OPCODE") d.entity opcodes refl g.entity os,
                      (
                        both (attribute_atoms (codes "INSTRUCTION_CAPTURE") d.entity 32) (String (pattern_text d.capture) ∷ line_end) (attribute_is (codes "INSTRUCTION_CAPTURE") d.entity 32 refl g.entity refl) (record { all = ((bits_are_strings d.capture).0, (tt, (refl, tt))); fits = refl; ends = refl }),
                        (
                          both (idcode_atoms d.entity d.idcode) (usercode_atoms d.entity d.usercode) (code_is d.entity d.idcode g.entity) (user_is d.entity d.usercode g.entity),
                          (
                            listed_is (codes "REGISTER_ACCESS") d.entity access refl g.entity bs,
                            (
                              integer_is (codes "BOUNDARY_LENGTH") d.entity (length d.cells) refl g.entity g.count,
                              (
                                listed_is (codes "BOUNDARY_REGISTER") d.entity (rebuilt_file d).boundary.strings refl g.entity (entry_strings row_atoms row_words (row_entries d.ports 0 d.cells) (rows_are (row_entries d.ports 0 d.cells) g.rows)),
                                (record { all = (refl, (refl, (g.entity, (tt, (refl, tt))))); fits = refl; ends = refl }, tt),
                              ),
                            ),
                          ),
                        ),
                      ),
                    ),
                  ),
                ),
              ),
            ),
          ),
        ),
      ),
    ),
  ),
)

pub opcode_strings_are : (d : Device) → GoodDevice d → AreStrings (opcode_strings d)
opcode_strings_are d g = entry_strings opcode_atoms opcode_words (map opcode_entry d.opcodes) (opcodes_are d.opcodes g.opcodes)

pub access_strings_are : (d : Device) → AreStrings (access_strings d)
access_strings_are d = entry_strings access_atoms access_words (access_entries d.opcodes) (access_are d.opcodes)

pub sections_are : (d : Device) → GoodDevice d → AllByRecursion Section (section_atoms d)
sections_are d g = sections_are_by d g (opcode_strings d) (access_strings d) (opcode_strings_are d g) (access_strings_are d)
