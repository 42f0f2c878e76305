-- The words of the canonical text are those of the canonical file.
use Rattle.std.proofs.Common.{◌≡◌, ℕ, List, [], ◌∷◌, ◌++◌, Bool, true, false, Option, Some, None, map, refl, sym, ap, subst, ◌∙◌, append_assoc, append-nil, ◌<◌, arith, le-leb, leb-false}
use Rattle.std.specs.Prelude.{◌&&◌, nat_le, codes, if◌then◌else◌}
use Rattle.std.specs.List.{list_all}
use Rattle.std.specs.Option.{option_map, option_map_or}
use Rattle.bsdl_lexicon.specs.declared.symbol.BsdlSymbol.TheVariants.{RightParenthesis, Semicolon, Ampersand}
use Rattle.bsdl_lexicon.specs.Words.{plain}
use Rattle.bsdl_lexicon.specs.Pieces.{words_from}
use Rattle.bsdl_device.specs.declared.values.PortRange.{PortRange}
use Rattle.bsdl_device.specs.declared.values.DevPort.{DevPort}
use Rattle.bsdl_device.specs.declared.values.Device.{Device}
use Rattle.bsdl_device.specs.declared.written.Direction.TheVariants as direction
use Rattle.bsdl_device.specs.declared.written.StringAttribute.{StringAttribute}
use Rattle.bsdl_device.specs.declared.written.File.{File}
use Rattle.bsdl_device.specs.Patterns as matching
use Rattle.bsdl_device.specs.Patterns.{is_filled}
use Rattle.bsdl_device.specs.Shape as shape
use Rattle.bsdl_device.specs.Shape.{Pattern, StringOf, Mark, declaration_words, strings_words, joined, sections, file_words, IsFile, is_declaration}
use Rattle.bsdl_device.specs.Spelled.{SpellsFile}
use Rattle.bsdl_device.proofs.FileAtoms.{FileAtom, file_patterns, patterns_of, pieces_of, atoms_match}
use Rattle.bsdl_device.proofs.RoundTripHeld.{GoodDevice, AreStrings, opcodes_filled, filled_map}
use Rattle.bsdl_device.proofs.EntryAtoms.{comma_strings, pin_entry_bytes, opcode_bytes, access_bytes, row_bytes}
use Rattle.bsdl_device.proofs.Rebuilt.{declaration_of, of_entity, code_strings, user_strings, opcode_strings, access_strings, rebuilt_by, rebuilt_file, entry_of, opcode_entry, access_entries, row_entries, written_range}
use Rattle.bsdl_device.proofs.FileTexts.{all_joined, sections_are_by, opcode_strings_are, access_strings_are, section_atoms_by, section_atoms, strings_atoms, line_end, margin, listed_atoms, port_atoms, port_end, port_close, ports_atoms, port_open, constant_open, idcode_atoms, usercode_atoms, ident_atoms}

patterns_of-append : (xs ys : List FileAtom) → patterns_of (xs ++ ys) ≡ patterns_of xs ++ patterns_of ys
patterns_of-append [] ys = refl
patterns_of-append (a ∷ xs) ys = ap (λ (t : List Pattern). file_patterns a ++ t) (patterns_of-append xs ys) ∙ sym (append_assoc (file_patterns a) (patterns_of xs) (patterns_of ys))

patterns_of-joined : (list : List (List FileAtom)) → patterns_of (joined list) ≡ joined (map patterns_of list)
patterns_of-joined [] = refl
patterns_of-joined (atoms ∷ more) = patterns_of-append atoms (joined more) ∙ ap (λ (t : List Pattern). patterns_of atoms ++ t) (patterns_of-joined more)

-- Strings.

strings_patterns : (strings : List (List ℕ)) → patterns_of (strings_atoms strings ++ line_end) ≡ strings_words strings ++ Mark Semicolon ∷ []
strings_patterns [] = refl
strings_patterns (s ∷ []) = refl
strings_patterns (s ∷ t ∷ more) = ap (λ (l : List Pattern). StringOf s ∷ Mark Ampersand ∷ l) (strings_patterns (t ∷ more))

listed_patterns : (kind : List ℕ) (a : StringAttribute) → patterns_of (listed_atoms kind a.entity a.strings) ≡ shape.string_attribute_words kind a
listed_patterns kind a = ap (λ (l : List Pattern). shape.attribute_words kind a.entity ++ l) (strings_patterns a.strings) ∙ sym (append_assoc (shape.attribute_words kind a.entity) (strings_words a.strings) (Mark Semicolon ∷ []))

-- Ports.

port_patterns : (p : DevPort) (more : List FileAtom) → patterns_of (port_atoms p ++ more) ≡ declaration_words (declaration_of p) ++ patterns_of more
port_patterns p more = by p.range
  where
    by : (range : Option PortRange) → patterns_of (port_atoms (record { name = p.name; mode = p.mode; range = range; pins = p.pins }) ++ more) ≡ declaration_words (declaration_of (record { name = p.name; mode = p.mode; range = range; pins = p.pins })) ++ patterns_of more
    by None = refl
    by (Some r) = refl

ports_patterns : (ports : List DevPort) → patterns_of (ports_atoms ports) ≡ matching.separated_by (Mark Semicolon) declaration_words (map declaration_of ports) ++ Mark RightParenthesis ∷ Mark Semicolon ∷ []
ports_patterns [] = refl
ports_patterns (p ∷ []) = port_patterns p port_close ∙ sym (ap (λ (l : List Pattern). l ++ Mark RightParenthesis ∷ Mark Semicolon ∷ []) (append-nil (declaration_words (declaration_of p))))
ports_patterns (p ∷ q ∷ ps) =
    ap patterns_of (append_assoc (port_atoms p) port_end (ports_atoms (q ∷ ps)))
    ∙ port_patterns p (port_end ++ ports_atoms (q ∷ ps))
    ∙ ap (λ (l : List Pattern). declaration_words (declaration_of p) ++ (Mark Semicolon ∷ l)) (ports_patterns (q ∷ ps))
    ∙ sym (append_assoc (declaration_words (declaration_of p)) (Mark Semicolon ∷ matching.separated_by (Mark Semicolon) declaration_words (map declaration_of (q ∷ ps))) (Mark RightParenthesis ∷ Mark Semicolon ∷ []))

-- Sections.

code_patterns : (entity : List ℕ) (code : Option ℕ) → patterns_of (idcode_atoms entity code) ≡ option_map_or (shape.string_attribute_words (codes "IDCODE_REGISTER")) (option_map (λ (n : ℕ). of_entity entity (code_strings n)) code) []
code_patterns entity None = refl
code_patterns entity (Some code) = refl

user_patterns : (entity : List ℕ) (code : Option ℕ) → patterns_of (usercode_atoms entity code) ≡ option_map_or (shape.string_attribute_words (codes "USERCODE_REGISTER")) (option_map (λ (n : ℕ). of_entity entity (user_strings n)) code) []
user_patterns entity None = refl
user_patterns entity (Some code) = refl

ident_patterns : (d : Device) (opcodes access : List (List ℕ)) → patterns_of (ident_atoms d.entity d.idcode d.usercode) ≡ shape.idcode_section (rebuilt_by d opcodes access)
ident_patterns d opcodes access =
    patterns_of-append (idcode_atoms d.entity d.idcode) (usercode_atoms d.entity d.usercode)
    ∙ ap (λ (l : List Pattern). l ++ patterns_of (usercode_atoms d.entity d.usercode)) (code_patterns d.entity d.idcode)
    ∙ ap (λ (l : List Pattern). shape.code_words (rebuilt_by d opcodes access) ++ l) (user_patterns d.entity d.usercode)

constant_patterns : (f : File) → patterns_of (constant_open f.«package» ++ (margin ++ (strings_atoms f.pin_map ++ line_end))) ≡ shape.constant_section f
constant_patterns f = ap (λ (l : List Pattern). shape.constant_words f ++ l) (strings_patterns f.pin_map) ∙ sym (append_assoc (shape.constant_words f) (strings_words f.pin_map) (Mark Semicolon ∷ []))

abbrev Same : List (List Pattern) → List (List Pattern) → Type 0
Same [] [] = Unit {0}
Same [] (y ∷ ys) = ⊥
Same (x ∷ xs) [] = ⊥
Same (x ∷ xs) (y ∷ ys) = (x ≡ y) × Same xs ys

joined_same : (xs ys : List (List Pattern)) → Same xs ys → joined xs ≡ joined ys
joined_same [] [] s = refl
joined_same [] (y ∷ ys) s = absurd s
joined_same (x ∷ xs) [] s = absurd s
joined_same (x ∷ xs) (y ∷ ys) s = ap (λ (l : List Pattern). l ++ joined xs) s.0 ∙ ap (λ (l : List Pattern). y ++ l) (joined_same xs ys s.1)

sections_same : (d : Device) (opcodes access : List (List ℕ)) → Same (map patterns_of (section_atoms_by d opcodes access)) (sections (rebuilt_by d opcodes access))
sections_same d opcodes access = (
  refl,
  (
    refl,
    (
      ap (λ (l : List Pattern). patterns_of port_open ++ l) (ports_patterns d.ports),
      (
        refl,
        (
          refl,
          (
            refl,
            (
              constant_patterns (rebuilt_by d opcodes access),
              (
                refl,
                (
                  refl,
                  (
                    refl,
                    (
                      listed_patterns (codes "INSTRUCTION_OPCODE") (rebuilt_by d opcodes access).opcodes,
                      (
                        refl,
                        (
                          ident_patterns d opcodes access,
                          (listed_patterns (codes "REGISTER_ACCESS") (rebuilt_by d opcodes access).access, (refl, (listed_patterns (codes "BOUNDARY_REGISTER") (rebuilt_by d opcodes access).boundary, (refl, tt)))),
                        ),
                      ),
                    ),
                  ),
                ),
              ),
            ),
          ),
        ),
      ),
    ),
  ),
)

pub patterns_are : (d : Device) (opcodes access : List (List ℕ)) → patterns_of (joined (section_atoms_by d opcodes access)) ≡ file_words (rebuilt_by d opcodes access)
patterns_are d opcodes access =
    patterns_of-joined (section_atoms_by d opcodes access) ∙ joined_same (map patterns_of (section_atoms_by d opcodes access)) (sections (rebuilt_by d opcodes access)) (sections_same d opcodes access)

-- The file.

pub strings_filled : {A : Type 0} (text : A → List ℕ) (xs : List A) → is_filled xs ≡ true → is_filled (comma_strings text xs) ≡ true
strings_filled text [] h = absurd (cc)
strings_filled text (x ∷ []) h = refl
strings_filled text (x ∷ y ∷ xs) h = refl

declared_filled : (ports : List DevPort) → is_filled ports ≡ true → is_filled (map declaration_of ports) ≡ true
declared_filled [] h = absurd (cc)
declared_filled (p ∷ ps) h = refl

range_ordered : (r : PortRange) → shape.is_ordered (written_range r) ≡ true
range_ordered r = by (nat_le r.left r.right) refl
  where
    by : (b : Bool) → nat_le r.left r.right ≡ b → shape.is_ordered (record { left = r.left; direction = (if b then direction.To else direction.Downto); right = r.right }) ≡ true
    by true is = is
    by false is = le-leb r.right r.left (let above : r.right < r.left = leb-false r.left r.right is in omega arith)

declared_all : (ports : List DevPort) → list_all is_declaration (map declaration_of ports) ≡ true
declared_all [] = refl
declared_all (p ∷ ps) = ap (λ (b : Bool). b && list_all is_declaration (map declaration_of ps)) (by p.range) ∙ declared_all ps
  where
    by : (range : Option PortRange) → option_map_or shape.is_ordered (option_map written_range range) true ≡ true
    by None = refl
    by (Some r) = range_ordered r

code_filled : (entity : List ℕ) (code : Option ℕ) → option_map_or (λ (a : StringAttribute). is_filled a.strings) (option_map (λ (n : ℕ). of_entity entity (code_strings n)) code) true ≡ true
code_filled entity None = refl
code_filled entity (Some code) = refl

user_filled : (entity : List ℕ) (code : Option ℕ) → option_map_or (λ (a : StringAttribute). is_filled a.strings) (option_map (λ (n : ℕ). of_entity entity (user_strings n)) code) true ≡ true
user_filled entity None = refl
user_filled entity (Some code) = refl

pub is_file : (d : Device) (opcodes access : List (List ℕ)) → GoodDevice d → is_filled opcodes ≡ true → is_filled access ≡ true → IsFile (rebuilt_by d opcodes access)
is_file d opcodes access g some more = record {
  ports = declared_filled d.ports g.some_port;
  declarations = declared_all d.ports;
  pin_map = strings_filled pin_entry_bytes (map entry_of d.ports) (filled_map entry_of d.ports g.some_port);
  opcodes = some;
  capture = refl;
  idcode = code_filled d.entity d.idcode;
  usercode = user_filled d.entity d.usercode;
  access = more;
  boundary = strings_filled row_bytes (row_entries d.ports 0 d.cells) g.some_row;
}

-- The words of the atoms spell the file.
pub spells_file_by : (d : Device) (opcodes access : List (List ℕ)) → GoodDevice d → AreStrings opcodes → AreStrings access → is_filled opcodes ≡ true → is_filled access ≡ true
    → SpellsFile (plain (words_from 0 (pieces_of (joined (section_atoms_by d opcodes access))))) (rebuilt_by d opcodes access)
spells_file_by d opcodes access g os bs some more =
    let whole = all_joined (section_atoms_by d opcodes access) (sections_are_by d g opcodes access os bs) in record {
      is = is_file d opcodes access g some more;
      matches = subst (λ (ps : List Pattern). shape.Matches ps (plain (words_from 0 (pieces_of (joined (section_atoms_by d opcodes access)))))) (patterns_are d opcodes access) (atoms_match 0 (joined (section_atoms_by d opcodes access)) whole.all);
    }

pub spells_file : (d : Device) → GoodDevice d → SpellsFile (plain (words_from 0 (pieces_of (joined (section_atoms d))))) (rebuilt_file d)
spells_file d g =
    spells_file_by d (opcode_strings d) (access_strings d) g (opcode_strings_are d g) (access_strings_are d) (strings_filled opcode_bytes (map opcode_entry d.opcodes) (filled_map opcode_entry d.opcodes (opcodes_filled d.opcodes g.all)))
    (strings_filled access_bytes (access_entries d.opcodes) refl)
