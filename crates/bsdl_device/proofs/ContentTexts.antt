-- Entries of the canonical text: their atoms, bytes and patterns.
use Rattle.std.proofs.Common.{◌≡◌, ℕ, ◌<◌, List, [], ◌∷◌, ◌++◌, Bool, true, false, Option, Some, None, map, refl, sym, ap, ◌∙◌, append_assoc}
use Rattle.std.specs.Prelude.{◌^◌, ◌&&◌, not, codes}
use Rattle.std.specs.List.{AllByRecursion}
use Rattle.std.specs.Option.{option_map, option_map_or}
use Rattle.std.specs.Fmt.{decimal}
use Rattle.std.proofs.Math.Bool.{and-false}
use Rattle.list_laws.proofs.Lists.{all_append}
use Rattle.cell_library.specs.declared.codes.BoundaryKind.{BoundaryKind}
use Rattle.cell_library.specs.declared.codes.BoundaryKind.TheVariants as cell
use Rattle.cell_library.specs.declared.codes.Function.{Function}
use Rattle.cell_library.specs.declared.codes.Function.TheVariants as function
use Rattle.cell_library.specs.declared.codes.Instr.{Instr}
use Rattle.cell_library.specs.declared.codes.Instr.TheVariants as instr
use Rattle.cell_library.specs.declared.codes.Opcode.{Opcode}
use Rattle.bsdl_device.specs.declared.values.PortRange.{PortRange}
use Rattle.bsdl_device.specs.declared.values.Safe.{Safe}
use Rattle.bsdl_device.specs.declared.values.Safe.TheVariants as safe
use Rattle.bsdl_device.specs.declared.values.DevPort.{DevPort}
use Rattle.bsdl_device.specs.declared.values.DevBit.{DevBit}
use Rattle.bsdl_device.specs.declared.values.Disable.{Disable}
use Rattle.bsdl_device.specs.declared.values.CellRow.{CellRow}
use Rattle.bsdl_device.specs.declared.entries.PortBit.{PortBit}
use Rattle.bsdl_device.specs.declared.entries.RowEntry.{RowEntry}
use Rattle.bsdl_device.specs.declared.entries.Register.{Register}
use Rattle.bsdl_device.specs.declared.entries.Register.TheVariants as register
use Rattle.bsdl_device.specs.Patterns.{separated_by}
use Rattle.bsdl_device.specs.Patterns as matching
use Rattle.bsdl_device.specs.Runs.{ContentPattern, KeyRun, IdentifierRun, NameRun, PinRun, MarkByte, comma, is_identifier}
use Rattle.bsdl_device.specs.Instructions.{instruction_word}
use Rattle.bsdl_device.specs.Grammar.{register_word, access_words, cell_word, function_word, safe_word, bit_word, pin_entry_words, opcode_words, row_words}
use Rattle.bsdl_device.specs.Canonical.{pieces, each_after, separated_text, pattern_text, pin_list_text, pins_text, pin_entry_text, opcode_text, port_name, index_text, pin_text, disable_text, row_text}
use Rattle.bsdl_device.proofs.Good.{GoodBits, GoodPin, is_name}
use Rattle.bsdl_device.proofs.ContentAtoms.{ContentAtom, Space, Key, Name, Integer, Mark, IsAtom, is_run, is_mark, last_long, spaced-append, bytes_of, patterns_of, bytes_of-append, patterns_of-append, spaced, Entry, after_commas, between_commas, entries}
use Rattle.bsdl_device.proofs.EntryAtoms.{index_atoms, port_atoms, disable_atoms, row_atoms, pin_atoms, pins_atoms, pin_entry_atoms, opcode_atoms, more_names, names_atoms, access_atoms}
use Rattle.bsdl_device.proofs.Rebuilt.{mapped, entry_of, opcode_entry, port_bit, row_entry}
use Rattle.bsdl_device.proofs.Pieces.{pieces_then}

-- Rows.

-- what a row of the canonical text has
abbrev pub IsRowPort : Option PortBit → Type 0
IsRowPort None = Unit {0}
IsRowPort (Some b) = (is_name b.port ≡ true) × (option_map_or (λ (i : ℕ). i) b.index 0 < 10 ^ 9)

pub record IsRow (r : RowEntry) : Type 0 where
  pub number : r.number < 10 ^ 9
  pub port : IsRowPort r.port
  pub control : option_map_or (λ (d : Disable). d.control) r.disable 0 < 10 ^ 9

is_cell : (k : BoundaryKind) → is_run (cell_word k) ≡ true
is_cell cell.Bc1 = refl
is_cell cell.Bc2 = refl
is_cell cell.Bc4 = refl
is_cell cell.Bc7 = refl

is_function : (k : Function) → is_run (function_word k) ≡ true
is_function function.Input = refl
is_function function.Output2 = refl
is_function function.Output3 = refl
is_function function.Control = refl
is_function function.Bidir = refl
is_function function.Clock = refl

is_safe : (s : Safe) → is_run (safe_word s) ≡ true
is_safe safe.Zero = refl
is_safe safe.One = refl
is_safe safe.Any = refl

is_bit : (b : Bool) → is_run (bit_word b) ≡ true
is_bit true = refl
is_bit false = refl

index_all : (index : Option ℕ) → option_map_or (λ (i : ℕ). i) index 0 < 10 ^ 9 → AllByRecursion IsAtom (index_atoms index)
index_all None low = tt
index_all (Some i) low = (refl, (low, (refl, tt)))

port_all : (port : Option PortBit) → IsRowPort port → AllByRecursion IsAtom (port_atoms port)
port_all None is = (refl, tt)
port_all (Some b) is = (is.0, index_all b.index is.1)

disable_all : (disable : Option Disable) → option_map_or (λ (d : Disable). d.control) disable 0 < 10 ^ 9 → AllByRecursion IsAtom (disable_atoms disable)
disable_all None low = tt
disable_all (Some d) low = (refl, (tt, (low, (refl, (tt, (is_bit d.value, (refl, (tt, (refl, tt)))))))))

row_spaced : (port : Option PortBit) (disable : Option Disable) (n : ℕ) (c f s : List ℕ)
    → spaced false (Integer n ∷ Space ∷ Mark 40 ∷ Key c ∷ Mark 44 ∷ Space ∷ (port_atoms port ++ (Mark 44 ∷ Space ∷ Key f ∷ Mark 44 ∷ Space ∷ Key s ∷ (disable_atoms disable ++ (Mark 41 ∷ []))))) ≡ true
row_spaced None None n c f s = refl
row_spaced None (Some d) n c f s = refl
row_spaced (Some b) None n c f s = by b.index
  where
    by : (i : Option ℕ) → spaced false (Integer n ∷ Space ∷ Mark 40 ∷ Key c ∷ Mark 44 ∷ Space ∷ ((Name b.port ∷ index_atoms i) ++ (Mark 44 ∷ Space ∷ Key f ∷ Mark 44 ∷ Space ∷ Key s ∷ (Mark 41 ∷ [])))) ≡ true
    by None = refl
    by (Some i) = refl
row_spaced (Some b) (Some d) n c f s = by b.index
  where
    by : (i : Option ℕ) → spaced false (Integer n ∷ Space ∷ Mark 40 ∷ Key c ∷ Mark 44 ∷ Space ∷ ((Name b.port ∷ index_atoms i) ++ (Mark 44 ∷ Space ∷ Key f ∷ Mark 44 ∷ Space ∷ Key s ∷ (disable_atoms (Some d) ++ (Mark 41 ∷ []))))) ≡ true
    by None = refl
    by (Some i) = refl

row_patterns : (r : RowEntry) → patterns_of (row_atoms r) ≡ row_words r
row_patterns r = by r.port r.disable
  where
    by : (port : Option PortBit) (disable : Option Disable) → patterns_of (row_atoms (record { number = r.number; cell = r.cell; port = port; function = r.function; safe = r.safe; disable = disable })) ≡ row_words (record { number = r.number; cell = r.cell; port = port; function = r.function; safe = r.safe; disable = disable })
    by None None = refl
    by None (Some d) = refl
    by (Some b) None = at b.index
      where
        at : (i : Option ℕ) → patterns_of (row_atoms (record { number = r.number; cell = r.cell; port = Some (record { port = b.port; index = i }); function = r.function; safe = r.safe; disable = None })) ≡ row_words (record { number = r.number; cell = r.cell; port = Some (record { port = b.port; index = i }); function = r.function; safe = r.safe; disable = None })
        at None = refl
        at (Some i) = refl
    by (Some b) (Some d) = at b.index
      where
        at : (i : Option ℕ) → patterns_of (row_atoms (record { number = r.number; cell = r.cell; port = Some (record { port = b.port; index = i }); function = r.function; safe = r.safe; disable = Some d })) ≡ row_words (record { number = r.number; cell = r.cell; port = Some (record { port = b.port; index = i }); function = r.function; safe = r.safe; disable = Some d })
        at None = refl
        at (Some i) = refl

pub row_entry_is : (r : RowEntry) → IsRow r → Entry (row_atoms r) (row_words r)
row_entry_is r is = record {
  all = (
    is.number,
    (
      tt,
      (
        refl,
        (
          is_cell r.cell,
          (
            refl,
            (
              tt,
              all_append IsAtom (port_atoms r.port) _ (port_all r.port is.port)
                  (refl, (tt, (is_function r.function, (refl, (tt, (is_safe r.safe, all_append IsAtom (disable_atoms r.disable) (Mark 41 ∷ []) (disable_all r.disable is.control) (refl, tt))))))),
            ),
          ),
        ),
      ),
    ),
  );
  apart = row_spaced r.port r.disable r.number (cell_word r.cell) (function_word r.function) (safe_word r.safe);
  patterns = row_patterns r;
}

index_bytes : (index : Option ℕ) → index_text index ≡ bytes_of (index_atoms index)
unfolding index_text
index_bytes None = refl
index_bytes (Some i) = ap (λ (t : List ℕ). 40 ∷ t) refl

port_bytes : (ports : List DevPort) (pin : Option DevBit) → pin_text ports pin ≡ bytes_of (port_atoms (option_map (port_bit ports) pin))
unfolding pin_text
port_bytes ports None = refl
port_bytes ports (Some b) = ap (λ (t : List ℕ). port_name ports b.port ++ t) (index_bytes b.index)

disable_bytes : (disable : Option Disable) → disable_text disable ≡ bytes_of (disable_atoms disable)
unfolding disable_text pieces
disable_bytes None = refl
disable_bytes (Some d) = ap (λ (t : List ℕ). 44 ∷ 32 ∷ t) refl

six : (a b c d e f : List ℕ) → (((((a ++ b) ++ c) ++ d) ++ e) ++ f) ≡ a ++ (b ++ (c ++ (d ++ (e ++ f))))
six a b c d e f = simp append_assoc

pub row_bytes : (ports : List DevPort) (number : ℕ) (row : CellRow) → row_text ports number row ≡ bytes_of (row_atoms (row_entry ports number row))
unfolding row_text
row_bytes ports number row =
    let port = port_atoms (option_map (port_bit ports) row.pin) in
    let behind = Mark 44 ∷ Space ∷ Key (function_word row.function) ∷ Mark 44 ∷ Space ∷ Key (safe_word row.safe) ∷ (disable_atoms row.disable ++ (Mark 41 ∷ [])) in
    let disabled : disable_text row.disable ++ codes ")" ≡ bytes_of (disable_atoms row.disable ++ (Mark 41 ∷ [])) =
    ap (λ (t : List ℕ). t ++ codes ")") (disable_bytes row.disable) ∙ sym (bytes_of-append (disable_atoms row.disable) (Mark 41 ∷ [])) in
    let last : pieces (codes ", " ∷ function_word row.function ∷ codes ", " ∷ safe_word row.safe ∷ []) ++ (disable_text row.disable ++ codes ")") ≡ bytes_of behind =
    pieces_then (codes ", " ∷ function_word row.function ∷ codes ", " ∷ safe_word row.safe ∷ []) (disable_text row.disable ++ codes ")")
    ∙ ap (λ (t : List ℕ). 44 ∷ 32 ∷ (function_word row.function ++ (44 ∷ 32 ∷ (safe_word row.safe ++ t)))) disabled in
    let pinned : pin_text ports row.pin ++ (pieces (codes ", " ∷ function_word row.function ∷ codes ", " ∷ safe_word row.safe ∷ []) ++ (disable_text row.disable ++ codes ")")) ≡ bytes_of (port ++ behind) =
    ap (λ (t : List ℕ). t ++ (pieces (codes ", " ∷ function_word row.function ∷ codes ", " ∷ safe_word row.safe ∷ []) ++ (disable_text row.disable ++ codes ")"))) (port_bytes ports row.pin)
    ∙ ap (λ (t : List ℕ). bytes_of port ++ t) last
    ∙ sym (bytes_of-append port behind) in
    six (decimal number) (pieces (codes " (" ∷ cell_word row.cell ∷ codes ", " ∷ [])) (pin_text ports row.pin) (pieces (codes ", " ∷ function_word row.function ∷ codes ", " ∷ safe_word row.safe ∷ [])) (disable_text row.disable) (codes ")")
    ∙ ap (λ (t : List ℕ). decimal number ++ t) (pieces_then (codes " (" ∷ cell_word row.cell ∷ codes ", " ∷ []) _ ∙ ap (λ (t : List ℕ). 32 ∷ 40 ∷ (cell_word row.cell ++ (44 ∷ 32 ∷ t))) pinned)

-- The pin map.

-- a scalar has one pin
abbrev pub HasOne : Option PortRange → List (List ℕ) → Type 0
HasOne None [] = ⊥
HasOne None (pin ∷ []) = Unit {0}
HasOne None (pin ∷ other ∷ more) = ⊥
HasOne (Some r) list = Unit {0}

pub record IsPort (p : DevPort) : Type 0 where
  pub name : is_name p.name ≡ true
  pub pins : AllByRecursion GoodPin p.pins
  pub one : HasOne p.range p.pins

pin_entries : (list : List (List ℕ)) → AllByRecursion GoodPin list → AllByRecursion (λ (pin : List ℕ). Entry (pin_atoms pin) (PinRun pin ∷ [])) list
pin_entries [] all = tt
pin_entries (pin ∷ list) all = (record { all = (all.0, tt); apart = refl; patterns = refl }, pin_entries list all.1)

-- an entry behind a mark, with one behind it
closed : (before behind : ℕ) → is_mark before ≡ true → is_mark behind ≡ true → (atoms : List ContentAtom) (words : List ContentPattern) → Entry atoms words → Entry (Mark before ∷ (atoms ++ (Mark behind ∷ []))) (MarkByte before ∷ (words ++ (MarkByte behind ∷ [])))
closed before behind first last atoms words e = record {
  all = (first, all_append IsAtom atoms (Mark behind ∷ []) e.all (last, tt));
  apart = spaced-append false atoms (Mark behind ∷ []) e.apart (ap (λ (b : Bool). not b && true) (and-false (last_long false atoms)));
  patterns = ap (λ (l : List ContentPattern). MarkByte before ∷ l) (patterns_of-append atoms (Mark behind ∷ []) ∙ ap (λ (l : List ContentPattern). l ++ (MarkByte behind ∷ [])) e.patterns);
}

pub pin_entry_is : (p : DevPort) → IsPort p → Entry (pin_entry_atoms (entry_of p)) (pin_entry_words (entry_of p))
pin_entry_is p is = by p.range p.pins is.pins is.one
  where
    by : (range : Option PortRange) (list : List (List ℕ)) → AllByRecursion GoodPin list → HasOne range list → Entry (Name p.name ∷ Mark 58 ∷ pins_atoms (mapped range list)) (pin_entry_words (record { port = p.name; pins = mapped range list }))
    by None [] all one = absurd one
    by None (pin ∷ []) all one = record { all = (is.name, (refl, (all.0, tt))); apart = refl; patterns = refl }
    by None (pin ∷ other ∷ more) all one = absurd one
    by (Some r) list all one =
        let e = closed 40 41 refl refl (between_commas pin_atoms list) (separated_by comma (λ pin. PinRun pin ∷ []) list) (entries pin_atoms (λ (pin : List ℕ). PinRun pin ∷ []) list (pin_entries list all)) in
        record { all = (is.name, (refl, e.all)); apart = e.apart; patterns = ap (λ (l : List ContentPattern). NameRun p.name ∷ MarkByte 58 ∷ l) e.patterns }

after_pins : (list : List (List ℕ)) → each_after (codes ",") (λ (pin : List ℕ). pin) list ≡ bytes_of (after_commas pin_atoms list)
after_pins [] = refl
after_pins (pin ∷ list) = ap (λ (t : List ℕ). 44 ∷ (pin ++ t)) (after_pins list)

list_bytes : (list : List (List ℕ)) → pin_list_text list ≡ bytes_of (between_commas pin_atoms list)
unfolding pin_list_text
list_bytes [] = refl
list_bytes (pin ∷ list) = ap (λ (t : List ℕ). pin ++ t) (after_pins list)

pub pin_entry_bytes : (p : DevPort) → IsPort p → pin_entry_text p ≡ bytes_of (pin_entry_atoms (entry_of p))
unfolding pin_entry_text pins_text pin_list_text
pin_entry_bytes p is = append_assoc p.name (codes ":") (pins_text p.range p.pins) ∙ ap (λ (t : List ℕ). p.name ++ (58 ∷ t)) (by p.range p.pins is.one)
  where
    by : (range : Option PortRange) (list : List (List ℕ)) → HasOne range list → pins_text range list ≡ bytes_of (pins_atoms (mapped range list))
    by None [] one = absurd one
    by None (pin ∷ []) one = refl
    by None (pin ∷ other ∷ more) one = absurd one
    by (Some r) list one = ap (λ (t : List ℕ). 40 ∷ t) (ap (λ (t : List ℕ). t ++ (41 ∷ [])) (list_bytes list) ∙ sym (bytes_of-append (between_commas pin_atoms list) (Mark 41 ∷ [])))

-- Opcodes.

word_is_identifier : (i : Instr) → is_identifier (instruction_word i) ≡ true
word_is_identifier instr.Bypass = refl
word_is_identifier instr.Extest = refl
word_is_identifier instr.Sample = refl
word_is_identifier instr.Preload = refl
word_is_identifier instr.Idcode = refl
word_is_identifier instr.Highz = refl
word_is_identifier instr.Clamp = refl
word_is_identifier instr.Usercode = refl

pub opcode_is : (o : Opcode) → GoodBits o.bits → Entry (opcode_atoms (opcode_entry o)) (opcode_words (opcode_entry o))
opcode_is o good = record { all = (word_is_identifier o.instr, (tt, (refl, (good, (refl, tt))))); apart = refl; patterns = refl }

pub opcode_bytes : (o : Opcode) → opcode_text o ≡ bytes_of (opcode_atoms (opcode_entry o))
unfolding opcode_text
opcode_bytes o = four (instruction_word o.instr) (codes " (") (pattern_text o.bits) (codes ")")
  where
    four : (a b c d : List ℕ) → ((a ++ b) ++ c) ++ d ≡ a ++ (b ++ (c ++ d))
    four a b c d = simp append_assoc

-- Registers.

more_all : (list : List Instr) → AllByRecursion IsAtom (more_names (map instruction_word list))
more_all [] = tt
more_all (i ∷ list) = (refl, (tt, (word_is_identifier i, more_all list)))

more_spaced : (behind : Bool) (names : List (List ℕ)) → spaced behind (more_names names ++ (Mark 41 ∷ [])) ≡ true
more_spaced behind [] = ap (λ (b : Bool). not b && true) (and-false behind)
more_spaced behind (name ∷ names) = ap (λ (b : Bool). not b && spaced true (more_names names ++ (Mark 41 ∷ []))) (and-false behind) ∙ more_spaced true names

more_patterns : (names : List (List ℕ)) → patterns_of (more_names names ++ (Mark 41 ∷ [])) ≡ matching.each_after comma (λ name. IdentifierRun name ∷ []) names ++ (MarkByte 41 ∷ [])
more_patterns [] = refl
more_patterns (name ∷ names) = ap (λ (l : List ContentPattern). MarkByte 44 ∷ IdentifierRun name ∷ l) (more_patterns names)

register_run : (r : Register) → is_run (register_word r) ≡ true
register_run register.Boundary = refl
register_run register.Bypass = refl
register_run register.DeviceId = refl

pub access_is : (r : Register) (list : List Instr) → Entry (access_atoms (record { register = r; instructions = map instruction_word list })) (access_words (record { register = r; instructions = map instruction_word list }))
access_is r [] = record { all = (register_run r, (tt, (refl, (refl, tt)))); apart = refl; patterns = refl }
access_is r (i ∷ list) = record {
  all = (register_run r, (tt, (refl, (word_is_identifier i, all_append IsAtom (more_names (map instruction_word list)) (Mark 41 ∷ []) (more_all list) (refl, tt)))));
  apart = more_spaced true (map instruction_word list);
  patterns = ap (λ (l : List ContentPattern). KeyRun (register_word r) ∷ MarkByte 40 ∷ IdentifierRun (instruction_word i) ∷ l) (more_patterns (map instruction_word list));
}

more_bytes : (list : List Instr) → each_after (codes ", ") instruction_word list ≡ bytes_of (more_names (map instruction_word list))
more_bytes [] = refl
more_bytes (i ∷ list) = ap (λ (t : List ℕ). 44 ∷ 32 ∷ (instruction_word i ++ t)) (more_bytes list)

pub names_bytes : (list : List Instr) → separated_text (codes ", ") instruction_word list ≡ bytes_of (names_atoms (map instruction_word list))
names_bytes [] = refl
names_bytes (i ∷ list) = ap (λ (t : List ℕ). instruction_word i ++ t) (more_bytes list)
