-- The canonical text is that of the atoms.
use Rattle.std.proofs.Common.{◌≡◌, ℕ, ◌+◌, ◌/◌, ◌^◌, List, [], ◌∷◌, ◌++◌, Bool, true, false, Option, Some, None, map, length, refl, sym, ap, ◌∙◌, append_assoc, append-nil}
use Rattle.std.specs.Prelude.{nat_le, codes, if◌then◌else◌}
use Rattle.std.specs.List.{filter, enumerate_from, AllByRecursion}
use Rattle.std.specs.Fmt.{decimal}
use Rattle.cell_library.specs.declared.codes.Instr.{Instr}
use Rattle.cell_library.specs.declared.codes.Instr.TheVariants as instr
use Rattle.cell_library.specs.declared.codes.Opcode.{Opcode}
use Rattle.bsdl_device.specs.declared.values.PortRange.{PortRange}
use Rattle.bsdl_device.specs.declared.values.Stop.{Stop}
use Rattle.bsdl_device.specs.declared.values.DevPort.{DevPort}
use Rattle.bsdl_device.specs.declared.values.CellRow.{CellRow}
use Rattle.bsdl_device.specs.declared.values.Device.{Device}
use Rattle.bsdl_device.specs.declared.written.Direction.TheVariants as direction
use Rattle.bsdl_device.specs.declared.entries.Register.TheVariants as register
use Rattle.bsdl_device.specs.Patterns.{is_filled}
use Rattle.bsdl_device.specs.Shape.{joined, mode_word, direction_word, stop_word}
use Rattle.bsdl_device.specs.Canonical.{pieces, separated_text, next_string, bits_text, pattern_text, direction_text, bounds_text, vector_text, type_text, named_text, port_text, ports_text, pin_entry_text, pin_map_text, entity_text, conformance_text, head_text, port_name, scan_in_text, scan_mode_text, scan_out_text, scan_reset_text, scan_clock_text, tap_text, attribute_text, opcode_text, opcodes_text, and_string, code_text, idcode_text, usercode_text, has_opcode, instructions_text, user_access_text, device_id_text, boundary_access_text, bypass_access_text, access_text, registers_text, row_text, rows_text, boundary_length_text, boundary_rows_text, boundary_text, canonical_device}
use Rattle.bsdl_device.proofs.Pieces.{pieces_then}
use Rattle.bsdl_device.proofs.FileAtoms.{FileAtom, text_then, text_then-append}
use Rattle.bsdl_device.proofs.ContentAtoms.{ContentAtom, bytes_of, bytes_of-append, Mark}
use Rattle.bsdl_device.proofs.EntryAtoms.{comma_strings, pin_entry_bytes, opcode_bytes, access_bytes, row_bytes, names_atoms}
use Rattle.bsdl_device.proofs.ContentTexts as contents
use Rattle.bsdl_device.proofs.ContentTexts.{IsPort}
use Rattle.bsdl_device.proofs.RoundTripHeld.{GoodDevice, opcodes_filled}
use Rattle.bsdl_device.proofs.Rebuilt.{entry_of, opcode_entry, row_entry, row_entries, access_entries, device_id_entries, present, user_strings, opcode_strings, access_strings, rebuilt_file}
use Rattle.bsdl_device.proofs.FileTexts.{section_atoms_by, section_atoms, attribute_atoms, tap_atoms, strings_atoms, line_end, listed_atoms, integer_atoms, type_atoms, port_atoms, port_end, port_close, ports_atoms, entity_atoms, generic_atoms, port_open, use_atoms, conformance_atoms, pin_map_atoms, constant_open, clock_atoms, capture_atoms, idcode_atoms, usercode_atoms, ident_atoms, end_atoms}

-- Sections, one behind the other.

abbrev pub chain : List (List FileAtom) → List ℕ
chain [] = []
chain (atoms ∷ more) = text_then atoms (chain more)

pub chain_joined : (list : List (List FileAtom)) → text_then (joined list) [] ≡ chain list
chain_joined [] = refl
chain_joined (atoms ∷ more) = text_then-append atoms (joined more) [] ∙ ap (text_then atoms) (chain_joined more)

-- Strings.

-- a string before others
strings_next : {A : Type 0} (s : List ℕ) (text : A → List ℕ) (y : A) (ys : List A) (rest : List ℕ) → text_then (strings_atoms (s ∷ comma_strings text (y ∷ ys))) rest ≡ 34 ∷ (s ++ (34 ∷ 32 ∷ 38 ∷ 10 ∷ 32 ∷ 32 ∷ 32 ∷ 32 ∷ text_then (strings_atoms (comma_strings text (y ∷ ys))) rest))
strings_next s text y [] rest = refl
strings_next s text y (z ∷ zs) rest = refl

pub strings_text : {A : Type 0} (text : A → List ℕ) (x : A) (xs : List A) (rest : List ℕ) → 34 ∷ (separated_text next_string text (x ∷ xs) ++ (34 ∷ rest)) ≡ text_then (strings_atoms (comma_strings text (x ∷ xs))) rest
unfolding pieces
strings_text text x [] rest = ap (λ (t : List ℕ). 34 ∷ (t ++ (34 ∷ rest))) (append-nil (text x))
strings_text text x (y ∷ ys) rest =
    ap (λ (t : List ℕ). 34 ∷ t) (append_assoc (text x) (44 ∷ 34 ∷ 32 ∷ 38 ∷ 10 ∷ 32 ∷ 32 ∷ 32 ∷ 32 ∷ 34 ∷ separated_text next_string text (y ∷ ys)) (34 ∷ rest)
    ∙ ap (λ (t : List ℕ). text x ++ (44 ∷ 34 ∷ 32 ∷ 38 ∷ 10 ∷ 32 ∷ 32 ∷ 32 ∷ 32 ∷ t)) (strings_text text y ys rest)
    ∙ sym (append_assoc (text x) (44 ∷ []) (34 ∷ 32 ∷ 38 ∷ 10 ∷ 32 ∷ 32 ∷ 32 ∷ 32 ∷ text_then (strings_atoms (comma_strings text (y ∷ ys))) rest)))
    ∙ sym (strings_next (text x ++ codes ",") text y ys rest)

-- texts of a list, by those of another
comma_map : {A : Type 0} (text : A → List ℕ) (xs : List A) → comma_strings text xs ≡ comma_strings (λ (s : List ℕ). s) (map text xs)
comma_map text [] = refl
comma_map text (x ∷ []) = refl
comma_map text (x ∷ y ∷ xs) = ap (λ (l : List (List ℕ)). (text x ++ codes ",") ∷ l) (comma_map text (y ∷ xs))

comma_same : {A B : Type 0} (text : A → List ℕ) (other : B → List ℕ) (xs : List A) (ys : List B) → map text xs ≡ map other ys → comma_strings text xs ≡ comma_strings other ys
comma_same text other xs ys same = comma_map text xs ∙ ap (λ (l : List (List ℕ)). comma_strings (λ (s : List ℕ). s) l) same ∙ sym (comma_map other ys)

-- texts that are entries' strings
pub strings_of_entries : {A B : Type 0} (text : A → List ℕ) (other : B → List ℕ) (xs : List A) (ys : List B) (rest : List ℕ) → is_filled xs ≡ true → map text xs ≡ map other ys → 34 ∷ (separated_text next_string text xs ++ (34 ∷ rest)) ≡ text_then (strings_atoms (comma_strings other ys)) rest
strings_of_entries text other [] ys rest some same = absurd (cc)
strings_of_entries text other (x ∷ xs) ys rest some same = strings_text text x xs rest ∙ ap (λ (l : List (List ℕ)). text_then (strings_atoms l) rest) (comma_same text other (x ∷ xs) ys same)

pins_same : (ports : List DevPort) → AllByRecursion IsPort ports → map pin_entry_text ports ≡ map pin_entry_bytes (map entry_of ports)
pins_same [] all = refl
pins_same (p ∷ ps) all = ap (λ (t : List ℕ). t ∷ map pin_entry_text ps) (contents.pin_entry_bytes p all.0) ∙ ap (λ (l : List (List ℕ)). pin_entry_bytes (entry_of p) ∷ l) (pins_same ps all.1)

pub opcodes_same : (opcodes : List Opcode) → map opcode_text opcodes ≡ map opcode_bytes (map opcode_entry opcodes)
opcodes_same [] = refl
opcodes_same (o ∷ os) = ap (λ (t : List ℕ). t ∷ map opcode_text os) (contents.opcode_bytes o) ∙ ap (λ (l : List (List ℕ)). opcode_bytes (opcode_entry o) ∷ l) (opcodes_same os)

abbrev numbered_text : List DevPort → ℕ × CellRow → List ℕ
numbered_text ports row = row_text ports row.0 row.1

rows_same : (ports : List DevPort) (first : ℕ) (rows : List CellRow) → map (numbered_text ports) (enumerate_from first rows) ≡ map row_bytes (row_entries ports first rows)
rows_same ports first [] = refl
rows_same ports first (r ∷ rs) = ap (λ (t : List ℕ). t ∷ map (numbered_text ports) (enumerate_from (first + 1) rs)) (contents.row_bytes ports first r) ∙ ap (λ (l : List (List ℕ)). row_bytes (row_entry ports first r) ∷ l) (rows_same ports (first + 1) rs)

-- Attributes.

attribute_then : (before kind entity : List ℕ) (b : ℕ) (behind rest : List ℕ) → attribute_text before kind entity (b ∷ behind) ++ rest ≡ before ++ text_then (attribute_atoms kind entity b) (behind ++ rest)
unfolding attribute_text
attribute_then before kind entity b behind rest = pieces_then (before ∷ codes "  attribute " ∷ kind ∷ codes " of " ∷ entity ∷ codes " : entity is" ∷ (b ∷ behind) ∷ []) rest

listed_then : (before kind entity body : List ℕ) (strings : List (List ℕ)) (rest : List ℕ) → 34 ∷ (body ++ (34 ∷ text_then line_end rest)) ≡ text_then (strings_atoms strings) (text_then line_end rest)
    → attribute_text before kind entity (codes "\n    \"") ++ (body ++ (34 ∷ text_then line_end rest)) ≡ before ++ text_then (listed_atoms kind entity strings) rest
listed_then before kind entity body strings rest same =
    attribute_then before kind entity 10 (32 ∷ 32 ∷ 32 ∷ 32 ∷ 34 ∷ []) (body ++ (34 ∷ text_then line_end rest))
    ∙ ap (λ (t : List ℕ). before ++ text_then (attribute_atoms kind entity 10) (32 ∷ 32 ∷ 32 ∷ 32 ∷ t)) (same ∙ sym (text_then-append (strings_atoms strings) line_end rest))

integer_then : (before kind entity : List ℕ) (value : ℕ) (rest : List ℕ) → attribute_text before kind entity (codes " ") ++ (decimal value ++ text_then line_end rest) ≡ before ++ text_then (integer_atoms kind entity value) rest
integer_then before kind entity value rest = attribute_then before kind entity 32 [] (decimal value ++ text_then line_end rest)

-- Ports.

type_then : (range : Option PortRange) (rest : List ℕ) → type_text range ++ rest ≡ text_then (type_atoms range) rest
unfolding type_text vector_text bounds_text direction_text
type_then None rest = refl
type_then (Some r) rest =
    four (decimal r.left) (if nat_le r.left r.right then codes " to " else codes " downto ") (decimal r.right) rest
    ∙ ap (λ (t : List ℕ). codes "bit_vector(" ++ (decimal r.left ++ t)) (by (nat_le r.left r.right))
  where
    four : (a b c d : List ℕ) → ((codes "bit_vector(" ++ ((a ++ b) ++ c)) ++ codes ")") ++ d ≡ codes "bit_vector(" ++ (a ++ (b ++ (c ++ (41 ∷ d))))
    four a b c d = ap (λ (t : List ℕ). codes "bit_vector(" ++ t) (simp append_assoc)

    by : (b : Bool) → (if b then codes " to " else codes " downto ") ++ (decimal r.right ++ (41 ∷ rest)) ≡ 32 ∷ (direction_word (if b then direction.To else direction.Downto) ++ (32 ∷ (decimal r.right ++ (41 ∷ rest))))
    by true = refl
    by false = refl

port_then : (p : DevPort) (rest : List ℕ) → port_text p ++ rest ≡ text_then (port_atoms p) rest
unfolding port_text named_text
port_then p rest =
    append_assoc (pieces (codes "    " ∷ p.name ∷ codes " : " ∷ mode_word p.mode ∷ codes " " ∷ [])) (type_text p.range) rest
    ∙ pieces_then (codes "    " ∷ p.name ∷ codes " : " ∷ mode_word p.mode ∷ codes " " ∷ []) (type_text p.range ++ rest)
    ∙ ap (λ (t : List ℕ). 32 ∷ 32 ∷ 32 ∷ 32 ∷ (p.name ++ (32 ∷ 58 ∷ 32 ∷ (mode_word p.mode ++ (32 ∷ t))))) (type_then p.range rest)

ports_then : (ports : List DevPort) (rest : List ℕ) → is_filled ports ≡ true → separated_text (codes ";\n") port_text ports ++ text_then port_close rest ≡ text_then (ports_atoms ports) rest
ports_then [] rest some = absurd (cc)
ports_then (p ∷ []) rest some = ap (λ (t : List ℕ). t ++ text_then port_close rest) (append-nil (port_text p)) ∙ port_then p (text_then port_close rest) ∙ sym (text_then-append (port_atoms p) port_close rest)
ports_then (p ∷ q ∷ ps) rest some =
    append_assoc (port_text p) (59 ∷ 10 ∷ separated_text (codes ";\n") port_text (q ∷ ps)) (text_then port_close rest)
    ∙ ap (λ (t : List ℕ). port_text p ++ (59 ∷ 10 ∷ t)) (ports_then (q ∷ ps) rest refl)
    ∙ port_then p (text_then port_end (text_then (ports_atoms (q ∷ ps)) rest))
    ∙ sym (text_then-append (port_atoms p) port_end (text_then (ports_atoms (q ∷ ps)) rest))
    ∙ sym (text_then-append (port_atoms p ++ port_end) (ports_atoms (q ∷ ps)) rest)

-- Registers.

five : (a b c d e f : List ℕ) → ((((a ++ b) ++ c) ++ d) ++ e) ++ f ≡ a ++ (b ++ (c ++ (d ++ (e ++ f))))
five a b c d e f = simp append_assoc

abbrev present_bytes : List Opcode → List Instr → List ℕ
present_bytes opcodes list = bytes_of (names_atoms (present opcodes list))

-- names, a parenthesis behind them, and what follows
closed : (atoms : List ContentAtom) (rest : List ℕ) → bytes_of (atoms ++ (Mark 41 ∷ [])) ++ rest ≡ bytes_of atoms ++ (41 ∷ rest)
closed atoms rest = ap (λ (t : List ℕ). t ++ rest) (bytes_of-append atoms (Mark 41 ∷ [])) ∙ append_assoc (bytes_of atoms) (41 ∷ []) rest

closed_comma : (atoms : List ContentAtom) (rest : List ℕ) → (bytes_of (atoms ++ (Mark 41 ∷ [])) ++ (44 ∷ [])) ++ rest ≡ bytes_of atoms ++ (41 ∷ 44 ∷ rest)
closed_comma atoms rest = append_assoc (bytes_of (atoms ++ (Mark 41 ∷ []))) (44 ∷ []) rest ∙ closed atoms (44 ∷ rest)

names_same : (opcodes : List Opcode) (list : List Instr) → instructions_text opcodes list ≡ present_bytes opcodes list
unfolding instructions_text
names_same opcodes list = contents.names_bytes (filter (has_opcode opcodes) list)

abbrev boundary_list : List Instr
boundary_list = instr.Extest ∷ instr.Sample ∷ instr.Preload ∷ []

abbrev bypass_list : List Instr
bypass_list = instr.Bypass ∷ instr.Highz ∷ instr.Clamp ∷ []

between : List ℕ → List ℕ
between rest = 41 ∷ 44 ∷ 34 ∷ 32 ∷ 38 ∷ 10 ∷ 32 ∷ 32 ∷ 32 ∷ 32 ∷ 34 ∷ (codes "BYPASS (" ++ rest)

-- the registers with that of the identification
ident_by : (a b : List ContentAtom) (ident rest : List ℕ)
    → codes "BOUNDARY (" ++ (bytes_of a ++ (between (bytes_of b ++ (41 ∷ 44 ∷ 34 ∷ 32 ∷ 38 ∷ 10 ∷ 32 ∷ 32 ∷ 32 ∷ 32 ∷ 34 ∷ (ident ++ (34 ∷ rest))))))
    ≡ (codes "BOUNDARY (" ++ (bytes_of (a ++ (Mark 41 ∷ [])) ++ (44 ∷ []))) ++ (34 ∷ 32 ∷ 38 ∷ 10 ∷ 32 ∷ 32 ∷ 32 ∷ 32 ∷ 34 ∷ (codes "BYPASS (" ++ ((bytes_of (b ++ (Mark 41 ∷ [])) ++ (44 ∷ [])) ++ (34 ∷ 32 ∷ 38 ∷ 10 ∷ 32 ∷ 32 ∷ 32 ∷ 32 ∷ 34 ∷ (ident ++ (34 ∷ rest))))))
unfolding between
ident_by a b ident rest = ap (λ (t : List ℕ). codes "BOUNDARY (" ++ t) (
    ap (λ (t : List ℕ). bytes_of a ++ (41 ∷ 44 ∷ 34 ∷ 32 ∷ 38 ∷ 10 ∷ 32 ∷ 32 ∷ 32 ∷ 32 ∷ 34 ∷ (codes "BYPASS (" ++ t))) (sym (closed_comma b (34 ∷ 32 ∷ 38 ∷ 10 ∷ 32 ∷ 32 ∷ 32 ∷ 32 ∷ 34 ∷ (ident ++ (34 ∷ rest)))))
    ∙ sym (closed_comma a (34 ∷ 32 ∷ 38 ∷ 10 ∷ 32 ∷ 32 ∷ 32 ∷ 32 ∷ 34 ∷ (codes "BYPASS (" ++ ((bytes_of (b ++ (Mark 41 ∷ [])) ++ (44 ∷ [])) ++ (34 ∷ 32 ∷ 38 ∷ 10 ∷ 32 ∷ 32 ∷ 32 ∷ 32 ∷ 34 ∷ (ident ++ (34 ∷ rest))))))))

abbrev ident_text : Bool → Bool → List ℕ
ident_text id user = if id then pieces (codes "),\" &\n    \"DEVICE_ID (IDCODE" ∷ (if user then codes ", USERCODE" else []) ∷ []) else []

access_by : (a b : List ContentAtom) (id user : Bool) (rest : List ℕ)
    → codes "BOUNDARY (" ++ (bytes_of a ++ (between (bytes_of b ++ (ident_text id user ++ (41 ∷ 34 ∷ rest)))))
    ≡ (codes "BOUNDARY (" ++ (bytes_of (a ++ (Mark 41 ∷ [])) ++ (44 ∷ []))) ++ (34 ∷ 32 ∷ 38 ∷ 10 ∷ 32 ∷ 32 ∷ 32 ∷ 32 ∷ text_then (strings_atoms (comma_strings (λ (s : List ℕ). s) ((codes "BYPASS (" ++ bytes_of (b ++ (Mark 41 ∷ []))) ∷ map access_bytes (device_id_entries id user)))) rest)
unfolding between pieces
access_by a b true true rest = ident_by a b (codes "DEVICE_ID (IDCODE, USERCODE)") rest
access_by a b true false rest = ident_by a b (codes "DEVICE_ID (IDCODE)") rest
access_by a b false user rest = ap (λ (t : List ℕ). codes "BOUNDARY (" ++ t) (
    ap (λ (t : List ℕ). bytes_of a ++ (41 ∷ 44 ∷ 34 ∷ 32 ∷ 38 ∷ 10 ∷ 32 ∷ 32 ∷ 32 ∷ 32 ∷ 34 ∷ (codes "BYPASS (" ++ t))) (sym (closed b (34 ∷ rest)))
    ∙ sym (closed_comma a (34 ∷ 32 ∷ 38 ∷ 10 ∷ 32 ∷ 32 ∷ 32 ∷ 32 ∷ 34 ∷ (codes "BYPASS (" ++ (bytes_of (b ++ (Mark 41 ∷ [])) ++ (34 ∷ rest))))))

pub access_then : (opcodes : List Opcode) (rest : List ℕ) → 34 ∷ (access_text opcodes ++ (41 ∷ 34 ∷ rest)) ≡ text_then (strings_atoms (comma_strings access_bytes (access_entries opcodes))) rest
unfolding access_text boundary_access_text bypass_access_text device_id_text user_access_text between
access_then opcodes rest = ap (λ (t : List ℕ). 34 ∷ t) (
    five (codes "BOUNDARY (") (instructions_text opcodes boundary_list) (codes "),\" &\n    \"BYPASS (") (instructions_text opcodes bypass_list) (device_id_text opcodes) (41 ∷ 34 ∷ rest)
    ∙ ap (λ (t : List ℕ). codes "BOUNDARY (" ++ (t ++ (between (instructions_text opcodes bypass_list ++ (device_id_text opcodes ++ (41 ∷ 34 ∷ rest)))))) (names_same opcodes boundary_list)
    ∙ ap (λ (t : List ℕ). codes "BOUNDARY (" ++ (present_bytes opcodes boundary_list ++ (between (t ++ (device_id_text opcodes ++ (41 ∷ 34 ∷ rest)))))) (names_same opcodes bypass_list)
    ∙ access_by (names_atoms (present opcodes boundary_list)) (names_atoms (present opcodes bypass_list)) (has_opcode opcodes instr.Idcode) (has_opcode opcodes instr.Usercode) rest
    ∙ by (has_opcode opcodes instr.Idcode) (has_opcode opcodes instr.Usercode))
    ∙ sym (strings_next (codes "BOUNDARY (" ++ (bytes_of (names_atoms (present opcodes boundary_list) ++ (Mark 41 ∷ []))) ++ codes ",") access_bytes (record { register = register.Bypass; instructions = present opcodes bypass_list }) (device_id_entries (has_opcode opcodes instr.Idcode) (has_opcode opcodes instr.Usercode)) rest)
  where
    by : (id user : Bool) → (codes "BOUNDARY (" ++ (bytes_of (names_atoms (present opcodes boundary_list) ++ (Mark 41 ∷ [])) ++ (44 ∷ []))) ++ (34 ∷ 32 ∷ 38 ∷ 10 ∷ 32 ∷ 32 ∷ 32 ∷ 32 ∷ text_then (strings_atoms (comma_strings (λ (s : List ℕ). s) ((codes "BYPASS (" ++ bytes_of (names_atoms (present opcodes bypass_list) ++ (Mark 41 ∷ []))) ∷ map access_bytes (device_id_entries id user)))) rest)
        ≡ (codes "BOUNDARY (" ++ (bytes_of (names_atoms (present opcodes boundary_list) ++ (Mark 41 ∷ [])) ++ (44 ∷ []))) ++ (34 ∷ 32 ∷ 38 ∷ 10 ∷ 32 ∷ 32 ∷ 32 ∷ 32 ∷ text_then (strings_atoms (comma_strings access_bytes (record { register = register.Bypass; instructions = present opcodes bypass_list } ∷ device_id_entries id user))) rest)
    by true user = refl
    by false user = refl

-- The sections' texts.

code_then : (entity : List ℕ) (code : Option ℕ) (tail rest : List ℕ) → tail ≡ 34 ∷ text_then line_end rest → idcode_text entity code ++ tail ≡ 34 ∷ text_then line_end (text_then (idcode_atoms entity code) rest)
unfolding idcode_text code_text
code_then entity None tail rest is = is
code_then entity (Some code) tail rest is =
    append_assoc (attribute_text (codes "\";\n") (codes "IDCODE_REGISTER") entity (codes "\n    \"")) (code_text code) tail
    ∙ attribute_then (codes "\";\n") (codes "IDCODE_REGISTER") entity 10 (32 ∷ 32 ∷ 32 ∷ 32 ∷ 34 ∷ []) (code_text code ++ tail)
    ∙ ap (λ (t : List ℕ). 34 ∷ 59 ∷ 10 ∷ text_then (attribute_atoms (codes "IDCODE_REGISTER") entity 10) (32 ∷ 32 ∷ 32 ∷ 32 ∷ 34 ∷ t))
    (seven (bits_text 4 (code / 2 ^ 28)) (bits_text 16 (code / 2 ^ 12)) (bits_text 11 (code / 2)) (bits_text 1 code) and_string tail
    ∙ ap (λ (t : List ℕ). bits_text 4 (code / 2 ^ 28) ++ (and_string ++ (bits_text 16 (code / 2 ^ 12) ++ (and_string ++ (bits_text 11 (code / 2) ++ (and_string ++ (bits_text 1 code ++ t))))))) is)
  where
    seven : (a b c d m r : List ℕ) → ((((((a ++ m) ++ b) ++ m) ++ c) ++ m) ++ d) ++ r ≡ a ++ (m ++ (b ++ (m ++ (c ++ (m ++ (d ++ r))))))
    seven a b c d m r = simp append_assoc

user_then : (entity : List ℕ) (code : Option ℕ) (tail rest : List ℕ) → tail ≡ 34 ∷ text_then line_end rest → usercode_text entity code ++ tail ≡ 34 ∷ text_then line_end (text_then (usercode_atoms entity code) rest)
unfolding usercode_text
user_then entity None tail rest is = is
user_then entity (Some code) tail rest is =
    append_assoc (attribute_text (codes "\";\n") (codes "USERCODE_REGISTER") entity (codes "\n    \"")) (bits_text 32 code) tail
    ∙ ap (λ (t : List ℕ). attribute_text (codes "\";\n") (codes "USERCODE_REGISTER") entity (codes "\n    \"") ++ (bits_text 32 code ++ t)) is
    ∙ listed_then (codes "\";\n") (codes "USERCODE_REGISTER") entity (bits_text 32 code) (user_strings code) rest refl

clock_then : (name clock : List ℕ) (at : Stop) (rest : List ℕ) → scan_clock_text name clock (stop_word at) ++ rest ≡ text_then (clock_atoms name clock at) rest
unfolding scan_clock_text
clock_then name clock at rest = pieces_then (codes "  attribute TAP_SCAN_CLOCK of " ∷ name ∷ codes " : signal is (" ∷ clock ∷ codes ", " ∷ stop_word at ∷ codes ");\n" ∷ []) rest

scans_then : (tdi tms tdo trst rest : List ℕ) → scan_in_text tdi ++ (scan_mode_text tms ++ (scan_out_text tdo ++ (scan_reset_text trst ++ rest)))
    ≡ 34 ∷ text_then line_end (text_then (tap_atoms (codes "TAP_SCAN_IN") tdi) (text_then (tap_atoms (codes "TAP_SCAN_MODE") tms) (text_then (tap_atoms (codes "TAP_SCAN_OUT") tdo) (text_then (tap_atoms (codes "TAP_SCAN_RESET") trst) rest))))
unfolding scan_in_text scan_mode_text scan_out_text scan_reset_text
scans_then tdi tms tdo trst rest =
    pieces_then (codes "\";\n  attribute TAP_SCAN_IN of " ∷ tdi ∷ codes " : signal is true;\n" ∷ []) _
    ∙ ap (λ (t : List ℕ). 34 ∷ text_then line_end (text_then (tap_atoms (codes "TAP_SCAN_IN") tdi) t)) (
    pieces_then (codes "  attribute TAP_SCAN_MODE of " ∷ tms ∷ codes " : signal is true;\n" ∷ []) _
    ∙ ap (λ (t : List ℕ). text_then (tap_atoms (codes "TAP_SCAN_MODE") tms) t) (
    pieces_then (codes "  attribute TAP_SCAN_OUT of " ∷ tdo ∷ codes " : signal is true;\n" ∷ []) _
    ∙ ap (λ (t : List ℕ). text_then (tap_atoms (codes "TAP_SCAN_OUT") tdo) t) (
    pieces_then (codes "  attribute TAP_SCAN_RESET of " ∷ trst ∷ codes " : signal is true;\n" ∷ []) rest)))

entity_then : (entity name rest : List ℕ) → entity_text entity name ++ rest ≡ text_then (entity_atoms entity) (text_then (generic_atoms name) (text_then port_open rest))
unfolding entity_text
entity_then entity name rest = pieces_then (codes "entity " ∷ entity ∷ codes " is\n  generic (PHYSICAL_PIN_MAP : string := \"" ∷ name ∷ codes "\");\n  port (\n" ∷ []) rest

conformance_then : (entity name rest : List ℕ) → conformance_text entity name ++ rest
    ≡ text_then port_close (text_then use_atoms (text_then (conformance_atoms entity) (text_then (pin_map_atoms entity) (text_then (constant_open name) (32 ∷ 32 ∷ 32 ∷ 32 ∷ 34 ∷ rest)))))
unfolding conformance_text
conformance_then entity name rest = pieces_then (
    codes "\n  );\n  use STD_1149_1_2001.all;\n  attribute COMPONENT_CONFORMANCE of " ∷ entity ∷ codes " : entity is \"STD_1149_1_2001\";\n  attribute PIN_MAP of "
    ∷ entity ∷ codes " : entity is PHYSICAL_PIN_MAP;\n  constant " ∷ name ∷ codes " : PIN_MAP_STRING :=\n    \"" ∷ []) rest

end_then : (entity : List ℕ) → pieces (codes "\";\nend " ∷ entity ∷ codes ";\n" ∷ []) ≡ 34 ∷ text_then line_end (text_then (end_atoms entity) [])
end_then entity = sym (append-nil (pieces (codes "\";\nend " ∷ entity ∷ codes ";\n" ∷ []))) ∙ pieces_then (codes "\";\nend " ∷ entity ∷ codes ";\n" ∷ []) []

-- The whole text.

ten : (a b c d e f g h i j r : List ℕ) → (((((((((a ++ b) ++ c) ++ d) ++ e) ++ f) ++ g) ++ h) ++ i) ++ j) ++ r ≡ a ++ (b ++ (c ++ (d ++ (e ++ (f ++ (g ++ (h ++ (i ++ (j ++ r)))))))))
ten a b c d e f g h i j r = simp append_assoc

some_cells : (ports : List DevPort) (cells : List CellRow) → is_filled (row_entries ports 0 cells) ≡ true → is_filled (enumerate_from 0 cells) ≡ true
some_cells ports [] h = absurd (cc)
some_cells ports (c ∷ cs) h = refl

-- what stands behind each section
abbrev pub behind16 : Device → List ℕ
behind16 d = text_then (end_atoms d.entity) []

abbrev pub behind15 : Device → List ℕ
behind15 d = text_then (listed_atoms (codes "BOUNDARY_REGISTER") d.entity (rebuilt_file d).boundary.strings) (behind16 d)

abbrev pub behind14 : Device → List ℕ
behind14 d = text_then (integer_atoms (codes "BOUNDARY_LENGTH") d.entity (length d.cells)) (behind15 d)

-- with these strings of access
abbrev pub behind13 : Device → List (List ℕ) → List ℕ
behind13 d access = text_then (listed_atoms (codes "REGISTER_ACCESS") d.entity access) (behind14 d)

abbrev pub behind12 : Device → List (List ℕ) → List ℕ
behind12 d access = text_then (ident_atoms d.entity d.idcode d.usercode) (behind13 d access)

abbrev pub behind11 : Device → List (List ℕ) → List ℕ
behind11 d access = text_then (capture_atoms d.entity (pattern_text d.capture)) (behind12 d access)

-- and these of opcodes
abbrev pub behind10 : Device → List (List ℕ) → List (List ℕ) → List ℕ
behind10 d opcodes access = text_then (listed_atoms (codes "INSTRUCTION_OPCODE") d.entity opcodes) (behind11 d access)

abbrev pub behind9 : Device → List (List ℕ) → List (List ℕ) → List ℕ
behind9 d opcodes access = text_then (integer_atoms (codes "INSTRUCTION_LENGTH") d.entity d.length) (behind10 d opcodes access)

abbrev pub behind8 : Device → List (List ℕ) → List (List ℕ) → List ℕ
behind8 d opcodes access = text_then (clock_atoms (rebuilt_file d).tap.tck d.clock d.stop) (behind9 d opcodes access)

abbrev pub behind7 : Device → List (List ℕ) → List (List ℕ) → List ℕ
behind7 d opcodes access = text_then (tap_atoms (codes "TAP_SCAN_IN") (rebuilt_file d).tap.tdi) (text_then (tap_atoms (codes "TAP_SCAN_MODE") (rebuilt_file d).tap.tms) (text_then (tap_atoms (codes "TAP_SCAN_OUT") (rebuilt_file d).tap.tdo) (text_then (tap_atoms (codes "TAP_SCAN_RESET") (rebuilt_file d).tap.trst) (behind8 d opcodes access))))

abbrev pub end_text : Device → List ℕ
end_text d = pieces (codes "\";\nend " ∷ d.entity ∷ codes ";\n" ∷ [])

pub boundary_then : (d : Device) → GoodDevice d → boundary_text d ++ end_text d ≡ 41 ∷ 34 ∷ text_then line_end (behind14 d)
unfolding boundary_text boundary_length_text boundary_rows_text rows_text
boundary_then d g =
    let rows : attribute_text (codes ";\n") (codes "BOUNDARY_REGISTER") d.entity (codes "\n    \"") ++ (separated_text next_string (numbered_text d.ports) (enumerate_from 0 d.cells) ++ end_text d) ≡ text_then line_end (behind15 d) =
    ap (λ (t : List ℕ). attribute_text (codes ";\n") (codes "BOUNDARY_REGISTER") d.entity (codes "\n    \"") ++ (separated_text next_string (numbered_text d.ports) (enumerate_from 0 d.cells) ++ t)) (end_then d.entity)
    ∙ listed_then (codes ";\n") (codes "BOUNDARY_REGISTER") d.entity (separated_text next_string (numbered_text d.ports) (enumerate_from 0 d.cells)) (rebuilt_file d).boundary.strings (behind16 d)
    (strings_of_entries (numbered_text d.ports) row_bytes (enumerate_from 0 d.cells) (row_entries d.ports 0 d.cells) (text_then line_end (behind16 d)) (some_cells d.ports d.cells g.some_row) (rows_same d.ports 0 d.cells)) in
    four (attribute_text (codes ")\";\n") (codes "BOUNDARY_LENGTH") d.entity (codes " ")) (decimal (length d.cells)) (attribute_text (codes ";\n") (codes "BOUNDARY_REGISTER") d.entity (codes "\n    \"")) (separated_text next_string (numbered_text d.ports) (enumerate_from 0 d.cells)) (end_text d)
    ∙ ap (λ (t : List ℕ). attribute_text (codes ")\";\n") (codes "BOUNDARY_LENGTH") d.entity (codes " ") ++ (decimal (length d.cells) ++ t)) rows
    ∙ integer_then (codes ")\";\n") (codes "BOUNDARY_LENGTH") d.entity (length d.cells) (behind15 d)
  where
    four : (a b c e r : List ℕ) → ((a ++ b) ++ (c ++ e)) ++ r ≡ a ++ (b ++ (c ++ (e ++ r)))
    four a b c e r = simp append_assoc

-- from the length of instructions to behind the registers, by what stands between the quotes
abbrev pub registers_by : Device → List ℕ → List ℕ → List ℕ → List ℕ
registers_by d opcodes access rest =
    attribute_text [] (codes "INSTRUCTION_LENGTH") d.entity (codes " ") ++ (decimal d.length ++ (attribute_text (codes ";\n") (codes "INSTRUCTION_OPCODE") d.entity (codes "\n    \"") ++ (opcodes
    ++ (attribute_text (codes "\";\n") (codes "INSTRUCTION_CAPTURE") d.entity (codes " \"") ++ (pattern_text d.capture ++ (idcode_text d.entity d.idcode ++ (usercode_text d.entity d.usercode
    ++ (attribute_text (codes "\";\n") (codes "REGISTER_ACCESS") d.entity (codes "\n    \"") ++ (access ++ rest)))))))))

pub registers_by_then : (d : Device) (opcodes access : List (List ℕ)) (codes_text access_body : List ℕ) → ((rest : List ℕ) → 34 ∷ (codes_text ++ (34 ∷ rest)) ≡ text_then (strings_atoms opcodes) rest)
    → ((rest : List ℕ) → 34 ∷ (access_body ++ (41 ∷ 34 ∷ rest)) ≡ text_then (strings_atoms access) rest) → registers_by d codes_text access_body (41 ∷ 34 ∷ text_then line_end (behind14 d)) ≡ behind9 d opcodes access
registers_by_then d opcodes access codes_text access_body codes_are access_is =
    let entries : attribute_text (codes "\";\n") (codes "REGISTER_ACCESS") d.entity (codes "\n    \"") ++ (access_body ++ (41 ∷ 34 ∷ text_then line_end (behind14 d))) ≡ 34 ∷ text_then line_end (behind13 d access) =
    attribute_then (codes "\";\n") (codes "REGISTER_ACCESS") d.entity 10 (32 ∷ 32 ∷ 32 ∷ 32 ∷ 34 ∷ []) (access_body ++ (41 ∷ 34 ∷ text_then line_end (behind14 d)))
    ∙ ap (λ (t : List ℕ). 34 ∷ 59 ∷ 10 ∷ text_then (attribute_atoms (codes "REGISTER_ACCESS") d.entity 10) (32 ∷ 32 ∷ 32 ∷ 32 ∷ t)) (access_is (text_then line_end (behind14 d)) ∙ sym (text_then-append (strings_atoms access) line_end (behind14 d))) in
    let user = user_then d.entity d.usercode _ (behind13 d access) entries in
    let code = code_then d.entity d.idcode _ (text_then (usercode_atoms d.entity d.usercode) (behind13 d access)) user
    ∙ ap (λ (t : List ℕ). 34 ∷ text_then line_end t) (sym (text_then-append (idcode_atoms d.entity d.idcode) (usercode_atoms d.entity d.usercode) (behind13 d access))) in
    let capture : attribute_text (codes "\";\n") (codes "INSTRUCTION_CAPTURE") d.entity (codes " \"") ++ (pattern_text d.capture ++ (34 ∷ text_then line_end (behind12 d access))) ≡ 34 ∷ text_then line_end (behind11 d access) =
    attribute_then (codes "\";\n") (codes "INSTRUCTION_CAPTURE") d.entity 32 (34 ∷ []) (pattern_text d.capture ++ (34 ∷ text_then line_end (behind12 d access))) in
    let list : attribute_text (codes ";\n") (codes "INSTRUCTION_OPCODE") d.entity (codes "\n    \"") ++ (codes_text ++ (34 ∷ text_then line_end (behind11 d access))) ≡ text_then line_end (behind10 d opcodes access) =
    listed_then (codes ";\n") (codes "INSTRUCTION_OPCODE") d.entity codes_text opcodes (behind11 d access) (codes_are (text_then line_end (behind11 d access))) in
    ap (λ (t : List ℕ). attribute_text [] (codes "INSTRUCTION_LENGTH") d.entity (codes " ") ++ (decimal d.length ++ (attribute_text (codes ";\n") (codes "INSTRUCTION_OPCODE") d.entity (codes "\n    \"") ++ (codes_text ++ (attribute_text (codes "\";\n") (codes "INSTRUCTION_CAPTURE") d.entity (codes " \"") ++ (pattern_text d.capture ++ t)))))) code
    ∙ ap (λ (t : List ℕ). attribute_text [] (codes "INSTRUCTION_LENGTH") d.entity (codes " ") ++ (decimal d.length ++ (attribute_text (codes ";\n") (codes "INSTRUCTION_OPCODE") d.entity (codes "\n    \"") ++ (codes_text ++ t)))) capture
    ∙ ap (λ (t : List ℕ). attribute_text [] (codes "INSTRUCTION_LENGTH") d.entity (codes " ") ++ (decimal d.length ++ t)) list
    ∙ integer_then [] (codes "INSTRUCTION_LENGTH") d.entity d.length (behind10 d opcodes access)

registers_then : (d : Device) → GoodDevice d → registers_text d ++ (41 ∷ 34 ∷ text_then line_end (behind14 d)) ≡ behind9 d (opcode_strings d) (access_strings d)
unfolding registers_text opcodes_text
registers_then d g =
    ten (attribute_text [] (codes "INSTRUCTION_LENGTH") d.entity (codes " ")) (decimal d.length) (attribute_text (codes ";\n") (codes "INSTRUCTION_OPCODE") d.entity (codes "\n    \"")) (separated_text next_string opcode_text d.opcodes)
    (attribute_text (codes "\";\n") (codes "INSTRUCTION_CAPTURE") d.entity (codes " \"")) (pattern_text d.capture) (idcode_text d.entity d.idcode) (usercode_text d.entity d.usercode) (attribute_text (codes "\";\n") (codes "REGISTER_ACCESS") d.entity (codes "\n    \"")) (access_text d.opcodes) (41 ∷ 34 ∷ text_then line_end (behind14 d))
    ∙ registers_by_then d (opcode_strings d) (access_strings d) (separated_text next_string opcode_text d.opcodes) (access_text d.opcodes)
    (λ rest. strings_of_entries opcode_text opcode_bytes d.opcodes (map opcode_entry d.opcodes) rest (opcodes_filled d.opcodes g.all) (opcodes_same d.opcodes)) (access_then d.opcodes)

pub tap_then : (d : Device) (opcodes access : List (List ℕ)) → tap_text d ++ behind9 d opcodes access ≡ 34 ∷ text_then line_end (behind7 d opcodes access)
unfolding tap_text
tap_then d opcodes access =
    five (scan_in_text (port_name d.ports d.tdi)) (scan_mode_text (port_name d.ports d.tms)) (scan_out_text (port_name d.ports d.tdo)) (scan_reset_text (port_name d.ports d.trst)) (scan_clock_text (port_name d.ports d.tck) d.clock (stop_word d.stop)) (behind9 d opcodes access)
    ∙ ap (λ (t : List ℕ). scan_in_text (port_name d.ports d.tdi) ++ (scan_mode_text (port_name d.ports d.tms) ++ (scan_out_text (port_name d.ports d.tdo) ++ (scan_reset_text (port_name d.ports d.trst) ++ t)))) (clock_then (port_name d.ports d.tck) d.clock d.stop (behind9 d opcodes access))
    ∙ scans_then (port_name d.ports d.tdi) (port_name d.ports d.tms) (port_name d.ports d.tdo) (port_name d.ports d.trst) (behind8 d opcodes access)

pub head_then : (d : Device) (opcodes access : List (List ℕ)) → GoodDevice d → head_text d ++ (34 ∷ text_then line_end (behind7 d opcodes access)) ≡ chain (section_atoms_by d opcodes access)
unfolding head_text ports_text pin_map_text
head_then d opcodes access g =
    let open_constant = λ (t : List ℕ). text_then use_atoms (text_then (conformance_atoms d.entity) (text_then (pin_map_atoms d.entity) (text_then (constant_open d.«package») (32 ∷ 32 ∷ 32 ∷ 32 ∷ t)))) in
    let pins : 34 ∷ (separated_text next_string pin_entry_text d.ports ++ (34 ∷ text_then line_end (behind7 d opcodes access))) ≡ text_then (strings_atoms (rebuilt_file d).pin_map ++ line_end) (behind7 d opcodes access) =
    strings_of_entries pin_entry_text pin_entry_bytes d.ports (map entry_of d.ports) (text_then line_end (behind7 d opcodes access)) g.some_port (pins_same d.ports g.ports) ∙ sym (text_then-append (strings_atoms (rebuilt_file d).pin_map) line_end (behind7 d opcodes access)) in
    four (entity_text d.entity d.«package») (separated_text (codes ";\n") port_text d.ports) (conformance_text d.entity d.«package») (separated_text next_string pin_entry_text d.ports) (34 ∷ text_then line_end (behind7 d opcodes access))
    ∙ ap (λ (t : List ℕ). entity_text d.entity d.«package» ++ (separated_text (codes ";\n") port_text d.ports ++ t)) (conformance_then d.entity d.«package» (separated_text next_string pin_entry_text d.ports ++ (34 ∷ text_then line_end (behind7 d opcodes access))) ∙ ap (λ (t : List ℕ). text_then port_close (open_constant t)) pins)
    ∙ ap (λ (t : List ℕ). entity_text d.entity d.«package» ++ t) (ports_then d.ports (open_constant (text_then (strings_atoms (rebuilt_file d).pin_map ++ line_end) (behind7 d opcodes access))) g.some_port)
    ∙ entity_then d.entity d.«package» (text_then (ports_atoms d.ports) (open_constant (text_then (strings_atoms (rebuilt_file d).pin_map ++ line_end) (behind7 d opcodes access))))
  where
    four : (a b c e r : List ℕ) → (((a ++ b) ++ c) ++ e) ++ r ≡ a ++ (b ++ (c ++ (e ++ r)))
    four a b c e r = simp append_assoc

-- The canonical text is that of the sections' atoms.
pub canonical_text : (d : Device) → GoodDevice d → canonical_device d ≡ chain (section_atoms d)
unfolding canonical_device
canonical_text d g =
    four (head_text d) (tap_text d) (registers_text d) (boundary_text d) (end_text d)
    ∙ ap (λ (t : List ℕ). head_text d ++ (tap_text d ++ (registers_text d ++ t))) (boundary_then d g)
    ∙ ap (λ (t : List ℕ). head_text d ++ (tap_text d ++ t)) (registers_then d g)
    ∙ ap (λ (t : List ℕ). head_text d ++ t) (tap_then d (opcode_strings d) (access_strings d))
    ∙ head_then d (opcode_strings d) (access_strings d) g
  where
    four : (a b c e r : List ℕ) → (((a ++ b) ++ c) ++ e) ++ r ≡ a ++ (b ++ (c ++ (e ++ r)))
    four a b c e r = simp append_assoc
