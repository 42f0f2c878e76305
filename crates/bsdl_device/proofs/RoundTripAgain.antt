-- A device's canonical file and contents, where a file and contents that break no rule describe the device.
use Rattle.std.proofs.Common.{◌≡◌, ℕ, List, [], ◌∷◌, ◌++◌, Bool, false, Option, Some, None, map, length, refl, ap, ◌∙◌, eq-eqb}
use Rattle.std.proofs.lemmas.List.{length-map}
use Rattle.std.specs.Prelude.{◌==◌, ◌||◌, ◌&&◌, not, nat_lt}
use Rattle.std.specs.List.{list_any, filter_map}
use Rattle.std.specs.Option.{option_map, option_map_or}
use Rattle.list_laws.proofs.Tests.{or_first, or_second, neither}
use Rattle.cell_library.specs.declared.codes.Instr.{Instr}
use Rattle.cell_library.specs.declared.codes.Instr.TheVariants as instr
use Rattle.cell_library.specs.declared.codes.Function.TheVariants as function
use Rattle.cell_library.specs.declared.codes.Opcode.{Opcode}
use Rattle.bsdl_lexicon.specs.Names.{same_name, is_same_name}
use Rattle.bsdl_device.specs.declared.values.DevPort.{DevPort}
use Rattle.bsdl_device.specs.declared.values.CellRow.{CellRow}
use Rattle.bsdl_device.specs.declared.values.Device.{Device}
use Rattle.bsdl_device.specs.declared.written.DeclaredPort.{DeclaredPort}
use Rattle.bsdl_device.specs.declared.written.StringAttribute.{StringAttribute}
use Rattle.bsdl_device.specs.declared.written.TapNames.{TapNames}
use Rattle.bsdl_device.specs.declared.written.File.{File}
use Rattle.bsdl_device.specs.declared.entries.OpcodeEntry.{OpcodeEntry}
use Rattle.bsdl_device.specs.declared.entries.PinEntry.{PinEntry}
use Rattle.bsdl_device.specs.declared.entries.RowEntry.{RowEntry}
use Rattle.bsdl_device.specs.declared.entries.Contents.{Contents}
use Rattle.bsdl_device.specs.Ports.{declared_ports, port_names, port_bits}
use Rattle.bsdl_device.specs.Checks.{any_pair, is_repeated, port_named_twice, port_named_as_unit, has_too_many_bits, names_other_entity, names_other_package, name_fails, port_not_mapped_once, entry_misfits, all_pins, pin_map_fails, tap_names, tap_port_misfits, tap_fails, opcode_fails, idcode_fails, usercode_fails, code_is_barred, boundary_fails, opcode_is_unknown, opcode_named_twice, lacks_instruction, has_other_length, bypass_is_not_ones, opcodes_clash, numbers_misfit, has_instruction}
use Rattle.bsdl_device.specs.RowRules.{is_function, row_fails, row_misfits, bit_not_in_one_row, system_bits, rows_disagree, highz_fails}
use Rattle.bsdl_device.specs.Denoted.{device_of, port_of, cell_of, place_of, ordered_rows, opcode_of}
use Rattle.bsdl_device.proofs.Totals.{Shuffled, any_shuffled}
use Rattle.bsdl_device.proofs.RoundTripNames.{same_self}
use Rattle.bsdl_device.proofs.Lookups.{place_of_same}
use Rattle.bsdl_device.proofs.Rebuilt.{code_strings, user_strings, of_entity, rebuilt_file, rebuilt_contents, as_declared, rebuilt_ports, entry_of, opcode_entry, tap_of}
use Rattle.bsdl_device.proofs.PinMaps.{MapsPorts, maps_again, ports_again, entry_again}
use Rattle.bsdl_device.proofs.Taps.{SameTap, spelled_tap, tap_again, same_turn, tap_repeats_same, tap_misfits_same, system_bits_same}
use Rattle.bsdl_device.proofs.OpcodeFacts as opcodes
use Rattle.bsdl_device.proofs.Access.{HasAll, has_all, registers_keep}
use Rattle.bsdl_device.proofs.Numbered.{CountedRows, InOrder, ordered_shuffled, ordered_in_order, ordered_again, counted_again}
use Rattle.bsdl_device.proofs.Rows.{respelled_row, is_known, known_from, rows_respelled, numbered_respelled, cells_respelled, rows_same, bits_same, agree_again, outputs_same}
use Rattle.bsdl_device.proofs.Means.{Keeps}

-- The parts of the canonical contents.

-- the ports that the device has are those that the file declares
declared_same : (entries : List PinEntry) (ports : List DeclaredPort) → map as_declared (map (port_of entries) ports) ≡ ports
declared_same entries [] = refl
declared_same entries (p ∷ ps) = ap (λ (l : List DeclaredPort). p ∷ l) (declared_same entries ps)

entries_same : (entries : List PinEntry) (ports : List DeclaredPort) → map entry_of (map (port_of entries) ports) ≡ map (entry_again entries) ports
entries_same entries [] = refl
entries_same entries (p ∷ ps) = ap (λ (l : List PinEntry). entry_again entries p ∷ l) (entries_same entries ps)

-- what is known of the parts
pub record Parts (f : File) (c : Contents) : Type 0 where
  pub ports : declared_ports (rebuilt_file (device_of f c)) ≡ declared_ports f
  pub pin_map : (rebuilt_contents (device_of f c)).pin_map ≡ map (entry_again c.pin_map) (declared_ports f)
  pub maps : MapsPorts (declared_ports f) c.pin_map
  pub tap : SameTap (tap_of (device_of f c)) f.tap
  pub opcodes : (rebuilt_contents (device_of f c)).opcodes ≡ map opcodes.respelled c.opcodes
  pub all : HasAll (device_of f c).opcodes
  pub counted : CountedRows f.boundary_length.value c.rows
  pub shuffled : Shuffled (ordered_rows f.boundary_length.value c.rows) c.rows
  pub order : InOrder 0 f.boundary_length.value (ordered_rows f.boundary_length.value c.rows)
  pub rows : (rebuilt_contents (device_of f c)).rows ≡ map (respelled_row (declared_ports f)) (ordered_rows f.boundary_length.value c.rows)
  pub many : length (device_of f c).cells ≡ f.boundary_length.value
  pub known : list_any (λ r. not (is_known (declared_ports f) r)) (ordered_rows f.boundary_length.value c.rows) ≡ false

six : (a b c d e f : Bool) → (a || b || c || d || e || f) ≡ false → (a ≡ false) × (c ≡ false)
six a b c d e f h =
    let three : (a || b || c) ≡ false = or_first (a || b || c) d (or_first (a || b || c || d) e (or_first (a || b || c || d || e) f h)) in
    (or_first a b (or_first (a || b) c three), or_second (a || b) c three)

pub parts : (f : File) (c : Contents) → Keeps f c → Parts f c
parts f c k =
    let ports = declared_ports f in
    let count = f.boundary_length.value in
    let e4 = or_first (port_named_twice f || port_named_as_unit f || has_too_many_bits f || names_other_entity f) (names_other_package f) k.name in
    let e3 = or_first (port_named_twice f || port_named_as_unit f || has_too_many_bits f) (names_other_entity f) e4 in
    let twice : port_named_twice f ≡ false = or_first (port_named_twice f) (port_named_as_unit f) (or_first (port_named_twice f || port_named_as_unit f) (has_too_many_bits f) e3) in
    let mapped = or_first (port_not_mapped_once ports c.pin_map || list_any (entry_misfits ports) c.pin_map) (is_repeated (all_pins c.pin_map)) k.pin_map in
    let known = six (list_any opcode_is_unknown c.opcodes) (opcode_named_twice c.opcodes) (lacks_instruction c.opcodes) (list_any (λ (o : OpcodeEntry). has_other_length f.length.value o.bits) c.opcodes) (list_any bypass_is_not_ones c.opcodes) (any_pair opcodes_clash c.opcodes) k.opcode in
    let respelled : map opcode_entry (filter_map opcode_of c.opcodes) ≡ map opcodes.respelled c.opcodes = opcodes.opcodes_respelled c.opcodes known.0 in
    let lacks : lacks_instruction (map opcode_entry (filter_map opcode_of c.opcodes)) ≡ false = ap lacks_instruction respelled ∙ opcodes.lacks_same c.opcodes ∙ known.1 in
    let numbers : numbers_misfit count c.rows ≡ false = or_second (count == 0 || not (length c.rows == count)) (numbers_misfit count c.rows) k.boundary in
    let below = list_any (λ (r : RowEntry). not (nat_lt r.number count)) c.rows in
    let pairs = any_pair (λ (r : RowEntry) (s : RowEntry). r.number == s.number) c.rows in
    let counted : CountedRows count c.rows = record { below = or_first below pairs (or_first (below || pairs) _ numbers); apart = or_second below pairs (or_first (below || pairs) _ numbers); each = or_second (below || pairs) _ numbers } in
    let shuffled = ordered_shuffled count c.rows counted in
    let order = ordered_in_order count c.rows counted in
    let misfits : list_any (row_misfits ports f.tap c.rows) c.rows ≡ false = or_first (list_any (row_misfits ports f.tap c.rows) c.rows) (list_any (bit_not_in_one_row c.rows) (system_bits ports f.tap))
    (or_first (list_any (row_misfits ports f.tap c.rows) c.rows || list_any (bit_not_in_one_row c.rows) (system_bits ports f.tap)) (any_pair rows_disagree c.rows)
    (or_first (list_any (row_misfits ports f.tap c.rows) c.rows || list_any (bit_not_in_one_row c.rows) (system_bits ports f.tap) || any_pair rows_disagree c.rows) (highz_fails c) k.row)) in
    let rows_known : list_any (λ r. not (is_known ports r)) (ordered_rows count c.rows) ≡ false = any_shuffled (λ r. not (is_known ports r)) (ordered_rows count c.rows) c.rows shuffled (known_from ports f.tap c.rows c.rows misfits) in
    record {
      ports = rebuilt_ports (device_of f c) ∙ declared_same c.pin_map ports;
      pin_map = entries_same c.pin_map ports;
      maps = record { distinct = twice; once = or_first (port_not_mapped_once ports c.pin_map) _ mapped; fit = or_second (port_not_mapped_once ports c.pin_map) _ mapped; apart = or_second _ (is_repeated (all_pins c.pin_map)) k.pin_map };
      tap = same_turn f.tap (spelled_tap c.pin_map ports f.tap) (tap_again c.pin_map ports f.tap (or_first (tap_port_misfits ports f.tap) (is_repeated (tap_names f.tap)) k.tap));
      opcodes = respelled;
      all = has_all (filter_map opcode_of c.opcodes) lacks;
      counted = counted;
      shuffled = shuffled;
      order = order;
      rows = rows_respelled c.pin_map ports 0 (ordered_rows count c.rows) order.numbered rows_known;
      many = length-map (ordered_rows count c.rows) (cell_of ports) ∙ order.many;
      known = rows_known;
    }

-- The rules.

-- the entities that the canonical file names are the device's
abbrev pub entities : List ℕ → Option ℕ → Option ℕ → List (List ℕ)
entities entity code user =
    entity ∷ entity ∷ entity ∷ entity ∷ entity ∷ entity ∷ entity ∷ entity ∷ entity
    ∷ (option_map_or (λ (a : StringAttribute). a.entity ∷ []) (option_map (λ n. of_entity entity (code_strings n)) code) []
    ++ option_map_or (λ (a : StringAttribute). a.entity ∷ []) (option_map (λ n. of_entity entity (user_strings n)) user) [])

pub entity_named : (entity : List ℕ) (code user : Option ℕ) → list_any (λ name. not (is_same_name name entity)) (entities entity code user) ≡ false
entity_named entity code user = by code user (ap not (same_self entity))
  where
    by : (o p : Option ℕ) → not (is_same_name entity entity) ≡ false → list_any (λ name. not (is_same_name name entity)) (entities entity o p) ≡ false
    by None None h = rw h refl
    by None (Some n) h = rw h refl
    by (Some n) None h = rw h refl
    by (Some n) (Some m) h = rw h refl

name_again : (f : File) (c : Contents) → Keeps f c → Parts f c → name_fails (rebuilt_file (device_of f c)) ≡ false
name_again f c k p =
    let e4 = or_first (port_named_twice f || port_named_as_unit f || has_too_many_bits f || names_other_entity f) (names_other_package f) k.name in
    let e3 = or_first (port_named_twice f || port_named_as_unit f || has_too_many_bits f) (names_other_entity f) e4 in
    neither (port_named_twice (rebuilt_file (device_of f c)) || port_named_as_unit (rebuilt_file (device_of f c)) || has_too_many_bits (rebuilt_file (device_of f c)) || names_other_entity (rebuilt_file (device_of f c))) (names_other_package (rebuilt_file (device_of f c)))
    (neither (port_named_twice (rebuilt_file (device_of f c)) || port_named_as_unit (rebuilt_file (device_of f c)) || has_too_many_bits (rebuilt_file (device_of f c))) (names_other_entity (rebuilt_file (device_of f c)))
    (ap (λ (ports : List DeclaredPort). is_repeated (port_names ports) || list_any (λ name. is_same_name name f.entity || is_same_name name f.«package») (port_names ports) || nat_lt 4096 (port_bits ports)) p.ports ∙ e3)
    (entity_named f.entity c.idcode c.usercode))
    (ap not (same_self f.«package»))

pin_map_again : (f : File) (c : Contents) → Parts f c → pin_map_fails (rebuilt_file (device_of f c)) (rebuilt_contents (device_of f c)) ≡ false
pin_map_again f c p =
    let m = maps_again (declared_ports f) c.pin_map p.maps in
    ap (λ (ports : List DeclaredPort). port_not_mapped_once ports (map entry_of (device_of f c).ports) || list_any (entry_misfits ports) (map entry_of (device_of f c).ports) || is_repeated (all_pins (map entry_of (device_of f c).ports))) p.ports
    ∙ ap (λ (entries : List PinEntry). port_not_mapped_once (declared_ports f) entries || list_any (entry_misfits (declared_ports f)) entries || is_repeated (all_pins entries)) p.pin_map
    ∙ neither (port_not_mapped_once (declared_ports f) (map (entry_again c.pin_map) (declared_ports f)) || list_any (entry_misfits (declared_ports f)) (map (entry_again c.pin_map) (declared_ports f))) _ (neither (port_not_mapped_once (declared_ports f) (map (entry_again c.pin_map) (declared_ports f))) _ m.once m.fit) m.apart

tap_keeps : (f : File) (c : Contents) → Keeps f c → Parts f c → tap_fails (rebuilt_file (device_of f c)) ≡ false
tap_keeps f c k p =
    ap (λ (ports : List DeclaredPort). tap_port_misfits ports (tap_of (device_of f c)) || is_repeated (tap_names (tap_of (device_of f c)))) p.ports
    ∙ neither (tap_port_misfits (declared_ports f) (tap_of (device_of f c))) (is_repeated (tap_names (tap_of (device_of f c))))
    (tap_misfits_same (declared_ports f) (tap_of (device_of f c)) f.tap p.tap ∙ or_first (tap_port_misfits (declared_ports f) f.tap) (is_repeated (tap_names f.tap)) k.tap)
    (tap_repeats_same (tap_of (device_of f c)) f.tap p.tap ∙ or_second (tap_port_misfits (declared_ports f) f.tap) (is_repeated (tap_names f.tap)) k.tap)

six_same : (a b c d e f a2 b2 c2 d2 e2 f2 : Bool) → a ≡ a2 → b ≡ b2 → c ≡ c2 → d ≡ d2 → e ≡ e2 → f ≡ f2 → (a || b || c || d || e || f) ≡ (a2 || b2 || c2 || d2 || e2 || f2)
six_same a b c d e f a2 b2 c2 d2 e2 f2 ha hb hc hd he hf = cc

opcode_again : (f : File) (c : Contents) → Keeps f c → Parts f c → opcode_fails (rebuilt_file (device_of f c)) (rebuilt_contents (device_of f c)) ≡ false
opcode_again f c k p =
    ap (λ (os : List OpcodeEntry). list_any opcode_is_unknown os || opcode_named_twice os || lacks_instruction os || list_any (λ (o : OpcodeEntry). has_other_length f.length.value o.bits) os || list_any bypass_is_not_ones os || any_pair opcodes_clash os) p.opcodes
    ∙ six_same _ _ _ _ _ _ (list_any opcode_is_unknown c.opcodes) (opcode_named_twice c.opcodes) (lacks_instruction c.opcodes) (list_any (λ (o : OpcodeEntry). has_other_length f.length.value o.bits) c.opcodes) (list_any bypass_is_not_ones c.opcodes) (any_pair opcodes_clash c.opcodes)
    (opcodes.unknown_same c.opcodes) (opcodes.twice_same c.opcodes) (opcodes.lacks_same c.opcodes) (opcodes.length_same f.length.value c.opcodes) (opcodes.ones_same c.opcodes) (opcodes.clash_same c.opcodes)
    ∙ k.opcode

-- whether there is an instruction
instruction_again : (f : File) (c : Contents) → Parts f c → (i : Instr) → has_instruction (map opcode_entry (device_of f c).opcodes) i ≡ has_instruction c.opcodes i
instruction_again f c p i = ap (λ (os : List OpcodeEntry). has_instruction os i) p.opcodes ∙ opcodes.has_same i c.opcodes

idcode_again : (f : File) (c : Contents) → Keeps f c → Parts f c → idcode_fails (rebuilt_contents (device_of f c)) ≡ false
idcode_again f c k p =
    ap (λ (b : Bool). option_map_or (λ _. not b) c.idcode b || option_map_or code_is_barred c.idcode false) (instruction_again f c p instr.Idcode) ∙ k.idcode

usercode_again : (f : File) (c : Contents) → Keeps f c → Parts f c → usercode_fails (rebuilt_contents (device_of f c)) ≡ false
usercode_again f c k p =
    let user = has_instruction c.opcodes instr.Usercode in
    let ident = has_instruction (map opcode_entry (device_of f c).opcodes) instr.Idcode in
    ap (λ (b : Bool). option_map_or (λ _. not b) c.usercode b || (b && not ident)) (instruction_again f c p instr.Usercode)
    ∙ ap (λ (b : Bool). option_map_or (λ _. not user) c.usercode user || (user && not b)) (instruction_again f c p instr.Idcode)
    ∙ k.usercode

boundary_again : (f : File) (c : Contents) → Keeps f c → Parts f c → boundary_fails (rebuilt_file (device_of f c)) (rebuilt_contents (device_of f c)) ≡ false
boundary_again f c k p =
    let count = f.boundary_length.value in
    let rows = map (respelled_row (declared_ports f)) (ordered_rows count c.rows) in
    let order : InOrder 0 count rows = record { numbered = numbered_respelled (declared_ports f) 0 (ordered_rows count c.rows) p.order.numbered; many = length-map (ordered_rows count c.rows) (respelled_row (declared_ports f)) ∙ p.order.many } in
    let counted = counted_again count rows order in
    ap (λ (n : ℕ). n == 0 || not (length (rebuilt_contents (device_of f c)).rows == n) || numbers_misfit n (rebuilt_contents (device_of f c)).rows) p.many
    ∙ ap (λ (rs : List RowEntry). count == 0 || not (length rs == count) || numbers_misfit count rs) p.rows
    ∙ neither (count == 0 || not (length rows == count)) (numbers_misfit count rows)
    (neither (count == 0) (not (length rows == count)) (or_first (count == 0) (not (length c.rows == count)) (or_first (count == 0 || not (length c.rows == count)) (numbers_misfit count c.rows) k.boundary)) (ap not (eq-eqb (length rows) count order.many)))
    (neither (list_any (λ (r : RowEntry). not (nat_lt r.number count)) rows || any_pair (λ (r : RowEntry) (s : RowEntry). r.number == s.number) rows) _ (neither (list_any (λ (r : RowEntry). not (nat_lt r.number count)) rows) _ counted.below counted.apart) counted.each)

four_same : (a b c d a2 b2 d2 : Bool) → a ≡ a2 → b ≡ b2 → c ≡ false → d ≡ d2 → (c2 : Bool) → (a2 || b2 || c2 || d2) ≡ false → (a || b || c || d) ≡ false
four_same a b c d a2 b2 d2 ha hb hc hd c2 h =
    let three : (a2 || b2 || c2) ≡ false = or_first (a2 || b2 || c2) d2 h in
    neither (a || b || c) d (neither (a || b) c (neither a b (ha ∙ or_first a2 b2 (or_first (a2 || b2) c2 three)) (hb ∙ or_second a2 b2 (or_first (a2 || b2) c2 three))) hc) (hd ∙ or_second (a2 || b2 || c2) d2 h)

abbrev outputs : List RowEntry → Bool
outputs rows = list_any (λ (r : RowEntry). is_function function.Output2 r.function) rows

abbrev row_rules : List DeclaredPort → TapNames → List RowEntry → Bool → Bool
row_rules ports tap rows highz = list_any (row_misfits ports tap rows) rows || list_any (bit_not_in_one_row rows) (system_bits ports tap) || any_pair rows_disagree rows || (highz && outputs rows)

row_again : (f : File) (c : Contents) → Keeps f c → Parts f c → row_fails (rebuilt_file (device_of f c)) (rebuilt_contents (device_of f c)) ≡ false
row_again f c k p =
    let ports = declared_ports f in
    let tap = tap_of (device_of f c) in
    let ordered = ordered_rows f.boundary_length.value c.rows in
    let rows = map (respelled_row ports) ordered in
    let others = map opcode_entry (device_of f c).opcodes in
    let disagree : any_pair rows_disagree c.rows ≡ false = or_second (list_any (row_misfits ports f.tap c.rows) c.rows || list_any (bit_not_in_one_row c.rows) (system_bits ports f.tap)) (any_pair rows_disagree c.rows)
    (or_first (list_any (row_misfits ports f.tap c.rows) c.rows || list_any (bit_not_in_one_row c.rows) (system_bits ports f.tap) || any_pair rows_disagree c.rows) (highz_fails c) k.row) in
    let has : has_instruction others instr.Highz ≡ has_instruction c.opcodes instr.Highz = instruction_again f c p instr.Highz in
    ap (λ (ps : List DeclaredPort). row_rules ps tap (rebuilt_contents (device_of f c)).rows (has_instruction others instr.Highz)) p.ports
    ∙ ap (λ (rs : List RowEntry). row_rules ports tap rs (has_instruction others instr.Highz)) p.rows
    ∙ four_same (list_any (row_misfits ports tap rows) rows) (list_any (bit_not_in_one_row rows) (system_bits ports tap)) (any_pair rows_disagree rows) (has_instruction others instr.Highz && outputs rows)
    (list_any (row_misfits ports f.tap c.rows) c.rows) (list_any (bit_not_in_one_row c.rows) (system_bits ports f.tap)) (highz_fails c)
    (rows_same ports tap f.tap p.tap ordered c.rows p.shuffled)
    (ap (list_any (bit_not_in_one_row rows)) (system_bits_same tap f.tap p.tap ports) ∙ bits_same ports ordered c.rows p.shuffled (system_bits ports f.tap))
    (agree_again ports ordered c.rows p.shuffled disagree)
    (ap (λ (b : Bool). b && outputs rows) has ∙ ap (λ (b : Bool). has_instruction c.opcodes instr.Highz && b) (outputs_same ports ordered c.rows p.shuffled))
    (any_pair rows_disagree c.rows) k.row

pub keeps_again : (f : File) (c : Contents) → Keeps f c → Parts f c → Keeps (rebuilt_file (device_of f c)) (rebuilt_contents (device_of f c))
keeps_again f c k p = record {
  name = name_again f c k p;
  pin_map = pin_map_again f c p;
  tap = tap_keeps f c k p;
  length = k.length;
  opcode = opcode_again f c k p;
  capture = k.capture;
  idcode = idcode_again f c k p;
  usercode = usercode_again f c k p;
  register = registers_keep (device_of f c).opcodes p.all;
  boundary = boundary_again f c k p;
  row = row_again f c k p;
}

-- The device.

place_again : (f : File) (c : Contents) → Parts f c → (a b : List ℕ) → same_name a b → place_of (declared_ports (rebuilt_file (device_of f c))) a ≡ place_of (declared_ports f) b
place_again f c p a b same = ap (λ (ports : List DeclaredPort). place_of ports a) p.ports ∙ place_of_same (declared_ports f) a b same

ports_same : (f : File) (c : Contents) → Parts f c → (device_of (rebuilt_file (device_of f c)) (rebuilt_contents (device_of f c))).ports ≡ (device_of f c).ports
ports_same f c p =
    ap (λ (ports : List DeclaredPort). map (port_of (rebuilt_contents (device_of f c)).pin_map) ports) p.ports
    ∙ ap (λ (entries : List PinEntry). map (port_of entries) (declared_ports f)) p.pin_map
    ∙ ports_again (declared_ports f) c.pin_map p.maps

cells_same : (f : File) (c : Contents) → Parts f c → (device_of (rebuilt_file (device_of f c)) (rebuilt_contents (device_of f c))).cells ≡ (device_of f c).cells
cells_same f c p =
    let count = f.boundary_length.value in
    let ordered = ordered_rows count c.rows in
    let rows = map (respelled_row (declared_ports f)) ordered in
    let order : InOrder 0 count rows = record { numbered = numbered_respelled (declared_ports f) 0 ordered p.order.numbered; many = length-map ordered (respelled_row (declared_ports f)) ∙ p.order.many } in
    ap (λ (ports : List DeclaredPort). map (cell_of ports) (ordered_rows (length (device_of f c).cells) (rebuilt_contents (device_of f c)).rows)) p.ports
    ∙ ap (λ (n : ℕ). map (cell_of (declared_ports f)) (ordered_rows n (rebuilt_contents (device_of f c)).rows)) p.many
    ∙ ap (λ (rs : List RowEntry). map (cell_of (declared_ports f)) (ordered_rows count rs)) p.rows
    ∙ ap (map (cell_of (declared_ports f))) (ordered_again count rows order)
    ∙ cells_respelled (declared_ports f) ordered

abbrev pub with_parts : File → Contents → List DevPort → ℕ → ℕ → ℕ → ℕ → ℕ → List Opcode → List CellRow → Device
with_parts g b ports tck tms tdi tdo trst codes cells = record {
  entity = g.entity;
  «package» = g.«package»;
  ports = ports;
  tck = tck;
  tms = tms;
  tdi = tdi;
  tdo = tdo;
  trst = trst;
  clock = g.clock;
  stop = g.stop;
  length = g.length.value;
  opcodes = codes;
  capture = b.capture;
  idcode = b.idcode;
  usercode = b.usercode;
  cells = cells;
}

pub same_parts : (g : File) (b : Contents) (ports : List DevPort) (tck tms tdi tdo trst tck2 tms2 tdi2 tdo2 trst2 : ℕ) (codes codes2 : List Opcode) (cells cells2 : List CellRow) → tck ≡ tck2 → tms ≡ tms2 → tdi ≡ tdi2 → tdo ≡ tdo2 → trst ≡ trst2 → codes ≡ codes2 → cells ≡ cells2
    → with_parts g b ports tck tms tdi tdo trst codes cells ≡ with_parts g b ports tck2 tms2 tdi2 tdo2 trst2 codes2 cells2
same_parts g b ports tck tms tdi tdo trst tck2 tms2 tdi2 tdo2 trst2 codes codes2 cells cells2 h1 h2 h3 h4 h5 h6 h7 =
    ap (λ x. with_parts g b ports x tms tdi tdo trst codes cells) h1
    ∙ ap (λ x. with_parts g b ports tck2 x tdi tdo trst codes cells) h2
    ∙ ap (λ x. with_parts g b ports tck2 tms2 x tdo trst codes cells) h3
    ∙ ap (λ x. with_parts g b ports tck2 tms2 tdi2 x trst codes cells) h4
    ∙ ap (λ x. with_parts g b ports tck2 tms2 tdi2 tdo2 x codes cells) h5
    ∙ ap (λ x. with_parts g b ports tck2 tms2 tdi2 tdo2 trst2 x cells) h6
    ∙ ap (λ x. with_parts g b ports tck2 tms2 tdi2 tdo2 trst2 codes2 x) h7

pub device_again : (f : File) (c : Contents) → Parts f c → device_of (rebuilt_file (device_of f c)) (rebuilt_contents (device_of f c)) ≡ device_of f c
device_again f c p =
    let ports = ports_same f c p in
    let tck = place_again f c p (tap_of (device_of f c)).tck f.tap.tck p.tap.tck in
    let tms = place_again f c p (tap_of (device_of f c)).tms f.tap.tms p.tap.tms in
    let tdi = place_again f c p (tap_of (device_of f c)).tdi f.tap.tdi p.tap.tdi in
    let tdo = place_again f c p (tap_of (device_of f c)).tdo f.tap.tdo p.tap.tdo in
    let trst = place_again f c p (tap_of (device_of f c)).trst f.tap.trst p.tap.trst in
    let codes_same = opcodes.opcodes_again (device_of f c).opcodes in
    let cells = cells_same f c p in
    ap (λ x. with_parts f c x (place_of (declared_ports (rebuilt_file (device_of f c))) (tap_of (device_of f c)).tck) (place_of (declared_ports (rebuilt_file (device_of f c))) (tap_of (device_of f c)).tms) (place_of (declared_ports (rebuilt_file (device_of f c))) (tap_of (device_of f c)).tdi) (place_of (declared_ports (rebuilt_file (device_of f c))) (tap_of (device_of f c)).tdo) (place_of (declared_ports (rebuilt_file (device_of f c))) (tap_of (device_of f c)).trst) (filter_map opcode_of (map opcode_entry (device_of f c).opcodes)) (device_of (rebuilt_file (device_of f c)) (rebuilt_contents (device_of f c))).cells) ports
    ∙ same_parts f c (device_of f c).ports _ _ _ _ _ _ _ _ _ _ _ _ _ _ tck tms tdi tdo trst codes_same cells
