-- A device keeps the conditions just where its canonical file can be written, breaks no rule and describes it.
use Rattle.std.proofs.Common.{◌≡◌, ℕ, zero, suc, ◌+◌, ◌%◌, ◌^◌, ◌<◌, ◌≤◌, List, [], ◌∷◌, Bool, true, false, Option, Some, None, map, length, refl, sym, ap, subst, ◌∙◌, arith, eq-eqb}
use Rattle.std.proofs.lemmas.Bool.{le-ltb}
use Rattle.std.proofs.lemmas.Option.{slice_get_within}
use Rattle.std.specs.Prelude.{◌==◌, ◌||◌, ◌&&◌, not, nat_lt, nat_le, is_some, is_none, slice_get, count_by, IfSome}
use Rattle.std.specs.List.{list_any, enumerate_from, AllByRecursion}
use Rattle.std.specs.Option.{option_map, option_map_or}
use Rattle.list_laws.proofs.Tests.{and_right, neither}
use Rattle.list_laws.proofs.Lists.{all_at, any_map, none_passes}
use Rattle.cell_library.specs.declared.codes.Function.TheVariants as function
use Rattle.cell_library.specs.declared.codes.Instr.TheVariants as instr
use Rattle.cell_library.specs.declared.codes.Opcode.{Opcode}
use Rattle.bsdl_lexicon.specs.Names.{is_same_name}
use Rattle.bsdl_device.specs.declared.values.PortMode.TheVariants as mode
use Rattle.bsdl_device.specs.declared.values.PortRange.{PortRange}
use Rattle.bsdl_device.specs.declared.values.DevPort.{DevPort}
use Rattle.bsdl_device.specs.declared.values.DevBit.{DevBit}
use Rattle.bsdl_device.specs.declared.values.Disable.{Disable}
use Rattle.bsdl_device.specs.declared.values.CellRow.{CellRow}
use Rattle.bsdl_device.specs.declared.values.Device.{Device}
use Rattle.bsdl_device.specs.declared.written.DeclaredPort.{DeclaredPort}
use Rattle.bsdl_device.specs.declared.entries.OpcodeEntry.{OpcodeEntry}
use Rattle.bsdl_device.specs.declared.entries.PinEntry.{PinEntry}
use Rattle.bsdl_device.specs.declared.entries.RowEntry.{RowEntry}
use Rattle.bsdl_device.specs.Patterns.{is_filled}
use Rattle.bsdl_device.specs.Ports as declared
use Rattle.bsdl_device.specs.Ports.{declared_ports, port_bits, has_bit}
use Rattle.bsdl_device.specs.Checks.{any_pair, is_repeated, port_named_twice, port_named_as_unit, has_too_many_bits, names_other_entity, names_other_package, name_fails, port_not_mapped_once, entry_misfits, all_pins, pin_map_fails, is_scalar_port, tap_names, tap_port_misfits, tap_fails, length_fails, opcode_is_unknown, opcode_named_twice, lacks_instruction, has_other_length, bypass_is_not_ones, opcodes_clash, opcode_fails, capture_fails, has_instruction, code_is_barred, idcode_fails, usercode_fails, numbers_misfit, boundary_fails}
use Rattle.bsdl_device.specs.RowRules.{is_function, row_misfits, bit_not_in_one_row, system_bits, rows_disagree, highz_fails, row_fails}
use Rattle.bsdl_device.specs.Denoted.{device_of, port_of, cell_of, place_of, ordered_rows}
use Rattle.bsdl_device.specs.Canonical.{port_name, has_opcode, canonical_device}
use Rattle.bsdl_device.specs.Spelled.{SpellsText}
use Rattle.bsdl_device.specs.IsDevice.{IsBits, IsDeviceRange, IsDevicePort, names_of, tap_places, is_scalar_at, IsDeviceTap, IsDeviceCode, IsUsercode, is_control_at, is_disabled, IsDeviceRow, own_bits, is_at, IsDevice}
use Rattle.bsdl_device.proofs.RoundTripNames.{same_self, all_to}
use Rattle.bsdl_device.proofs.RoundTripIdentifiers.{name_test}
use Rattle.bsdl_device.proofs.OpcodeFacts.{named_again, has_by_opcode, opcodes_again}
use Rattle.bsdl_device.proofs.Access.{has_all, registers_keep}
use Rattle.bsdl_device.proofs.Numbered.{InOrder, counted_again, ordered_again}
use Rattle.bsdl_device.proofs.Rebuilt.{as_declared, entry_of, opcode_entry, tap_of, port_bit, row_entries, rebuilt_file, rebuilt_contents, rebuilt_ports}
use Rattle.bsdl_device.proofs.Means.{Keeps}
use Rattle.bsdl_device.proofs.RoundTripAgain.{entity_named, with_parts, same_parts}
use Rattle.bsdl_device.proofs.ContentTexts.{IsRow, IsRowPort}
use Rattle.bsdl_device.proofs.RoundTripHeld.{GoodDevice, IsFileName, IsCode}
use Rattle.bsdl_device.proofs.ReadBack.{Stands, spells}
use Rattle.bsdl_device.proofs.RoundTripPlaces.{AreNamed, place_at, scalar_at, scalar_within, tap_repeats_at}
use Rattle.bsdl_device.proofs.DeviceRows.{agree_rows, outputs_rows, PinThere, pin_there, rows_keep, not_once, bits_at, cells_at, rows_numbered, rows_many}
use Rattle.bsdl_device.proofs.DevicePorts.{name_good, bits_good, declared_good, ports_good, ports_named, names_same, widths_same, ports_filled, pins_same, mapped_once, entries_fit, own_ports_again, are_wide}

-- What the canonical file declares.

pub names_again : (d : Device) → declared.port_names (declared_ports (rebuilt_file d)) ≡ names_of d.ports
names_again d = ap declared.port_names (rebuilt_ports d) ∙ names_same d.ports

named : (d : Device) → IsDevice d → AreNamed d.ports
named d is = ports_named d.ports (declared_good d.ports is.ports.each) is.ports.distinct

-- The rules, one by one.

name_kept : (d : Device) → IsDevice d → name_fails (rebuilt_file d) ≡ false
name_kept d is =
    let f = rebuilt_file d in
    let few : nat_lt 4096 (port_bits (declared_ports f)) ≡ false = le-ltb 4096 (port_bits (declared_ports f)) (subst (λ (n : ℕ). n ≤ 4096) (sym (ap port_bits (rebuilt_ports d) ∙ widths_same d.ports)) is.ports.few) in
    neither (port_named_twice f || port_named_as_unit f || has_too_many_bits f || names_other_entity f) (names_other_package f)
    (neither (port_named_twice f || port_named_as_unit f || has_too_many_bits f) (names_other_entity f)
    (neither (port_named_twice f || port_named_as_unit f) (has_too_many_bits f)
    (neither (port_named_twice f) (port_named_as_unit f)
    (ap is_repeated (names_again d) ∙ is.ports.distinct)
    (ap (λ (names : List (List ℕ)). list_any (λ name. is_same_name name d.entity || is_same_name name d.«package») names) (names_again d) ∙ is.ports.apart))
    few)
    (entity_named d.entity d.idcode d.usercode))
    (ap not (same_self d.«package»))

abbrev pub map_rules : List DeclaredPort → List PinEntry → Bool
map_rules ports entries = port_not_mapped_once ports entries || list_any (entry_misfits ports) entries || is_repeated (all_pins entries)

pin_map_kept : (d : Device) → IsDevice d → pin_map_fails (rebuilt_file d) (rebuilt_contents d) ≡ false
pin_map_kept d is =
    let ports = map as_declared d.ports in
    let entries = map entry_of d.ports in
    let wide = are_wide d is.ports in
    ap (λ (ps : List DeclaredPort). map_rules ps entries) (rebuilt_ports d)
    ∙ neither (port_not_mapped_once ports entries || list_any (entry_misfits ports) entries) (is_repeated (all_pins entries))
    (neither (port_not_mapped_once ports entries) (list_any (entry_misfits ports) entries) (mapped_once d.ports (named d is)) (entries_fit d.ports (named d is) wide))
    (ap is_repeated (pins_same d.ports wide) ∙ is.ports.pins)

pub places_within : (d : Device) → is_scalar_at d.ports mode.Input d.tck ≡ true → is_scalar_at d.ports mode.Input d.tms ≡ true → is_scalar_at d.ports mode.Input d.tdi ≡ true → is_scalar_at d.ports mode.Output d.tdo ≡ true → is_scalar_at d.ports mode.Input d.trst ≡ true
    → AllByRecursion (λ (k : ℕ). k < length d.ports) (tap_places d)
places_within d tck tms tdi tdo trst = (scalar_within d.ports mode.Input d.tck tck, (scalar_within d.ports mode.Input d.tms tms, (scalar_within d.ports mode.Input d.tdi tdi, (scalar_within d.ports mode.Output d.tdo tdo, (scalar_within d.ports mode.Input d.trst trst, tt)))))

tap_within : (d : Device) → IsDeviceTap d → AllByRecursion (λ (k : ℕ). k < length d.ports) (tap_places d)
tap_within d t = places_within d t.tck t.tms t.tdi t.tdo t.trst

tap_kept : (d : Device) → IsDevice d → tap_fails (rebuilt_file d) ≡ false
tap_kept d is =
    let ports = map as_declared d.ports in
    let tap = tap_of d in
    let n = named d is in
    let a = not (is_scalar_port ports mode.Input tap.tck) in
    let b = not (is_scalar_port ports mode.Input tap.tms) in
    let c = not (is_scalar_port ports mode.Input tap.tdi) in
    let o = not (is_scalar_port ports mode.Output tap.tdo) in
    let r = not (is_scalar_port ports mode.Input tap.trst) in
    ap (λ (ps : List DeclaredPort). tap_port_misfits ps tap || is_repeated (tap_names tap)) (rebuilt_ports d)
    ∙ neither (tap_port_misfits ports tap) (is_repeated (tap_names tap))
    (neither (((a || b) || c) || o) r (neither ((a || b) || c) o (neither (a || b) c (neither a b
    (ap not (scalar_at d.ports n mode.Input d.tck ∙ is.tap.tck))
    (ap not (scalar_at d.ports n mode.Input d.tms ∙ is.tap.tms)))
    (ap not (scalar_at d.ports n mode.Input d.tdi ∙ is.tap.tdi)))
    (ap not (scalar_at d.ports n mode.Output d.tdo ∙ is.tap.tdo)))
    (ap not (scalar_at d.ports n mode.Input d.trst ∙ is.tap.trst)))
    (tap_repeats_at d n (tap_within d is.tap) ∙ is.tap.apart)

length_kept : (d : Device) → IsDevice d → length_fails (rebuilt_file d) ≡ false
length_kept d is = neither (nat_lt d.length 2) (nat_lt 32 d.length) (le-ltb d.length 2 is.instructions.least) (le-ltb 32 d.length is.instructions.most)

known : (opcodes : List Opcode) → list_any opcode_is_unknown (map opcode_entry opcodes) ≡ false
known opcodes = any_map opcode_is_unknown opcode_entry opcodes ∙ over opcodes
  where
    over : (os : List Opcode) → list_any (λ (o : Opcode). opcode_is_unknown (opcode_entry o)) os ≡ false
    over [] = refl
    over (o ∷ os) = neither (opcode_is_unknown (opcode_entry o)) (list_any (λ (p : Opcode). opcode_is_unknown (opcode_entry p)) os) (ap is_none (named_again o.instr)) (over os)

opcode_kept : (d : Device) → IsDevice d → opcode_fails (rebuilt_file d) (rebuilt_contents d) ≡ false
opcode_kept d is =
    let os = map opcode_entry d.opcodes in
    let a = list_any opcode_is_unknown os in
    let b = opcode_named_twice os in
    let c = lacks_instruction os in
    let e = list_any (λ (o : OpcodeEntry). has_other_length d.length o.bits) os in
    let g = list_any bypass_is_not_ones os in
    let h = any_pair opcodes_clash os in
    neither ((((a || b) || c) || e) || g) h (neither (((a || b) || c) || e) g (neither ((a || b) || c) e (neither (a || b) c (neither a b
    (known d.opcodes) is.instructions.once) is.instructions.all)
    (any_map (λ (o : OpcodeEntry). has_other_length d.length o.bits) opcode_entry d.opcodes ∙ is.instructions.lengths))
    is.instructions.ones) is.instructions.apart

capture_kept : (d : Device) → IsDevice d → capture_fails (rebuilt_file d) (rebuilt_contents d) ≡ false
capture_kept d is = neither (has_other_length d.length d.capture) (not (d.capture.value % 4 == 1)) is.instructions.capture_length (ap not (eq-eqb (d.capture.value % 4) 1 is.instructions.capture_end))

code_kept : (code : Option ℕ) (has : Bool) → IfSome code IsDeviceCode → has ≡ is_some code → (option_map_or (λ _. not has) code has || option_map_or code_is_barred code false) ≡ false
code_kept None has is h = neither has false h refl
code_kept (Some code) has is h = neither (not has) (code_is_barred code) (ap not h) is.right

idcode_kept : (d : Device) → IsDevice d → idcode_fails (rebuilt_contents d) ≡ false
idcode_kept d is = code_kept d.idcode (has_instruction (map opcode_entry d.opcodes) instr.Idcode) is.code (has_by_opcode instr.Idcode d.opcodes ∙ is.identified)

user_kept : (code user : Option ℕ) (has ident : Bool) → has ≡ is_some user → ident ≡ is_some code → (not (is_some user) || is_some code) ≡ true → (option_map_or (λ _. not has) user has || (has && not ident)) ≡ false
user_kept code None has ident there some beside = neither has (has && not ident) there (ap (λ (b : Bool). b && not ident) there)
user_kept code (Some n) has ident there some beside = neither (not has) (has && not ident) (ap not there) (ap (λ (b : Bool). b && not ident) there ∙ ap not (some ∙ beside))

usercode_kept : (d : Device) → IsDevice d → usercode_fails (rebuilt_contents d) ≡ false
usercode_kept d is =
    user_kept d.idcode d.usercode (has_instruction (map opcode_entry d.opcodes) instr.Usercode) (has_instruction (map opcode_entry d.opcodes) instr.Idcode)
    (has_by_opcode instr.Usercode d.opcodes ∙ is.user_identified) (has_by_opcode instr.Idcode d.opcodes ∙ is.identified) is.user_beside

in_order : (d : Device) → InOrder 0 (length d.cells) (row_entries d.ports 0 d.cells)
in_order d = record { numbered = rows_numbered d.ports 0 d.cells; many = rows_many d.ports 0 d.cells }

boundary_kept : (d : Device) → IsDevice d → boundary_fails (rebuilt_file d) (rebuilt_contents d) ≡ false
boundary_kept d is =
    let rows = row_entries d.ports 0 d.cells in
    let count = length d.cells in
    let counted = counted_again count rows (in_order d) in
    neither (count == 0 || not (length rows == count)) (numbers_misfit count rows)
    (neither (count == 0) (not (length rows == count)) (some count is.rows.some) (ap not (eq-eqb (length rows) count (rows_many d.ports 0 d.cells))))
    (neither (list_any (λ (r : RowEntry). not (nat_lt r.number count)) rows || any_pair (λ (r : RowEntry) (s : RowEntry). r.number == s.number) rows) _
    (neither (list_any (λ (r : RowEntry). not (nat_lt r.number count)) rows) _ counted.below counted.apart) counted.each)
  where
    some : (n : ℕ) → 0 < n → (n == 0) ≡ false
    some n h = grind arith

abbrev pub row_rules : List DeclaredPort → Device → Bool
row_rules ports d =
    list_any (row_misfits ports (tap_of d) (row_entries d.ports 0 d.cells)) (row_entries d.ports 0 d.cells)
    || list_any (bit_not_in_one_row (row_entries d.ports 0 d.cells)) (system_bits ports (tap_of d))
    || any_pair rows_disagree (row_entries d.ports 0 d.cells) || highz_fails (rebuilt_contents d)

-- with HIGHZ there is an output that can't be disabled
pub highz_same : (d : Device) → highz_fails (rebuilt_contents d) ≡ (has_opcode d.opcodes instr.Highz && list_any (λ (row : CellRow). is_function function.Output2 row.function) d.cells)
highz_same d =
    ap (λ (b : Bool). b && list_any (λ (r : RowEntry). is_function function.Output2 r.function) (row_entries d.ports 0 d.cells)) (has_by_opcode instr.Highz d.opcodes)
    ∙ ap (λ (b : Bool). has_opcode d.opcodes instr.Highz && b) (outputs_rows d.ports d.cells)

pub bits_same : (d : Device) → AreNamed d.ports → list_any (bit_not_in_one_row (row_entries d.ports 0 d.cells)) (system_bits (map as_declared d.ports) (tap_of d)) ≡ list_any (not_once d) (own_bits d)
bits_same d n = bits_at d n 0 d.ports (λ k. ap (slice_get d.ports) (from k))
  where
    from : (k : ℕ) → k ≡ 0 + k
    from k = omega arith

row_kept : (d : Device) → IsDevice d → row_fails (rebuilt_file d) (rebuilt_contents d) ≡ false
row_kept d is =
    let ports = map as_declared d.ports in
    let rows = row_entries d.ports 0 d.cells in
    let n = named d is in
    let a = list_any (row_misfits ports (tap_of d) rows) rows in
    let b = list_any (bit_not_in_one_row rows) (system_bits ports (tap_of d)) in
    let c = any_pair rows_disagree rows in
    ap (λ (ps : List DeclaredPort). row_rules ps d) (rebuilt_ports d)
    ∙ neither ((a || b) || c) (highz_fails (rebuilt_contents d)) (neither (a || b) c (neither a b
    (rows_keep d n 0 d.cells is.rows.each)
    (bits_same d n ∙ none_passes (not_once d) (own_bits d) (all_to (own_bits d) (λ bit once. ap not (eq-eqb (count_by (is_at bit) d.cells) 1 once)) is.rows.bits)))
    (agree_rows d.ports 0 d.cells ∙ is.rows.agree))
    (highz_same d ∙ is.rows.highz)

keeps_all : (d : Device) → IsDevice d → Keeps (rebuilt_file d) (rebuilt_contents d)
keeps_all d is = record {
  name = name_kept d is;
  pin_map = pin_map_kept d is;
  tap = tap_kept d is;
  length = length_kept d is;
  opcode = opcode_kept d is;
  capture = capture_kept d is;
  idcode = idcode_kept d is;
  usercode = usercode_kept d is;
  register = registers_keep d.opcodes (has_all d.opcodes is.instructions.all);
  boundary = boundary_kept d is;
  row = row_kept d is;
}

-- The device again.

again : (d : Device) → IsDevice d → device_of (rebuilt_file d) (rebuilt_contents d) ≡ d
again d is =
    let f = rebuilt_file d in
    let c = rebuilt_contents d in
    let n = named d is in
    let t = tap_within d is.tap in
    let ports : (device_of f c).ports ≡ d.ports = ap (λ (ps : List DeclaredPort). map (port_of c.pin_map) ps) (rebuilt_ports d) ∙ own_ports_again d.ports n (are_wide d is.ports) in
    let cells : (device_of f c).cells ≡ d.cells =
    ap (λ (ps : List DeclaredPort). map (cell_of ps) (ordered_rows (length d.cells) c.rows)) (rebuilt_ports d)
    ∙ ap (map (cell_of (map as_declared d.ports))) (ordered_again (length d.cells) c.rows (in_order d)) ∙ cells_at d n 0 d.cells is.rows.each in
    ap (λ x. with_parts f c x (device_of f c).tck (device_of f c).tms (device_of f c).tdi (device_of f c).tdo (device_of f c).trst (device_of f c).opcodes (device_of f c).cells) ports
    ∙ same_parts f c d.ports _ _ _ _ _ _ _ _ _ _ _ _ _ _ (place n d.tck t.0) (place n d.tms t.1.0) (place n d.tdi t.1.1.0) (place n d.tdo t.1.1.1.0) (place n d.trst t.1.1.1.1.0) (opcodes_again d.opcodes) cells
  where
    place : AreNamed d.ports → (k : ℕ) → k < length d.ports → place_of (declared_ports (rebuilt_file d)) (port_name d.ports k) ≡ k
    place n k within = ap (λ (ps : List DeclaredPort). place_of ps (port_name d.ports k)) (rebuilt_ports d) ∙ place_at d.ports n k within

-- What can be written.

place_named : (d : Device) → AllByRecursion IsDevicePort d.ports → (k : ℕ) (p : DevPort) → slice_get d.ports k ≡ Some p → IsFileName (port_name d.ports k)
unfolding port_name
place_named d all k p there = subst (λ (o : Option DevPort). IsFileName (option_map_or (λ (q : DevPort). q.name) o [])) (sym there) (name_good p.name (all_at IsDevicePort d.ports k p all there).name)

scalar_named : (d : Device) → AllByRecursion IsDevicePort d.ports → (k : ℕ) → k < length d.ports → IsFileName (port_name d.ports k)
scalar_named d all k within = by (slice_get d.ports k) refl
  where
    by : (o : Option DevPort) → slice_get d.ports k ≡ o → IsFileName (port_name d.ports k)
    by None is = absurd (none d.ports k within is)
      where
        none : (ps : List DevPort) (j : ℕ) → j < length ps → slice_get ps j ≡ None → ⊥
        none [] j low h = absurd (omega arith)
        none (p ∷ ps) zero low h = absurd (cc)
        none (p ∷ ps) (suc j) low h = none ps j (omega arith) h
    by (Some p) is = place_named d all k p is

index_small : (range : Option PortRange) (index : Option ℕ) → IfSome range IsDeviceRange → has_bit range index ≡ true → option_map_or (λ (i : ℕ). i) index 0 < 10 ^ 9
index_small range None is h = omega arith
index_small None (Some i) is h = absurd (cc)
index_small (Some r) (Some i) is h = between r.left r.right i is.left is.right h
  where
    between : (l m n : ℕ) → l < 10 ^ 9 → m < 10 ^ 9 → ((nat_le l n && nat_le n m) || (nat_le m n && nat_le n l)) ≡ true → n < 10 ^ 9
    between l m n left right k = grind arith

row_port : (d : Device) → AllByRecursion IsDevicePort d.ports → (pin : Option DevBit) → PinThere d pin → IsRowPort (option_map (port_bit d.ports) pin)
row_port d all None there = tt
row_port d all (Some b) there = (
  name_test (port_name d.ports b.port) (place_named d all b.port there.port there.there),
  index_small there.port.range b.index (all_at IsDevicePort d.ports b.port there.port all there.there).range there.bit,
)

row_control : (d : Device) → length d.cells < 10 ^ 9 → (held : Bool) (o : Option Disable) → option_map_or (λ (e : Disable). held && is_control_at d.cells e.control) o (not held) ≡ true → option_map_or (λ (e : Disable). e.control) o 0 < 10 ^ 9
row_control d few held None h = omega arith
row_control d few held (Some e) h = by (slice_get d.cells e.control) refl (and_right held (is_control_at d.cells e.control) h)
  where
    by : (o : Option CellRow) → slice_get d.cells e.control ≡ o → option_map_or (λ (row : CellRow). is_function function.Control row.function) o false ≡ true → e.control < 10 ^ 9
    by None is k = absurd (cc)
    by (Some row) is k = let within : e.control < length d.cells = slice_get_within d.cells e.control row is in omega arith

rows_good : (d : Device) → AllByRecursion IsDevicePort d.ports → length d.cells < 10 ^ 9 → (first : ℕ) (cells : List CellRow) → first + length cells ≤ length d.cells
    → AllByRecursion (λ (row : ℕ × CellRow). IsDeviceRow d row.0 row.1) (enumerate_from first cells) → AllByRecursion IsRow (row_entries d.ports first cells)
rows_good d ports few first [] fits all = tt
rows_good d ports few first (c ∷ cs) fits all = (
  record {
    number = omega arith;
    port = row_port d ports c.pin (pin_there d c all.0.pin);
    control = row_control d few (is_disabled c.function) c.disable all.0.disable;
  },
  rows_good d ports few (first + 1) cs (omega arith) all.1,
)

code_good : (code : Option ℕ) → IfSome code IsDeviceCode → IsCode code
code_good None is = tt
code_good (Some code) is = bits_good (record { len = 32; value = code }) (record { some = omega arith; few = omega arith; value = is.short })

user_good : (code : Option ℕ) → IfSome code IsUsercode → IsCode code
user_good None is = tt
user_good (Some code) is = bits_good (record { len = 32; value = code }) (record { some = omega arith; few = omega arith; value = is })

ports_filled_by : (ports : List DevPort) (k : ℕ) → k < length ports → is_filled ports ≡ true
ports_filled_by [] k h = absurd (omega arith)
ports_filled_by (p ∷ ps) k h = refl

rows_filled : (ports : List DevPort) (cells : List CellRow) → 0 < length cells → is_filled (row_entries ports 0 cells) ≡ true
rows_filled ports [] h = absurd (omega arith)
rows_filled ports (c ∷ cs) h = refl

good : (d : Device) → IsDevice d → GoodDevice d
good d is =
    let all = is.ports.each in
    let t = tap_within d is.tap in
    let length_small : d.length ≤ 32 = is.instructions.most in
    record {
      entity = name_good d.entity is.entity;
      «package» = name_good d.«package» is.«package»;
      declared = declared_good d.ports all;
      ports = ports_good d.ports all;
      some_port = ports_filled_by d.ports d.tck t.0;
      pins = ports_filled d.ports (are_wide d is.ports);
      tdi = scalar_named d all d.tdi t.1.1.0;
      tms = scalar_named d all d.tms t.1.0;
      tdo = scalar_named d all d.tdo t.1.1.1.0;
      trst = scalar_named d all d.trst t.1.1.1.1.0;
      tck = scalar_named d all d.tck t.0;
      clock = is.tap.clock;
      length = omega arith;
      opcodes = all_to d.opcodes (λ o (k : IsBits o.bits). bits_good o.bits k) is.instructions.values;
      all = has_all d.opcodes is.instructions.all;
      capture = bits_good d.capture is.instructions.capture;
      idcode = code_good d.idcode is.code;
      usercode = user_good d.usercode is.user;
      count = is.rows.few;
      rows = rows_good d all is.rows.few 0 d.cells (omega arith) is.rows.each;
      some_row = rows_filled d.ports d.cells is.rows.some;
    }

-- A device that keeps the conditions has such a file.
pub device_stands : (d : Device) → IsDevice d → Stands d
device_stands d is = record { good = good d is; keeps = keeps_all d is; again = again d is }

-- So its canonical text spells it.
pub device_spelled : (d : Device) → IsDevice d → SpellsText (canonical_device d) d
device_spelled d is = spells d (device_stands d is)
