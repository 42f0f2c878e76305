-- A device that some text spells keeps the conditions.
use Rattle.std.proofs.Common.{◌≡◌, ℕ, zero, suc, ◌%◌, ◌<◌, ◌≤◌, List, Bool, true, false, Option, Some, None, map, length, refl, sym, ap, subst, ◌∙◌, arith, eqb-true, ltb-false}
use Rattle.std.specs.Prelude.{◌==◌, ◌||◌, ◌&&◌, not, nat_lt, is_some, count_by, sum_by, IfSome}
use Rattle.std.specs.List.{list_any}
use Rattle.std.specs.Option.{option_map_or}
use Rattle.list_laws.proofs.Tests.{not_false, or_first, or_second}
use Rattle.list_laws.proofs.Lists.{any_map, each_fails}
use Rattle.cell_library.specs.declared.codes.Instr.TheVariants as instr
use Rattle.bsdl_lexicon.specs.Names.{is_same_name}
use Rattle.bsdl_device.specs.declared.values.PortMode.TheVariants as mode
use Rattle.bsdl_device.specs.declared.values.DevPort.{DevPort}
use Rattle.bsdl_device.specs.declared.values.Device.{Device}
use Rattle.bsdl_device.specs.declared.written.DeclaredPort.{DeclaredPort}
use Rattle.bsdl_device.specs.declared.entries.OpcodeEntry.{OpcodeEntry}
use Rattle.bsdl_device.specs.Ports.{declared_ports, port_bits, width}
use Rattle.bsdl_device.specs.Checks.{any_pair, is_repeated, port_named_twice, port_named_as_unit, has_too_many_bits, names_other_entity, names_other_package, port_not_mapped_once, entry_misfits, all_pins, is_scalar_port, tap_names, tap_port_misfits, opcode_is_unknown, opcode_named_twice, lacks_instruction, has_other_length, bypass_is_not_ones, opcodes_clash, has_instruction, code_is_barred, numbers_misfit}
use Rattle.bsdl_device.specs.RowRules.{row_misfits, bit_not_in_one_row, system_bits, rows_disagree, highz_fails}
use Rattle.bsdl_device.specs.Spelled.{SpellsText}
use Rattle.bsdl_device.specs.IsDevice.{AreDevicePorts, names_of, IsDeviceTap, IsInstructionRegister, IsDeviceCode, IsUsercode, own_bits, is_at, AreDeviceRows, IsDevice}
use Rattle.bsdl_device.proofs.RoundTripNames.{all_to}
use Rattle.bsdl_device.proofs.OpcodeFacts.{has_by_opcode}
use Rattle.bsdl_device.proofs.Rebuilt.{as_declared, entry_of, opcode_entry, tap_of, row_entries, rebuilt_file, rebuilt_contents, rebuilt_ports}
use Rattle.bsdl_device.proofs.Good.{GoodBits}
use Rattle.bsdl_device.proofs.RoundTripHeld.{IsCode}
use Rattle.bsdl_device.proofs.ReadBack.{Stands, stands}
use Rattle.bsdl_device.proofs.RoundTripPlaces.{AreNamed, scalar_at, tap_repeats_at}
use Rattle.bsdl_device.proofs.DeviceRows.{agree_rows, rows_from, not_once}
use Rattle.bsdl_device.proofs.DevicePorts.{name_is, bits_are, ports_named, widths_same, pins_same, entries_wide, ports_are}
use Rattle.bsdl_device.proofs.DeviceKept.{names_again, map_rules, row_rules, places_within, highz_same, bits_same}

-- Ports.

record Named (d : Device) : Type 0 where
  pub names : AreNamed d.ports
  pub apart : list_any (λ name. is_same_name name d.entity || is_same_name name d.«package») (names_of d.ports) ≡ false
  pub few : sum_by (λ (p : DevPort). width p.range) d.ports ≤ 4096

named_from : (d : Device) → Stands d → Named d
named_from d s =
    let f = rebuilt_file d in
    let four = or_first (port_named_twice f || port_named_as_unit f || has_too_many_bits f || names_other_entity f) (names_other_package f) s.keeps.name in
    let three = or_first (port_named_twice f || port_named_as_unit f || has_too_many_bits f) (names_other_entity f) four in
    let two = or_first (port_named_twice f || port_named_as_unit f) (has_too_many_bits f) three in
    let few : nat_lt 4096 (port_bits (declared_ports f)) ≡ false = or_second (port_named_twice f || port_named_as_unit f) (has_too_many_bits f) three in
    record {
      names = ports_named d.ports s.good.declared (sym (ap is_repeated (names_again d)) ∙ or_first (port_named_twice f) (port_named_as_unit f) two);
      apart = sym (ap (λ (names : List (List ℕ)). list_any (λ name. is_same_name name d.entity || is_same_name name d.«package») names) (names_again d)) ∙ or_second (port_named_twice f) (port_named_as_unit f) two;
      few = subst (λ (n : ℕ). n ≤ 4096) (ap port_bits (rebuilt_ports d) ∙ widths_same d.ports) (ltb-false 4096 (port_bits (declared_ports f)) few);
    }

ports_from : (d : Device) → Stands d → Named d → AreDevicePorts d
ports_from d s n =
    let ports = map as_declared d.ports in
    let entries = map entry_of d.ports in
    let rules : map_rules ports entries ≡ false = sym (ap (λ (ps : List DeclaredPort). map_rules ps entries) (rebuilt_ports d)) ∙ s.keeps.pin_map in
    let two = or_first (port_not_mapped_once ports entries || list_any (entry_misfits ports) entries) (is_repeated (all_pins entries)) rules in
    let wide = entries_wide d.ports n.names s.good.ports (or_second (port_not_mapped_once ports entries) (list_any (entry_misfits ports) entries) two) in
    record {
      each = ports_are d.ports s.good.declared s.good.ports wide;
      distinct = n.names.distinct;
      apart = n.apart;
      pins = sym (ap is_repeated (pins_same d.ports wide)) ∙ or_second (port_not_mapped_once ports entries || list_any (entry_misfits ports) entries) (is_repeated (all_pins entries)) rules;
      few = n.few;
    }

-- The test access port.

tap_from : (d : Device) → Stands d → AreNamed d.ports → IsDeviceTap d
tap_from d s n =
    let ports = map as_declared d.ports in
    let tap = tap_of d in
    let a = not (is_scalar_port ports mode.Input tap.tck) in
    let b = not (is_scalar_port ports mode.Input tap.tms) in
    let c = not (is_scalar_port ports mode.Input tap.tdi) in
    let o = not (is_scalar_port ports mode.Output tap.tdo) in
    let r = not (is_scalar_port ports mode.Input tap.trst) in
    let rules : (tap_port_misfits ports tap || is_repeated (tap_names tap)) ≡ false = sym (ap (λ (ps : List DeclaredPort). tap_port_misfits ps tap || is_repeated (tap_names tap)) (rebuilt_ports d)) ∙ s.keeps.tap in
    let five : ((((a || b) || c) || o) || r) ≡ false = or_first (tap_port_misfits ports tap) (is_repeated (tap_names tap)) rules in
    let four = or_first (((a || b) || c) || o) r five in
    let three = or_first ((a || b) || c) o four in
    let two = or_first (a || b) c three in
    let tck = sym (scalar_at d.ports n mode.Input d.tck) ∙ not_false (is_scalar_port ports mode.Input tap.tck) (or_first a b two) in
    let tms = sym (scalar_at d.ports n mode.Input d.tms) ∙ not_false (is_scalar_port ports mode.Input tap.tms) (or_second a b two) in
    let tdi = sym (scalar_at d.ports n mode.Input d.tdi) ∙ not_false (is_scalar_port ports mode.Input tap.tdi) (or_second (a || b) c three) in
    let tdo = sym (scalar_at d.ports n mode.Output d.tdo) ∙ not_false (is_scalar_port ports mode.Output tap.tdo) (or_second ((a || b) || c) o four) in
    let trst = sym (scalar_at d.ports n mode.Input d.trst) ∙ not_false (is_scalar_port ports mode.Input tap.trst) (or_second (((a || b) || c) || o) r five) in
    record {
      tck = tck;
      tms = tms;
      tdi = tdi;
      tdo = tdo;
      trst = trst;
      apart = sym (tap_repeats_at d n (places_within d tck tms tdi tdo trst)) ∙ or_second (tap_port_misfits ports tap) (is_repeated (tap_names tap)) rules;
      clock = s.good.clock;
    }

-- Instructions.

instructions_from : (d : Device) → Stands d → IsInstructionRegister d.length d.opcodes d.capture
instructions_from d s =
    let os = map opcode_entry d.opcodes in
    let a = list_any opcode_is_unknown os in
    let b = opcode_named_twice os in
    let c = lacks_instruction os in
    let e = list_any (λ (o : OpcodeEntry). has_other_length d.length o.bits) os in
    let g = list_any bypass_is_not_ones os in
    let h = any_pair opcodes_clash os in
    let five : (((((a || b) || c) || e) || g)) ≡ false = or_first ((((a || b) || c) || e) || g) h s.keeps.opcode in
    let four = or_first (((a || b) || c) || e) g five in
    let three = or_first ((a || b) || c) e four in
    let ends : (d.capture.value % 4 == 1) ≡ true = not_false (d.capture.value % 4 == 1) (or_second (has_other_length d.length d.capture) (not (d.capture.value % 4 == 1)) s.keeps.capture) in
    record {
      least = ltb-false d.length 2 (or_first (nat_lt d.length 2) (nat_lt 32 d.length) s.keeps.length);
      most = ltb-false 32 d.length (or_second (nat_lt d.length 2) (nat_lt 32 d.length) s.keeps.length);
      values = all_to d.opcodes (λ o (k : GoodBits o.bits). bits_are o.bits k) s.good.opcodes;
      lengths = sym (any_map (λ (o : OpcodeEntry). has_other_length d.length o.bits) opcode_entry d.opcodes) ∙ or_second ((a || b) || c) e four;
      once = or_second a b (or_first (a || b) c three);
      all = or_second (a || b) c three;
      ones = or_second (((a || b) || c) || e) g five;
      apart = or_second ((((a || b) || c) || e) || g) h s.keeps.opcode;
      capture = bits_are d.capture s.good.capture;
      capture_length = or_first (has_other_length d.length d.capture) (not (d.capture.value % 4 == 1)) s.keeps.capture;
      capture_end = eqb-true (d.capture.value % 4) 1 ends;
    }

code_from : (code : Option ℕ) (has : Bool) → IsCode code → (option_map_or (λ _. not has) code has || option_map_or code_is_barred code false) ≡ false → IfSome code IsDeviceCode × (has ≡ is_some code)
code_from None has good h = (tt, or_first has false h)
code_from (Some code) has good h = (
  record { short = (bits_are (record { len = 32; value = code }) good).value; right = or_second (not has) (code_is_barred code) h },
  not_false has (or_first (not has) (code_is_barred code) h),
)

-- what the rule on the usercode comes to, by whether there are the instructions
record IsUser (code user : Option ℕ) (has : Bool) : Type 0 where
  pub short : IfSome user IsUsercode
  pub identified : has ≡ is_some user
  pub beside : (not (is_some user) || is_some code) ≡ true

user_from : (code user : Option ℕ) (has ident : Bool) → IsCode user → ident ≡ is_some code → (option_map_or (λ _. not has) user has || (has && not ident)) ≡ false → IsUser code user has
user_from code None has ident good some h = record { short = tt; identified = or_first has (has && not ident) h; beside = refl }
user_from code (Some n) has ident good some h =
    let there : has ≡ true = not_false has (or_first (not has) (has && not ident) h) in
    let with : not ident ≡ false = sym (ap (λ (b : Bool). b && not ident) there) ∙ or_second (not has) (has && not ident) h in
    record {
      short = (bits_are (record { len = 32; value = n }) good).value;
      identified = there;
      beside = sym some ∙ not_false ident with;
    }

-- Rows.

above_zero : (m : ℕ) → (m == 0) ≡ false → 0 < m
above_zero zero h = absurd (cc)
above_zero (suc m) h = omega arith

rows_are : (d : Device) → Stands d → AreNamed d.ports → AreDeviceRows d
rows_are d s n =
    let ports = map as_declared d.ports in
    let rows = row_entries d.ports 0 d.cells in
    let a = list_any (row_misfits ports (tap_of d) rows) rows in
    let b = list_any (bit_not_in_one_row rows) (system_bits ports (tap_of d)) in
    let c = any_pair rows_disagree rows in
    let rules : row_rules ports d ≡ false = sym (ap (λ (ps : List DeclaredPort). row_rules ps d) (rebuilt_ports d)) ∙ s.keeps.row in
    let three : ((a || b) || c) ≡ false = or_first ((a || b) || c) (highz_fails (rebuilt_contents d)) rules in
    let two = or_first (a || b) c three in
    let filled : (length d.cells == 0) ≡ false = or_first (length d.cells == 0) (not (length rows == length d.cells)) (or_first (length d.cells == 0 || not (length rows == length d.cells)) (numbers_misfit (length d.cells) rows) s.keeps.boundary) in
    record {
      some = above_zero (length d.cells) filled;
      few = s.good.count;
      each = rows_from d n 0 d.cells (or_first a b two);
      bits = all_to (own_bits d) (λ bit k. eqb-true (count_by (is_at bit) d.cells) 1 (not_false (count_by (is_at bit) d.cells == 1) k)) (each_fails (not_once d) (own_bits d) (sym (bits_same d n) ∙ or_second a b two));
      agree = sym (agree_rows d.ports 0 d.cells) ∙ or_second (a || b) c three;
      highz = sym (highz_same d) ∙ or_second ((a || b) || c) (highz_fails (rebuilt_contents d)) rules;
    }

-- A device whose canonical file can be written, breaks no rule and describes it keeps the conditions.
pub standing_device : (d : Device) → Stands d → IsDevice d
standing_device d s =
    let n = named_from d s in
    let code = code_from d.idcode (has_instruction (map opcode_entry d.opcodes) instr.Idcode) s.good.idcode s.keeps.idcode in
    let user = user_from d.idcode d.usercode (has_instruction (map opcode_entry d.opcodes) instr.Usercode) (has_instruction (map opcode_entry d.opcodes) instr.Idcode) s.good.usercode code.1 s.keeps.usercode in
    record {
      entity = name_is d.entity s.good.entity;
      «package» = name_is d.«package» s.good.«package»;
      ports = ports_from d s n;
      tap = tap_from d s n.names;
      instructions = instructions_from d s;
      code = code.0;
      identified = sym (has_by_opcode instr.Idcode d.opcodes) ∙ code.1;
      user = user.short;
      user_identified = sym (has_by_opcode instr.Usercode d.opcodes) ∙ user.identified;
      user_beside = user.beside;
      rows = rows_are d s n.names;
    }

-- So does a device that some text spells.
pub spelled_device : (bytes : List ℕ) (d : Device) → SpellsText bytes d → IsDevice d
spelled_device bytes d spells = standing_device d (stands bytes d spells)
