-- The device of a plan that some text spells and that fits is a device that some text spells.
use Rattle.std.proofs.Common.{◌≡◌, ℕ, ◌+◌, ◌*◌, ◌^◌, ◌<◌, ◌≤◌, true, List, [], ◌∷◌, length, slice_get, Option, Some, None, subst, arith}
use Rattle.std.specs.Prelude.{count_by}
use Rattle.std.specs.List.{list_all, AllByRecursion}
use Rattle.std.proofs.lemmas.List.{length-map}
use Rattle.std.proofs.lemmas.List.Sums.{count_by-le-length}
use Rattle.list_laws.proofs.Tests.{and_left, and_right}
use Rattle.list_laws.proofs.Lists.{slice_get_there}
use Rattle.netlist_model.specs.declared.Range.{Range}
use Rattle.netlist_model.specs.declared.PinBit.{PinBit}
use Rattle.netlist_model.specs.Formed.{width_of}
use Rattle.netlist_arena.specs.Arena.{bit_count}
use Rattle.netlist_model.specs.Ports.{BitHasDirection}
use Rattle.netlist_model.specs.Drivers.{DriverIsFound}
use Rattle.netlist_unlink.specs.netlist_link.Linked.{LinkedView, own_ports}
use Rattle.netlist_unlink.specs.netlist_link.PinWords.{pin_at}
use Rattle.bsdl_device.specs.declared.values.DevBit.{DevBit}
use Rattle.bsdl_device.specs.declared.values.CellRow.{CellRow}
use Rattle.bsdl_device.specs.IsDevice.{IsInstructionRegister, IsDeviceRow, AreDeviceRows, is_at}
use Rattle.plan_texts.specs.declared.plan.Plan.{Plan}
use Rattle.plan_fitting.specs.Pins.{PinSeen, same_bit}
use Rattle.plan_fitting.specs.Names.{NamedBit, port_bits}
use Rattle.plan_fitting.specs.Fits.{has_line}
use Rattle.plan_fitting.specs.Rows.{rows, has_highz}
use Rattle.plan_fitting.specs.Devices.{fitted_of, cell_row, dev_bit, device_of}
use Rattle.plan_fitting.specs.Laws.{OpcodesKeepTheRules, ControlCellsAreThere, DriversAgree, HighzDisablesAll}
use Rattle.plan_fitting.specs.FittingPlan.{IsFitting, HasRoom}
use Rattle.plan_fitting.specs.DevicesLaws.{PlansMakeDevices}
use Rattle.plan_fitting.proofs.DevicesLists.{all_from_places, all_enumerated}
use Rattle.plan_fitting.proofs.PlanPins.{plans_have_pins}
use Rattle.plan_fitting.proofs.PlanClock.{HasRegister, plans_have_registers}
use Rattle.plan_fitting.proofs.PlanBits.{HasBits, plans_have_bits}
use Rattle.plan_fitting.proofs.PlanCodes.{HasCodes, plans_have_codes}
use Rattle.plan_fitting.proofs.PlanPrefix.{plans_have_controls}
use Rattle.plan_fitting.proofs.OwnPorts.{own_there, own_below, own_bits_few}
use Rattle.plan_fitting.proofs.RowCounts.{rows_few}
use Rattle.plan_fitting.proofs.Indices.{IsBit, bit_there}
use Rattle.plan_fitting.proofs.DevicePorts.{right_ports, device_ports}
use Rattle.plan_fitting.proofs.DeviceTap.{device_tap}
use Rattle.plan_fitting.proofs.DeviceRows.{right_row}
use Rattle.plan_fitting.proofs.DeviceBits.{bit_has_line, one_line, one_row, own_bits_all}
use Rattle.plan_fitting.proofs.Few.{no_more, count_of_bits, seen_is_bit}
use Rattle.plan_fitting.proofs.DevicesFacts.{Facts, facts_of}
use Rattle.std.proofs.lemmas.Option.{slice_get_within}

-- The instruction register.

device_register : OpcodesKeepTheRules → (L : LinkedView) (p : Plan) (seen : List PinSeen) → IsFitting L p seen → HasRegister p → HasBits p → HasCodes p → IsInstructionRegister p.length p.opcodes p.capture
device_register rules L p seen fits register bits codes =
    let keeps = rules L p seen fits.spelled in
    record {
      least = register.least;
      most = register.most;
      values = bits.values;
      lengths = keeps.lengths;
      once = codes.once;
      all = keeps.all;
      ones = keeps.ones;
      apart = keeps.apart;
      capture = bits.captured;
      capture_length = keeps.capture_length;
      capture_end = keeps.capture_end;
    }

-- How many rows there are.

pub some_width : (range : Option Range) → 0 < width_of range
some_width None = omega arith
some_width (Some r) = omega arith

one_row_at : (L : LinkedView) (p : Plan) (seen : List PinSeen) → IsFitting L p seen → Facts L p seen → (x : PinBit) → IsBit L x → count_by (is_at (dev_bit (fitted_of L p seen) x)) (device_of L p seen).cells ≡ 1
one_row_at L p seen fits facts x b =
    let wide : length b.port.nets ≡ width_of b.port.range = fits.wide x.port.0 b.port b.there in
    let within : x.bit < width_of b.port.range = b.within in
    let there = bit_has_line L seen facts.lined.each x.port.0 b.port x.bit (bit_there L x b) (omega arith) in
    (one_row L p seen fits.wide fits.are_seen.count facts.each facts.makes facts.once.bits x b there).1

some_rows : (L : LinkedView) (p : Plan) (seen : List PinSeen) → IsFitting L p seen → Facts L p seen → 0 < length (device_of L p seen).cells
some_rows L p seen fits facts =
    let first = slice_get_there (own_ports L) 0 facts.lined.some in
    let here = own_there L 0 first.0 first.1 in
    let one = one_row_at L p seen fits facts (pin_at 0 0) (record { port = first.0; there = here; own = own_below L 0 first.0 first.1; within = some_width first.0.range }) in
    let most = count_by-le-length (is_at (dev_bit (fitted_of L p seen) (pin_at 0 0))) (device_of L p seen).cells in
    omega arith

lines_few : (L : LinkedView) (p : Plan) (seen : List PinSeen) → IsFitting L p seen → Facts L p seen → length seen ≤ length (port_bits L)
lines_few L p seen fits facts =
    no_more (λ (b : NamedBit) (one : PinSeen). same_bit b.pin one.pin) (port_bits L) seen
    (all_from_places (λ (one : PinSeen). 1 ≤ count_by (λ (b : NamedBit). same_bit b.pin one.pin) (port_bits L)) seen (λ k one there.
    let line = slice_get_there p.pins k (inside k one there) in
    seen_is_bit L line.0.port one (facts.lines k line.0 one line.1 there).seen))
    (each_once (port_bits L) facts.lined.each)
  where
    inside : (k : ℕ) (one : PinSeen) → slice_get seen k ≡ Some one → k < length p.pins
    inside k one there =
        let low : k < length seen = slice_get_within seen k one there in
        let many : length seen ≡ length p.pins = fits.are_seen.count in
        omega arith

    each_once : (bits : List NamedBit) → list_all (λ (b : NamedBit). has_line seen b.pin) bits ≡ true → AllByRecursion (λ (b : NamedBit). count_by (λ (one : PinSeen). same_bit b.pin one.pin) seen ≤ 1) bits
    each_once [] all = tt
    each_once (b ∷ bits) all =
        let one : count_by (λ (y : PinSeen). same_bit b.pin y.pin) seen ≡ 1 = one_line seen b.pin facts.once.bits (and_left (has_line seen b.pin) (list_all (λ (x : NamedBit). has_line seen x.pin) bits) all) in
        (omega arith, each_once bits (and_right (has_line seen b.pin) (list_all (λ (x : NamedBit). has_line seen x.pin) bits) all))

-- two rows for each bit of the netlist's own ports at most
pub own_rows_within : (L : LinkedView) (p : Plan) (seen : List PinSeen) → IsFitting L p seen → Facts L p seen → length (rows p seen) ≤ 2 * bit_count (own_ports L)
own_rows_within L p seen fits facts =
    let lines : length seen ≤ length (port_bits L) = lines_few L p seen fits facts in
    let bits : length (port_bits L) ≡ bit_count (own_ports L) = count_of_bits L in
    let many : length seen ≡ length p.pins = fits.are_seen.count in
    let rest : length (rows p seen) ≤ 0 + 2 * length p.pins = rows_few p.control (has_highz p.opcodes) [] p.pins seen in
    omega arith

pub rows_within : (L : LinkedView) (p : Plan) (seen : List PinSeen) → IsFitting L p seen → Facts L p seen → length (rows p seen) ≤ 2 * bit_count L.arena.lists.ports
rows_within L p seen fits facts =
    let own : length (rows p seen) ≤ 2 * bit_count (own_ports L) = own_rows_within L p seen fits facts in
    let few : bit_count (own_ports L) ≤ bit_count L.arena.lists.ports = own_bits_few L in
    omega arith

few_rows : (L : LinkedView) (p : Plan) (seen : List PinSeen) → IsFitting L p seen → Facts L p seen → HasRoom L p → length (device_of L p seen).cells < 10 ^ 9
few_rows L p seen fits facts room =
    let within : length (rows p seen) ≤ 2 * bit_count (own_ports L) = own_rows_within L p seen fits facts in
    let same : length (device_of L p seen).cells ≡ length (rows p seen) = length-map (rows p seen) (cell_row (fitted_of L p seen)) in
    let limit : bit_count (own_ports L) + (5 + length p.linkage) ≤ 4096 = room in
    omega arith

-- The whole.

device_rows : ControlCellsAreThere → DriversAgree → HighzDisablesAll → (L : LinkedView) (p : Plan) (seen : List PinSeen) → IsFitting L p seen → HasRoom L p → Facts L p seen → AreDeviceRows (device_of L p seen)
device_rows there agree highz L p seen fits room facts =
    record {
      some = some_rows L p seen fits facts;
      few = few_rows L p seen fits facts room;
      each = all_enumerated (λ (row : ℕ × CellRow). IsDeviceRow (device_of L p seen) row.0 row.1) 0 (device_of L p seen).cells (λ k row at.
          let number : k ≡ 0 + k = omega arith in
          subst (λ (n : ℕ). IsDeviceRow (device_of L p seen) n row) number
          (right_row L p seen fits.wide (plans_have_controls p fits.spelled) (there L p seen) facts.each k row at));
      bits = own_bits_all L p seen fits.wide (λ (bit : DevBit). count_by (is_at bit) (device_of L p seen).cells ≡ 1) (one_row_at L p seen fits facts);
      agree = agree L p seen;
      highz = highz L p seen;
    }

pub plans_make_devices : OpcodesKeepTheRules → ControlCellsAreThere → DriversAgree → HighzDisablesAll → BitHasDirection → DriverIsFound → PlansMakeDevices
plans_make_devices rules there agree highz has found L p seen fits room =
    let facts = facts_of has found L p seen fits in
    let register = plans_have_registers p fits.spelled in
    let codes = plans_have_codes p fits.spelled in
    let bits = plans_have_bits p fits.spelled in
    let right = right_ports L p seen fits facts.names in
    record {
      entity = facts.names.unit.0;
      «package» = facts.names.unit.1.0;
      ports = device_ports L p seen fits room facts.names (plans_have_pins p fits.spelled) facts.once facts.lined right;
      tap = device_tap L p seen register;
      instructions = device_register rules L p seen fits register bits codes;
      code = codes.code;
      identified = codes.identified;
      user = bits.user;
      user_identified = codes.user_identified;
      user_beside = codes.user_beside;
      rows = device_rows there agree highz L p seen fits room facts;
    }
