-- How many lines a program has at most, and that its pins are words.
use Rattle.std.proofs.Common.{◌≡◌, ℕ, zero, suc, ◌+◌, ◌*◌, ◌≤◌, Bool, true, false, cond, List, [], ◌∷◌, ◌++◌, length, length-append, replicate, Option, Some, None, refl, sym, ap, ◌∙◌, arith}
use Rattle.std.proofs.lemmas.List.{length-map, length-replicate}
use Rattle.std.specs.List.{flat_map, AllByRecursion}
use Rattle.signal_values.specs.declared.PinSig.{PinSig}
use Rattle.signal_values.specs.declared.PinSig.TheVariants as pin
use Rattle.cell_library.specs.declared.codes.Opcode.{Opcode}
use Rattle.bsdl_device.specs.declared.entries.Register.{Register}
use Rattle.bsdl_device.specs.declared.entries.Register.TheVariants as register
use Rattle.bsdl_device.specs.declared.values.DevPort.{DevPort}
use Rattle.bsdl_device.specs.declared.values.Device.{Device}
use Rattle.bsdl_device.specs.Ports.{width, indices}
use Rattle.bsdl_device.specs.Instructions.{selected_register, is_register}
use Rattle.bsdl_device.specs.IsDevice.{IsDevice, IsBits}
use Rattle.test_logic.specs.declared.TapState.{TapState}
use Rattle.test_logic.specs.declared.TapState.TheVariants as state
use Rattle.test_logic.specs.Controller.{state_after}
use Rattle.test_logic.specs.Machine.{Machine}
use Rattle.scan_vectors.specs.declared.lines.Line.TheVariants.{Start}
use Rattle.scan_programs.specs.declared.clocks.Clock.{Clock}
use Rattle.scan_programs.specs.declared.pins.Reader.{Reader}
use Rattle.scan_programs.specs.Scans.{moves, shifts, dr_scan, ir_scan, low_bits, alternating, register_length, scan_length, ident_scan, instruction_scans, all_clocks}
use Rattle.scan_programs.specs.Pins.{bit_word, port_word, start_value, takes_start, starts_of, starts, is_read_port, reader_at, readers_of, readers}
use Rattle.scan_programs.specs.Program.{expected, tdo_lines, reader_value, pin_lines, look, is_update, look_after, set_line, set_if, Bench, machine_after, bench_after, clock_lines, scan_lines, in_reset, first_bench, program_of}
use Rattle.scan_programs.proofs.Pairs.{one_if, count}
use Rattle.scan_programs.proofs.Rows.{bits_in, few_pieces, length-indices, few_cells, few_opcodes, scans_boundary, few_boundary}

-- Lines of one look.

few_expected : (word : List ℕ) (value : PinSig) → length (expected word value) ≤ 1
few_expected word pin.Unknown = omega arith
few_expected word pin.Zero = omega arith
few_expected word pin.One = omega arith
few_expected word pin.HighZ = omega arith

few_pin_lines : (B : Device) (m : Machine) (rs : List Reader) → length (flat_map (λ (r : Reader). expected r.word (reader_value B m r)) rs) ≤ length rs
few_pin_lines B m [] = omega arith
few_pin_lines B m (r ∷ rs) =
    let e = length-append (expected r.word (reader_value B m r)) (flat_map (λ (r : Reader). expected r.word (reader_value B m r)) rs) in
    let one = few_expected r.word (reader_value B m r) in let more = few_pin_lines B m rs in omega (arith, e, one, more)

few_look : (B : Device) (m : Machine) → length (look B m) ≤ 1 + length (readers B)
few_look B m =
    let e = length-append (tdo_lines B m) (pin_lines B m) in let one = few_expected (port_word B B.tdo) m.tdo in let more = few_pin_lines B m (readers B) in omega (arith, e, one, more)

pieces_if : {X : Type 0} (b : Bool) (xs : List X) (n : ℕ) → length xs ≤ n → length (cond b xs []) ≤ n
pieces_if true xs n h = h
pieces_if false xs n h = omega arith

few_starts : (B : Device) → length (starts B) ≤ bits_in B.ports
unfolding starts
few_starts B = few_pieces (starts_of B) one 0 B.ports
  where
    one : (place : ℕ) (p : DevPort) → length (starts_of B (place, p)) ≤ width p.range
    one place p =
        let e = length-map (indices p.range) (λ index. Start (bit_word p.name index) (start_value B place p)) in
        let w = length-indices p.range in
        pieces_if (takes_start p) _ (width p.range) (omega (arith, e, w))

few_readers : (B : Device) → length (readers B) ≤ bits_in B.ports
unfolding readers
few_readers B = few_pieces (readers_of B) one 0 B.ports
  where
    one : (place : ℕ) (p : DevPort) → length (readers_of B (place, p)) ≤ width p.range
    one place p =
        let e = length-map (indices p.range) (reader_at B.cells place p.name) in
        let w = length-indices p.range in
        pieces_if (is_read_port B (place, p)) _ (width p.range) (omega (arith, e, w))

-- Lines of cycles: pins are looked at only after a cycle with TMS at 1.

no_update : (s : TapState) → is_update (state_after s false) ≡ true → ⊥
no_update state.TestLogicReset h = cc
no_update state.RunTestIdle h = cc
no_update state.SelectDrScan h = cc
no_update state.CaptureDr h = cc
no_update state.ShiftDr h = cc
no_update state.Exit1Dr h = cc
no_update state.PauseDr h = cc
no_update state.Exit2Dr h = cc
no_update state.UpdateDr h = cc
no_update state.SelectIrScan h = cc
no_update state.CaptureIr h = cc
no_update state.ShiftIr h = cc
no_update state.Exit1Ir h = cc
no_update state.PauseIr h = cc
no_update state.Exit2Ir h = cc
no_update state.UpdateIr h = cc

updates_by_tms : (s : TapState) (tms : Bool) → is_update (state_after s tms) ≡ true → tms ≡ true
updates_by_tms s true h = refl
updates_by_tms s false h = absurd (no_update s h)

-- how many lines a cycle comes to at most, where so many pins are read
abbrev cost : ℕ → Clock → ℕ
cost pins c = 5 + cond c.tms pins 0

abbrev costs : ℕ → List Clock → ℕ
costs pins [] = 0
costs pins (c ∷ clocks) = cost pins c + costs pins clocks

few_set : (B : Device) (place : ℕ) (before level : Bool) → length (set_if B place before level) ≤ 1
few_set B place true true = omega arith
few_set B place false false = omega arith
few_set B place true false = omega arith
few_set B place false true = omega arith

few_after : (B : Device) (m : Machine) (s : TapState) (tms : Bool) → m.state ≡ state_after s tms → length (look_after B m) ≤ 1 + cond tms (length (readers B)) 0
few_after B m s tms e =
    let l = length-append (tdo_lines B m) (cond (is_update m.state) (pin_lines B m) []) in
    let one = few_expected (port_word B B.tdo) m.tdo in
    let pins = few_pin_lines B m (readers B) in
    by (is_update m.state) refl l one pins
  where
    by : (b : Bool) → is_update m.state ≡ b → length (look_after B m) ≡ length (tdo_lines B m) + length (cond (is_update m.state) (pin_lines B m) []) → length (tdo_lines B m) ≤ 1
        → length (pin_lines B m) ≤ length (readers B) → length (look_after B m) ≤ 1 + cond tms (length (readers B)) 0
    by true u l one pins =
        let t : tms ≡ true = updates_by_tms s tms (ap is_update (sym e) ∙ u) in
        let w : length (cond (is_update m.state) (pin_lines B m) []) ≡ length (pin_lines B m) = ap (λ (b : Bool). length (cond b (pin_lines B m) [])) u in
        let v : cond tms (length (readers B)) 0 ≡ length (readers B) = ap (λ (b : Bool). cond b (length (readers B)) 0) t in
        omega (arith, l, one, pins, w, v)
    by false u l one pins =
        let w : length (cond (is_update m.state) (pin_lines B m) []) ≡ 0 = ap (λ (b : Bool). length (cond b (pin_lines B m) [])) u in
        omega (arith, l, one, w)

few_clock_lines : (B : Device) (c : Clock) (w : Bench) → length (clock_lines B c w) ≤ cost (length (readers B)) c
few_clock_lines B c w =
    let m = machine_after B c w.machine in
    let edges = set_line B B.tck true ∷ set_line B B.tck false ∷ look_after B m in
    let tms = length-append (set_if B B.tms w.tms c.tms) (set_if B B.tdi w.tdi c.tdi ++ edges) in
    let tdi = length-append (set_if B B.tdi w.tdi c.tdi) edges in
    let one = few_set B B.tms w.tms c.tms in
    let two = few_set B B.tdi w.tdi c.tdi in
    let after = few_after B m w.machine.state c.tms refl in
    omega (arith, tms, tdi, one, two, after)

few_scan_lines : (B : Device) (clocks : List Clock) (w : Bench) → length (scan_lines B clocks w) ≤ costs (length (readers B)) clocks
unfolding scan_lines
few_scan_lines B [] w = omega arith
few_scan_lines B (c ∷ clocks) w =
    let e = length-append (clock_lines B c w) (scan_lines B clocks (bench_after B c w)) in
    let one = few_clock_lines B c w in let more = few_scan_lines B clocks (bench_after B c w) in omega (arith, e, one, more)

-- The costs of scans.

costs-append : (pins : ℕ) (xs ys : List Clock) → costs pins (xs ++ ys) ≡ costs pins xs + costs pins ys
costs-append pins [] ys = omega arith
costs-append pins (c ∷ xs) ys = let e = costs-append pins xs ys in omega (arith, e)

costs-shifts : (pins : ℕ) (bits : List Bool) → costs pins (shifts bits) ≤ 5 * length bits + pins
unfolding shifts
costs-shifts pins [] = omega arith
costs-shifts pins (bit ∷ []) = omega arith
costs-shifts pins (bit ∷ next ∷ bits) = let more = costs-shifts pins (next ∷ bits) in omega (arith, more)

costs-dr : (pins : ℕ) (bits : List Bool) → costs pins (dr_scan bits) ≤ 25 + 5 * length bits + 3 * pins
costs-dr pins bits =
    let a = costs-append pins (moves (true ∷ false ∷ false ∷ [])) (shifts bits ++ moves (true ∷ false ∷ [])) in
    let b = costs-append pins (shifts bits) (moves (true ∷ false ∷ [])) in
    let c = costs-shifts pins bits in omega (arith, a, b, c)

costs-ir : (pins : ℕ) (bits : List Bool) → costs pins (ir_scan bits) ≤ 30 + 5 * length bits + 4 * pins
costs-ir pins bits =
    let a = costs-append pins (moves (true ∷ true ∷ false ∷ false ∷ [])) (shifts bits ++ moves (true ∷ false ∷ [])) in
    let b = costs-append pins (shifts bits) (moves (true ∷ false ∷ [])) in
    let c = costs-shifts pins bits in omega (arith, a, b, c)

length-low_bits : (count value : ℕ) → length (low_bits count value) ≡ count
unfolding low_bits
length-low_bits zero value = refl
length-low_bits (suc count) value = ap suc (length-low_bits count _)

length-alternating : (count : ℕ) (first : Bool) → length (alternating count first) ≡ count
unfolding alternating
length-alternating zero first = refl
length-alternating (suc count) first = ap suc (length-alternating count _)

-- another register than the boundary's has 32 bits at most
few_bits : (B : Device) (r : Register) → length B.cells ≤ 8192 → register_length B r ≤ 32 + 8160 * one_if (is_register register.Boundary r)
few_bits B register.Boundary h = omega (arith, h)
few_bits B register.Bypass h = omega arith
few_bits B register.DeviceId h = omega arith

costs-instruction : (B : Device) (pins : ℕ) (o : Opcode) → length B.cells ≤ 8192 → o.bits.len ≤ 32 → costs pins (instruction_scans B o) ≤ 560 + 10 * pins + 81600 * one_if (scans_boundary o)
costs-instruction B pins o few short =
    let n = scan_length B o.instr in
    let code = low_bits o.bits.len o.bits.value in
    let a = costs-append pins (ir_scan code) (dr_scan (alternating n true) ++ dr_scan (alternating n false)) in
    let b = costs-append pins (dr_scan (alternating n true)) (dr_scan (alternating n false)) in
    let c = costs-ir pins code in
    let x = costs-dr pins (alternating n true) in
    let y = costs-dr pins (alternating n false) in
    let lc = length-low_bits o.bits.len o.bits.value in
    let lx = length-alternating n true in
    let ly = length-alternating n false in
    let most = few_bits B (selected_register o.instr) few in
    omega (arith, a, b, c, x, y, lc, lx, ly, most, short)

costs-ident : (pins : ℕ) (code : Option ℕ) → costs pins (ident_scan code) ≤ 185 + 3 * pins
costs-ident pins None = omega arith
costs-ident pins (Some code) = let a = costs-dr pins (replicate 32 false) in let l = length-replicate 32 false in omega (arith, a, l)

costs-instructions : (B : Device) (pins : ℕ) → pins ≤ 4096 → length B.cells ≤ 8192 → (opcodes : List Opcode) → AllByRecursion (λ (o : Opcode). IsBits o.bits) opcodes
    → costs pins (flat_map (instruction_scans B) opcodes) ≤ 41520 * length opcodes + 81600 * count scans_boundary opcodes
costs-instructions B pins p few [] are = omega arith
costs-instructions B pins p few (o ∷ opcodes) are =
    let e = costs-append pins (instruction_scans B o) (flat_map (instruction_scans B) opcodes) in
    let short : o.bits.len ≤ 32 = are.0.few in
    let one = costs-instruction B pins o few short in
    let more = costs-instructions B pins p few opcodes are.1 in
    omega (arith, e, one, more, p)

costs-all : (B : Device) (pins : ℕ) → IsDevice B → pins ≤ 4096 → costs pins (all_clocks B) ≤ 589438
unfolding all_clocks
costs-all B pins is p =
    let scans = flat_map (instruction_scans B) B.opcodes in
    let a = costs-append pins (ident_scan B.idcode) scans in
    let ident = costs-ident pins B.idcode in
    let codes = costs-instructions B pins p (few_cells B is) B.opcodes is.instructions.values in
    let eight = few_opcodes B is in
    let three = few_boundary B is in
    omega (arith, a, ident, codes, eight, three, p)

pub few_lines : (B : Device) → IsDevice B → length (program_of B) ≤ 1000000
unfolding program_of
few_lines B is =
    let m = in_reset B in
    let end = set_line B B.trst false ∷ look B m in
    let scans = scan_lines B (all_clocks B) (first_bench B) in
    let up = set_line B B.trst true ∷ (look B m ++ (scans ++ end)) in
    let a = length-append (starts B) (look B m ++ up) in
    let b = length-append (look B m) up in
    let c = length-append (look B m) (scans ++ end) in
    let d = length-append scans end in
    let s = few_starts B in
    let l = few_look B m in
    let r = few_readers B in
    let limit : bits_in B.ports ≤ 4096 = is.ports.few in
    let cycles = few_scan_lines B (all_clocks B) (first_bench B) in
    let cost = costs-all B (length (readers B)) is (omega (arith, r, limit)) in
    omega (arith, a, b, c, d, s, l, r, limit, cycles, cost)
