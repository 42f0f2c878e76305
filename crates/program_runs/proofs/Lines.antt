-- Each start of a program is of a bit of an input or inout, and each set of an input of the test access port.
use Rattle.std.proofs.Common.{◌≡◌, ℕ, suc, ◌+◌, Bool, true, false, List, [], ◌∷◌, ◌++◌, map, slice_get, Option, Some, if◌then◌else◌, refl, sym, ap, ◌∙◌, arith}
use Rattle.std.specs.List.{enumerate_from, flat_map}
use Rattle.signal_values.specs.declared.PinSig.{PinSig}
use Rattle.signal_values.specs.declared.PinSig.TheVariants as pin
use Rattle.test_logic.specs.declared.TapInput.{TapInput}
use Rattle.test_logic.specs.declared.TapInput.TheVariants.{Tck, Tms, Tdi, Trst}
use Rattle.test_logic.specs.Machine.{Machine}
use Rattle.bsdl_device.specs.declared.values.DevPort.{DevPort}
use Rattle.bsdl_device.specs.declared.values.Device.{Device}
use Rattle.bsdl_device.specs.Ports.{indices}
use Rattle.scan_vectors.specs.declared.lines.Line.{Line}
use Rattle.scan_vectors.specs.declared.lines.Line.TheVariants.{Start, Set, Expect}
use Rattle.scan_programs.specs.declared.clocks.Clock.{Clock}
use Rattle.scan_programs.specs.declared.pins.Reader.{Reader}
use Rattle.scan_programs.specs.Scans.{all_clocks}
use Rattle.scan_programs.specs.Pins.{bit_word, port_word, start_value, takes_start, starts_of, starts, readers}
use Rattle.scan_programs.specs.Program.{expected, tdo_lines, reader_value, pin_lines, look, is_update, look_after, set_line, set_if, Bench, machine_after, bench_after, clock_lines, scan_lines, in_reset, first_bench, program_of}
use Rattle.scan_programs.specs.Met.{input_place}
use Rattle.program_runs.specs.Lines.{NamePins}
use Rattle.program_runs.specs.Laws.{ProgramNamesPins}

-- Lists that are joined.

joined : (B : Device) (xs ys : List Line) → NamePins B xs → NamePins B ys → NamePins B (xs ++ ys)
joined B [] ys h k = k
joined B (Start word value ∷ xs) ys h k = (h.0, joined B xs ys h.1 k)
joined B (Set word value ∷ xs) ys h k = (h.0, joined B xs ys h.1 k)
joined B (Expect word value ∷ xs) ys h k = joined B xs ys h k

-- The parts of a program.

-- these are indices of the port's bits
abbrev AreIndices : DevPort → List (Option ℕ) → Type 0
AreIndices p is = (k : ℕ) (i : Option ℕ) → slice_get is k ≡ Some i → (bit : ℕ) × (slice_get (indices p.range) bit ≡ Some i)

port_starts : (B : Device) (place : ℕ) (p : DevPort) (is : List (Option ℕ)) → slice_get B.ports place ≡ Some p → takes_start p ≡ true → AreIndices p is
    → NamePins B (map (λ index. Start (bit_word p.name index) (start_value B place p)) is)
port_starts B place p [] there takes are = tt
port_starts B place p (i ∷ is) there takes are =
    let at = are 0 i refl in (
      record { place = place; port = p; bit = at.0; index = i; there = there; takes = takes; at = at.1; named = refl; value_is = refl },
      port_starts B place p is there takes (λ k j h. are (suc k) j h),
    )

starts_if : (B : Device) (place : ℕ) (p : DevPort) (b : Bool) → slice_get B.ports place ≡ Some p → takes_start p ≡ b
    → NamePins B (if b then map (λ index. Start (bit_word p.name index) (start_value B place p)) (indices p.range) else [])
starts_if B place p true there takes = port_starts B place p (indices p.range) there takes (λ k i h. (k, h))
starts_if B place p false there takes = tt

lines_if : (B : Device) (b : Bool) (lines : List Line) → NamePins B lines → NamePins B (if b then lines else [])
lines_if B true lines h = h
lines_if B false lines h = tt

starts_from : (B : Device) (place : ℕ) (ps : List DevPort) → ((k : ℕ) → slice_get ps k ≡ slice_get B.ports (place + k)) → NamePins B (flat_map (starts_of B) (enumerate_from place ps))
starts_from B place [] same = tt
starts_from B place (p ∷ ps) same =
    let here : slice_get B.ports place ≡ Some p = ap (slice_get B.ports) (let e : place ≡ place + 0 = omega arith in e) ∙ sym (same 0) in
    joined B (starts_of B (place, p)) (flat_map (starts_of B) (enumerate_from (place + 1) ps)) (starts_if B place p (takes_start p) here refl)
    (starts_from B (place + 1) ps (λ k. same (suc k) ∙ ap (slice_get B.ports) (let e : place + suc k ≡ place + 1 + k = omega arith in e)))

starts_are : (B : Device) → NamePins B (starts B)
unfolding starts
starts_are B = starts_from B 0 B.ports (λ k. ap (slice_get B.ports) (let e : k ≡ 0 + k = omega arith in e))

expected_is : (B : Device) (word : List ℕ) (value : PinSig) → NamePins B (expected word value)
expected_is B word pin.Unknown = tt
expected_is B word pin.Zero = tt
expected_is B word pin.One = tt
expected_is B word pin.HighZ = tt

pins_are : (B : Device) (m : Machine) (rs : List Reader) → NamePins B (flat_map (λ (r : Reader). expected r.word (reader_value B m r)) rs)
pins_are B m [] = tt
pins_are B m (r ∷ rs) = joined B (expected r.word (reader_value B m r)) _ (expected_is B r.word (reader_value B m r)) (pins_are B m rs)

look_is : (B : Device) (m : Machine) → NamePins B (look B m)
look_is B m = joined B (tdo_lines B m) (pin_lines B m) (expected_is B (port_word B B.tdo) m.tdo) (pins_are B m (readers B))

look_after_is : (B : Device) (m : Machine) → NamePins B (look_after B m)
look_after_is B m = joined B (tdo_lines B m) _ (expected_is B (port_word B B.tdo) m.tdo) (lines_if B (is_update m.state) (pin_lines B m) (pins_are B m (readers B)))

set_is : (B : Device) (input : TapInput) (level : Bool) (lines : List Line) → NamePins B lines → NamePins B (set_line B (input_place B input) level ∷ lines)
set_is B input level lines h = (record { input = input; level = level; set = record { word_is = refl; value_is = refl } }, h)

set_if_is : (B : Device) (input : TapInput) (before level : Bool) → NamePins B (set_if B (input_place B input) before level)
set_if_is B input true true = tt
set_if_is B input false false = tt
set_if_is B input true false = set_is B input false [] tt
set_if_is B input false true = set_is B input true [] tt

clock_is : (B : Device) (c : Clock) (w : Bench) → NamePins B (clock_lines B c w)
clock_is B c w =
    let after = look_after B (machine_after B c w.machine) in
    let edges = set_line B B.tck true ∷ set_line B B.tck false ∷ after in
    joined B (set_if B B.tms w.tms c.tms) (set_if B B.tdi w.tdi c.tdi ++ edges) (set_if_is B Tms w.tms c.tms)
    (joined B (set_if B B.tdi w.tdi c.tdi) edges (set_if_is B Tdi w.tdi c.tdi)
    (set_is B Tck true (set_line B B.tck false ∷ after) (set_is B Tck false after (look_after_is B (machine_after B c w.machine)))))

scan_is : (B : Device) (clocks : List Clock) (w : Bench) → NamePins B (scan_lines B clocks w)
unfolding scan_lines
scan_is B [] w = tt
scan_is B (c ∷ clocks) w = joined B (clock_lines B c w) (scan_lines B clocks (bench_after B c w)) (clock_is B c w) (scan_is B clocks (bench_after B c w))

pub program_names_pins : ProgramNamesPins
unfolding program_of
program_names_pins B =
    let m = in_reset B in
    let end = set_line B B.trst false ∷ look B m in
    let scans = scan_lines B (all_clocks B) (first_bench B) in
    joined B (starts B) (look B m ++ (set_line B B.trst true ∷ (look B m ++ (scans ++ end)))) (starts_are B)
    (joined B (look B m) (set_line B B.trst true ∷ (look B m ++ (scans ++ end))) (look_is B m)
    (set_is B Trst true (look B m ++ (scans ++ end))
    (joined B (look B m) (scans ++ end) (look_is B m)
    (joined B scans end (scan_is B (all_clocks B) (first_bench B)) (set_is B Trst false (look B m) (look_is B m))))))
