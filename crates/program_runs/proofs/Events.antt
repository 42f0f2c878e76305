-- The lines of a program behind its starts: sets of the test access port, and expectations of TDO and of outputs and inouts.
use Rattle.std.proofs.Common.{◌≡◌, ◌⊎◌, ℕ, ◌+◌, Bool, true, false, List, [], ◌∷◌, ◌++◌, slice_get, if◌then◌else◌, Option, Some, refl, inl, inr}
use Rattle.std.specs.List.{AllByRecursion, flat_map}
use Rattle.list_laws.proofs.Lists.{all_append}
use Rattle.signal_values.specs.declared.PinSig.{PinSig}
use Rattle.signal_values.specs.declared.PinSig.TheVariants as pin
use Rattle.test_logic.specs.declared.TapInput.{TapInput}
use Rattle.test_logic.specs.declared.TapInput.TheVariants.{Tck, Tms, Tdi, Trst}
use Rattle.test_logic.specs.Machine.{Machine}
use Rattle.bsdl_device.specs.declared.values.DevPort.{DevPort}
use Rattle.bsdl_device.specs.declared.values.Device.{Device}
use Rattle.bsdl_device.specs.Ports.{indices}
use Rattle.scan_vectors.specs.declared.lines.Line.{Line}
use Rattle.scan_vectors.specs.declared.lines.Line.TheVariants.{Start, Set, Expect}
use Rattle.scan_programs.specs.declared.clocks.Clock.{Clock}
use Rattle.scan_programs.specs.declared.pins.Reader.{Reader}
use Rattle.scan_programs.specs.Scans.{all_clocks}
use Rattle.scan_programs.specs.Pins.{bit_word, port_word, is_read_port, readers, starts}
use Rattle.scan_programs.specs.Program.{expected, tdo_lines, reader_value, pin_lines, look, is_update, look_after, set_line, set_if, Bench, machine_after, bench_after, clock_lines, scan_lines, in_reset, first_bench, program_of}
use Rattle.scan_programs.specs.Met.{input_place}
use Rattle.scan_programs.proofs.Goes.{AreReaders, readers_are}
use Rattle.program_runs.specs.Lines.{IsSetOf}

-- the word is that of a bit of an output or inout of the device's own logic
pub record IsReaderOf (B : Device) (word : List ℕ) : Type 0 where
  pub place : ℕ
  pub port : DevPort
  pub bit : ℕ
  pub index : Option ℕ
  pub there : slice_get B.ports place ≡ Some port
  pub read : is_read_port B (place, port) ≡ true
  pub at : slice_get (indices port.range) bit ≡ Some index
  pub named : word ≡ bit_word port.name index

abbrev pub IsReadOf : Device → List ℕ → Type 0
IsReadOf B word = (word ≡ port_word B B.tdo) ⊎ IsReaderOf B word

-- no start
abbrev pub IsEvent : Device → Line → Type 0
IsEvent B (Start word value) = ⊥
IsEvent B (Set word value) = IsSetOf B word value
IsEvent B (Expect word value) = IsReadOf B word

abbrev pub AreEvents : Device → List Line → Type 0
AreEvents B lines = AllByRecursion (IsEvent B) lines

joined : (B : Device) (xs ys : List Line) → AreEvents B xs → AreEvents B ys → AreEvents B (xs ++ ys)
joined B xs ys h k = all_append (IsEvent B) xs ys h k

-- Lines.

expected_is : (B : Device) (word : List ℕ) (value : PinSig) → IsReadOf B word → AreEvents B (expected word value)
expected_is B word pin.Unknown h = tt
expected_is B word pin.Zero h = (h, tt)
expected_is B word pin.One h = (h, tt)
expected_is B word pin.HighZ h = (h, tt)

pins_are : (B : Device) (m : Machine) (rs : List Reader) → AreReaders B rs → AreEvents B (flat_map (λ (r : Reader). expected r.word (reader_value B m r)) rs)
pins_are B m [] h = tt
pins_are B m (r ∷ rs) h =
    let one = h.0 in
    let of : IsReaderOf B r.word = record { place = one.place; port = one.port; bit = one.bit; index = one.index; there = one.there; read = one.read; at = one.at; named = one.named } in
    joined B (expected r.word (reader_value B m r)) (flat_map (λ (q : Reader). expected q.word (reader_value B m q)) rs) (expected_is B r.word (reader_value B m r) (inr of)) (pins_are B m rs h.1)

tdo_is : (B : Device) (m : Machine) → AreEvents B (tdo_lines B m)
tdo_is B m = expected_is B (port_word B B.tdo) m.tdo (inl refl)

look_is : (B : Device) (m : Machine) → AreEvents B (look B m)
look_is B m = joined B (tdo_lines B m) (pin_lines B m) (tdo_is B m) (pins_are B m (readers B) (readers_are B))

lines_if : (B : Device) (b : Bool) (lines : List Line) → AreEvents B lines → AreEvents B (if b then lines else [])
lines_if B true lines h = h
lines_if B false lines h = tt

look_after_is : (B : Device) (m : Machine) → AreEvents B (look_after B m)
look_after_is B m =
    joined B (tdo_lines B m) (if is_update m.state then pin_lines B m else []) (tdo_is B m) (lines_if B (is_update m.state) (pin_lines B m) (pins_are B m (readers B) (readers_are B)))

set_is : (B : Device) (input : TapInput) (level : Bool) (lines : List Line) → AreEvents B lines → AreEvents B (set_line B (input_place B input) level ∷ lines)
set_is B input level lines h = (record { input = input; level = level; set = record { word_is = refl; value_is = refl } }, h)

set_if_is : (B : Device) (input : TapInput) (before level : Bool) → AreEvents B (set_if B (input_place B input) before level)
set_if_is B input true true = tt
set_if_is B input false false = tt
set_if_is B input true false = set_is B input false [] tt
set_if_is B input false true = set_is B input true [] tt

clock_is : (B : Device) (c : Clock) (w : Bench) → AreEvents B (clock_lines B c w)
clock_is B c w =
    let after = look_after B (machine_after B c w.machine) in
    let edges = set_line B B.tck true ∷ set_line B B.tck false ∷ after in
    joined B (set_if B B.tms w.tms c.tms) (set_if B B.tdi w.tdi c.tdi ++ edges) (set_if_is B Tms w.tms c.tms)
    (joined B (set_if B B.tdi w.tdi c.tdi) edges (set_if_is B Tdi w.tdi c.tdi)
    (set_is B Tck true (set_line B B.tck false ∷ after) (set_is B Tck false after (look_after_is B (machine_after B c w.machine)))))

scan_is : (B : Device) (clocks : List Clock) (w : Bench) → AreEvents B (scan_lines B clocks w)
unfolding scan_lines
scan_is B [] w = tt
scan_is B (c ∷ clocks) w = joined B (clock_lines B c w) (scan_lines B clocks (bench_after B c w)) (clock_is B c w) (scan_is B clocks (bench_after B c w))

-- a program is its starts, and then events
pub record IsSplit (B : Device) : Type 0 where
  pub rest : List Line
  pub whole : program_of B ≡ starts B ++ rest
  pub events : AreEvents B rest

pub split : (B : Device) → IsSplit B
unfolding program_of
split B =
    let m = in_reset B in
    let end = set_line B B.trst false ∷ look B m in
    let scans = scan_lines B (all_clocks B) (first_bench B) in
    record {
      rest = look B m ++ (set_line B B.trst true ∷ (look B m ++ (scans ++ end)));
      whole = refl;
      events = joined B (look B m) (set_line B B.trst true ∷ (look B m ++ (scans ++ end))) (look_is B m)
          (set_is B Trst true (look B m ++ (scans ++ end))
          (joined B (look B m) (scans ++ end) (look_is B m)
          (joined B scans end (scan_is B (all_clocks B) (first_bench B)) (set_is B Trst false (look B m) (look_is B m)))));
    }
