-- The program of a device: events that work its test access port, and what must be read.
-- IEEE Std 1149.1-2001: test access port, TAP controller. The choice of scans and of what is read is own.
use Rattle.std.specs.Prelude.{ℕ, Bool, true, false, List, [], ◌∷◌, ◌++◌, if◌then◌else◌}
use Rattle.std.specs.List.{flat_map}
use Rattle.std.specs.Option.{option_map_or}
use Rattle.signal_values.specs.declared.PinSig.{PinSig}
use Rattle.signal_values.specs.declared.PinSig.TheVariants as pin
use Rattle.signal_values.specs.Values.{bit, pin_of}
use Rattle.bsdl_device.specs.declared.values.Device.{Device}
use Rattle.test_logic.specs.declared.TapState.{TapState}
use Rattle.test_logic.specs.declared.TapState.TheVariants.{UpdateDr, UpdateIr}
use Rattle.test_logic.specs.Machine.{Machine, reset, rise, fall, test_logic_of}
use Rattle.scan_vectors.specs.declared.lines.Line.{Line}
use Rattle.scan_vectors.specs.declared.lines.Line.TheVariants.{Set, Expect}
use Rattle.scan_programs.specs.declared.clocks.Clock.{Clock}
use Rattle.scan_programs.specs.declared.pins.Reader.{Reader}
use Rattle.scan_programs.specs.Scans.{all_clocks}
use Rattle.scan_programs.specs.Cells.{unknown_core, captured, reading}
use Rattle.scan_programs.specs.Pins.{port_word, starts, readers}

-- what is read is expected where it is known
abbrev pub expected : List ℕ → PinSig → List Line
expected word pin.Unknown = []
expected word value = Expect word value ∷ []

abbrev pub tdo_lines : Device → Machine → List Line
tdo_lines B m = expected (port_word B B.tdo) m.tdo

-- what a bit reads where nothing is known of the core
abbrev pub reader_value : Device → Machine → Reader → PinSig
reader_value B m r = option_map_or (reading B m unknown_core) r.number pin.Unknown

abbrev pub pin_lines : Device → Machine → List Line
pin_lines B m = flat_map (λ (r : Reader). expected r.word (reader_value B m r)) (readers B)

abbrev pub look : Device → Machine → List Line
look B m = tdo_lines B m ++ pin_lines B m

abbrev pub is_update : TapState → Bool
is_update UpdateDr = true
is_update UpdateIr = true
is_update _ = false

-- after a cycle TDO is looked at, and in Update-DR and Update-IR the pins too
abbrev pub look_after : Device → Machine → List Line
look_after B m = tdo_lines B m ++ (if is_update m.state then pin_lines B m else [])

-- an input of the test access port, by its place, is set
abbrev pub set_line : Device → ℕ → Bool → Line
set_line B place level = Set (port_word B place) (pin_of (bit level))

-- where it has another level
abbrev pub set_if : Device → ℕ → Bool → Bool → List Line
set_if B place true true = []
set_if B place false false = []
set_if B place before level = set_line B place level ∷ []

-- the levels of TMS and TDI, and what the test logic holds, while TCK is 0 and TRST is 1
pub record Bench : Type 0 where
  pub tms : Bool
  pub tdi : Bool
  pub machine : Machine

-- a cycle of TCK
abbrev pub machine_after : Device → Clock → Machine → Machine
machine_after B c m = fall (test_logic_of B) (rise (test_logic_of B) c.tms (bit c.tdi) (captured B m unknown_core) m)

abbrev pub bench_after : Device → Clock → Bench → Bench
bench_after B c w = record { tms = c.tms; tdi = c.tdi; machine = machine_after B c w.machine }

abbrev pub clock_lines : Device → Clock → Bench → List Line
clock_lines B c w =
    set_if B B.tms w.tms c.tms ++ (set_if B B.tdi w.tdi c.tdi
    ++ (set_line B B.tck true ∷ set_line B B.tck false ∷ look_after B (machine_after B c w.machine)))

unfoldable pub scan_lines : Device → List Clock → Bench → List Line
scan_lines B [] w = []
scan_lines B (c ∷ clocks) w = clock_lines B c w ++ scan_lines B clocks (bench_after B c w)

abbrev pub in_reset : Device → Machine
in_reset B = reset (test_logic_of B)

-- before the first cycle: TMS is 1, and the test logic is in reset
abbrev pub first_bench : Device → Bench
first_bench B = record { tms = true; tdi = false; machine = in_reset B }

-- the starts and a look, TRST to 1 and a look, all cycles, TRST to 0 and a look
unfoldable pub program_of : Device → List Line
program_of B =
    starts B ++ (look B (in_reset B)
    ++ (set_line B B.trst true ∷ (look B (in_reset B)
    ++ (scan_lines B (all_clocks B) (first_bench B)
    ++ (set_line B B.trst false ∷ look B (in_reset B))))))
