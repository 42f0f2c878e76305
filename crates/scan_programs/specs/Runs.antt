-- own: what stands while a program is put down.
use Rattle.std.specs.Prelude.{◌≡◌, ◌<◌, ◌≤◌, ◌^◌, Bool, List, [], ◌∷◌, ◌++◌, length}
use Rattle.signal_values.specs.declared.Sig.{Sig}
use Rattle.signal_values.specs.Values.{bit}
use Rattle.bsdl_device.specs.declared.values.Device.{Device}
use Rattle.test_logic.specs.Machine.{TestLogic, Machine, rise, fall, test_logic_of}
use Rattle.scan_vectors.specs.declared.lines.Line.{Line}
use Rattle.scan_programs.specs.declared.clocks.Clock.{Clock}
use Rattle.scan_programs.specs.declared.pins.Reader.{Reader}
use Rattle.scan_programs.specs.Cells.{captured, unknown_core}
use Rattle.scan_programs.specs.Pins.{readers}
use Rattle.scan_programs.specs.Program.{Bench, bench_after, clock_lines}
use Rattle.scan_programs.specs.Fits.{AreInRange}

-- a device, its test logic with the levels of TMS and TDI, and the lines so far
pub record BenchView : Type 0 where
  pub device : Device
  pub bench : Bench
  pub list : List Line

-- the same with more lines, or with other parts
abbrev pub adds : BenchView → List Line → BenchView
adds b lines = record { device = b.device; bench = b.bench; list = b.list ++ lines }

abbrev pub with_machine : BenchView → Machine → BenchView
with_machine b m = record { device = b.device; bench = record { tms = b.bench.tms; tdi = b.bench.tdi; machine = m }; list = b.list }

abbrev pub with_tms : BenchView → Bool → BenchView
with_tms b level = record { device = b.device; bench = record { tms = level; tdi = b.bench.tdi; machine = b.bench.machine }; list = b.list }

abbrev pub with_tdi : BenchView → Bool → BenchView
with_tdi b level = record { device = b.device; bench = record { tms = b.bench.tms; tdi = level; machine = b.bench.machine }; list = b.list }

abbrev pub with_bench : BenchView → Bench → BenchView
with_bench b w = record { device = b.device; bench = w; list = b.list }

-- what is kept beside is the device's
pub record IsSteady (B : Device) (L : TestLogic) (rs : List Reader) (idle : List Sig) : Type 0 where
  pub logic : L ≡ test_logic_of B
  pub readers_are : rs ≡ readers B
  pub idle_fits : length idle ≡ length B.cells
  pub kinds_fit : length L.kinds ≡ length B.cells
  pub rows : AreInRange B.cells
  pub few : length B.cells < 10 ^ 9
  pub few_ports : length B.ports ≤ 2 ^ 32

-- the two edges of a cycle
abbrev pub risen : Device → Clock → Machine → Machine
risen B c m = rise (test_logic_of B) c.tms (bit c.tdi) (captured B m unknown_core) m

abbrev pub fallen : Device → Machine → Machine
fallen B m = fall (test_logic_of B) m

-- after one cycle, and after some
unfoldable pub after_clock : Clock → BenchView → BenchView
after_clock c b = adds (with_bench b (bench_after b.device c b.bench)) (clock_lines b.device c b.bench)

unfoldable pub after_clocks : List Clock → BenchView → BenchView
after_clocks [] b = b
after_clocks (c ∷ clocks) b = after_clocks clocks (after_clock c b)
