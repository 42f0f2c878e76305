-- The chip that a device makes of a netlist meets the device's program, and so does each netlist that
-- realises the chip.
-- IEEE Std 1149.1-2001: test access port, boundary-scan register. The program is own.
use Rattle.std.specs.Prelude.{◌≡◌, ℕ, List, Some, None}
use Rattle.signal_values.specs.declared.Sig.{Sig}
use Rattle.signal_values.specs.declared.PinSig.{PinSig}
use Rattle.netlist_model.specs.declared.Dir.TheVariants.{Input}
use Rattle.netlist_model.specs.Lists.{NetlistView, direction}
use Rattle.netlist_model.specs.Cones.{IsControlPort}
use Rattle.netlist_model.specs.Formed.{IsWellFormed}
use Rattle.netlist_model.specs.Runs.{Moment, PinEvent, IsKnownPin}
use Rattle.netlist_link.specs.Linked.{LinkedView}
use Rattle.bsdl_device.specs.declared.values.Device.{Device}
use Rattle.wrapped_chip.specs.Cells.{row_of}
use Rattle.wrapped_chip.specs.ChipRuns.{ChipMoment, ChipEvent}
use Rattle.wrapped_chip.specs.Suits.{Suits}
use Rattle.wrapped_chip.specs.Realises.{SameBit, Realises, IsRunBeside}
use Rattle.plan_texts.specs.declared.plan.Plan.{Plan}
use Rattle.plan_fitting.specs.Pins.{PinSeen}
use Rattle.plan_fitting.specs.Devices.{device_of}
use Rattle.plan_fitting.specs.FittingPlan.{IsFitting}
use Rattle.scan_programs.specs.Program.{program_of}
use Rattle.program_runs.specs.Around.{StandsAround}
use Rattle.program_runs.specs.Lines.{NamePins}
use Rattle.program_runs.specs.Played.{IsProgramRun}
use Rattle.program_runs.specs.There.{IsProgramRunThere}
use Rattle.program_runs.specs.Readings.{AreReadFrom, ChipReads, ReadsThere}

-- each start of a program is of a bit of an input or inout, and each set of an input of the test access port
abbrev pub ProgramNamesPins : Type 0
ProgramNamesPins = (B : Device) → NamePins B (program_of B)

-- in each run of the chip by the program each expectation reads its value at its moment
abbrev pub ChipMeetsProgram : Type 0
ChipMeetsProgram = (B : Device) (N : NetlistView) → IsWellFormed N → Suits B N → StandsAround B N → (given : ℕ → Sig) (events : List ChipEvent) (chip : ℕ → ChipMoment)
    → IsProgramRun B N given events chip → AreReadFrom (λ t. ChipReads B N (chip t)) 0 (program_of B)

-- and in each run beside it of a netlist that realises the chip
abbrev pub RealisingMeetsProgram : Type 0
RealisingMeetsProgram = (M : NetlistView) (B : Device) (N : NetlistView) → IsWellFormed N → Suits B N → StandsAround B N → Realises M B N
    → (given : ℕ → Sig) (events : List ChipEvent) (chip : ℕ → ChipMoment) (moment : ℕ → Moment) → IsProgramRun B N given events chip → IsRunBeside M B N given events chip moment
    → AreReadFrom (λ t. ReadsThere M B N (moment t)) 0 (program_of B)

-- control ports are at 0 or 1
abbrev pub KnowsControls : NetlistView → (ℕ → PinSig) → Type 0
KnowsControls N outside = (net : ℕ) → IsControlPort N net → IsKnownPin (outside net)

-- each input without a cell starts with this
abbrev pub StartsStraight : Device → NetlistView → (ℕ → PinSig) → ChipMoment → Type 0
StartsStraight B N outside w = (net : ℕ) → direction N.ports net ≡ Some Input → row_of B N net ≡ None → w.pins net ≡ outside net

-- from any flip-flops of the netlist, and whatever is outside inputs without a cell, there is a run of the chip by the
-- program
pub record HasProgramRun (B : Device) (N : NetlistView) (given : ℕ → Sig) (outside : ℕ → PinSig) : Type 0 where
  pub events : List ChipEvent
  pub chip : ℕ → ChipMoment
  pub plays : IsProgramRun B N given events chip
  pub straight : StartsStraight B N outside (chip 0)

abbrev pub ProgramRunExists : Type 0
ProgramRunExists = (B : Device) (N : NetlistView) → IsWellFormed N → (given : ℕ → Sig) (outside : ℕ → PinSig) → KnowsControls N outside → HasProgramRun B N given outside

-- and from any flip-flops of a netlist that realises the chip there is such a run with one beside it
pub record HasRunBeside (M : NetlistView) (B : Device) (N : NetlistView) (start : ℕ → Sig) (outside : ℕ → PinSig) : Type 0 where
  pub events : List ChipEvent
  pub chip : ℕ → ChipMoment
  pub moment : ℕ → Moment
  pub plays : IsProgramRun B N start events chip
  pub straight : StartsStraight B N outside (chip 0)
  pub beside : IsRunBeside M B N start events chip moment
  pub starts : beside.start ≡ start

abbrev pub RunBesideProgramExists : Type 0
RunBesideProgramExists = (M : NetlistView) (B : Device) (N : NetlistView) → IsWellFormed N → Realises M B N → (start : ℕ → Sig) (outside : ℕ → PinSig) → KnowsControls N outside
    → HasRunBeside M B N start outside

-- in each run by the program of a netlist that realises the chip, from any flip-flops, each expectation reads its
-- value at its moment
abbrev pub NetlistMeetsProgram : Type 0
NetlistMeetsProgram = (M : NetlistView) (B : Device) (N : NetlistView) → IsWellFormed N → Suits B N → StandsAround B N → Realises M B N
    → (start : ℕ → Sig) (events : List PinEvent) (moment : ℕ → Moment) → IsProgramRunThere M B N start events moment → AreReadFrom (λ t. ReadsThere M B N (moment t)) 0 (program_of B)

-- and there is such a run from any flip-flops, whatever is outside inputs without a cell
pub record HasRunThere (M : NetlistView) (B : Device) (N : NetlistView) (start : ℕ → Sig) (outside : ℕ → PinSig) : Type 0 where
  pub events : List PinEvent
  pub moment : ℕ → Moment
  pub plays : IsProgramRunThere M B N start events moment
  pub straight : (net there : ℕ) → SameBit M N net there → direction N.ports net ≡ Some Input → row_of B N net ≡ None → (moment 0).pins there ≡ outside net

abbrev pub ProgramRunThereExists : Type 0
ProgramRunThereExists = (M : NetlistView) (B : Device) (N : NetlistView) → IsWellFormed N → Realises M B N → (start : ℕ → Sig) (outside : ℕ → PinSig) → KnowsControls N outside
    → HasRunThere M B N start outside

-- the device of a plan that fits stands around the netlist
abbrev pub PlansStandAround : Type 0
PlansStandAround = (L : LinkedView) (p : Plan) (seen : List PinSeen) → IsFitting L p seen → StandsAround (device_of L p seen) L.arena.lists

-- so each netlist that realises the chip of a plan that fits meets the device's program, with no other premise
abbrev pub FittingPlansMeetPrograms : Type 0
FittingPlansMeetPrograms = (M : NetlistView) (L : LinkedView) (p : Plan) (seen : List PinSeen) → IsFitting L p seen → Realises M (device_of L p seen) L.arena.lists
    → (start : ℕ → Sig) (events : List PinEvent) (moment : ℕ → Moment) → IsProgramRunThere M (device_of L p seen) L.arena.lists start events moment
    → AreReadFrom (λ t. ReadsThere M (device_of L p seen) L.arena.lists (moment t)) 0 (program_of (device_of L p seen))
