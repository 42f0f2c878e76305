-- Each kind of row: its start, its step, and what it gives.
use Rattle.std.proofs.Common.{◌≡◌, ℕ, ◌+◌, Bool, false, List, refl, sym, ◌∙◌}
use Rattle.signal_values.specs.declared.Sig.{Sig}
use Rattle.signal_values.specs.Values.{see}
use Rattle.cell_library.specs.declared.codes.Instr.{Instr}
use Rattle.cell_library.specs.declared.codes.BoundaryKind.{BoundaryKind}
use Rattle.cell_library.specs.declared.codes.BoundaryKind.TheVariants.{Bc1, Bc2, Bc4, Bc7}
use Rattle.cell_library.specs.declared.codes.Function.TheVariants.{Input, Output2, Control, Bidir}
use Rattle.netlist_model.specs.declared.NetId.{NetId}
use Rattle.netlist_model.specs.declared.Feed.{Feed}
use Rattle.netlist_model.specs.Lists.{NetlistView}
use Rattle.netlist_model.specs.Settled.{feed_value, Meets}
use Rattle.netlist_model.specs.Formed.{IsWellFormed}
use Rattle.netlist_model.specs.Contained.{HasCells}
use Rattle.netlist_model.specs.Runs.{Moment, PinEvent, IsStart}
use Rattle.netlist_model.specs.LawsRuns.{RunHasMoments}
use Rattle.test_logic.specs.declared.Levels.{Levels}
use Rattle.test_logic.specs.declared.ScanNets.{ScanNets}
use Rattle.test_logic.specs.Instructions.{mode_of, is_extest}
use Rattle.test_logic.specs.Registers.{update_bit}
use Rattle.test_logic.specs.Machine.{TestLogic, Machine, in_effect, reset, machine_step}
use Rattle.test_logic.specs.Rows.{CellAt, output_captured, row_captured}
use Rattle.register_gates.specs.BitsLaws.{Carries}
use Rattle.boundary_cells.specs.Laws.{CarriesMode, ObserveCellsFollow, InputCellsFollow, OutputCellsFollow, StandsAtPin, StandsAtInput, StandsAtOutput}
use Rattle.boundary_cells.specs.ThreeState.{ControlCellsFollow, BidirCellsFollow, StandsAtInout}
use Rattle.boundary_cells.specs.MachineRows.{RowsStep}
use Rattle.surrounded_core.specs.Rows.{BoundaryRow, observe_row, input_row, output_row, control_row, bidir_row, row_cells, output_kind, row_kind, IsRowOf, InoutStands, StandsAtRow, HoldsUpdate, HoldsRow, control_of, Gives}
use Rattle.surrounded_core.specs.RowsLaws.{Captures, IsServed}
use Rattle.surrounded_core.proofs.RowsBits.{Steps, shift_kept, update_kept, zero_kept}

-- the laws of each kind of cell, of the lists by their places, and of runs
pub record CellLaws : Type 0 where
  pub observe : ObserveCellsFollow
  pub input : InputCellsFollow
  pub output : OutputCellsFollow
  pub control : ControlCellsFollow
  pub bidir : BidirCellsFollow
  pub rows : RowsStep
  pub moments : RunHasMoments

-- an output's cell has an update stage, and captures by its kind
updates_whole : (cell : BoundaryKind) (s : Sig) → update_bit (output_kind cell) s ≡ s
updates_whole Bc1 s = refl
updates_whole Bc2 s = refl
updates_whole Bc4 s = refl
updates_whole Bc7 s = refl

captured_same : (cell : BoundaryKind) (instruction : Instr) (c : CellAt) → output_captured (output_kind cell) (is_extest instruction) c ≡ output_captured cell (is_extest instruction) c
captured_same Bc1 instruction c = refl
captured_same Bc2 instruction c = refl
captured_same Bc4 instruction c = refl
captured_same Bc7 instruction c = refl

-- what stands at a row, in the terms of its cells
at_input : (first : ℕ) (pin : NetId) (value : ℕ → Sig) (c : CellAt) (upd : Sig) → c.upd ≡ upd → value (first + 3) ≡ upd → see c.outside ≡ value pin.0 → StandsAtInput (first + 3) pin value c
at_input first pin value c upd is held seen = record { upd = is ∙ sym held; seen = seen }

at_output : (first : ℕ) (core : Feed) (value : ℕ → Sig) (c : CellAt) (upd : Sig) → c.upd ≡ upd → value (first + 3) ≡ upd → c.core ≡ feed_value value core → StandsAtOutput (first + 3) core value c
at_output first core value c upd is held core_is = record { upd = is ∙ sym held; core_is = core_is }

at_inout : (first : ℕ) (core enable : Feed) (active_high : Bool) (pin : NetId) (instruction : Instr) (value : ℕ → Sig) (c : CellAt) (upd : Sig) → c.upd ≡ upd → value (first + 3) ≡ upd
    → InoutStands core enable active_high pin (mode_of instruction) value c → StandsAtInout active_high (first + 3) core enable pin instruction value c
at_inout first core enable active_high pin instruction value c upd is held s = record {
  output = at_output first core value c upd is held s.core_is;
  driver = s.driver;
  driver_is = s.driver_is;
  disable = s.disable;
  enable_is = s.enable_is;
  seen = s.seen;
}

pub start_at : CellLaws → (row : BoundaryRow) (first number : ℕ) (scan : ScanNets) (next : NetId)
    → (N : NetlistView) (given : ℕ → Sig) (levels : Levels) (m : Moment) (L : TestLogic) (place : ℕ) → IsWellFormed N → HasCells N (row_cells row first number scan next)
    → IsStart N given m → Carries scan.tck scan.trst levels m → levels.trst ≡ false → IsRowOf L place row → HoldsRow row first place (reset L) m.value
start_at by (observe_row pin) first number scan next N given levels m L place formed has start carried low at =
    let r = by.rows.reset_to L Bc4 place at in
    record { shift = (by.observe first number scan pin next).start N given levels m formed has start carried low ∙ sym r.shift; update = r.update }
start_at by (input_row pin into) first number scan next N given levels m L place formed has start carried low at =
    let r = by.rows.reset_to L Bc1 place at in
    let laws = by.input first number scan pin into next in record {
      shift = laws.shift.start N given levels m formed has start carried low ∙ sym r.shift;
      update = laws.update.start N given levels m formed has start carried low ∙ sym r.update;
    }
start_at by (output_row cell core into) first number scan next N given levels m L place formed has start carried low at =
    let r = by.rows.reset_to L (output_kind cell) place at in
    let laws = by.output cell first number scan core into next in record {
      shift = laws.shift.start N given levels m formed has start carried low ∙ sym r.shift;
      update = laws.update.start N given levels m formed has start carried low ∙ sym r.update;
    }
start_at by (control_row cell core active_high into) first number scan next N given levels m L place formed has start carried low at =
    let r = by.rows.reset_to L (output_kind cell) place at in
    let laws = by.control cell first number scan core active_high into next in record {
      shift = laws.shift.start N given levels m formed has start carried low ∙ sym r.shift;
      update = laws.update.start N given levels m formed has start carried low ∙ sym r.update;
    }
start_at by (bidir_row core enable active_high pin into) first number scan next N given levels m L place formed has start carried low at =
    let r = by.rows.reset_to L Bc7 place at in
    let laws = by.bidir first number scan core enable active_high pin into next in record {
      shift = laws.shift.start N given levels m formed has start carried low ∙ sym r.shift;
      update = laws.update.start N given levels m formed has start carried low ∙ sym r.update;
    }

pub step_at : CellLaws → (row : BoundaryRow) (first number : ℕ) (scan : ScanNets) (next : NetId)
    → (N : NetlistView) (event : PinEvent) (before after : Levels) (m m' : Moment) (L : TestLogic) (captured : List Sig) (machine : Machine) (place : ℕ) (c : CellAt)
    → Steps (row_cells row first number scan next) (row_kind row) N event before after m m' L machine place
    → IsServed row scan next L before machine place c m → Captures row (in_effect L machine) c captured place → Carries scan.tck scan.trst after m'
    → HoldsRow row first place machine m.value → HoldsRow row first place (machine_step L before after captured machine) m'.value
step_at by (observe_row pin) first number scan next N event before after m m' L captured machine place c at served captures carried' held = record {
  shift = shift_kept by.rows _ scan first next (row_captured Bc4 Input) (λ instruction. StandsAtPin pin) Bc4 (by.observe first number scan pin next)
      N event before after m m' L captured machine place c at served.steered carried' (record { seen = served.stands.handed }) captures held.shift;
  update = zero_kept by.rows L before after captured machine place at.kind_is at.below held.update;
}
step_at by (input_row pin into) first number scan next N event before after m m' L captured machine place c at served captures carried' held =
    let laws = by.input first number scan pin into next in
    let stands = at_input first pin m.value c _ served.stands.upd_is held.update served.stands.handed in record {
      shift = shift_kept by.rows _ scan first next (row_captured Bc1 Input) (λ instruction. StandsAtInput (first + 3) pin) Bc1 laws.shift
          N event before after m m' L captured machine place c at served.steered carried' stands captures held.shift;
      update = update_kept by.rows _ scan first (first + 3) next Bc1 laws.update (λ s. refl)
          N event before after m m' L captured machine place at served.steered carried' held.shift held.update;
    }
step_at by (output_row cell core into) first number scan next N event before after m m' L captured machine place c at served captures carried' held =
    let laws = by.output cell first number scan core into next in
    let stands = at_output first core m.value c _ served.stands.upd_is held.update served.stands.handed in record {
      shift = shift_kept by.rows _ scan first next (row_captured cell Output2) (λ instruction. StandsAtOutput (first + 3) core) (output_kind cell) laws.shift
          N event before after m m' L captured machine place c at served.steered carried' stands (captures ∙ captured_same cell (in_effect L machine) c) held.shift;
      update = update_kept by.rows _ scan first (first + 3) next (output_kind cell) laws.update (updates_whole cell)
          N event before after m m' L captured machine place at served.steered carried' held.shift held.update;
    }
step_at by (control_row cell core active_high into) first number scan next N event before after m m' L captured machine place c at served captures carried' held =
    let laws = by.control cell first number scan core active_high into next in
    let stands = at_output first core m.value c _ served.stands.upd_is held.update served.stands.handed in record {
      shift = shift_kept by.rows _ scan first next (row_captured cell Control) (λ instruction. StandsAtOutput (first + 3) core) (output_kind cell) laws.shift
          N event before after m m' L captured machine place c at served.steered carried' stands (captures ∙ captured_same cell (in_effect L machine) c) held.shift;
      update = update_kept by.rows _ scan first (first + 3) next (output_kind cell) laws.update (updates_whole cell)
          N event before after m m' L captured machine place at served.steered carried' held.shift held.update;
    }
step_at by (bidir_row core enable active_high pin into) first number scan next N event before after m m' L captured machine place c at served captures carried' held =
    let laws = by.bidir first number scan core enable active_high pin into next in
    let stands = at_inout first core enable active_high pin (in_effect L machine) m.value c _ served.stands.upd_is held.update served.stands.handed in record {
      shift = shift_kept by.rows _ scan first next (row_captured Bc7 Bidir) (StandsAtInout active_high (first + 3) core enable pin) Bc7 laws.shift
          N event before after m m' L captured machine place c at served.steered carried' stands captures held.shift;
      update = update_kept by.rows _ scan first (first + 3) next Bc7 laws.update (λ s. refl)
          N event before after m m' L captured machine place at served.steered carried' held.shift held.update;
    }

pub gives_at : CellLaws → (row : BoundaryRow) (first number : ℕ) (scan : ScanNets) (next : NetId)
    → (N : NetlistView) (rule : (ℕ → Sig) → ℕ → Sig) (state value : ℕ → Sig) (instruction : Instr) (upd : Sig) (c : CellAt)
    → IsWellFormed N → HasCells N (row_cells row first number scan next) → Meets N rule state value → CarriesMode scan instruction value
    → StandsAtRow row (mode_of instruction) upd value c → HoldsUpdate row first upd value → Gives row (mode_of instruction) value c
gives_at by (observe_row pin) first number scan next N rule state value instruction upd c formed has meets mode stands held = sym stands.handed
gives_at by (input_row pin into) first number scan next N rule state value instruction upd c formed has meets mode stands held =
    (by.input first number scan pin into next).core.into_is N rule state value instruction c formed has meets mode (at_input first pin value c upd stands.upd_is held stands.handed)
gives_at by (output_row cell core into) first number scan next N rule state value instruction upd c formed has meets mode stands held =
    (by.output cell first number scan core into next).pin.into_is N rule state value instruction c formed has meets mode (at_output first core value c upd stands.upd_is held stands.handed)
gives_at by (control_row cell core active_high into) first number scan next N rule state value instruction upd c formed has meets mode stands held =
    (by.control cell first number scan core active_high into next).drivers.into_is N rule state value instruction (control_of active_high c) formed has meets mode
    (record { disable = refl; upd = stands.upd_is ∙ sym held; core_is = stands.handed })
gives_at by (bidir_row core enable active_high pin into) first number scan next N rule state value instruction upd c formed has meets mode stands held =
    (by.bidir first number scan core enable active_high pin into next).driver.into_is N rule state value instruction c formed has meets mode
    (at_output first core value c upd stands.upd_is held stands.handed.core_is)
