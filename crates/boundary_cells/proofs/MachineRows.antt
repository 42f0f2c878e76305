-- The test logic's boundary register place by place.
use Rattle.std.proofs.Common.{◌≡◌, ℕ, zero, suc, ◌<◌, ◌&&◌, Bool, true, false, List, [], ◌∷◌, ◌++◌, length, refl, arith, Some}
use Rattle.std.specs.Prelude.{if◌then◌else◌, Option, None}
use Rattle.std.specs.List.{slice_get}
use Rattle.signal_values.specs.declared.Sig.{Sig}
use Rattle.signal_values.specs.declared.Sig.TheVariants.{Zero}
use Rattle.signal_values.specs.Values.{bit}
use Rattle.cell_library.specs.declared.Edge.{Edge}
use Rattle.cell_library.specs.declared.Edge.TheVariants.{Rise, Fall}
use Rattle.cell_library.specs.declared.codes.BoundaryKind.{BoundaryKind}
use Rattle.bsdl_device.specs.declared.entries.Register.TheVariants.{Boundary}
use Rattle.test_logic.specs.declared.Levels.{Levels}
use Rattle.test_logic.specs.declared.Action.{Action}
use Rattle.test_logic.specs.declared.Action.TheVariants.{Captures, Shifts, Keeps}
use Rattle.test_logic.specs.declared.TapState.{TapState}
use Rattle.test_logic.specs.declared.TapState.TheVariants.{TestLogicReset, RunTestIdle, SelectDrScan, CaptureDr, ShiftDr, Exit1Dr, PauseDr, Exit2Dr, UpdateDr, SelectIrScan, CaptureIr, ShiftIr, Exit1Ir, PauseIr, Exit2Ir, UpdateIr}
use Rattle.test_logic.specs.Controller.{dr_action, act}
use Rattle.test_logic.specs.Registers.{shifted, update_bit, updated, updated_after, boundary_after}
use Rattle.test_logic.specs.Machine.{TestLogic, Machine, selects, zeros, edge_of, clocked, step_under}
use Rattle.register_gates.specs.BitsLaws.{on_edge}
use Rattle.boundary_cells.specs.MachineRows.{bit_at, boundary_action, is_update, boundary_updates, RowShifts, RowsStep}

zeros_at : (kinds : List BoundaryKind) (place : ℕ) (cell : BoundaryKind) → slice_get kinds place ≡ Some cell → bit_at (zeros kinds) place ≡ Zero
zeros_at [] place cell at = absurd (cc)
zeros_at (k ∷ kinds) zero cell at = refl
zeros_at (k ∷ kinds) (suc place) cell at = zeros_at kinds place cell at

updated_at : (kinds : List BoundaryKind) (bits : List Sig) (place : ℕ) (cell : BoundaryKind) → slice_get kinds place ≡ Some cell → place < length bits
    → bit_at (updated kinds bits) place ≡ update_bit cell (bit_at bits place)
updated_at [] bits place cell at below = absurd (cc)
updated_at (k ∷ kinds) [] place cell at below = absurd (omega arith)
updated_at (k ∷ kinds) (b ∷ bits) zero cell at below = let same : k ≡ cell = cc in rw same refl
updated_at (k ∷ kinds) (b ∷ bits) (suc place) cell at below = updated_at kinds bits place cell at (omega arith)

act_at : (action : Action) (xs ys zs : List Sig) (place : ℕ) → bit_at (act action xs ys zs) place ≡ act action (bit_at xs place) (bit_at ys place) (bit_at zs place)
act_at Captures xs ys zs place = refl
act_at Shifts xs ys zs place = refl
act_at Keeps xs ys zs place = refl

boundary_at : (selected : Bool) (captured : List Sig) (state : TapState) (tdi : Sig) (kept : List Sig) (place : ℕ)
    → bit_at (boundary_after selected captured state tdi kept) place
    ≡ act (if selected then dr_action state else Keeps) (bit_at captured place) (bit_at (shifted tdi kept) place) (bit_at kept place)
boundary_at true captured state tdi kept place = act_at (dr_action state) captured (shifted tdi kept) kept place
boundary_at false captured state tdi kept place = refl

-- the update list, by the controller's state
abbrev Updates : List BoundaryKind → List Sig → List Sig → ℕ → BoundaryKind → Bool → TapState → Type 0
Updates kinds shift kept place cell selected state = bit_at (updated_after selected kinds state shift kept) place
    ≡ (if selected && is_update state then update_bit cell (bit_at shift place) else bit_at kept place)

kept_at : (selected : Bool) (x y : Sig) → y ≡ (if selected && false then x else y)
kept_at true x y = refl
kept_at false x y = refl

update_at : (kinds : List BoundaryKind) (shift kept : List Sig) (place : ℕ) (cell : BoundaryKind) → slice_get kinds place ≡ Some cell → place < length shift
    → (selected : Bool) (state : TapState) → Updates kinds shift kept place cell selected state
update_at kinds shift kept place cell at below true UpdateDr = updated_at kinds shift place cell at below
update_at kinds shift kept place cell at below false UpdateDr = refl
update_at kinds shift kept place cell at below selected TestLogicReset = kept_at selected _ _
update_at kinds shift kept place cell at below selected RunTestIdle = kept_at selected _ _
update_at kinds shift kept place cell at below selected SelectDrScan = kept_at selected _ _
update_at kinds shift kept place cell at below selected CaptureDr = kept_at selected _ _
update_at kinds shift kept place cell at below selected ShiftDr = kept_at selected _ _
update_at kinds shift kept place cell at below selected Exit1Dr = kept_at selected _ _
update_at kinds shift kept place cell at below selected PauseDr = kept_at selected _ _
update_at kinds shift kept place cell at below selected Exit2Dr = kept_at selected _ _
update_at kinds shift kept place cell at below selected SelectIrScan = kept_at selected _ _
update_at kinds shift kept place cell at below selected CaptureIr = kept_at selected _ _
update_at kinds shift kept place cell at below selected ShiftIr = kept_at selected _ _
update_at kinds shift kept place cell at below selected Exit1Ir = kept_at selected _ _
update_at kinds shift kept place cell at below selected PauseIr = kept_at selected _ _
update_at kinds shift kept place cell at below selected Exit2Ir = kept_at selected _ _
update_at kinds shift kept place cell at below selected UpdateIr = kept_at selected _ _

-- an edge of TCK
shift_clocked : (L : TestLogic) (edge : Option Edge) (tms : Bool) (tdi : Sig) (captured : List Sig) (m : Machine) (place : ℕ)
    → bit_at (clocked L edge tms tdi captured m).boundary place
    ≡ on_edge edge (act (boundary_action L m) (bit_at captured place) (bit_at (shifted tdi m.boundary) place) (bit_at m.boundary place)) (bit_at m.boundary place) (bit_at m.boundary place)
shift_clocked L None tms tdi captured m place = refl
shift_clocked L (Some Fall) tms tdi captured m place = refl
shift_clocked L (Some Rise) tms tdi captured m place = boundary_at (selects L m Boundary) captured m.state tdi m.boundary place

update_clocked : (L : TestLogic) (edge : Option Edge) (tms : Bool) (tdi : Sig) (captured : List Sig) (m : Machine) (cell : BoundaryKind) (place : ℕ)
    → slice_get L.kinds place ≡ Some cell → place < length m.boundary
    → bit_at (clocked L edge tms tdi captured m).update place
    ≡ on_edge edge (bit_at m.update place) (if boundary_updates L m then update_bit cell (bit_at m.boundary place) else bit_at m.update place) (bit_at m.update place)
update_clocked L None tms tdi captured m cell place at below = refl
update_clocked L (Some Rise) tms tdi captured m cell place at below = refl
update_clocked L (Some Fall) tms tdi captured m cell place at below = update_at L.kinds m.boundary m.update place cell at below (selects L m Boundary) m.state

-- TRST
shift_under : (trst : Bool) (L : TestLogic) (before after : Levels) (captured : List Sig) (m : Machine) (cell : BoundaryKind) (place : ℕ) → slice_get L.kinds place ≡ Some cell
    → bit_at (step_under trst L before after captured m).boundary place
    ≡ (if trst then on_edge (edge_of before.tck after.tck) (act (boundary_action L m) (bit_at captured place) (bit_at (shifted (bit before.tdi) m.boundary) place) (bit_at m.boundary place))
    (bit_at m.boundary place) (bit_at m.boundary place) else Zero)
shift_under true L before after captured m cell place at = shift_clocked L (edge_of before.tck after.tck) before.tms (bit before.tdi) captured m place
shift_under false L before after captured m cell place at = zeros_at L.kinds place cell at

update_under : (trst : Bool) (L : TestLogic) (before after : Levels) (captured : List Sig) (m : Machine) (cell : BoundaryKind) (place : ℕ) → slice_get L.kinds place ≡ Some cell
    → place < length m.boundary → bit_at (step_under trst L before after captured m).update place
    ≡ (if trst then on_edge (edge_of before.tck after.tck) (bit_at m.update place)
    (if boundary_updates L m then update_bit cell (bit_at m.boundary place) else bit_at m.update place) (bit_at m.update place) else Zero)
update_under true L before after captured m cell place at below = update_clocked L (edge_of before.tck after.tck) before.tms (bit before.tdi) captured m cell place at below
update_under false L before after captured m cell place at below = zeros_at L.kinds place cell at

-- what is shifted in
inner_at : (tdi : Sig) (bits : List Sig) (place : ℕ) → place < length bits → bit_at (bits ++ tdi ∷ []) place ≡ bit_at bits place
inner_at tdi [] place below = absurd (omega arith)
inner_at tdi (b ∷ bits) zero below = refl
inner_at tdi (b ∷ bits) (suc place) below = inner_at tdi bits place (omega arith)

last_at : (tdi : Sig) (bits : List Sig) (place : ℕ) → place ≡ length bits → bit_at (bits ++ tdi ∷ []) place ≡ tdi
last_at tdi [] zero is = refl
last_at tdi [] (suc place) is = absurd (omega arith)
last_at tdi (b ∷ bits) zero is = absurd (omega arith)
last_at tdi (b ∷ bits) (suc place) is = last_at tdi bits place (omega arith)

shifts_at : (tdi : Sig) (bits : List Sig) (place : ℕ) → RowShifts tdi bits place
shifts_at tdi [] place = record { inner = λ below. absurd (omega arith); last = λ is. absurd (omega arith) }
shifts_at tdi (b ∷ bits) place = record { inner = λ below. inner_at tdi bits place (omega arith); last = λ is. last_at tdi bits place (omega arith) }

pub rows_step : RowsStep
rows_step = record {
  reset_to = λ L cell place at. record { shift = zeros_at L.kinds place cell at; update = zeros_at L.kinds place cell at };
  steps = λ L before after captured m cell place at below. record {
    shift = shift_under after.trst L before after captured m cell place at;
    update = update_under after.trst L before after captured m cell place at below;
  };
  shifts = shifts_at;
}
