-- A bit on a net steps as the test logic's list does in its place.
use Rattle.std.proofs.Common.{◌≡◌, ℕ, ◌<◌, Bool, true, false, List, length, refl, sym, ap, ◌∙◌, Some}
use Rattle.std.specs.Prelude.{if◌then◌else◌, Option, None, slice_get}
use Rattle.signal_values.specs.declared.Sig.{Sig}
use Rattle.signal_values.specs.declared.Sig.TheVariants.{Zero}
use Rattle.signal_values.specs.Values.{bit}
use Rattle.cell_library.specs.declared.Edge.{Edge}
use Rattle.cell_library.specs.declared.Edge.TheVariants.{Rise, Fall}
use Rattle.cell_library.specs.declared.codes.Instr.{Instr}
use Rattle.cell_library.specs.declared.codes.BoundaryKind.{BoundaryKind}
use Rattle.cell_library.specs.declared.codes.BoundaryKind.TheVariants.{Bc4}
use Rattle.netlist_model.specs.declared.NetId.{NetId}
use Rattle.netlist_model.specs.Lists.{CellView, NetlistView}
use Rattle.netlist_model.specs.Settled.{IsSettled}
use Rattle.netlist_model.specs.Formed.{IsWellFormed}
use Rattle.netlist_model.specs.Contained.{HasCells}
use Rattle.netlist_model.specs.Runs.{Moment, PinEvent, IsStep}
use Rattle.test_logic.specs.declared.Levels.{Levels}
use Rattle.test_logic.specs.declared.ScanNets.{ScanNets}
use Rattle.test_logic.specs.Controller.{act}
use Rattle.test_logic.specs.Registers.{shifted, update_bit}
use Rattle.test_logic.specs.Machine.{TestLogic, Machine, in_effect, edge_of, machine_step}
use Rattle.test_logic.specs.Rows.{CellAt}
use Rattle.register_gates.specs.BitsLaws.{Carries, on_edge, bit_after}
use Rattle.boundary_cells.specs.Laws.{ShiftLaws, UpdateLaws}
use Rattle.boundary_cells.specs.MachineRows.{bit_at, boundary_action, boundary_updates, RowsStep}
use Rattle.surrounded_core.specs.Rows.{IsSteered}

-- a netlist that contains these cells steps, and so does the test logic
pub record Steps (cells : List CellView) (kind : BoundaryKind) (N : NetlistView) (event : PinEvent) (before after : Levels) (m m' : Moment) (L : TestLogic)
    (machine : Machine) (place : ℕ) : Type 0 where
  pub formed : IsWellFormed N
  pub has : HasCells N cells
  pub settled : IsSettled N m.pins m.state m.value
  pub step : IsStep N event m m'
  pub kind_is : slice_get L.kinds place ≡ Some kind
  pub below : place < length machine.boundary

pub shift_kept : RowsStep → (cells : List CellView) (scan : ScanNets) (first : ℕ) (next : NetId) (captured_by : Instr → CellAt → Sig)
    (Stands : Instr → (ℕ → Sig) → CellAt → Type 0) (kind : BoundaryKind) → ShiftLaws cells scan first next captured_by Stands
    → (N : NetlistView) (event : PinEvent) (before after : Levels) (m m' : Moment) (L : TestLogic) (captured : List Sig) (machine : Machine) (place : ℕ) (c : CellAt)
    → Steps cells kind N event before after m m' L machine place → IsSteered scan next L before machine place m → Carries scan.tck scan.trst after m'
    → Stands (in_effect L machine) m.value c → bit_at captured place ≡ captured_by (in_effect L machine) c
    → m.value first ≡ bit_at machine.boundary place → m'.value first ≡ bit_at (machine_step L before after captured machine).boundary place
shift_kept rows cells scan first next captured_by Stands kind laws N event before after m m' L captured machine place c at steered carried' stands captures held =
    let f : Sig → Sig → Sig → Sig = λ x y z. bit_after before after Zero (act (boundary_action L machine) x y z) z z in
    let taken : Sig = captured_by (in_effect L machine) c in
    let next_in : Sig = bit_at (shifted (bit before.tdi) machine.boundary) place in
    let h : m'.value first ≡ f taken (m.value next.0) (m.value first)
    = laws.step N event (boundary_action L machine) (in_effect L machine) c before after m m' at.formed at.has at.settled at.step steered.carries carried' steered.steers steered.mode stands in
    let r : bit_at (machine_step L before after captured machine).boundary place ≡ f (bit_at captured place) next_in (bit_at machine.boundary place)
    = (rows.steps L before after captured machine kind place at.kind_is at.below).shift in
    h ∙ ap (λ (x : Sig). f x (m.value next.0) (m.value first)) (sym captures)
    ∙ ap (λ (y : Sig). f (bit_at captured place) y (m.value first)) steered.next_in
    ∙ ap (λ (z : Sig). f (bit_at captured place) next_in z) held ∙ sym r

pub update_kept : RowsStep → (cells : List CellView) (scan : ScanNets) (first update : ℕ) (next : NetId) (kind : BoundaryKind) → UpdateLaws cells scan first update
    → ((s : Sig) → update_bit kind s ≡ s)
    → (N : NetlistView) (event : PinEvent) (before after : Levels) (m m' : Moment) (L : TestLogic) (captured : List Sig) (machine : Machine) (place : ℕ)
    → Steps cells kind N event before after m m' L machine place → IsSteered scan next L before machine place m → Carries scan.tck scan.trst after m'
    → m.value first ≡ bit_at machine.boundary place → m.value update ≡ bit_at machine.update place
    → m'.value update ≡ bit_at (machine_step L before after captured machine).update place
update_kept rows cells scan first update next kind laws whole N event before after m m' L captured machine place at steered carried' held held' =
    let f : Sig → Sig → Sig = λ x u. bit_after before after Zero u (if boundary_updates L machine then x else u) u in
    let h : m'.value update ≡ f (m.value first) (m.value update)
    = laws.step N event (boundary_updates L machine) before after m m' at.formed at.has at.settled at.step steered.carries carried' steered.updates in
    let r : bit_at (machine_step L before after captured machine).update place ≡ f (update_bit kind (bit_at machine.boundary place)) (bit_at machine.update place)
    = (rows.steps L before after captured machine kind place at.kind_is at.below).update in
    h ∙ ap (λ (x : Sig). f x (m.value update)) held ∙ ap (λ (u : Sig). f (bit_at machine.boundary place) u) held'
    ∙ sym (r ∙ ap (λ (x : Sig). f x (bit_at machine.update place)) (whole (bit_at machine.boundary place)))

-- the place of a BC_4 in the update list
zero_after : (trst : Bool) (edge : Option Edge) (updates : Bool)
    → (if trst then on_edge edge Zero (if updates then Zero else Zero) Zero else Zero) ≡ Zero
zero_after false edge updates = refl
zero_after true None updates = refl
zero_after true (Some Rise) updates = refl
zero_after true (Some Fall) true = refl
zero_after true (Some Fall) false = refl

pub zero_kept : RowsStep → (L : TestLogic) (before after : Levels) (captured : List Sig) (machine : Machine) (place : ℕ) → slice_get L.kinds place ≡ Some Bc4 → place < length machine.boundary
    → bit_at machine.update place ≡ Zero → bit_at (machine_step L before after captured machine).update place ≡ Zero
zero_kept rows L before after captured machine place kind_is below held =
    let f : Sig → Sig = λ u. bit_after before after Zero u (if boundary_updates L machine then Zero else u) u in
    let r : bit_at (machine_step L before after captured machine).update place ≡ f (bit_at machine.update place) = (rows.steps L before after captured machine Bc4 place kind_is below).update in
    r ∙ ap f held ∙ zero_after after.trst (edge_of before.tck after.tck) (boundary_updates L machine)
