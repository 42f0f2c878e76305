-- The lists of the boundary register have a bit for each cell.
use Rattle.std.proofs.Common.{◌≡◌, ℕ, zero, suc, ◌<◌, ◌≤◌, Bool, true, false, List, [], ◌∷◌, ◌++◌, length, refl, ap, ◌∙◌, arith}
use Rattle.std.specs.Prelude.{Option, Some, None, slice_index_or}
use Rattle.signal_values.specs.declared.Sig.{Sig}
use Rattle.signal_values.specs.Values.{bit}
use Rattle.cell_library.specs.declared.Edge.{Edge}
use Rattle.cell_library.specs.declared.Edge.TheVariants.{Rise, Fall}
use Rattle.cell_library.specs.declared.codes.BoundaryKind.{BoundaryKind}
use Rattle.bsdl_device.specs.declared.entries.Register.TheVariants.{Boundary}
use Rattle.test_logic.specs.declared.Levels.{Levels}
use Rattle.test_logic.specs.declared.Action.{Action}
use Rattle.test_logic.specs.declared.Action.TheVariants.{Captures, Shifts, Keeps}
use Rattle.test_logic.specs.declared.TapState.{TapState}
use Rattle.test_logic.specs.declared.TapState.TheVariants.{TestLogicReset, RunTestIdle, SelectDrScan, CaptureDr, ShiftDr, Exit1Dr, PauseDr, Exit2Dr, UpdateDr, SelectIrScan, CaptureIr, ShiftIr, Exit1Ir, PauseIr, Exit2Ir, UpdateIr}
use Rattle.test_logic.specs.Controller.{dr_action, act}
use Rattle.test_logic.specs.Registers.{shifted, updated, updated_after, boundary_after}
use Rattle.test_logic.specs.Machine.{TestLogic, Machine, IsHistory, selects, zeros, reset, edge_of, clocked, step_under}
use Rattle.surrounded_core.specs.Lengths.{AreLong, LengthsStay}
use Rattle.signal_values.specs.declared.Sig.TheVariants.{Unknown}
use Rattle.boundary_cells.specs.MachineRows.{bit_at}

zeros_long : {A : Type 0} (like : List A) → length (zeros like) ≡ length like
zeros_long [] = refl
zeros_long (x ∷ xs) = ap (λ (n : ℕ). suc n) (zeros_long xs)

one_more : (tdi : Sig) (bits : List Sig) → length (bits ++ tdi ∷ []) ≡ suc (length bits)
one_more tdi [] = refl
one_more tdi (b ∷ bits) = ap (λ (n : ℕ). suc n) (one_more tdi bits)

shifted_long : (tdi : Sig) (bits : List Sig) → length (shifted tdi bits) ≡ length bits
shifted_long tdi [] = refl
shifted_long tdi (b ∷ bits) = one_more tdi bits

updated_long : (kinds : List BoundaryKind) (bits : List Sig) → length bits ≡ length kinds → length (updated kinds bits) ≡ length kinds
updated_long [] bits long = refl
updated_long (k ∷ kinds) [] long = absurd (omega arith)
updated_long (k ∷ kinds) (b ∷ bits) long = ap (λ (n : ℕ). suc n) (updated_long kinds bits (omega arith))

act_long : (action : Action) (xs ys zs : List Sig) (n : ℕ) → length xs ≡ n → length ys ≡ n → length zs ≡ n → length (act action xs ys zs) ≡ n
act_long Captures xs ys zs n x y z = x
act_long Shifts xs ys zs n x y z = y
act_long Keeps xs ys zs n x y z = z

boundary_long : (selected : Bool) (captured : List Sig) (state : TapState) (tdi : Sig) (kept : List Sig) (n : ℕ) → length captured ≡ n → length kept ≡ n
    → length (boundary_after selected captured state tdi kept) ≡ n
boundary_long true captured state tdi kept n c k = act_long (dr_action state) captured (shifted tdi kept) kept n c (shifted_long tdi kept ∙ k) k
boundary_long false captured state tdi kept n c k = k

update_long : (selected : Bool) (kinds : List BoundaryKind) (state : TapState) (shift kept : List Sig) → length shift ≡ length kinds → length kept ≡ length kinds
    → length (updated_after selected kinds state shift kept) ≡ length kinds
update_long true kinds UpdateDr shift kept s k = updated_long kinds shift s
update_long false kinds UpdateDr shift kept s k = k
update_long selected kinds TestLogicReset shift kept s k = k
update_long selected kinds RunTestIdle shift kept s k = k
update_long selected kinds SelectDrScan shift kept s k = k
update_long selected kinds CaptureDr shift kept s k = k
update_long selected kinds ShiftDr shift kept s k = k
update_long selected kinds Exit1Dr shift kept s k = k
update_long selected kinds PauseDr shift kept s k = k
update_long selected kinds Exit2Dr shift kept s k = k
update_long selected kinds SelectIrScan shift kept s k = k
update_long selected kinds CaptureIr shift kept s k = k
update_long selected kinds ShiftIr shift kept s k = k
update_long selected kinds Exit1Ir shift kept s k = k
update_long selected kinds PauseIr shift kept s k = k
update_long selected kinds Exit2Ir shift kept s k = k
update_long selected kinds UpdateIr shift kept s k = k

reset_long : (L : TestLogic) → AreLong L (reset L)
reset_long L = record { boundary = zeros_long L.kinds; update = zeros_long L.kinds }

clocked_long : (L : TestLogic) (edge : Option Edge) (tms : Bool) (tdi : Sig) (captured : List Sig) (m : Machine) → length captured ≡ length L.kinds → AreLong L m
    → AreLong L (clocked L edge tms tdi captured m)
clocked_long L None tms tdi captured m c long = long
clocked_long L (Some Rise) tms tdi captured m c long =
    record { boundary = boundary_long (selects L m Boundary) captured m.state tdi m.boundary (length L.kinds) c long.boundary; update = long.update }
clocked_long L (Some Fall) tms tdi captured m c long =
    record { boundary = long.boundary; update = update_long (selects L m Boundary) L.kinds m.state m.boundary m.update long.boundary long.update }

step_long : (trst : Bool) (L : TestLogic) (before after : Levels) (captured : List Sig) (m : Machine) → length captured ≡ length L.kinds → AreLong L m
    → AreLong L (step_under trst L before after captured m)
step_long false L before after captured m c long = reset_long L
step_long true L before after captured m c long = clocked_long L (edge_of before.tck after.tck) before.tms (bit before.tdi) captured m c long

pub along : (L : TestLogic) (levels : ℕ → Levels) (captured : ℕ → List Sig) (count : ℕ) (machine : ℕ → Machine) → IsHistory L levels captured count machine
    → ((t : ℕ) → t < count → length (captured t) ≡ length L.kinds) → (t : ℕ) → t ≤ count → AreLong L (machine t)
along L levels captured count machine history c zero below = rw history.start (reset_long L)
along L levels captured count machine history c (suc t) below =
    let before : t < count = omega arith in
    let now : AreLong L (machine t) = along L levels captured count machine history c t (omega arith) in
    rw (history.steps t before) (step_long (levels (suc t)).trst L (levels t) (levels (suc t)) (captured t) (machine t) (c t before) now)

pub lengths : LengthsStay
lengths = record {
  in_reset = reset_long;
  steps = λ L before after captured m c long. step_long after.trst L before after captured m c long;
  along = along;
}

-- own: the bit in a place, as what stands around a netlist looks it up
pub by_place : (bits : List Sig) (place : ℕ) → slice_index_or bits place Unknown ≡ bit_at bits place
by_place [] place = refl
by_place (b ∷ bits) zero = refl
by_place (b ∷ bits) (suc place) = by_place bits place
