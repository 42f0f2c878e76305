-- What each cell of the inverses of a latched opcode and of data registers of a design's own is.
-- IEEE Std 1149.1-2001: test clock input, test reset input; the laws are own.
use Rattle.std.specs.Prelude.{◌≡◌, ℕ, ◌+◌, ◌≤◌, List, ◌++◌, slice_get, Some}
use Rattle.netlist_model.specs.declared.NetId.{NetId}
use Rattle.netlist_model.specs.Lists.{CellView, NetlistView}
use Rattle.test_logic.specs.declared.TapInput.TheVariants.{Tck, Trst}
use Rattle.wrapped_chip.specs.Realises.{IsTapNet, tap_place}
use Rattle.status_fitting.specs.declared.fitted.FittedRegister.{FittedRegister}
use Rattle.status_gates.specs.Opcodes.{inverses_cells}
use Rattle.status_gates.specs.declared.parts.SharedNets.{SharedNets}
use Rattle.status_gates.specs.Registers.{registers_cells}
use Rattle.status_build.specs.ControlPortsLaws.{IsTapClocked}

-- own: the cells, on nets from `first` on
abbrev pub added_cells : ℕ → ℕ → SharedNets → NetId → ℕ → List FittedRegister → List CellView
added_cells first number shared bypass bits registers =
    inverses_cells first number shared.opcode.0 bits ++ registers_cells (first + bits) (number + bits) shared bypass registers

-- own: where TCK and TRST are what clocks and clears registers, they alone control each flip-flop among these cells
abbrev pub RegistersAreClocked : Type 0
RegistersAreClocked = (M N : NetlistView) (first number : ℕ) (shared : SharedNets) (bypass : NetId) (bits : ℕ) (registers : List FittedRegister)
    → IsTapNet M N (tap_place Tck) shared.tap.tck.0 → IsTapNet M N (tap_place Trst) shared.tap.trst.0
    → (place : ℕ) (cell : CellView) → slice_get (added_cells first number shared bypass bits registers) place ≡ Some cell → IsTapClocked M N cell

-- own: and each of them drives one of these nets
abbrev pub RegistersDriveBehind : Type 0
RegistersDriveBehind = (first number : ℕ) (shared : SharedNets) (bypass : NetId) (bits : ℕ) (registers : List FittedRegister)
    → (place net : ℕ) (cell : CellView) → slice_get (added_cells first number shared bypass bits registers) place ≡ Some cell → cell.output ≡ Some (record { 0 = net }) → first ≤ net
