-- A core with a device's test logic around it, in a netlist.
-- IEEE Std 1149.1-2001: test logic architecture, boundary-scan register; the record is own.
use Rattle.std.specs.Prelude.{◌≡◌, ◌⊎◌, ◌<◌, ℕ, suc, true, length, slice_get, Some, None}
use Rattle.cell_library.specs.declared.codes.Instr.{Instr}
use Rattle.netlist_model.specs.declared.NetId.{NetId}
use Rattle.netlist_model.specs.declared.Dir.{Dir}
use Rattle.netlist_model.specs.declared.Dir.TheVariants.{Input, Output}
use Rattle.netlist_model.specs.Lists.{PortView, NetlistView, direction}
use Rattle.netlist_model.specs.Settled.{follows_pin}
use Rattle.netlist_model.specs.Formed.{IsWellFormed}
use Rattle.netlist_model.specs.Contained.{HasCells}
use Rattle.netlist_model.specs.Behind.{NestedBehind}
use Rattle.bsdl_device.specs.Instructions.{selected_register}
use Rattle.bsdl_device.specs.declared.entries.Register.TheVariants as register
use Rattle.bsdl_device.specs.declared.values.CellRow.{CellRow}
use Rattle.bsdl_device.specs.declared.values.Device.{Device}
use Rattle.test_logic.specs.declared.TapInput.{TapInput}
use Rattle.test_logic.specs.Instructions.{opcode_of}
use Rattle.test_logic.specs.Machine.{AreCodes, test_logic_of}
use Rattle.instruction_gates.specs.RegisterLaws.{FitTheRegister}
use Rattle.wrapped_chip.specs.Cells.{net_of_row}
use Rattle.wrapped_chip.specs.Realises.{IsTapNet, tap_place}
use Rattle.wrapped_chip.specs.Beside.{HasPins}
use Rattle.wrapped_chip.specs.Suits.{IsRead}
use Rattle.surrounded_core.specs.Rows.{row_cells, row_kind}
use Rattle.surrounded_core.specs.Places.{Places, input_net, selection_nets, HasRegistersBy, bypass_bit}
use Rattle.surrounded_core.specs.Sites.{StandsAround, HasRowAt, IsStraight, IsDrivenBy, IsSeenOn}

-- own: M's ports begin with N's, and the test access port is on these nets
pub record HasPorts (M N : NetlistView) (S : Places) : Type 0 where
  pub kept : (p : ℕ) (port : PortView) → slice_get N.ports p ≡ Some port → slice_get M.ports p ≡ Some port
  pub inputs : (input : TapInput) → IsTapNet M N (tap_place input) (input_net S input).0
  pub sides : (input : TapInput) → direction M.ports (input_net S input).0 ≡ Some Input
  pub tdo : IsTapNet M N 3 S.tdo.0
  pub tdo_side : direction M.ports S.tdo.0 ≡ Some Output

-- own: the codes are the device's, and suit the instruction register; without a code no opcode selects an
-- identification register
pub record HasCodes (B : Device) (S : Places) : Type 0 where
  pub codes : AreCodes S.codes (test_logic_of B)
  pub fit : FitTheRegister S.codes
  pub code : S.code ≡ B.idcode
  pub user : S.user ≡ B.usercode
  pub identified : B.idcode ≡ None → (i : Instr) → selected_register i ≡ register.DeviceId → opcode_of B.opcodes i ≡ None

-- own: the rows of the boundary register are there, each behind the next towards TDI
pub record HasRows (M N : NetlistView) (B : Device) (S : Places) : Type 0 where
  pub some : 0 < length B.cells
  pub cells : (place : ℕ) (r : CellRow) → slice_get B.cells place ≡ Some r
      → HasCells M (row_cells (S.gates place) (S.row place) (S.row_number place) (selection_nets S).scan (S.next place))
  pub kinds : (place : ℕ) (r : CellRow) → slice_get B.cells place ≡ Some r → r.cell ≡ row_kind (S.gates place)
  pub stands : (place : ℕ) (r : CellRow) → slice_get B.cells place ≡ Some r → StandsAround B N S place r (S.gates place)
  pub inner : (place : ℕ) (r : CellRow) → slice_get B.cells (suc place) ≡ Some r → S.next place ≡ record { 0 = S.row (suc place) }
  pub last : (place : ℕ) → slice_get B.cells (suc place) ≡ None → S.next place ≡ S.tdi
  -- each bit has its row, which drives it where it is an output or an inout, and through which the core sees it where
  -- it is an input or an inout; or it is straight
  pub bits : (net : ℕ) (dir : Dir) → direction N.ports net ≡ Some dir → HasRowAt B N net ⊎ IsStraight M N B S net
  pub driven : (place : ℕ) (r : CellRow) (net : NetId) → slice_get B.cells place ≡ Some r → net_of_row N r ≡ Some net → IsRead N net.0 → IsDrivenBy M N B S net.0 place r
  pub seen : (place : ℕ) (r : CellRow) (net : NetId) → slice_get B.cells place ≡ Some r → net_of_row N r ≡ Some net → follows_pin (direction N.ports net.0) ≡ true
      → IsSeenOn (S.gates place) net.0 (S.to net.0)
  pub nearest : S.nearest ≡ record { 0 = S.row 0 }

-- own: M has N as its core, with the device's test logic around it, whose TDO takes the value of this net for the bit
-- of the bypass register
pub record SurroundsBy (M N : NetlistView) (B : Device) (S : Places) (shown : NetId) : Type 0 where
  pub formed : IsWellFormed M
  pub core_formed : IsWellFormed N
  pub pins : HasPins M N
  pub ports : HasPorts M N S
  pub core : NestedBehind N M S.to (λ i. i)
  pub codes : HasCodes B S
  pub registers : HasRegistersBy M S shown
  pub rows : HasRows M N B S

-- own: and here that bit itself
abbrev pub Surrounds : NetlistView → NetlistView → Device → Places → Type 0
Surrounds M N B S = SurroundsBy M N B S (bypass_bit S)
