-- Where the parts of a device's test logic stand in a netlist, by their nets and the numbers of their first cells.
-- IEEE Std 1149.1-2001: test logic architecture, test access port; the record is own.
use Rattle.std.specs.Prelude.{ℕ, ◌+◌, List, [], Option}
use Rattle.std.specs.Option.{option_map, option_map_or}
use Rattle.signal_values.specs.declared.Sig.{Sig}
use Rattle.netlist_model.specs.declared.NetId.{NetId}
use Rattle.netlist_model.specs.Lists.{CellView, NetlistView}
use Rattle.netlist_model.specs.Contained.{HasCells}
use Rattle.test_logic.specs.declared.Codes.{Codes}
use Rattle.test_logic.specs.declared.TapInput.{TapInput}
use Rattle.test_logic.specs.declared.TapInput.TheVariants.{Tck, Tms, Tdi, Trst}
use Rattle.test_logic.specs.declared.TapNets.{TapNets}
use Rattle.test_logic.specs.declared.InstrNets.{InstrNets}
use Rattle.tap_gates.specs.Controller.{tap_cells, tap_nets}
use Rattle.register_gates.specs.Registers.{bypass_cells, ident_cells, ident_values, ident_last}
use Rattle.register_gates.specs.Tdo.{tdo_cells}
use Rattle.instruction_gates.specs.Register.{instruction_cells, instruction_nets}
use Rattle.surrounded_core.specs.Rows.{BoundaryRow}

-- own: the nets of the test access port; of each part its first net and the number of its first cell; the boundary
-- register's rows by their places, with the next bit towards TDI of each, and its bit nearest TDO; and the net that a
-- net of the core has
pub record Places : Type 0 where
  pub tck : NetId
  pub tms : NetId
  pub tdi : NetId
  pub tdo : NetId
  pub trst : NetId
  pub codes : Codes
  pub code : Option ℕ
  pub user : Option ℕ
  pub controller : ℕ
  pub controller_number : ℕ
  pub instruction : ℕ
  pub instruction_number : ℕ
  pub bypass : ℕ
  pub bypass_number : ℕ
  pub ident : ℕ
  pub ident_number : ℕ
  pub driver : ℕ
  pub driver_number : ℕ
  pub gates : ℕ → BoundaryRow
  pub row : ℕ → ℕ
  pub row_number : ℕ → ℕ
  pub next : ℕ → NetId
  pub nearest : NetId
  pub to : ℕ → ℕ

-- the net of an input of the test access port
abbrev pub input_net : Places → TapInput → NetId
input_net S Tck = S.tck
input_net S Tms = S.tms
input_net S Tdi = S.tdi
input_net S Trst = S.trst

-- own: what the controller and the instruction register hand on
abbrev pub controller_nets : Places → TapNets
controller_nets S = tap_nets S.controller S.tck S.trst

abbrev pub selection_nets : Places → InstrNets
selection_nets S = instruction_nets S.instruction (controller_nets S) S.tdi S.codes

-- own: the bit of the bypass register
abbrev pub bypass_bit : Places → NetId
bypass_bit S = record { 0 = S.bypass + 2 }

-- own: the cells of the identification register with a code, what its bits hold, and the bit nearest TDO
abbrev pub code_cells : Places → ℕ → List CellView
code_cells S code = ident_cells S.ident S.ident_number (controller_nets S) (selection_nets S).ident_on (selection_nets S).user_on S.tdi S.user code

abbrev pub code_values : Places → (ℕ → Sig) → ℕ → List Sig
code_values S value code = ident_values value S.ident (selection_nets S).user_on S.user code

abbrev pub code_last : Places → ℕ → NetId
code_last S code = ident_last S.ident (selection_nets S).user_on S.tdi S.user code

abbrev pub ident_bit : Places → Option NetId
ident_bit S = option_map (code_last S) S.code

-- own: the cells of the controller, of the registers beside the boundary register, and of TDO are there; TDO's take
-- this net for the bit of the bypass register
pub record HasRegistersBy (M : NetlistView) (S : Places) (shown : NetId) : Type 0 where
  pub controller : HasCells M (tap_cells S.controller S.controller_number S.tck S.tms S.trst)
  pub instruction : HasCells M (instruction_cells S.instruction S.instruction_number (controller_nets S) S.tdi S.codes)
  pub bypass : HasCells M (bypass_cells S.bypass S.bypass_number (controller_nets S) (selection_nets S).bypass_on S.tdi)
  pub ident : HasCells M (option_map_or (code_cells S) S.code [])
  pub tdo : HasCells M (tdo_cells S.driver S.driver_number (controller_nets S) (selection_nets S) shown (ident_bit S) S.nearest S.tdo)
