-- The controller and the registers beside the boundary register, as cells behind one another.
-- IEEE Std 1149.1-2001: TAP controller, instruction register, bypass register, device identification register;
-- the order is own.
use Rattle.std.specs.Prelude.{ℕ, ◌+◌, List, [], Option}
use Rattle.std.specs.Option.{option_map, option_map_or}
use Rattle.netlist_model.specs.declared.NetId.{NetId}
use Rattle.netlist_model.specs.Lists.{CellView}
use Rattle.test_logic.specs.declared.TapNets.{TapNets}
use Rattle.test_logic.specs.declared.InstrNets.{InstrNets}
use Rattle.tap_gates.specs.Controller.{tap_cells, tap_nets}
use Rattle.surrounded_core.specs.instruction_gates.Register.{instruction_size, instruction_cells, instruction_nets}
use Rattle.surrounded_core.specs.register_gates.Registers.{bypass_cells, ident_size, ident_cells, ident_last}
use Rattle.plan_fitting.specs.declared.fitted.Fitted.{Fitted}
use Rattle.stitched_netlist.specs.declared.model.TapPort.{TapPort}
use Rattle.stitched_netlist.specs.declared.model.Logic.{Logic}
use Rattle.stitched_netlist.specs.ModelRows.{behind}

-- Where the nets of the parts begin, each by its distance from the first.

abbrev pub instruction_from : ℕ
instruction_from = 49

abbrev pub bypass_from : Fitted → ℕ
bypass_from f = instruction_from + instruction_size f.codes

abbrev pub ident_from : Fitted → ℕ
ident_from f = bypass_from f + 5

-- a device without IDCODE has no identification register
abbrev pub code_size : Option ℕ → Option ℕ → ℕ
code_size user code = option_map_or (λ (c : ℕ). ident_size user) code 0

-- own: how many nets all of them take
abbrev pub logic_size : Fitted → ℕ
logic_size f = ident_from f + code_size f.usercode f.idcode

-- What they hand on, where their nets begin at `first`.

abbrev pub tap_at : ℕ → TapPort → TapNets
tap_at first port = tap_nets first port.tck port.trst

abbrev pub instruction_at : ℕ → TapPort → Fitted → InstrNets
instruction_at first port f = instruction_nets (first + instruction_from) (tap_at first port) port.tdi f.codes

-- the bit of the bypass register
abbrev pub bypass_at : ℕ → Fitted → NetId
bypass_at first f = record { 0 = first + bypass_from f + 2 }

-- the bit of the identification register nearest TDO
abbrev pub ident_at : ℕ → TapPort → Fitted → Option NetId
ident_at first port f = option_map (ident_last (first + ident_from f) (instruction_at first port f).user_on port.tdi f.usercode) f.idcode

abbrev pub logic_at : ℕ → TapPort → Fitted → Logic
logic_at first port f = record { tap = tap_at first port; instruction = instruction_at first port f; bypass = bypass_at first f; ident = ident_at first port f }

-- The cells, each part with the number of its first cell.

abbrev pub controller_part : ℕ → TapPort → ℕ → List CellView
controller_part first port number = tap_cells first number port.tck port.tms port.trst

abbrev pub instruction_part : ℕ → TapPort → Fitted → ℕ → List CellView
instruction_part first port f number = instruction_cells (first + instruction_from) number (tap_at first port) port.tdi f.codes

abbrev pub bypass_part : ℕ → TapPort → Fitted → ℕ → List CellView
bypass_part first port f number = bypass_cells (first + bypass_from f) number (tap_at first port) (instruction_at first port f).bypass_on port.tdi

abbrev pub ident_part : ℕ → TapPort → Fitted → ℕ → List CellView
ident_part first port f number =
    option_map_or (ident_cells (first + ident_from f) number (tap_at first port) (instruction_at first port f).ident_on (instruction_at first port f).user_on port.tdi f.usercode) f.idcode []

-- all of them, on nets from `first` on
abbrev pub logic_cells : ℕ → ℕ → TapPort → Fitted → List CellView
logic_cells first number port f =
    behind number (behind number (behind number (controller_part first port number) (instruction_part first port f)) (bypass_part first port f))
    (ident_part first port f)
