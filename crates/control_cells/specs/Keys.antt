-- own: what control cells are found by.
use Rattle.std.specs.Prelude.{◌≡◌, ℕ, ◌+◌, ◌<◌, ◌^◌, ◌==◌, ◌&&◌, Bool, false, List, length, position}
use Rattle.std.specs.Map.{lookup}
use Rattle.netlist_model.specs.declared.Feed.{Feed}
use Rattle.netlist_model.specs.declared.Feed.TheVariants.{Net, Const}
use Rattle.plan_fitting.specs.declared.fitted.FitRow.{FitRow}
use Rattle.plan_fitting.specs.Rows.{Driver, controls, same_bool}
use Rattle.control_cells.specs.declared.keys.OperandKey.{OperandKey}
use Rattle.control_cells.specs.declared.keys.OperandKey.TheVariants as operand
use Rattle.control_cells.specs.declared.keys.ControlKey.{ControlKey}

abbrev pub operand_key : Feed → OperandKey
operand_key (Net net) = operand.Net net.0
operand_key (Const value) = operand.Const value

abbrev pub control_key_of : Driver → ControlKey
control_key_of d = record { operand = operand_key d.operand; active_high = d.active_high }

abbrev pub same_operand : OperandKey → OperandKey → Bool
same_operand (operand.Net a) (operand.Net b) = a == b
same_operand (operand.Const a) (operand.Const b) = same_bool a b
same_operand _ _ = false

abbrev pub same_control : ControlKey → ControlKey → Bool
same_control a b = same_operand a.operand b.operand && same_bool a.active_high b.active_high

-- the number of the control cell of each driver stands under its operand and polarity
pub record FindsControls (rows : List FitRow) (entries : List (ControlKey × ℕ)) : Type 0 where
  pub numbers : (d : Driver) → lookup (same_control (control_key_of d)) entries ≡ position (controls d) rows
  pub few : length rows + 1 < 2 ^ 32
