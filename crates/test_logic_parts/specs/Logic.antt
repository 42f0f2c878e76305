-- What the controller and the registers beside the boundary register need of a netlist, and what they hand on.
-- IEEE Std 1149.1-2001: TAP controller, instruction register, test data registers; the numbers are own.
use Rattle.std.specs.Prelude.{ℕ, ◌+◌, ◌*◌, ◌<◌, ◌≤◌}
use Rattle.netlist_arena.specs.Arena.{ArenaView}
use Rattle.register_gates.specs.Bits.{AreNetsBelow}
use Rattle.register_gates.specs.Tdo.{AreIdentBelow}
use Rattle.boundary_cells.specs.Cells.{AreScanNetsBelow}
use Rattle.plan_fitting.specs.declared.fitted.Fitted.{Fitted}
use Rattle.core_sides.specs.stitched_netlist.declared.model.TapPort.{TapPort}
use Rattle.core_sides.specs.stitched_netlist.declared.model.Logic.{Logic}

-- own: so many nets and cells suffice: 49 for the controller, 11 and 21 for each bit for the instruction register, 5
-- for the bypass register, and 99 for the identification register
abbrev pub logic_room : Fitted → ℕ
logic_room f = 164 + 21 * f.codes.length

pub record HasLogicRoom (arena : ArenaView) (f : Fitted) : Type 0 where
  pub nets : logic_room f ≤ arena.spare.nets
  pub cells : logic_room f ≤ arena.spare.cells

-- own: the nets of the port are among the first so many
pub record IsPortBelow (nets : ℕ) (port : TapPort) : Type 0 where
  pub tck : port.tck.0 < nets
  pub tms : port.tms.0 < nets
  pub tdi : port.tdi.0 < nets
  pub tdo : port.tdo.0 < nets
  pub trst : port.trst.0 < nets

-- own: what is handed on to the boundary register and to TDO is among the first so many
pub record IsLogicBelow (nets : ℕ) (logic : Logic) : Type 0 where
  pub clock : AreNetsBelow nets logic.tap.tck logic.tap.trst
  pub shifts : AreNetsBelow nets logic.tap.shift_dr logic.tap.shift_ir
  pub scan : AreScanNetsBelow nets logic.instruction.scan
  pub last : logic.instruction.last.0 < nets
  pub selections : AreNetsBelow nets logic.instruction.bypass_on logic.instruction.ident_on
  pub bypass : logic.bypass.0 < nets
  pub ident : AreIdentBelow nets logic.ident
