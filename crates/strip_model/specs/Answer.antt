-- What is recovered gives the same, where anything does.
-- IEEE Std 1149.1-2001: boundary-scan register, the annex on BSDL; the statements are own.
use Rattle.std.specs.Prelude.{◌≡◌, List, Some}
use Rattle.verilog_tree.specs.declared.tree.Module.{Module}
use Rattle.verilog_tree.specs.IsTree.{IsTree}
use Rattle.cell_library.specs.declared.listed.ListedCell.{ListedCell}
use Rattle.bsdl_device.specs.declared.values.Device.{Device}
use Rattle.netlist_link.specs.Linked.{LinkedView, HidesNone}
use Rattle.netlist_unlink.specs.Renumbered.{DenotesSame}
use Rattle.plan_texts.specs.declared.plan.Plan.{Plan}
use Rattle.strip_model.specs.Recovered.{recovered}
use Rattle.strip_model.specs.Gives.{Gives}

-- own: the module and the plan that are recovered give the module with test logic and the device, by the same netlist
pub record IsAnswer (m : Module) (L : LinkedView) (inserted : Module) (d : Device) : Type 0 where
  pub tree : Module
  pub plan : Plan
  pub found : recovered inserted d ≡ Some (tree, plan)
  pub same : DenotesSame L.arena.lists.library m tree
  pub gives : Gives tree L plan inserted d

-- own: so it is, where any module and plan give them
abbrev pub RecoveredGives : Type 0
RecoveredGives = (m : Module) (L : LinkedView) (p : Plan) (inserted : Module) (d : Device) → IsTree inserted → Gives m L p inserted d → IsAnswer m L inserted d

-- own: what is recovered doesn't give them by any netlist with this library and without hidden ports
abbrev pub IsRefused : List ListedCell → Module → Device → Type 0
IsRefused library inserted d =
    (found : Module × Plan) (L : LinkedView) → L.arena.lists.library ≡ library → HidesNone L → recovered inserted d ≡ Some found → Gives found.0 L found.1 inserted d → ⊥

-- own: nothing gives them by such a netlist
abbrev pub IsNotInserted : List ListedCell → Module → Device → Type 0
IsNotInserted library inserted d = (m : Module) (L : LinkedView) (p : Plan) → L.arena.lists.library ≡ library → HidesNone L → Gives m L p inserted d → ⊥

-- own: where what is recovered doesn't give them, nothing does
abbrev pub RefusedByAll : Type 0
RefusedByAll = (library : List ListedCell) (inserted : Module) (d : Device) → IsTree inserted → IsRefused library inserted d → IsNotInserted library inserted d
