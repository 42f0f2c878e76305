-- That the core of what was fitted can be undone.
-- IEEE Std 1149.1-2001: boundary-scan register; the statement is own.
use Rattle.std.specs.Prelude.{◌≡◌, ℕ, List, Some}
use Rattle.netlist_model.specs.Lists.{CellView, cell_at}
use Rattle.netlist_model.specs.Formed.{IsLaidOut}
use Rattle.netlist_link.specs.Linked.{LinkedView}
use Rattle.plan_texts.specs.declared.plan.Plan.{Plan}
use Rattle.plan_fitting.specs.Pins.{PinSeen}
use Rattle.plan_fitting.specs.Devices.{fitted_of}
use Rattle.plan_fitting.specs.FittingPlan.{IsFitting}
use Rattle.stitched_netlist.specs.Stitched.{boundary_at}
use Rattle.strip_model.specs.Pairs.{CanBeUndone}

abbrev pub FittedCanBeUndone : Type 0
FittedCanBeUndone = (L : LinkedView) (p : Plan) (seen : List PinSeen) → IsFitting L p seen → IsLaidOut L.arena.lists → (i : ℕ) (cell : CellView) → cell_at L.arena.lists i ≡ Some cell
    → CanBeUndone (boundary_at L.arena.lists (fitted_of L p seen)) cell
