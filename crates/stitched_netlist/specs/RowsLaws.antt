-- What stands at each row of the boundary register of a plan that fits.
-- IEEE Std 1149.1-2001: boundary-scan register (provision of cells, control cells).
use Rattle.std.specs.Prelude.{◌≡◌, ◌≢◌, ◌⊎◌, ℕ, Bool, true, false, List, [], ◌∷◌, slice_get, Option, Some, None}
use Rattle.cell_library.specs.Gates.{is_three_state}
use Rattle.netlist_model.specs.declared.Dir.{Dir}
use Rattle.netlist_model.specs.declared.Dir.TheVariants.{Input, Output, Inout}
use Rattle.netlist_model.specs.declared.NetId.{NetId}
use Rattle.netlist_model.specs.declared.Feed.{Feed}
use Rattle.netlist_model.specs.declared.Feed.TheVariants.{Net, Const}
use Rattle.netlist_model.specs.Lists.{CellView, NetlistView, bit_net, direction, Drives, Reads}
use Rattle.plan_fitting.specs.netlist_link.Linked.{LinkedView, is_straight}
use Rattle.plan_texts.specs.declared.plan.Plan.{Plan}
use Rattle.plan_fitting.specs.declared.fitted.FitRow.{FitRow}
use Rattle.plan_fitting.specs.declared.fitted.Fitted.{Fitted}
use Rattle.plan_fitting.specs.Pins.{PinSeen}
use Rattle.plan_fitting.specs.Devices.{fitted_of}
use Rattle.plan_fitting.specs.FittingPlan.{IsFitting}
use Rattle.stitched_netlist.specs.declared.model.Site.TheVariants as site
use Rattle.stitched_netlist.specs.Sites.{row_net, site_of}

-- own: each cell that drives the net always does
abbrev pub IsTwoState : NetlistView → ℕ → Type 0
IsTwoState N net = (i : ℕ) (cell : CellView) → Drives N i cell net → is_three_state cell.kind ≡ false

-- a three-state gate drives the net: its data operand, which is the core's side of the row, and its control operand
pub record HasGate (N : NetlistView) (net : ℕ) (core : Option Feed) (operand : Feed) : Type 0 where
  pub number : ℕ
  pub cell : CellView
  pub drives : Drives N number cell net
  pub three : is_three_state cell.kind ≡ true
  pub datum : Feed
  pub feeds : cell.feeds ≡ datum ∷ operand ∷ []
  pub core_is : core ≡ Some datum

-- the row names a control cell, before which the core gives this
pub record HasControl (N : NetlistView) (f : Fitted) (row : FitRow) (operand : Feed) : Type 0 where
  pub number : ℕ
  pub control : FitRow
  pub names : row.control ≡ Some number
  pub there : slice_get f.rows number ≡ Some control
  pub site : site_of N.ports control ≡ site.Control
  pub pin : row_net N.ports control ≡ None
  pub core : control.core ≡ Some operand

-- own: a constant, or an operand of a cell
pub data IsOperand (N : NetlistView) (feed : Feed) : Type 0 where
  is_constant : (b : Bool) → feed ≡ Const b → IsOperand N feed
  is_read : (i : ℕ) (cell : CellView) (place : ℕ) (net : ℕ) → Reads N i cell place net → feed ≡ Net (record { 0 = net }) → IsOperand N feed

-- what stands at a row, by its site
pub data StandsAt (N : NetlistView) (f : Fitted) (row : FitRow) : Type 0 where
  at_observed : (net : NetId) → row_net N.ports row ≡ Some net → direction N.ports net.0 ≡ Some Input → site_of N.ports row ≡ site.Observed → StandsAt N f row
  at_input : (net : NetId) → row_net N.ports row ≡ Some net → direction N.ports net.0 ≡ Some Input → site_of N.ports row ≡ site.Input → StandsAt N f row
  -- an output that is always driven
  at_output : (net : NetId) → row_net N.ports row ≡ Some net → direction N.ports net.0 ≡ Some Output → site_of N.ports row ≡ site.Output
      → row.core ≡ Some (Net net) → IsTwoState N net.0 → StandsAt N f row
  -- the same, which gets a driver that 1 enables
  at_added : (net : NetId) → row_net N.ports row ≡ Some net → direction N.ports net.0 ≡ Some Output → site_of N.ports row ≡ site.AddedDriver
      → row.core ≡ Some (Net net) → IsTwoState N net.0 → HasControl N f row (Const true) → StandsAt N f row
  -- an output that a three-state gate drives, and an inout
  at_driver : (net : NetId) → row_net N.ports row ≡ Some net → direction N.ports net.0 ≡ Some Output → site_of N.ports row ≡ site.Driver
      → (operand : Feed) → HasGate N net.0 row.core operand → HasControl N f row operand → StandsAt N f row
  at_inout : (net : NetId) → row_net N.ports row ≡ Some net → direction N.ports net.0 ≡ Some Inout → site_of N.ports row ≡ site.Inout
      → (operand : Feed) → HasGate N net.0 row.core operand → HasControl N f row operand → StandsAt N f row
  -- a control cell
  at_control : row_net N.ports row ≡ None → site_of N.ports row ≡ site.Control → (operand : Feed) → row.core ≡ Some operand → IsOperand N operand → StandsAt N f row

-- so it is of each row
abbrev pub RowsStandSomewhere : Type 0
RowsStandSomewhere = (L : LinkedView) (p : Plan) (seen : List PinSeen) → IsFitting L p seen → (k : ℕ) (row : FitRow) → slice_get (fitted_of L p seen).rows k ≡ Some row
    → StandsAt L.arena.lists (fitted_of L p seen) row

-- no two rows stand at one net
abbrev pub RowsStandOnce : Type 0
RowsStandOnce = (L : LinkedView) (p : Plan) (seen : List PinSeen) → IsFitting L p seen → (j k : ℕ) (one other : FitRow) (net : NetId)
    → slice_get (fitted_of L p seen).rows j ≡ Some one → slice_get (fitted_of L p seen).rows k ≡ Some other
    → row_net L.arena.lists.ports one ≡ Some net → row_net L.arena.lists.ports other ≡ Some net → j ≡ k

-- the net has a row
pub record HasRowAt (N : NetlistView) (f : Fitted) (net : ℕ) : Type 0 where
  pub number : ℕ
  pub row : FitRow
  pub there : slice_get f.rows number ≡ Some row
  pub at : row_net N.ports row ≡ Some (record { 0 = net })

-- own: the net has no row; it is no inout's, and each cell that drives it always does
pub record IsStraightNet (N : NetlistView) (f : Fitted) (net : ℕ) : Type 0 where
  pub none : (k : ℕ) (row : FitRow) → slice_get f.rows k ≡ Some row → row_net N.ports row ≢ Some (record { 0 = net })
  pub way : direction N.ports net ≢ Some Inout
  pub plain : IsTwoState N net

-- own: the net is that of a hidden port's bit, and straight
pub record IsHiddenNet (L : LinkedView) (f : Fitted) (net : ℕ) : Type 0 where
  pub number : ℕ
  pub bit : ℕ
  pub hidden : is_straight L number ≡ true
  pub at : bit_net L.arena.lists number bit ≡ Some (record { 0 = net })
  pub straight : IsStraightNet L.arena.lists f net

-- each net of a port bit has one, unless the port is hidden
abbrev pub NetsHaveRows : Type 0
NetsHaveRows = (L : LinkedView) (p : Plan) (seen : List PinSeen) → IsFitting L p seen → (net : ℕ) (dir : Dir) → direction L.arena.lists.ports net ≡ Some dir
    → HasRowAt L.arena.lists (fitted_of L p seen) net ⊎ IsHiddenNet L (fitted_of L p seen) net
