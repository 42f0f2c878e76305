-- What stands at each row of a plan that fits: the direction of its pin, the core's operands, and its control cell.
use Rattle.std.proofs.Common.{◌≡◌, ℕ, ◌<◌, ◌⊎◌, inl, inr, ◌&&◌, Bool, true, false, List, [], ◌∷◌, length, refl, ap, ◌∙◌, subst, Option, Some, None, eqb-true, slice_get}
use Rattle.std.specs.Option.{option_map_or}
use Rattle.list_laws.proofs.Tests.{and_left, and_right}
use Rattle.list_laws.proofs.Options.{some_same}
use Rattle.cell_library.specs.declared.codes.Function.{Function}
use Rattle.cell_library.specs.declared.codes.Function.TheVariants as function
use Rattle.netlist_model.specs.declared.NetId.{NetId}
use Rattle.netlist_model.specs.declared.Dir.{Dir}
use Rattle.netlist_model.specs.declared.Dir.TheVariants as dir
use Rattle.netlist_model.specs.declared.Feed.{Feed}
use Rattle.netlist_model.specs.declared.Feed.TheVariants.{Net, Const}
use Rattle.netlist_model.specs.Lists.{CellView, NetlistView, direction, Drives}
use Rattle.netlist_model.specs.Settled.{is_output}
use Rattle.netlist_model.specs.Formed.{FeedsBelow, IsLaidOut, IsNumbered}
use Rattle.netlist_model.specs.Drivers.{IsDriverOf}
use Rattle.bsdl_device.specs.RowRules.{is_function}
use Rattle.texts.specs.First.{or_else}
use Rattle.plan_fitting.specs.declared.fitted.FitRow.{FitRow}
use Rattle.plan_fitting.specs.Rows.{Driver, three_state, added_driver, same_bool, same_feed}
use Rattle.plan_fitting.proofs.Controls.{control_is}
use Rattle.plan_fitting.proofs.Drivers.{gate_is}
use Rattle.plan_fitting.proofs.Rows.{IsControlled}
use Rattle.stitched_netlist.specs.declared.model.Site.{Site}
use Rattle.stitched_netlist.specs.declared.model.Site.TheVariants as site
use Rattle.stitched_netlist.specs.Sites.{Boundary, row_net, is_own_net, site_by, site_of}
use Rattle.stitched_netlist.specs.ModelRows.{net_at}
use Rattle.stitched_netlist.proofs.CoreRanks.{IsCoreFeed}

-- An operand whose net has a smaller number.

abbrev pub IsUnder : (ℕ → ℕ) → Option Feed → ℕ → Type 0
IsUnder alone None bound = Unit {0}
IsUnder alone (Some (Const b)) bound = Unit {0}
IsUnder alone (Some (Net net)) bound = alone net.0 < bound

-- A row by its site.

pub record IsPin (B : Boundary) (count : ℕ) (row : FitRow) (side : Dir) : Type 0 where
  pub own : is_output (row_net B.ports row) (net_at B row).0 ≡ true
  pub side_is : direction B.ports (net_at B row).0 ≡ Some side
  pub inside : (net_at B row).0 < count

-- the row names a control cell, and what that is handed has a smaller number than this
pub record HasControl (alone : ℕ → ℕ) (B : Boundary) (count : ℕ) (row : FitRow) (bound : ℕ) : Type 0 where
  pub number : ℕ
  pub control : FitRow
  pub names : row.control ≡ Some number
  pub there : slice_get B.rows number ≡ Some control
  pub at : site_of B.ports control ≡ site.Control
  pub inside : IsCoreFeed count control.core
  pub below : IsUnder alone control.core bound

pub record IsDriverRow (alone : ℕ → ℕ) (B : Boundary) (count : ℕ) (row : FitRow) (side : Dir) : Type 0 where
  pub pin : IsPin B count row side
  pub control : HasControl alone B count row (alone (net_at B row).0)
  pub inside : IsCoreFeed count row.core
  pub below : IsUnder alone row.core (alone (net_at B row).0)

abbrev pub Placed : (ℕ → ℕ) → Boundary → ℕ → FitRow → Site → Type 0
Placed alone B count row site.Observed = IsPin B count row dir.Input
Placed alone B count row site.Input = IsPin B count row dir.Input
Placed alone B count row site.Output = IsPin B count row dir.Output
Placed alone B count row site.AddedDriver = IsPin B count row dir.Output × HasControl alone B count row (alone (net_at B row).0)
Placed alone B count row site.Driver = IsDriverRow alone B count row dir.Output
Placed alone B count row site.Inout = IsDriverRow alone B count row dir.Inout
Placed alone B count row site.Control = IsCoreFeed count row.core

-- The driver of a bit.

under_first : (alone : ℕ → ℕ) (bound : ℕ) (feed : Feed) (rest : List Feed) → FeedsBelow alone (feed ∷ rest) bound → IsUnder alone (Some feed) bound × FeedsBelow alone rest bound
under_first alone bound (Net net) rest below = (below.0, below.1)
under_first alone bound (Const b) rest below = (tt, below)

-- an operand's net is one of the core's
read_inside : (N : NetlistView) → IsLaidOut N → (i : ℕ) (cell : CellView) (net place : ℕ) (feed : Feed) → Drives N i cell net → slice_get cell.feeds place ≡ Some feed
    → IsCoreFeed (length N.nets) (Some feed)
read_inside N laid i cell net place (Net other) drives at = laid.operands i cell place other.0 (record { live = drives.live; operand = at })
read_inside N laid i cell net place (Const b) drives at = tt

-- its operands have smaller numbers than its net, where the core is alone; an added one's data is the net itself
pub record IsDriverAt (alone : ℕ → ℕ) (count : ℕ) (net : NetId) (d : Driver) : Type 0 where
  pub core_inside : IsCoreFeed count (Some d.core)
  pub core_below : IsUnder alone (Some d.core) (alone net.0) ⊎ (d.core ≡ Net net)
  pub operand_inside : IsCoreFeed count (Some d.operand)
  pub operand_below : IsUnder alone (Some d.operand) (alone net.0)

pub record IsThreeState (alone : ℕ → ℕ) (count : ℕ) (net : NetId) (d : Driver) : Type 0 where
  pub at : IsDriverAt alone count net d
  pub below : IsUnder alone (Some d.core) (alone net.0)

pub three_is : (N : NetlistView) (alone : ℕ → ℕ) → IsLaidOut N → IsNumbered N alone → (net : NetId) (o : Option CellView) → IsDriverOf N net.0 o → (d : Driver) → three_state o ≡ Some d
    → IsThreeState alone (length N.nets) net d
three_is N alone laid numbered net None drives d h = absurd (cc)
three_is N alone laid numbered net (Some cell) drives d h =
    let is = gate_is cell.kind cell.feeds d h in
    let below : FeedsBelow alone cell.feeds (alone net.0) = numbered.gates drives.0 cell net.0 drives.1 (is.gate N.library) in
    let both : FeedsBelow alone (d.core ∷ d.operand ∷ []) (alone net.0) = subst (λ (feeds : List Feed). FeedsBelow alone feeds (alone net.0)) is.are below in
    let one = under_first alone (alone net.0) d.core (d.operand ∷ []) both in
    let two = under_first alone (alone net.0) d.operand [] one.1 in
    record {
      at = record {
        core_inside = read_inside N laid drives.0 cell net.0 0 d.core drives.1 (ap (λ (feeds : List Feed). slice_get feeds 0) is.are);
        core_below = inl one.0;
        operand_inside = read_inside N laid drives.0 cell net.0 1 d.operand drives.1 (ap (λ (feeds : List Feed). slice_get feeds 1) is.are);
        operand_below = two.0;
      };
      below = one.0;
    }

added_is : (alone : ℕ → ℕ) (count : ℕ) (net : NetId) (highz : Bool) (d : Driver) → net.0 < count → added_driver highz (Net net) ≡ Some d → IsDriverAt alone count net d
added_is alone count net true d inside h =
    let one : Driver = record { core = Net net; operand = Const true; active_high = true } in
    subst (IsDriverAt alone count net) (some_same one d (added_driver true (Net net)) refl h)
    (record { core_inside = inside; core_below = inr refl; operand_inside = tt; operand_below = tt })
added_is alone count net false d inside h = absurd (cc)

pub output_is : (N : NetlistView) (alone : ℕ → ℕ) → IsLaidOut N → IsNumbered N alone → (net : NetId) (o : Option CellView) → IsDriverOf N net.0 o → (highz : Bool) (d : Driver)
    → net.0 < length N.nets → or_else (three_state o) (added_driver highz (Net net)) ≡ Some d → IsDriverAt alone (length N.nets) net d
output_is N alone laid numbered net o drives highz d inside h = by (three_state o) refl h
  where
    by : (t : Option Driver) → three_state o ≡ t → or_else t (added_driver highz (Net net)) ≡ Some d → IsDriverAt alone (length N.nets) net d
    by None e k = added_is alone (length N.nets) net highz d inside k
    by (Some x) e k = (three_is N alone laid numbered net o drives d (e ∙ k)).at

-- Control cells.

pub same_is : (alone : ℕ → ℕ) (count bound : ℕ) (operand : Feed) (core : Option Feed) → option_map_or (same_feed operand) core false ≡ true
    → IsCoreFeed count (Some operand) → IsUnder alone (Some operand) bound → IsCoreFeed count core × IsUnder alone core bound
same_is alone count bound operand None h inside below = absurd (cc)
same_is alone count bound (Net a) (Some (Net b)) h inside below =
    let same : a.0 ≡ b.0 = eqb-true a.0 b.0 h in
    (subst (λ (n : ℕ). n < count) same inside, subst (λ (n : ℕ). alone n < bound) same below)
same_is alone count bound (Net a) (Some (Const b)) h inside below = absurd (cc)
same_is alone count bound (Const a) (Some (Net b)) h inside below = absurd (cc)
same_is alone count bound (Const a) (Some (Const b)) h inside below = (tt, tt)

pub control_site : (B : Boundary) (row : FitRow) → row.function ≡ function.Control → site_of B.ports row ≡ site.Control
control_site B row e = ap (λ (f : Function). site_by f row.cell (is_own_net (row_net B.ports row) row.core)) e

-- the control cell of a driver
pub row_controls : (alone : ℕ → ℕ) (B : Boundary) (count : ℕ) (net : NetId) (row : FitRow) (d : Driver) → IsDriverAt alone count net d → IsControlled B.rows d row.control
    → HasControl alone B count row (alone net.0)
row_controls alone B count net row d at c =
    let does : Bool = is_function function.Control c.row.function in
    let level : Bool = same_bool c.row.active_high d.active_high in
    let fed : Bool = option_map_or (same_feed d.operand) c.row.core false in
    let first : (does && level) ≡ true = and_left (does && level) fed c.right in
    let same = same_is alone count (alone net.0) d.operand c.row.core (and_right (does && level) fed c.right) at.operand_inside at.operand_below in
    record {
      number = c.number;
      control = c.row;
      names = c.is;
      there = c.there;
      at = control_site B c.row (control_is c.row.function (and_left does level first));
      inside = same.0;
      below = same.1;
    }
