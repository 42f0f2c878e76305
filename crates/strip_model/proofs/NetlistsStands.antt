-- What stands at a row, told by its gates: site by site.
use Rattle.std.proofs.Common.{◌≡◌, ℕ, ◌<◌, Bool, true, false, List, [], ◌∷◌, ◌++◌, map, reverse, length, refl, Option, Some, None, slice_get, arith}
use Rattle.cell_library.specs.declared.codes.BoundaryKind.{BoundaryKind}
use Rattle.cell_library.specs.declared.codes.BoundaryKind.TheVariants.{Bc1, Bc2, Bc4, Bc7}
use Rattle.cell_library.specs.declared.codes.Function.{Function}
use Rattle.cell_library.specs.declared.codes.Function.TheVariants as function
use Rattle.netlist_model.specs.declared.Name.TheVariants.{Added}
use Rattle.netlist_model.specs.declared.NetId.{NetId}
use Rattle.netlist_model.specs.declared.PinBit.{PinBit}
use Rattle.netlist_model.specs.declared.Feed.{Feed}
use Rattle.netlist_model.specs.Lists.{CellView}
use Rattle.verilog_tree.specs.declared.tree.Item.{Item}
use Rattle.test_logic.specs.declared.ScanNets.{ScanNets}
use Rattle.boundary_cells.specs.ThreeState.{bidir_cells}
use Rattle.plan_fitting.specs.declared.fitted.FitRow.{FitRow}
use Rattle.netlist_unlink.specs.Trees.{Naming, items_from}
use Rattle.stitched_netlist.specs.declared.model.Site.{Site}
use Rattle.stitched_netlist.specs.declared.model.Site.TheVariants as site
use Rattle.stitched_netlist.specs.Sites.{Boundary, site_by, side_count}
use Rattle.stitched_netlist.specs.Sides.{core_feed}
use Rattle.stitched_netlist.specs.ModelRows.{site_cells, enable_of, is_active_high, net_at}
use Rattle.strip_model.specs.declared.Side.{Side}
use Rattle.strip_model.specs.Sides.{stand_at}
use Rattle.strip_model.specs.Pairs.{Pair, pair_at}
use Rattle.strip_model.specs.Chain.{written_side}

-- the first pair, as it is written
abbrev pub first_side : Naming → List Pair → Option Side
first_side naming [] = None
first_side naming (one ∷ pairs) = Some (written_side naming one)

-- own: the net is an added one
abbrev pub IsAddedNet : Naming → ℕ → Type 0
IsAddedNet naming net = slice_get naming.nets net ≡ Some (record { name = Added net; index = None })

abbrev pub row_of : BoundaryKind → Function → Option PinBit → Option Feed → Option ℕ → Bool → FitRow
row_of kind does pin core control high = record { cell = kind; function = does; pin = pin; core = core; control = control; active_high = high }

-- what the gates at a site tell
abbrev pub IsTold : Naming → Boundary → ScanNets → ℕ → ℕ → ℕ → ℕ → FitRow → NetId → List Item → Site → Type 0
IsTold naming B scan first number written side row next before at =
    stand_at row.function row.cell (reverse (items_from naming written (map Some (site_cells B scan first number side row next at))) ++ before)
    ≡ Some (record { side = first_side naming (pair_at B side row at); count = length (site_cells B scan first number side row next at) })

pub told : (naming : Naming) (B : Boundary) (scan : ScanNets) (first number written side : ℕ) (next : NetId) (before : List Item) (kind : BoundaryKind) (does : Function) (own : Bool)
    (pin : Option PinBit) (core : Option Feed) (control : Option ℕ) (high : Bool) → (0 < side_count (site_by does kind own) → IsAddedNet naming side)
    → IsTold naming B scan first number written side (row_of kind does pin core control high) next before (site_by does kind own)
told naming B scan first number written side next before Bc1 function.Input own pin core control high has = let is = has (omega arith) in rw is refl
told naming B scan first number written side next before Bc2 function.Input own pin core control high has = refl
told naming B scan first number written side next before Bc4 function.Input own pin core control high has = refl
told naming B scan first number written side next before Bc7 function.Input own pin core control high has = refl
told naming B scan first number written side next before Bc1 function.Clock own pin core control high has = let is = has (omega arith) in rw is refl
told naming B scan first number written side next before Bc2 function.Clock own pin core control high has = refl
told naming B scan first number written side next before Bc4 function.Clock own pin core control high has = refl
told naming B scan first number written side next before Bc7 function.Clock own pin core control high has = refl
told naming B scan first number written side next before Bc1 function.Output2 own pin core control high has = let is = has (omega arith) in rw is refl
told naming B scan first number written side next before Bc2 function.Output2 own pin core control high has = let is = has (omega arith) in rw is refl
told naming B scan first number written side next before Bc4 function.Output2 own pin core control high has = let is = has (omega arith) in rw is refl
told naming B scan first number written side next before Bc7 function.Output2 own pin core control high has = let is = has (omega arith) in rw is refl
told naming B scan first number written side next before Bc1 function.Output3 true pin core control high has = let is = has (omega arith) in rw is refl
told naming B scan first number written side next before Bc2 function.Output3 true pin core control high has = let is = has (omega arith) in rw is refl
told naming B scan first number written side next before Bc4 function.Output3 true pin core control high has = let is = has (omega arith) in rw is refl
told naming B scan first number written side next before Bc7 function.Output3 true pin core control high has = let is = has (omega arith) in rw is refl
told naming B scan first number written side next before Bc1 function.Output3 false pin core control high has = let is = has (omega arith) in rw is refl
told naming B scan first number written side next before Bc2 function.Output3 false pin core control high has = let is = has (omega arith) in rw is refl
told naming B scan first number written side next before Bc4 function.Output3 false pin core control high has = let is = has (omega arith) in rw is refl
told naming B scan first number written side next before Bc7 function.Output3 false pin core control high has = let is = has (omega arith) in rw is refl
told naming B scan first number written side next before Bc1 function.Control own pin core control high has = let is = has (omega arith) in rw is refl
told naming B scan first number written side next before Bc2 function.Control own pin core control high has = let is = has (omega arith) in rw is refl
told naming B scan first number written side next before Bc4 function.Control own pin core control high has = let is = has (omega arith) in rw is refl
told naming B scan first number written side next before Bc7 function.Control own pin core control high has = let is = has (omega arith) in rw is refl
told naming B scan first number written side next before kind function.Bidir own pin core control high has = by (is_active_high B row)
  where
    row : FitRow
    row = row_of kind function.Bidir pin core control high

    cells : Bool → List CellView
    cells b = bidir_cells first number scan (core_feed B row) (enable_of B row) b (net_at B row) (record { 0 = side }) next

    is : IsAddedNet naming side
    is = has (omega arith)

    by : (b : Bool) → stand_at function.Bidir kind (reverse (items_from naming written (map Some (cells b))) ++ before)
        ≡ Some (record { side = first_side naming (pair_at B side row site.Inout); count = length (cells b) })
    by true = rw is refl
    by false = rw is refl
