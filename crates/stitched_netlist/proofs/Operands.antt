-- What the cells of the netlist with the test logic read.
use Rattle.std.proofs.Common.{◌≡◌, ◌⊎◌, ℕ, suc, ◌+◌, ◌<◌, ◌≤◌, true, false, Bool, List, [], ◌∷◌, map, take, length, refl, sym, ap, subst, ◌∙◌, arith, Option, Some, None}
use Rattle.std.specs.Prelude.{slice_get, option_and_then, unwrap_or, if◌then◌else◌}
use Rattle.std.specs.Option.{option_map_or}
use Rattle.std.proofs.lemmas.List.Sums.{sum_by-cons}
use Rattle.list_laws.proofs.Tests.{both_true}
use Rattle.list_laws.proofs.Options.{some_same}
use Rattle.netlist_model.specs.declared.Dir.TheVariants.{Input, Inout}
use Rattle.netlist_model.specs.declared.NetId.{NetId}
use Rattle.netlist_model.specs.declared.Feed.{Feed}
use Rattle.netlist_model.specs.declared.Feed.TheVariants.{Net, Const}
use Rattle.netlist_model.specs.Lists.{PortView, CellView, NetlistView, cell_at, direction, Reads}
use Rattle.netlist_model.specs.Settled.{is_output}
use Rattle.netlist_model.specs.Nested.{renamed_feed}
use Rattle.plan_fitting.specs.declared.fitted.FitRow.{FitRow}
use Rattle.plan_fitting.specs.declared.fitted.Fitted.{Fitted}
use Rattle.stitched_netlist.specs.Sites.{Boundary, row_net, site_of, side_count, row_sides, sides_of, side_at}
use Rattle.stitched_netlist.specs.Sides.{core_side, is_driven, drives, level_net, driver_feeds, feeds_from, feeds_behind, core_cell}
use Rattle.stitched_netlist.specs.Stitched.{boundary_at}
use Rattle.stitched_netlist.proofs.ModelMoves.{output_is}
use Rattle.stitched_netlist.specs.PlacesLaws.{port_of, row_side}
use Rattle.stitched_netlist.specs.RowsLaws.{HasControl, IsOperand, is_constant, is_read, StandsAt, at_observed, at_input, at_output, at_added, at_driver, at_inout, at_control}
use Rattle.stitched_netlist.specs.Gates.{FeedsAre}
use Rattle.stitched_netlist.specs.Sizes.{added_net_count}
use Rattle.stitched_netlist.proofs.FormedContext.{FitsWell}
use Rattle.stitched_netlist.proofs.Ranges.{net_count, side_range}

-- own: an input of the test access port
abbrev pub IsTapInput : NetlistView → ℕ → Type 0
IsTapInput N net = (net ≡ (port_of N).tck.0) ⊎ ((net ≡ (port_of N).tms.0) ⊎ ((net ≡ (port_of N).tdi.0) ⊎ (net ≡ (port_of N).trst.0)))

-- own: what may be read: what a cell of the core reads, by its other number; a net that is added; an input of the test access port;
-- the pin of an input or an inout
pub data OperandOf (N : NetlistView) (f : Fitted) (net : ℕ) : Type 0 where
  core_read : (i : ℕ) (cell : CellView) (place o : ℕ) → Reads N i cell place o → net ≡ core_side (boundary_at N f) o → OperandOf N f net
  added_read : length N.nets + 5 ≤ net → net < net_count N f → OperandOf N f net
  tap_read : IsTapInput N net → OperandOf N f net
  pin_read : (direction N.ports net ≡ Some Input) ⊎ (direction N.ports net ≡ Some Inout) → net < length N.nets → OperandOf N f net

-- Operands of the core.

side_read : (N : NetlistView) (f : Fitted) (k : ℕ) (row : FitRow) (e net : ℕ) → slice_get f.rows k ≡ Some row → e < row_sides N.ports row → row_side N f k + e ≡ net → OperandOf N f net
side_read N f k row e net there low is =
    let r = side_range N f k row e there low in
    let end : net_count N f ≡ length N.nets + added_net_count N f = refl in
    let from = r.low in
    let to = r.high in
    added_read (omega arith) (omega arith)

-- the net of the level of a row's control cell
level_is : (N : NetlistView) (f : Fitted) (row : FitRow) (number : ℕ) → row.control ≡ Some number → (level_net (boundary_at N f) row).0 ≡ row_side N f number
level_is N f row number e = ap (λ (o : Option ℕ). option_map_or (side_at (boundary_at N f)) o (boundary_at N f).first) e

pub level_read : (N : NetlistView) (f : Fitted) (row : FitRow) (operand : Feed) → HasControl N f row operand → OperandOf N f (level_net (boundary_at N f) row).0
level_read N f row operand c =
    let count : row_sides N.ports c.control ≡ 1 = ap side_count c.site in
    side_read N f c.number c.control 0 (level_net (boundary_at N f) row).0 c.there (omega arith) (first (row_side N f c.number) ∙ sym (level_is N f row c.number c.names))
  where
    first : (n : ℕ) → n + 0 ≡ n
    first n = omega arith

pub feed_read : (N : NetlistView) (f : Fitted) (core : Option Feed) (feed : Feed) → core ≡ Some feed → IsOperand N feed
    → FeedsAre (OperandOf N f) (renamed_feed (core_side (boundary_at N f)) (unwrap_or core (Const false)) ∷ [])
feed_read N f core feed e (is_constant b same) =
    let to = core_side (boundary_at N f) in
    let is : renamed_feed to (unwrap_or core (Const false)) ≡ Const b = ap (λ (o : Option Feed). renamed_feed to (unwrap_or o (Const false))) e ∙ ap (renamed_feed to) same in
    subst (λ (x : Feed). FeedsAre (OperandOf N f) (x ∷ [])) (sym is) tt
feed_read N f core feed e (is_read i cell place net reads same) =
    let to = core_side (boundary_at N f) in
    let is : renamed_feed to (unwrap_or core (Const false)) ≡ Net (record { 0 = to net }) =
    ap (λ (o : Option Feed). renamed_feed to (unwrap_or o (Const false))) e ∙ ap (renamed_feed to) same in
    subst (λ (x : Feed). FeedsAre (OperandOf N f) (x ∷ [])) (sym is) (core_read i cell place net reads refl, tt)

-- operands that are renamed
all_reads : (N : NetlistView) (f : Fitted) (i : ℕ) (cell : CellView) → cell_at N i ≡ Some cell → (feeds : List Feed)
    → ((place : ℕ) (feed : Feed) → slice_get feeds place ≡ Some feed → (at : ℕ) × (slice_get cell.feeds at ≡ Some feed))
    → FeedsAre (OperandOf N f) (map (renamed_feed (core_side (boundary_at N f))) feeds)
all_reads N f i cell live [] from = tt
all_reads N f i cell live (Net net ∷ feeds) from =
    let here = from 0 (Net net) refl in
    (core_read i cell here.0 net.0 (record { live = live; operand = here.1 }) refl, all_reads N f i cell live feeds (λ place feed at. from (suc place) feed at))
all_reads N f i cell live (Const b ∷ feeds) from = all_reads N f i cell live feeds (λ place feed at. from (suc place) feed at)

-- a driver's operands stand behind boundary cells
record IsDriverFeeds (N : NetlistView) (net side : ℕ) (B : Boundary) (rows : List FitRow) (feeds : List Feed) : Type 0 where
  k : ℕ
  row : FitRow
  there : slice_get rows k ≡ Some row
  drives_it : drives B.ports net row ≡ true
  is : feeds ≡ driver_feeds B (side + sides_of B.ports (take k rows)) row

driver_of_rows : (N : NetlistView) (B : Boundary) (net side : ℕ) (rows : List FitRow) (feeds : List Feed) → feeds_from B net side rows ≡ Some feeds → IsDriverFeeds N net side B rows feeds
driver_of_rows N B net side [] feeds e = absurd (cc)
driver_of_rows N B net side (row ∷ rows) feeds e = by (drives B.ports net row) refl e (λ h. driver_of_rows N B net (side + row_sides B.ports row) rows feeds h)
  where
    by : (b : Bool) → drives B.ports net row ≡ b → (if b then Some (driver_feeds B side row) else feeds_from B net (side + row_sides B.ports row) rows) ≡ Some feeds
        → (feeds_from B net (side + row_sides B.ports row) rows ≡ Some feeds → IsDriverFeeds N net (side + row_sides B.ports row) B rows feeds) → IsDriverFeeds N net side B (row ∷ rows) feeds
    by true here same later =
        let zero_sides : sides_of B.ports [] ≡ 0 = refl in
        let first : side ≡ side + sides_of B.ports [] = omega arith in
        let one : driver_feeds B side row ≡ feeds = some_same (driver_feeds B side row) feeds (Some (driver_feeds B side row)) refl same in
        record { k = 0; row = row; there = refl; drives_it = here; is = sym one ∙ ap (λ (n : ℕ). driver_feeds B n row) first }
    by false here same later =
        let rest = later same in
        let more = sum_by-cons (row_sides B.ports) row (take rest.k rows) in
        let start : side + row_sides B.ports row + sides_of B.ports (take rest.k rows) ≡ side + sides_of B.ports (row ∷ take rest.k rows) = omega arith in
        record { k = suc rest.k; row = rest.row; there = rest.there; drives_it = rest.drives_it; is = rest.is ∙ ap (λ (n : ℕ). driver_feeds B n rest.row) start }

pub driver_site : (ports : List PortView) (net : ℕ) (row : FitRow) → drives ports net row ≡ true → is_driven (site_of ports row) ≡ true
driver_site ports net row e = (both_true (is_driven (site_of ports row)) (is_output (row_net ports row) net) e).0

pub driver_on : (ports : List PortView) (net : ℕ) (row : FitRow) → drives ports net row ≡ true → row_net ports row ≡ Some (record { 0 = net })
driver_on ports net row e = output_is (row_net ports row) net (both_true (is_driven (site_of ports row)) (is_output (row_net ports row) net) e).1

pub driver_reads : (N : NetlistView) (f : Fitted) → FitsWell N f → (k : ℕ) (row : FitRow) → slice_get f.rows k ≡ Some row → is_driven (site_of N.ports row) ≡ true → StandsAt N f row
    → FeedsAre (OperandOf N f) (driver_feeds (boundary_at N f) (row_side N f k) row)
driver_reads N f well k row there driven (at_observed pin on side here) = absurd (let no : is_driven (site_of N.ports row) ≡ false = ap is_driven here in cc)
driver_reads N f well k row there driven (at_input pin on side here) = absurd (let no : is_driven (site_of N.ports row) ≡ false = ap is_driven here in cc)
driver_reads N f well k row there driven (at_output pin on side here core two) = absurd (let no : is_driven (site_of N.ports row) ≡ false = ap is_driven here in cc)
driver_reads N f well k row there driven (at_added pin on side here core two control) = absurd (let no : is_driven (site_of N.ports row) ≡ false = ap is_driven here in cc)
driver_reads N f well k row there driven (at_driver pin on side here operand gate control) =
    let count : row_sides N.ports row ≡ 1 = ap side_count here in
    (side_read N f k row 0 (row_side N f k) there (omega arith) (omega arith), (level_read N f row operand control, tt))
driver_reads N f well k row there driven (at_inout pin on side here operand gate control) =
    let count : row_sides N.ports row ≡ 1 = ap side_count here in
    (side_read N f k row 0 (row_side N f k) there (omega arith) (omega arith), (level_read N f row operand control, tt))
driver_reads N f well k row there driven (at_control none here operand core is) = absurd (let no : is_driven (site_of N.ports row) ≡ false = ap is_driven here in cc)

-- own: the operands of a core's cell behind the boundary: a driver's are those of its row, any other's are its own
pub data CoreFeeds (N : NetlistView) (f : Fitted) (cell : CellView) (feeds : List Feed) : Type 0 where
  own_feeds : feeds ≡ map (renamed_feed (core_side (boundary_at N f))) cell.feeds → CoreFeeds N f cell feeds
  row_feeds : (net k : ℕ) (row : FitRow) → cell.output ≡ Some (record { 0 = net }) → slice_get f.rows k ≡ Some row → drives N.ports net row ≡ true
      → feeds ≡ driver_feeds (boundary_at N f) (row_side N f k) row → CoreFeeds N f cell feeds

abbrev own_operands : NetlistView → Fitted → CellView → List Feed
own_operands N f cell = map (renamed_feed (core_side (boundary_at N f))) cell.feeds

found_feeds : (N : NetlistView) (f : Fitted) (cell : CellView) (net : NetId) (o : Option (List Feed)) → cell.output ≡ Some net → feeds_behind (boundary_at N f) net ≡ o
    → CoreFeeds N f cell (unwrap_or o (own_operands N f cell))
found_feeds N f cell net None out e = own_feeds refl
found_feeds N f cell net (Some feeds) out e =
    let row = driver_of_rows N (boundary_at N f) net.0 (boundary_at N f).first f.rows feeds e in
    row_feeds net.0 row.k row.row out row.there row.drives_it row.is

feeds_by : (N : NetlistView) (f : Fitted) (cell : CellView) (output : Option NetId) → cell.output ≡ output
    → CoreFeeds N f cell (unwrap_or (option_and_then (feeds_behind (boundary_at N f)) output) (own_operands N f cell))
feeds_by N f cell None out = own_feeds refl
feeds_by N f cell (Some net) out = found_feeds N f cell net (feeds_behind (boundary_at N f) net) out refl

pub core_feeds : (N : NetlistView) (f : Fitted) (cell : CellView) → CoreFeeds N f cell (core_cell (boundary_at N f) cell).feeds
core_feeds N f cell = feeds_by N f cell cell.output refl

pub core_reads : (N : NetlistView) (f : Fitted) → FitsWell N f → (i : ℕ) (cell : CellView) → cell_at N i ≡ Some cell → FeedsAre (OperandOf N f) (core_cell (boundary_at N f) cell).feeds
core_reads N f well i cell live = by (core_cell (boundary_at N f) cell).feeds (core_feeds N f cell)
  where
    by : (feeds : List Feed) → CoreFeeds N f cell feeds → FeedsAre (OperandOf N f) feeds
    by feeds (own_feeds is) = subst (λ (xs : List Feed). FeedsAre (OperandOf N f) xs) (sym is) (all_reads N f i cell live cell.feeds (λ place feed at. (place, at)))
    by feeds (row_feeds net k row out there driver is) =
        subst (λ (xs : List Feed). FeedsAre (OperandOf N f) xs) (sym is)
        (driver_reads N f well k row there (driver_site N.ports net row driver) (well.stand k row there))
