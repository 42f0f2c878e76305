-- What drives the nets of the test logic is none of the netlist's own cells.
use Rattle.std.proofs.Common.{◌≡◌, ℕ, ◌+◌, ◌<◌, ◌≤◌, length, refl, sym, subst, Option, Some, None, arith}
use Rattle.std.specs.Prelude.{IsSome}
use Rattle.netlist_model.specs.Lists.{CellView, NetlistView, cell_at, cell_count}
use Rattle.netlist_model.specs.Contained.{IsDense}
use Rattle.netlist_model.specs.LawsContained.{DenseNumbers}
use Rattle.netlist_model.specs.Ports.{DirectionHasBit}
use Rattle.plan_fitting.specs.declared.fitted.Fitted.{Fitted}
use Rattle.plan_fitting.specs.Devices.{fitted_of}
use Rattle.stitched_netlist.specs.Sites.{sides_of}
use Rattle.stitched_netlist.specs.ModelRows.{nets_of_rows}
use Rattle.stitched_netlist.specs.ModelLogic.{logic_size}
use Rattle.stitched_netlist.specs.Stitched.{first_net}
use Rattle.stitched_netlist.specs.PlacesLaws.{register_net}
use Rattle.stitched_netlist.specs.RowsLaws.{RowsStandSomewhere, RowsStandOnce, NetsHaveRows}
use Rattle.stitched_netlist.specs.FormedLaws.{StitchedLogicIsAdded}
use Rattle.stitched_netlist.proofs.FormedContext.{FitsWell, fits_well}
use Rattle.stitched_netlist.proofs.Ranges.{tdo_net, side_range, row_range}
use Rattle.stitched_netlist.proofs.FormedPlaces.{DriverOf, of_pin, of_tdo_pin, of_side, of_logic, of_row_net, of_tdo_net}
use Rattle.stitched_netlist.proofs.Laid.{driver_in}

-- a number past the cells of a netlist without gaps is empty
past_cells : DenseNumbers → (N : NetlistView) → IsDense N → (i : ℕ) → cell_count N ≤ i → cell_at N i ≡ None
past_cells numbers N dense i past = by_place (cell_at N i) refl
  where
    by_place : (o : Option CellView) → cell_at N i ≡ o → cell_at N i ≡ None
    by_place None e = e
    by_place (Some cell) e = let low : i < cell_count N = numbers N dense i (subst (λ (o : Option CellView). IsSome o) (sym e) refl) in absurd (omega arith)

logic_only : DenseNumbers → (N : NetlistView) (f : Fitted) → FitsWell N f → (i j net : ℕ) (cell : CellView) → j < logic_size f → net ≡ first_net N f + j → DriverOf N f i net cell → cell_at N i ≡ None
logic_only numbers N f well i j net cell low at (of_pin less d) =
    let end : first_net N f ≡ length N.nets + 5 + sides_of N.ports f.rows = refl in absurd (omega arith)
logic_only numbers N f well i j net cell low at (of_tdo_pin is e) =
    let end : first_net N f ≡ length N.nets + 5 + sides_of N.ports f.rows = refl in absurd (omega arith)
logic_only numbers N f well i j net cell low at (of_side k row e there less is d) =
    let range = side_range N f k row e there less in let high = range.high in absurd (omega arith)
logic_only numbers N f well i j net cell low at (of_logic other less is e) = past_cells numbers N well.dense i (omega arith)
logic_only numbers N f well i j net cell low at (of_row_net k row other there less is e) =
    let range = row_range N f k row other there less in
    let begin = range.low in
    let end : register_net N f ≡ first_net N f + logic_size f = refl in absurd (omega arith)
logic_only numbers N f well i j net cell low at (of_tdo_net other less is e) =
    let end : register_net N f ≡ first_net N f + logic_size f = refl in
    let start : tdo_net N f ≡ register_net N f + nets_of_rows N.ports f.rows = refl in absurd (omega arith)

pub logic_added : RowsStandSomewhere → RowsStandOnce → NetsHaveRows → DirectionHasBit → DenseNumbers → StitchedLogicIsAdded
logic_added stand once has law numbers L p seen names fits laid dense i j cell low drives =
    let N = L.arena.lists in
    let f = fitted_of L p seen in
    let well = fits_well stand once has law L p seen fits laid dense in
    logic_only numbers N f well i j (first_net N f + j) cell low refl (driver_in N names f well i cell (first_net N f + j) drives)
