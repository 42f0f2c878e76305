-- The whole netlist with the test logic.
use Rattle.std.proofs.Common.{◌≡◌, ℕ, zero, suc, ◌+◌, ◌-◌, ◌<◌, nat_lt, Bool, true, false, List, [], ◌∷◌, ◌++◌, map, length, length-append, refl, sym, ap, ◌∙◌, Option, Some, None, if◌then◌else◌, arith, slice_get}
use Rattle.std.specs.Prelude.{filter_map}
use Rattle.std.specs.List.{slice_index}
use Rattle.std.proofs.lemmas.List.Sums.{sum_by-cons}
use Rattle.cell_library.specs.declared.listed.ListedCell.{ListedCell}
use Rattle.cell_library.specs.Gates.{is_flop}
use Rattle.netlist_model.specs.declared.NetId.{NetId}
use Rattle.netlist_model.specs.declared.Feed.{Feed}
use Rattle.netlist_model.specs.declared.Feed.TheVariants.{Net, Const}
use Rattle.netlist_model.specs.Lists.{CellView, NetlistView, live_cell, cell_at, cell_count, Drives}
use Rattle.netlist_model.specs.Formed.{FeedsBelow, IsLaidOut, IsNumbered, IsWellFormed}
use Rattle.netlist_model.specs.Ports.{BitHasDirection}
use Rattle.netlist_model.specs.Drivers.{DriverIsFound, DriverDrives}
use Rattle.plan_fitting.specs.netlist_link.Linked.{LinkedView}
use Rattle.surrounded_core.specs.Above.{StandsOn, AreAbove, AreGatesAbove, StandsByPlace}
use Rattle.surrounded_core.specs.Registers.{TdoStandsAbove, tdo_levels}
use Rattle.surrounded_core.specs.LevelsRows.{RowsStandAbove}
use Rattle.plan_texts.specs.declared.plan.Plan.{Plan}
use Rattle.plan_fitting.specs.declared.fitted.FitRow.{FitRow}
use Rattle.plan_fitting.specs.declared.fitted.Fitted.{Fitted}
use Rattle.plan_fitting.specs.Pins.{PinSeen}
use Rattle.plan_fitting.specs.Devices.{fitted_of}
use Rattle.plan_fitting.specs.Laws.{ControlCellsAreThere}
use Rattle.plan_fitting.specs.FittingPlan.{IsFitting}
use Rattle.stitched_netlist.specs.declared.model.TapPort.{TapPort}
use Rattle.stitched_netlist.specs.Sites.{Boundary, site_of, row_sides, sides_of}
use Rattle.stitched_netlist.specs.Sides.{core_cell}
use Rattle.stitched_netlist.specs.ModelRows.{nets_of_rows, behind}
use Rattle.stitched_netlist.specs.ModelLogic.{logic_size, tap_at, instruction_at, bypass_at, ident_at, logic_cells}
use Rattle.stitched_netlist.specs.Stitched.{tap_port, rows_part, boundary_last, tdo_part, test_logic_cells, same_place, live_cells, boundary_at, first_net, stitched_cells}
use Rattle.stitched_netlist.proofs.PlacesLaws.{listed_at}
use Rattle.stitched_netlist.specs.RanksLaws.{StitchedIsOrdered}
use Rattle.stitched_netlist.proofs.RanksPlaces.{StandAt, front_at, behind_at, moved_at, first_at, levels_at}
use Rattle.stitched_netlist.proofs.RanksLaws.{control_top, logic_ranks, core_low, sides_at, sides_ranks, rows_ranks, tap_ranks, added_ranks, pin_rank, rank_by, stitched_rank}
use Rattle.stitched_netlist.proofs.Logic.{tdo_above}
use Rattle.stitched_netlist.proofs.LogicAbove.{PartLaws, length_logic, IsPortLow, logic_low, logic_above}
use Rattle.stitched_netlist.proofs.RowsAbove.{RowFits, rows_count, sides_count, last_bit_low, rows_above}
use Rattle.stitched_netlist.proofs.CoreRanks.{AreCoreRanks}
use Rattle.stitched_netlist.proofs.RanksFits.{row_fits, ReadsInside, IsCoreGate, AllPlaced, core_above}
use Rattle.stitched_netlist.proofs.PlacedRows.{row_placed}

-- Where the numbers stand.

index_is : (xs : List ℕ) (j x : ℕ) → slice_get xs j ≡ Some x → slice_index xs j ≡ x
index_is [] j x h = absurd (cc)
index_is (y ∷ ys) zero x h = let same : y ≡ x = cc in same
index_is (y ∷ ys) (suc j) x h = index_is ys j x h

not_less : (n j : ℕ) → nat_lt (n + j) n ≡ false
not_less n j = grind (arith)

less_is : (a n : ℕ) → a < n → nat_lt a n ≡ true
less_is a n less = grind (arith, less)

added_at : (alone : ℕ → ℕ) (B : Boundary) (f : Fitted) (count : ℕ) → StandAt (rank_by alone B f count) count (added_ranks alone B f)
added_at alone B f count j x h =
    let at : count + j - count ≡ j = omega arith in
    ap (λ (b : Bool). if b then pin_rank alone (core_low f.codes) B (count + j) else slice_index (added_ranks alone B f) (count + j - count)) (not_less count j)
    ∙ ap (slice_index (added_ranks alone B f)) at ∙ index_is (added_ranks alone B f) j x h

pin_at : (alone : ℕ → ℕ) (B : Boundary) (f : Fitted) (count net : ℕ) → net < count → rank_by alone B f count net ≡ pin_rank alone (core_low f.codes) B net
pin_at alone B f count net less =
    ap (λ (b : Bool). if b then pin_rank alone (core_low f.codes) B net else slice_index (added_ranks alone B f) (net - count)) (less_is net count less)

sides_length : (alone : ℕ → ℕ) (low : ℕ) (B : Boundary) (rows : List FitRow) → length (sides_ranks alone low B rows) ≡ sides_of B.ports rows
sides_length alone low B [] = refl
sides_length alone low B (row ∷ rows) =
    let a = length-append (sides_at alone low B row (site_of B.ports row)) (sides_ranks alone low B rows) in
    let b = sides_count alone low B row (site_of B.ports row) in
    let c = sides_length alone low B rows in
    let d = sum_by-cons (row_sides B.ports) row rows in
    omega arith

record AreAddedThere (rank alone : ℕ → ℕ) (B : Boundary) (f : Fitted) (count first : ℕ) : Type 0 where
  port : IsPortLow rank (tap_port count)
  sides : StandAt rank (count + 5) (sides_ranks alone (core_low f.codes) B B.rows)
  logic : StandAt rank first (logic_ranks f.codes f.usercode f.idcode)
  rows : StandAt rank (first + logic_size f) (rows_ranks alone (core_low f.codes) B B.rows)
  tdo : StandAt rank (first + logic_size f + nets_of_rows B.ports B.rows) (levels_at (control_top f.codes) tdo_levels)

added_there : (rank alone : ℕ → ℕ) (B : Boundary) (f : Fitted) (count : ℕ) → StandAt rank count (added_ranks alone B f)
    → AreAddedThere rank alone B f count (count + 5 + sides_of B.ports B.rows)
added_there rank alone B f count at =
    let low : ℕ = core_low f.codes in
    let first : ℕ = count + 5 + sides_of B.ports B.rows in
    let sides : List ℕ = sides_ranks alone low B B.rows in
    let logic : List ℕ = logic_ranks f.codes f.usercode f.idcode in
    let rows : List ℕ = rows_ranks alone low B B.rows in
    let tdo : List ℕ = levels_at (control_top f.codes) tdo_levels in
    let tap = front_at rank count tap_ranks (sides ++ ((logic ++ rows) ++ tdo)) at in
    let rest = behind_at rank count 5 tap_ranks (sides ++ ((logic ++ rows) ++ tdo)) refl at in
    let more = behind_at rank (count + 5) (sides_of B.ports B.rows) sides ((logic ++ rows) ++ tdo) (sides_length alone low B B.rows) rest in
    let both = front_at rank first (logic ++ rows) tdo more in
    let many : length (logic ++ rows) ≡ logic_size f + nets_of_rows B.ports B.rows =
    (let a = length-append logic rows in let b = length_logic f in let c = rows_count alone low B B.rows in omega arith) in
    record {
      port = record { tck = first_at rank count 0 tap_ranks tap refl; tms = tap 1 0 refl; tdi = tap 2 0 refl; tdo = tap 3 1 refl; trst = tap 4 0 refl };
      sides = front_at rank (count + 5) sides ((logic ++ rows) ++ tdo) rest;
      logic = front_at rank first logic rows both;
      rows = behind_at rank first (logic_size f) logic rows (length_logic f) both;
      tdo = moved_at rank (first + (logic_size f + nets_of_rows B.ports B.rows)) (first + logic_size f + nets_of_rows B.ports B.rows) tdo (omega arith)
          (behind_at rank first (logic_size f + nets_of_rows B.ports B.rows) (logic ++ rows) tdo many more);
    }

-- The test logic.

pub record RankLaws : Type 0 where
  pub parts : PartLaws
  pub rows : RowsStandAbove
  pub tdo : TdoStandsAbove
  pub by_place : StandsByPlace

added_above : RankLaws → (rank alone : ℕ → ℕ) (B : Boundary) (f : Fitted) (count first number : ℕ) → B.first ≡ count + 5 → AreAddedThere rank alone B f count first
    → ((k : ℕ) (row : FitRow) → slice_get B.rows k ≡ Some row → RowFits rank alone (core_low f.codes) B row (site_of B.ports row))
    → AreAbove rank (test_logic_cells B first number (tap_port count) f)
added_above laws rank alone B f count first number begins there fits =
    let port : TapPort = tap_port count in
    let top : ℕ = control_top f.codes in
    let low : ℕ = core_low f.codes in
    let hands = logic_low rank first port f there.logic there.port in
    let sides : StandAt rank B.first (sides_ranks alone low B B.rows) = moved_at rank (count + 5) B.first (sides_ranks alone low B B.rows) (sym begins) there.sides in
    let X : List CellView = logic_cells first number port f in
    let Y : List CellView = behind number X (rows_part B first port f) in
    let b0 = hands.bypass in
    let l0 = last_bit_low rank alone low B (first + logic_size f) port.tdi B.rows there.rows there.port.tdi in
    laws.parts.joined rank Y (tdo_part B first port f (number + length Y))
    (laws.parts.joined rank X (rows_part B first port f (number + length X)) (logic_above laws.parts rank first number port f there.logic there.port)
    (rows_above laws.rows laws.parts.joined rank alone low top B (instruction_at first port f).scan (first + logic_size f) (number + length X) port.tdi B.first B.rows (omega arith)
    hands.instruction.scan there.port.tdi there.rows sides fits))
    (tdo_above laws.tdo rank (first + logic_size f + nets_of_rows B.ports B.rows) (number + length Y) top (tap_at first port) (instruction_at first port f) (bypass_at first f) (ident_at first port f)
    (boundary_last B first port f) port.tdo there.tdo hands.tap hands.instruction.last hands.instruction.bypass_on hands.instruction.ident_on (omega arith) hands.ident (omega arith) there.port.tdo)

-- The core.

live_above : (library : List ListedCell) (rank : ℕ → ℕ) (B : Boundary) (places : List (Option CellView))
    → ((i : ℕ) (cell : CellView) → live_cell (slice_get places i) ≡ Some cell → is_flop library (core_cell B cell).kind ≡ false
    → StandsOn rank (core_cell B cell).feeds (core_cell B cell).output)
    → AreGatesAbove library rank (map (core_cell B) (filter_map same_place places))
live_above library rank B [] each = tt
live_above library rank B (Some cell ∷ places) each = (each 0 cell refl, live_above library rank B places (λ i other e. each (suc i) other e))
live_above library rank B (None ∷ places) each = live_above library rank B places (λ i other e. each (suc i) other e)

reads_inside : (count : ℕ) (feeds : List Feed) → ((place net : ℕ) → slice_get feeds place ≡ Some (Net (record { 0 = net })) → net < count) → ReadsInside count feeds
reads_inside count [] each = tt
reads_inside count (Net net ∷ feeds) each = (each 0 net.0 refl, reads_inside count feeds (λ place other e. each (suc place) other e))
reads_inside count (Const b ∷ feeds) each = reads_inside count feeds (λ place other e. each (suc place) other e)

core_gate : (N : NetlistView) → IsWellFormed N → IsLaidOut N → (alone : ℕ → ℕ) → IsNumbered N alone → (B : Boundary) → B.ports ≡ N.ports → (i : ℕ) (cell : CellView) → cell_at N i ≡ Some cell
    → (net : ℕ) → cell.output ≡ Some (record { 0 = net }) → is_flop N.library cell.kind ≡ false → IsCoreGate alone B (length N.nets) cell.feeds net
core_gate N formed laid alone numbered B same i cell live net output gate =
    let drives : Drives N i cell net = record { live = live; output = output } in
    record {
      inside = laid.outputs i cell net drives;
      reads = reads_inside (length N.nets) cell.feeds (λ place other e. laid.operands i cell place other (record { live = live; operand = e }));
      below = numbered.gates i cell net drives gate;
      driven = λ e. formed.inputs_free i cell net drives (rw (sym same) e);
    }

-- The whole.

cells_above : RankLaws → BitHasDirection → DriverIsFound → DriverDrives → ControlCellsAreThere → (L : LinkedView) (p : Plan) (seen : List PinSeen) → IsFitting L p seen → IsLaidOut L.arena.lists
    → (alone : ℕ → ℕ) → IsNumbered L.arena.lists alone → (k : ℕ) (cell : CellView) (net : NetId) → slice_get (stitched_cells L.arena.lists (fitted_of L p seen)) k ≡ Some cell
    → cell.output ≡ Some net → is_flop L.arena.lists.library cell.kind ≡ false
    → FeedsBelow (stitched_rank L.arena.lists (fitted_of L p seen) alone) cell.feeds (stitched_rank L.arena.lists (fitted_of L p seen) alone net.0)
cells_above laws has found drives law L p seen fits laid alone numbered =
    let N : NetlistView = L.arena.lists in
    let f : Fitted = fitted_of L p seen in
    let B : Boundary = boundary_at N f in
    let count : ℕ = length N.nets in
    let low : ℕ = core_low f.codes in
    let rank : ℕ → ℕ = stitched_rank N f alone in
    let there : AreAddedThere rank alone B f count (first_net N f) = added_there rank alone B f count (added_at alone B f count) in
    let are : AreCoreRanks rank alone low B count = record { first = omega arith; pins = λ net less. pin_at alone B f count net less; sides = there.sides } in
    let placed : AllPlaced alone B count = λ k row e. row_placed has found drives law L p seen fits laid alone numbered k row e in
    laws.by_place N.library rank (map (core_cell B) (live_cells N)) (test_logic_cells B (first_net N f) (cell_count N) (tap_port count) f)
    (live_above N.library rank B N.cells (λ i cell e. core_above N.library rank alone low B count are placed cell (core_gate N fits.formed laid alone numbered B refl i cell e)))
    (added_above laws rank alone B f count (first_net N f) (cell_count N) refl there
    (λ k row e. row_fits rank alone low B count (omega arith) are k row e (site_of B.ports row) refl (placed k row e)))

pub ordered : RankLaws → BitHasDirection → DriverIsFound → DriverDrives → ControlCellsAreThere → StitchedIsOrdered
ordered laws has found drives law L p seen names fits laid dense =
    let N : NetlistView = L.arena.lists in
    let f : Fitted = fitted_of L p seen in
    let alone = fits.formed.ordered in
    let rank : ℕ → ℕ = stitched_rank N f alone.0 in
    let above = cells_above laws has found drives law L p seen fits laid alone.0 alone.1 in (
      rank,
      record {
        gates = λ i cell net d gate. above i cell (record { 0 = net }) (sym (listed_at (stitched_cells N f) i) ∙ d.live) d.output gate;
      },
    )
