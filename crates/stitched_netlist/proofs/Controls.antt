-- The cones and the control ports of the netlist with the test logic.
use Rattle.std.proofs.Common.{◌≡◌, ◌≢◌, ◌⊎◌, inl, inr, ℕ, ◌+◌, ◌<◌, true, List, length, refl, sym, ap, ◌∙◌, subst, Some, None, option_map, arith, slice_get}
use Rattle.list_laws.proofs.Tests.{both_true}
use Rattle.netlist_model.specs.declared.Dir.{Dir}
use Rattle.netlist_model.specs.declared.Dir.TheVariants.{Input, Output, Inout}
use Rattle.netlist_model.specs.Lists.{NetlistView, cell_count, direction, Drives}
use Rattle.netlist_model.specs.Contained.{IsDense}
use Rattle.netlist_model.specs.Settled.{follows_pin, is_output}
use Rattle.netlist_model.specs.Cones.{IsControlNet, IsControlPort}
use Rattle.netlist_model.specs.Formed.{IsLaidOut, IsDriven, IsCombinational}
use Rattle.netlist_model.specs.Ports.{BitHasDirection, DirectionHasBit}
use Rattle.netlist_model.specs.Drivers.{DriverIsFound, DriverDrives}
use Rattle.plan_fitting.specs.netlist_link.Linked.{LinkedView}
use Rattle.netlist_model.specs.Nested.{renamed_net}
use Rattle.test_logic.specs.declared.TapInput.{TapInput}
use Rattle.test_logic.specs.declared.TapInput.TheVariants.{Tck, Tms, Tdi, Trst}
use Rattle.wrapped_chip.specs.Realises.{SameBit, tap_place, IsTapNet}
use Rattle.wrapped_chip.specs.Legal.{IsClockOrReset, IsKeptControl, IsTapControl}
use Rattle.plan_texts.specs.declared.plan.Plan.{Plan}
use Rattle.plan_fitting.specs.declared.fitted.FitRow.{FitRow}
use Rattle.plan_fitting.specs.declared.fitted.Fitted.{Fitted}
use Rattle.plan_fitting.specs.Pins.{PinSeen}
use Rattle.plan_fitting.specs.Devices.{fitted_of}
use Rattle.plan_fitting.specs.Laws.{ControlCellsAreThere}
use Rattle.plan_fitting.specs.FittingPlan.{IsFitting}
use Rattle.plan_fitting.specs.DevicesLaws.{PlansSuitNetlists, RowsStandAtBits, RowsTakeTheCore}
use Rattle.stitched_netlist.specs.declared.model.TapNames.{TapNames}
use Rattle.stitched_netlist.specs.declared.model.Site.{Site}
use Rattle.stitched_netlist.specs.declared.model.Site.TheVariants as site
use Rattle.stitched_netlist.specs.Sites.{Boundary, row_net, site_of}
use Rattle.stitched_netlist.specs.Sides.{is_moved, core_side, is_driven, core_cell}
use Rattle.stitched_netlist.specs.ModelRows.{net_at}
use Rattle.stitched_netlist.specs.Stitched.{tap_port, test_logic_cells, boundary_at, first_net, stitched_cells, stitched}
use Rattle.stitched_netlist.specs.Places.{IsInside, StitchedHoldsParts, StitchedHoldsTheCore}
use Rattle.stitched_netlist.proofs.PlacesLaws.{listed_at}
use Rattle.stitched_netlist.specs.Directions.{KeepsDirections, StitchedDirections}
use Rattle.stitched_netlist.specs.RanksLaws.{StitchedHasCones, StitchedHasControls}
use Rattle.stitched_netlist.proofs.Moved.{net_at_is, moved_or_stays}
use Rattle.stitched_netlist.proofs.Placed.{IsPin, IsDriverRow, Placed}
use Rattle.stitched_netlist.proofs.PlacedRows.{row_placed}
use Rattle.stitched_netlist.proofs.RanksFits.{AllPlaced}
use Rattle.stitched_netlist.proofs.PartsSteered.{logic_is_steered}
use Rattle.stitched_netlist.proofs.RowFacts.{driver_three, input_no_control}
use Rattle.stitched_netlist.proofs.Kept.{IsKept, kept_tck, kept_trst, kept_core, IsNotKept, control_inside, from_apart, tdo_apart, row_apart, rows_apart}
use Rattle.stitched_netlist.proofs.Cones.{AreDriverRows, IsStitched, control_is_kept}
use Rattle.stitched_netlist.proofs.Stays.{control_stays, tap_steers}
use Rattle.stitched_netlist.proofs.Pins.{same_bit_net, bit_of, tap_is, tap_once}

-- the laws that it stands on
pub record ControlLaws : Type 0 where
  pub bits : BitHasDirection
  pub found : DriverIsFound
  pub drives : DriverDrives
  pub named : ControlCellsAreThere
  pub takes : RowsTakeTheCore
  pub suits : PlansSuitNetlists
  pub stands : RowsStandAtBits
  pub core : StitchedHoldsTheCore
  pub ways : StitchedDirections

-- Rows.

driven_site : (at : Site) → is_driven at ≡ true → (at ≡ site.Driver) ⊎ (at ≡ site.Inout)
driven_site site.Observed e = absurd (cc)
driven_site site.Input e = absurd (cc)
driven_site site.Output e = absurd (cc)
driven_site site.AddedDriver e = absurd (cc)
driven_site site.Driver e = inl refl
driven_site site.Inout e = inr refl
driven_site site.Control e = absurd (cc)

moved_pin : (alone : ℕ → ℕ) (B : Boundary) (count : ℕ) (row : FitRow) (at : Site) → is_moved at ≡ true → Placed alone B count row at → (at ≡ site.Input) ⊎ IsPin B count row Output
moved_pin alone B count row site.Observed e placed = absurd (cc)
moved_pin alone B count row site.Input e placed = inl refl
moved_pin alone B count row site.Output e placed = inr placed
moved_pin alone B count row site.AddedDriver e placed = inr placed.0
moved_pin alone B count row site.Driver e placed = absurd (cc)
moved_pin alone B count row site.Inout e placed = absurd (cc)
moved_pin alone B count row site.Control e placed = absurd (cc)

-- the direction of a driver's net
driver_way : (alone : ℕ → ℕ) (B : Boundary) (count : ℕ) (row : FitRow) (way : Dir) (net : ℕ) → IsDriverRow alone B count row way → is_output (row_net B.ports row) net ≡ true
    → direction B.ports net ≡ Some way
driver_way alone B count row way net placed own = ap (direction B.ports) (sym (net_at_is B row net own)) ∙ placed.pin.side_is

placed_at : (alone : ℕ → ℕ) (B : Boundary) (count : ℕ) (row : FitRow) (at : Site) → site_of B.ports row ≡ at → Placed alone B count row (site_of B.ports row) → Placed alone B count row at
placed_at alone B count row at is placed = subst (λ (a : Site). Placed alone B count row a) is placed

-- What is built in.

record IsBuilt (L : LinkedView) (p : Plan) (seen : List PinSeen) (names : TapNames) : Type 0 where
  whole : IsStitched L.arena.lists (stitched L.arena.lists names (fitted_of L p seen)) (boundary_at L.arena.lists (fitted_of L p seen)) (length L.arena.lists.nets)
      (test_logic_cells (boundary_at L.arena.lists (fitted_of L p seen)) (first_net L.arena.lists (fitted_of L p seen)) (cell_count L.arena.lists) (tap_port (length L.arena.lists.nets)) (fitted_of L p seen))
  inside : IsInside (stitched L.arena.lists names (fitted_of L p seen)) L.arena.lists (fitted_of L p seen)
  ways : KeepsDirections L.arena.lists (stitched L.arena.lists names (fitted_of L p seen))
  -- an input that clocks, clears or presets stays
  stays : (x : ℕ) → IsControlPort L.arena.lists x → core_side (boundary_at L.arena.lists (fitted_of L p seen)) x ≡ x

driver_rows : ControlLaws → (L : LinkedView) (p : Plan) (seen : List PinSeen) → IsFitting L p seen → (alone : ℕ → ℕ) → AllPlaced alone (boundary_at L.arena.lists (fitted_of L p seen)) (length L.arena.lists.nets)
    → AreDriverRows L.arena.lists (boundary_at L.arena.lists (fitted_of L p seen))
driver_rows laws L p seen fits alone placed =
    let N : NetlistView = L.arena.lists in
    let B : Boundary = boundary_at N (fitted_of L p seen) in
    let count : ℕ = length N.nets in
    record {
      three = λ k row there net d i cell c.
          let both = both_true (is_driven (site_of B.ports row)) (is_output (row_net B.ports row) net) d in
          elim (driven_site (site_of B.ports row) both.0) [
            | inl is ↦ driver_three laws.found laws.takes L p seen fits k row there is net both.1 i cell c
            | inr is ↦ fits.formed.inout_bufif i cell net c (driver_way alone B count row Inout net (placed_at alone B count row site.Inout is (placed k row there)) both.1)
          ];
      side = λ k row there net d.
          let both = both_true (is_driven (site_of B.ports row)) (is_output (row_net B.ports row) net) d in
          elim (driven_site (site_of B.ports row) both.0) [
            | inl is ↦ inl (driver_way alone B count row Output net (placed_at alone B count row site.Driver is (placed k row there)) both.1)
            | inr is ↦ inr (driver_way alone B count row Inout net (placed_at alone B count row site.Inout is (placed k row there)) both.1)
          ];
    }

-- no cell but a BC_4 stands at a control port
no_input_row : ControlLaws → (L : LinkedView) (p : Plan) (seen : List PinSeen) → IsFitting L p seen → (alone : ℕ → ℕ) → AllPlaced alone (boundary_at L.arena.lists (fitted_of L p seen)) (length L.arena.lists.nets)
    → (k : ℕ) (row : FitRow) → slice_get (boundary_at L.arena.lists (fitted_of L p seen)).rows k ≡ Some row → site_of L.arena.lists.ports row ≡ site.Input
    → IsControlPort L.arena.lists (net_at (boundary_at L.arena.lists (fitted_of L p seen)) row).0 → ⊥
no_input_row laws L p seen fits alone placed k row there is control =
    let B : Boundary = boundary_at L.arena.lists (fitted_of L p seen) in
    let pin : IsPin B (length L.arena.lists.nets) row Input = placed_at alone B (length L.arena.lists.nets) row site.Input is (placed k row there) in
    input_no_control laws.suits laws.stands L p seen fits k row there is (net_at B row).0 pin.own control

input_stays : ControlLaws → (L : LinkedView) (p : Plan) (seen : List PinSeen) → IsFitting L p seen → (alone : ℕ → ℕ) → AllPlaced alone (boundary_at L.arena.lists (fitted_of L p seen)) (length L.arena.lists.nets)
    → (x : ℕ) → IsControlPort L.arena.lists x → core_side (boundary_at L.arena.lists (fitted_of L p seen)) x ≡ x
input_stays laws L p seen fits alone placed x control =
    let N : NetlistView = L.arena.lists in
    let B : Boundary = boundary_at N (fitted_of L p seen) in
    elim (moved_or_stays B.ports x B.first B.rows) [
      | inl stays ↦ stays.same
      | inr by ↦
          (let both = both_true (is_moved (site_of B.ports by.row)) (is_output (row_net B.ports by.row) x) by.moved in
          let at : (net_at B by.row).0 ≡ x = net_at_is B by.row x both.1 in
          elim (moved_pin alone B (length N.nets) by.row (site_of B.ports by.row) both.0 (placed by.k by.row by.there)) [
            | inl is ↦ absurd (no_input_row laws L p seen fits alone placed by.k by.row by.there is (subst (IsControlPort N) (sym at) control))
            | inr pin ↦ absurd (let clash : Some Output ≡ Some Input = sym pin.side_is ∙ ap (direction N.ports) at ∙ control.0 in cc)
          ])
    ]

built : ControlLaws → (L : LinkedView) (p : Plan) (seen : List PinSeen) (names : TapNames) → IsFitting L p seen → IsLaidOut L.arena.lists → IsDense L.arena.lists → IsBuilt L p seen names
built laws L p seen names fits laid dense =
    let N : NetlistView = L.arena.lists in
    let f : Fitted = fitted_of L p seen in
    let B : Boundary = boundary_at N f in
    let count : ℕ = length N.nets in
    let alone = fits.formed.ordered in
    let inside = laws.core N names f dense in
    let placed : AllPlaced alone.0 B count = λ k row e. row_placed laws.bits laws.found laws.drives laws.named L p seen fits laid alone.0 alone.1 k row e in
    record {
      whole = record {
        library = refl;
        core = record {
          formed = fits.formed;
          laid = laid;
          many = refl;
          begins = refl;
          once = inside.once;
          rows = driver_rows laws L p seen fits alone.0 placed;
        };
        cells = λ i cell e. sym (listed_at (stitched_cells N f) i) ∙ e;
        steered = logic_is_steered B (first_net N f) (cell_count N) (tap_port count) f (IsNotKept N B count) (from_apart N B count laid refl refl)
            (rows_apart (IsNotKept N B count) B B.first B.rows
            (λ k row there. row_apart N B count alone.0 laid refl refl refl (no_input_row laws L p seen fits alone.0 placed) k row there (site_of B.ports row) refl (placed k row there)))
            (tdo_apart N B count laid refl refl);
      };
      inside = inside;
      ways = laws.ways N names f laid;
      stays = input_stays laws L p seen fits alone.0 placed;
    }

-- Cones.

-- a gate of the core is one behind its boundary cells
gate_there : (L : LinkedView) (p : Plan) (seen : List PinSeen) (names : TapNames) → IsBuilt L p seen names → (x : ℕ) (d : IsDriven L.arena.lists x)
    → Drives (stitched L.arena.lists names (fitted_of L p seen)) d.number (core_cell (boundary_at L.arena.lists (fitted_of L p seen)) d.cell) (core_side (boundary_at L.arena.lists (fitted_of L p seen)) x)
gate_there L p seen names is x d = record {
  live = is.inside.stands d.number d.cell d.drives.live;
  output = ap (option_map (renamed_net (core_side (boundary_at L.arena.lists (fitted_of L p seen))))) d.drives.output;
}

-- behind its boundary cells a net of the core is no inout that it wasn't
way_there : (L : LinkedView) (p : Plan) (seen : List PinSeen) (names : TapNames) → IsBuilt L p seen names → (x : ℕ) → x < length L.arena.lists.nets → direction L.arena.lists.ports x ≢ Some Inout
    → direction (stitched L.arena.lists names (fitted_of L p seen)).ports (core_side (boundary_at L.arena.lists (fitted_of L p seen)) x) ≢ Some Inout
way_there L p seen names is x inside other way =
    let N : NetlistView = L.arena.lists in
    let B : Boundary = boundary_at N (fitted_of L p seen) in
    let M : NetlistView = stitched N names (fitted_of L p seen) in
    elim (moved_or_stays B.ports x B.first B.rows) [
      | inl stays ↦ other (sym (is.ways.core x inside) ∙ ap (direction M.ports) (sym stays.same) ∙ way)
      | inr by ↦ (let at = by.is in let none : direction M.ports (core_side B x) ≡ None = is.ways.others (core_side B x) (omega arith) in let clash : None ≡ Some Inout = sym none ∙ way in cc)
    ]

core_combines : (L : LinkedView) (p : Plan) (seen : List PinSeen) (names : TapNames) → IsBuilt L p seen names → IsLaidOut L.arena.lists → (x : ℕ) → IsControlNet L.arena.lists x → IsCombinational L.arena.lists x
    → IsCombinational (stitched L.arena.lists names (fitted_of L p seen)) (core_side (boundary_at L.arena.lists (fitted_of L p seen)) x)
core_combines L p seen names is laid x c (inl input) =
    let N : NetlistView = L.arena.lists in
    let M : NetlistView = stitched N names (fitted_of L p seen) in
    inl (ap (direction M.ports) (is.stays x (input, c)) ∙ is.ways.core x (control_inside N laid x c) ∙ input)
core_combines L p seen names is laid x c (inr gate) =
    let N : NetlistView = L.arena.lists in
    let d = gate.0 in
    inr (
      record { number = d.number; cell = core_cell (boundary_at N (fitted_of L p seen)) d.cell; drives = gate_there L p seen names is x d },
      gate.1,
      way_there L p seen names is x (control_inside N laid x c) gate.2,
    )

combines : (L : LinkedView) (p : Plan) (seen : List PinSeen) (names : TapNames) → IsBuilt L p seen names → IsFitting L p seen → IsLaidOut L.arena.lists → (net : ℕ)
    → IsKept L.arena.lists (boundary_at L.arena.lists (fitted_of L p seen)) (length L.arena.lists.nets) net → IsCombinational (stitched L.arena.lists names (fitted_of L p seen)) net
combines L p seen names is fits laid net (kept_tck e) = inl (ap (direction (stitched L.arena.lists names (fitted_of L p seen)).ports) e ∙ is.ways.tck)
combines L p seen names is fits laid net (kept_trst e) = inl (ap (direction (stitched L.arena.lists names (fitted_of L p seen)).ports) e ∙ is.ways.trst)
combines L p seen names is fits laid net (kept_core x c e) =
    subst (IsCombinational (stitched L.arena.lists names (fitted_of L p seen))) e (core_combines L p seen names is laid x c (fits.formed.cones x c))

kept_here : (L : LinkedView) (p : Plan) (seen : List PinSeen) (names : TapNames) → IsBuilt L p seen names → (net : ℕ) → IsControlNet (stitched L.arena.lists names (fitted_of L p seen)) net
    → IsKept L.arena.lists (boundary_at L.arena.lists (fitted_of L p seen)) (length L.arena.lists.nets) net
kept_here L p seen names is net c =
    let N : NetlistView = L.arena.lists in
    let f : Fitted = fitted_of L p seen in
    control_is_kept N (stitched N names f) (boundary_at N f) (length N.nets) (test_logic_cells (boundary_at N f) (first_net N f) (cell_count N) (tap_port (length N.nets)) f) is.whole net c

pub cones : ControlLaws → StitchedHasCones
cones laws L p seen names fits laid dense net c =
    let is = built laws L p seen names fits laid dense in
    combines L p seen names is fits laid net (kept_here L p seen names is net c)

-- Control ports.

-- a control net of the core that keeps its number
same_control : (L : LinkedView) (p : Plan) (seen : List PinSeen) (names : TapNames) → IsBuilt L p seen names → (x net : ℕ) → IsControlNet L.arena.lists x
    → core_side (boundary_at L.arena.lists (fitted_of L p seen)) x ≡ net → net < length L.arena.lists.nets + 5 → IsControlNet L.arena.lists net
same_control L p seen names is x net c e low =
    let N : NetlistView = L.arena.lists in
    let B : Boundary = boundary_at N (fitted_of L p seen) in
    elim (moved_or_stays B.ports x B.first B.rows) [
      | inl stays ↦ subst (IsControlNet N) (sym stays.same ∙ e) c
      | inr by ↦ absurd (let at = by.is in omega arith)
    ]

kept_control : (L : LinkedView) (p : Plan) (seen : List PinSeen) (names : TapNames) → IsBuilt L p seen names → (net : ℕ) → net < length L.arena.lists.nets
    → IsKept L.arena.lists (boundary_at L.arena.lists (fitted_of L p seen)) (length L.arena.lists.nets) net → IsControlNet L.arena.lists net
kept_control L p seen names is net low (kept_tck e) = absurd (omega arith)
kept_control L p seen names is net low (kept_trst e) = absurd (omega arith)
kept_control L p seen names is net low (kept_core x c e) = same_control L p seen names is x net c e (omega arith)

tap_way : (N M : NetlistView) → KeepsDirections N M → (input : TapInput) → direction M.ports (length N.nets + tap_place input) ≡ Some Input
tap_way N M ways Tck = let e : length N.nets + 0 ≡ length N.nets = omega arith in ap (direction M.ports) e ∙ ways.tck
tap_way N M ways Tms = ways.tms
tap_way N M ways Tdi = ways.tdi
tap_way N M ways Trst = ways.trst

tap_control : (L : LinkedView) (p : Plan) (seen : List PinSeen) (names : TapNames) (there : ℕ) (input : TapInput) → IsClockOrReset input → there ≡ length L.arena.lists.nets + tap_place input
    → IsTapControl (stitched L.arena.lists names (fitted_of L p seen)) L.arena.lists there
tap_control L p seen names there input which e =
    let N : NetlistView = L.arena.lists in
    let M : NetlistView = stitched N names (fitted_of L p seen) in
    record { input = input; which = which; tap = subst (IsTapNet M N (tap_place input)) (sym e) (tap_is N names (fitted_of L p seen) input) }

-- which ones there are
only_these : DirectionHasBit → (L : LinkedView) (p : Plan) (seen : List PinSeen) (names : TapNames) → IsBuilt L p seen names → IsLaidOut L.arena.lists → (there : ℕ)
    → direction (stitched L.arena.lists names (fitted_of L p seen)).ports there ≡ Some Input
    → IsKept L.arena.lists (boundary_at L.arena.lists (fitted_of L p seen)) (length L.arena.lists.nets) there
    → IsKeptControl (stitched L.arena.lists names (fitted_of L p seen)) L.arena.lists there ⊎ IsTapControl (stitched L.arena.lists names (fitted_of L p seen)) L.arena.lists there
only_these law L p seen names is laid there way (kept_tck e) = inr (tap_control L p seen names there Tck (inl refl) (let z : length L.arena.lists.nets ≡ length L.arena.lists.nets + 0 = omega arith in e ∙ z))
only_these law L p seen names is laid there way (kept_trst e) = inr (tap_control L p seen names there Trst (inr refl) e)
only_these law L p seen names is laid there way (kept_core x c e) =
    let N : NetlistView = L.arena.lists in
    let f : Fitted = fitted_of L p seen in
    let B : Boundary = boundary_at N f in
    let M : NetlistView = stitched N names f in
    elim (moved_or_stays B.ports x B.first B.rows) [
      | inl stays ↦
          (let same : x ≡ there = sym stays.same ∙ e in
          let low : x < length N.nets = control_inside N laid x c in
          let input : direction N.ports x ≡ Some Input = sym (is.ways.core x low) ∙ ap (direction M.ports) same ∙ way in
          inl (record { net = x; same = subst (SameBit M N x) same (bit_of law N names f Input x input); control = (input, c) }))
      | inr by ↦ absurd (let at = by.is in let none : direction M.ports there ≡ None = is.ways.others there (omega arith) in let clash : None ≡ Some Input = sym none ∙ way in cc)
    ]

same_way : (N M : NetlistView) → KeepsDirections N M → (net there : ℕ) → there ≡ net → net < length N.nets → direction M.ports there ≡ direction N.ports net
same_way N M ways net there e low = ap (direction M.ports) e ∙ ways.core net low

pub controls : DirectionHasBit → StitchedHoldsParts → ControlLaws → StitchedHasControls
controls law parts laws L p seen names fits laid dense =
    let N : NetlistView = L.arena.lists in
    let f : Fitted = fitted_of L p seen in
    let M : NetlistView = stitched N names f in
    let is = built laws L p seen names fits laid dense in
    let inside : (net there : ℕ) → SameBit M N net there → net < length N.nets = λ net there same. laid.port_nets same.port same.place (record { 0 = net }) same.here in
    record {
      bits = λ net there same follows. ap follows_pin (same_way N M is.ways net there (same_bit_net N names f net there same) (inside net there same)) ∙ follows;
      tap = λ input there h. ap follows_pin (ap (direction M.ports) (tap_once N names f input there h) ∙ tap_way N M is.ways input);
      kept = λ net there same port.
          let e : there ≡ net = same_bit_net N names f net there same in
          let low = inside net there same in (
            sym (same_way N M is.ways net there e low) ∙ port.0,
            kept_control L p seen names is net low
                (subst (IsKept N (boundary_at N f) (length N.nets)) e (kept_here L p seen names is there port.1)),
          );
      stays = λ net there same port.
          let e : there ≡ net = same_bit_net N names f net there same in (
            same_way N M is.ways net there e (inside net there same) ∙ port.0,
            subst (IsControlNet M) (is.stays net port ∙ sym e)
                (control_stays N M (boundary_at N f) (length N.nets) is.whole.core (record { library = refl; cells = is.inside.stands }) net port.1),
          );
      added = λ input there which h.
          let e : there ≡ length N.nets + tap_place input = tap_once N names f input there h in (
            ap (direction M.ports) e ∙ tap_way N M is.ways input,
            subst (IsControlNet M) (sym e) (tap_steers M N f (parts N names f) input which),
          );
      only = λ there port. only_these law L p seen names is laid there port.0 (kept_here L p seen names is there port.1);
    }
