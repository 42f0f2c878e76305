-- What drives the pins of the stitched netlist, and through what the core sees them.
use Rattle.std.proofs.Common.{◌≡◌, inl, inr, ℕ, ◌+◌, Bool, true, false, List, [], ◌∷◌, map, length, refl, ap, sym, ◌∙◌, subst, Option, Some, None}
use Rattle.std.specs.Prelude.{slice_get, option_and_then, unwrap_or}
use Rattle.std.specs.Option.{option_map, option_map_or}
use Rattle.std.proofs.lemmas.Option.{slice_get-map}
use Rattle.list_laws.proofs.Options.{some_same}
use Rattle.cell_library.specs.Gates.{is_three_state}
use Rattle.netlist_model.specs.declared.NetId.{NetId}
use Rattle.netlist_model.specs.declared.Feed.{Feed}
use Rattle.netlist_model.specs.declared.Feed.TheVariants.{Net}
use Rattle.netlist_model.specs.declared.Dir.{Dir}
use Rattle.netlist_model.specs.declared.Dir.TheVariants as dir
use Rattle.netlist_model.specs.declared.PinBit.{PinBit}
use Rattle.netlist_model.specs.Lists.{CellView, NetlistView, bit_net, direction, Drives}
use Rattle.netlist_model.specs.Settled.{follows_pin, driver_of}
use Rattle.netlist_model.specs.Formed.{IsWellFormed}
use Rattle.netlist_model.specs.Contained.{Has, HasCells}
use Rattle.netlist_model.specs.LawsContained.{ContainedParts}
use Rattle.netlist_model.specs.Nested.{renamed_net, renamed_feed}
use Rattle.gate_parts.specs.Parts.{part_cells}
use Rattle.plan_fitting.specs.netlist_link.Linked.{LinkedView}
use Rattle.surrounded_core.specs.boundary_cells.Cells.{stage_table, cell_given, choice_cell}
use Rattle.surrounded_core.specs.boundary_cells.declared.tables.TheConstants.{UPDATES}
use Rattle.surrounded_core.specs.Rows.{BoundaryRow, row_cells}
use Rattle.wrapped_chip.specs.Cells.{net_of_bit, net_of_row, row_of}
use Rattle.wrapped_chip.specs.Suits.{IsRead, inactive_level, Suits}
use Rattle.surrounded_core.specs.Sites.{IsSeenOn, IsDataNet, IsPlain, IsControlled, IsDrivenBy}
use Rattle.plan_texts.specs.declared.plan.Plan.{Plan}
use Rattle.plan_fitting.specs.declared.fitted.FitRow.{FitRow}
use Rattle.plan_fitting.specs.Pins.{PinSeen}
use Rattle.plan_fitting.specs.Rows.{rows}
use Rattle.plan_fitting.specs.Devices.{fitted_of, dev_bit, disable_by, cell_row, device_of}
use Rattle.plan_fitting.specs.FittingPlan.{IsFitting}
use Rattle.plan_fitting.proofs.SuitsIs.{plain_level}
use Rattle.stitched_netlist.specs.declared.model.Site.{Site}
use Rattle.stitched_netlist.specs.declared.model.Site.TheVariants as site
use Rattle.stitched_netlist.specs.Sites.{Boundary, pin_net, row_net, site_of, side_at}
use Rattle.stitched_netlist.specs.Sides.{core_side, is_moved, is_driven, level_net, driver_feeds, feeds_behind, core_cell, core_feed}
use Rattle.stitched_netlist.specs.ModelRows.{net_at, added_driver}
use Rattle.stitched_netlist.specs.Stitched.{boundary_at}
use Rattle.stitched_netlist.specs.PlacesLaws.{scan_of, row_first, row_side, row_number, row_next, handed_at, boundary_row, drivers_at}
use Rattle.stitched_netlist.specs.Places.{HoldsPartsBy, IsInside}
use Rattle.stitched_netlist.specs.InsidePlaces.{places_in}
use Rattle.stitched_netlist.proofs.InsideCases.{AtBit, DrivenAs, Names, RowCase, observed_case, input_case, plain_case, added_case, driver_case, inout_case, control_case, cases_of}
use Rattle.stitched_netlist.proofs.InsideMoves.{moved_to, stays_at, feeds_at}
use Rattle.stitched_netlist.proofs.Nests.{inner_given, given_by_pin}
use Rattle.stitched_netlist.proofs.Cores.{FitLaws, control_is, level_given}
use Rattle.stitched_netlist.proofs.Around.{gates_are, net_at_is, disable_is}

-- the netlist into which the test logic is built, with what is known of it
pub record Stitch (L : LinkedView) (p : Plan) (seen : List PinSeen) (M : NetlistView) : Type 0 where
  pub fits : IsFitting L p seen
  pub formed : IsWellFormed M
  pub inside : IsInside M L.arena.lists (fitted_of L p seen)
  pub shown : NetId
  pub parts : HoldsPartsBy M L.arena.lists (fitted_of L p seen) shown
  pub suits : Suits (device_of L p seen) L.arena.lists
  pub contained : ContainedParts

-- the cell that a netlist has drives its net
has_drives : (M : NetlistView) (cell : CellView) (h : Has M cell) (net : NetId) → cell.output ≡ Some net → Drives M h.number (record cell { name = h.name }) net.0
has_drives M cell h net out = record { live = h.live; output = out }

-- An output that is always driven: the last gate of its row drives it.

-- the row's multiplexer is there
plain_gate : {L : LinkedView} {p : Plan} {seen : List PinSeen} {M : NetlistView} → Stitch L p seen M → (k : ℕ) (row : FitRow) → slice_get (rows p seen) k ≡ Some row
    → site_of L.arena.lists.ports row ≡ site.Output
    → Has M
    (choice_cell (row_first L.arena.lists (fitted_of L p seen) k)
    (cell_given (scan_of L.arena.lists (fitted_of L p seen)) (row_next L.arena.lists (fitted_of L p seen) k) (Net (record { 0 = row_side L.arena.lists (fitted_of L p seen) k }))
    (scan_of L.arena.lists (fitted_of L p seen)).m_out)
    (row_number L.arena.lists (fitted_of L p seen) k + length (stage_table row.cell)) (net_at (boundary_at L.arena.lists (fitted_of L p seen)) row) UPDATES)
plain_gate {L} {p} {seen} {M} known k row there s =
    let N = L.arena.lists in
    let f = fitted_of L p seen in
    let B : Boundary = boundary_at N f in
    let has : HasCells M (row_cells (handed_at B (row_side N f k) row site.Output) (row_first N f k) (row_number N f k) (scan_of N f) (row_next N f k))
    = subst (λ (at : Site). HasCells M (row_cells (handed_at B (row_side N f k) row at) (row_first N f k) (row_number N f k) (scan_of N f) (row_next N f k))) s
    (known.parts.rows k row there).gates in
    let given : List Feed = cell_given (scan_of N f) (row_next N f k) (Net (record { 0 = row_side N f k })) (scan_of N f).m_out in
    (((known.contained M (part_cells (stage_table row.cell) given (row_first N f k) (row_number N f k))
    (choice_cell (row_first N f k) given (row_number N f k + length (stage_table row.cell)) (net_at B row) UPDATES ∷ [])).parts has).1).0

is_plain : FitLaws → {L : LinkedView} {p : Plan} {seen : List PinSeen} {M : NetlistView} → Stitch L p seen M → (k : ℕ) (row : FitRow) (net : NetId)
    → slice_get (rows p seen) k ≡ Some row → AtBit L p seen row net dir.Output → row.control ≡ None → site_of L.arena.lists.ports row ≡ site.Output
    → IsPlain M (places_in M L.arena.lists (fitted_of L p seen)) net.0 k (cell_row (fitted_of L p seen) row)
is_plain by {L} {p} {seen} {M} known k row net there at none s =
    let N = L.arena.lists in
    let f = fitted_of L p seen in
    let B : Boundary = boundary_at N f in
    let gate = plain_gate known k row there s in
    let on : net_at B row ≡ net = net_at_is B row net at.here in
    let drives = has_drives M _ gate net (ap (λ (n : NetId). Some n) on) in
    record {
      data_net = subst (λ (b : BoundaryRow). IsDataNet b net) (sym (gates_are L p seen M k row site.Output there s)) on;
      cell = _;
      driver = by.found M known.formed.one_driver gate.number _ net.0 drives;
      plain = refl;
      alone = ap (option_map (disable_by (rows p seen))) none;
    }

-- A controlled output or inout.

-- what is the same for each: the control cell, its level, and the core's control
controlled_by : FitLaws → {L : LinkedView} {p : Plan} {seen : List PinSeen} {M : NetlistView} → Stitch L p seen M → (k : ℕ) (row : FitRow) (net : NetId) (side : Dir) (three : Bool)
    → slice_get (rows p seen) k ≡ Some row → AtBit L p seen row net side → (n : Names (rows p seen) row) → DrivenAs L.arena.lists net three → (data_in : NetId) (cell : CellView)
    → IsDataNet ((places_in M L.arena.lists (fitted_of L p seen)).gates k) data_in → driver_of M.cells net.0 ≡ Some cell
    → is_three_state cell.kind ≡ true → cell.feeds ≡ Net data_in ∷ Net (level_net (boundary_at L.arena.lists (fitted_of L p seen)) row) ∷ []
    → (disable_by (rows p seen) n.number).value ≡ inactive_level cell.kind
    → IsControlled M L.arena.lists (device_of L p seen) (places_in M L.arena.lists (fitted_of L p seen)) net.0 k
    (cell_row (fitted_of L p seen) row)
controlled_by by {L} {p} {seen} {M} known k row net side three there at n driven data_in cell data_net driver is feeds polarity =
    let N = L.arena.lists in
    let f = fitted_of L p seen in
    let B : Boundary = boundary_at N f in
    let level : NetId = record { 0 = row_side N f n.number } in
    let level_is : level_net B row ≡ level = ap (λ (o : Option ℕ). let id : NetId = record { 0 = option_map_or (side_at B) o B.first } in id) n.named in
    let as_control = control_is L p seen n.control (cases_of by.has by.found by.there L p seen known.fits n.number n.control n.there) n.does in
    record {
      data_in = data_in;
      level = level;
      data_net = data_net;
      cell = cell;
      driver = driver;
      three_state = is;
      feeds = feeds ∙ ap (λ (l : NetId). Net data_in ∷ Net l ∷ []) level_is;
      disable = disable_by (rows p seen) n.number;
      named = ap (option_map (disable_by (rows p seen))) n.named;
      polarity = polarity;
      control = cell_row f n.control;
      there = slice_get-map (cell_row f) (rows p seen) n.number ∙ ap (option_map (cell_row f)) n.there;
      kind = n.control.cell;
      core = core_feed B n.control;
      active_high = n.control.active_high;
      gates = gates_are L p seen M n.number n.control site.Control n.there as_control.stands;
      agrees = disable_is (rows p seen) row n;
      core_is = level_given by L p seen M known.fits k row net side three n.number n.control as_control.core there at driven n.named n.there as_control.core_is;
    }

-- the disable value is the level at which the core's driver is off
polarity_of : {L : LinkedView} {p : Plan} {seen : List PinSeen} {M : NetlistView} → FitLaws → Stitch L p seen M → (k : ℕ) (row : FitRow) (net : NetId) (side : Dir) (three : Bool)
    → slice_get (rows p seen) k ≡ Some row → AtBit L p seen row net side → IsRead L.arena.lists net.0 → (n : Names (rows p seen) row) → (d : DrivenAs L.arena.lists net three)
    → (disable_by (rows p seen) n.number).value ≡ inactive_level d.cell.kind
polarity_of {L} {p} {seen} {M} by known k row net side three there at read n d =
    let is = by.stand L p seen known.fits k row at.bit there at.pin in
    let same : is.net ≡ net = some_same is.net net (bit_net L.arena.lists at.bit.port.0 at.bit.bit) is.at
    (sym (ap (option_and_then (pin_net L.arena.lists.ports)) at.pin) ∙ at.here) in
    let found = subst (λ (x : NetId). row_of (device_of L p seen) L.arena.lists x.0 ≡ Some (record { number = k; row = cell_row (fitted_of L p seen) row })) same is.found in
    (known.suits.drivers d.number net.0 d.cell (record { number = k; row = cell_row (fitted_of L p seen) row }) d.drives read found).polarity (disable_by (rows p seen) n.number)
    (ap (option_map (disable_by (rows p seen))) n.named)

-- an output for which a driver was added
is_added : FitLaws → {L : LinkedView} {p : Plan} {seen : List PinSeen} {M : NetlistView} → Stitch L p seen M → (k : ℕ) (row : FitRow) (net : NetId)
    → slice_get (rows p seen) k ≡ Some row → AtBit L p seen row net dir.Output → Names (rows p seen) row → DrivenAs L.arena.lists net false → site_of L.arena.lists.ports row ≡ site.AddedDriver
    → IsControlled M L.arena.lists (device_of L p seen) (places_in M L.arena.lists (fitted_of L p seen)) net.0 k
    (cell_row (fitted_of L p seen) row)
is_added by {L} {p} {seen} {M} known k row net there at n driven s =
    let N = L.arena.lists in
    let f = fitted_of L p seen in
    let B : Boundary = boundary_at N f in
    let value : NetId = record { 0 = row_side N f k + 1 } in
    let number : ℕ = row_number N f k + length (row_cells (boundary_row B (row_side N f k) row) (row_first N f k) (row_number N f k) (scan_of N f) (row_next N f k)) in
    let has : HasCells M (added_driver number value (level_net B row) (net_at B row) ∷ [])
    = subst (λ (at : Site). HasCells M (drivers_at B number (row_side N f k) row at)) s (known.parts.rows k row there).driver in
    let on : net_at B row ≡ net = net_at_is B row net at.here in
    let drives = has_drives M (added_driver number value (level_net B row) (net_at B row)) has.0 net (ap (λ (x : NetId). Some x) on) in
    controlled_by by known k row net dir.Output false there at n driven value (record (added_driver number value (level_net B row) (net_at B row)) { name = has.0.name })
    (subst (λ (b : BoundaryRow). IsDataNet b value) (sym (gates_are L p seen M k row site.AddedDriver there s)) refl)
    (by.found M known.formed.one_driver has.0.number _ net.0 drives) refl refl
    (polarity_of by known k row net dir.Output false there at (inl at.side) n driven ∙ plain_level driven.cell.kind driven.kind)

-- a driver of the core behind its cells
is_driver : FitLaws → {L : LinkedView} {p : Plan} {seen : List PinSeen} {M : NetlistView} → Stitch L p seen M → (k : ℕ) (row : FitRow) (net : NetId) (side : Dir)
    → slice_get (rows p seen) k ≡ Some row → AtBit L p seen row net side → IsRead L.arena.lists net.0 → Names (rows p seen) row → DrivenAs L.arena.lists net true
    → is_moved (site_of L.arena.lists.ports row) ≡ false → is_driven (site_of L.arena.lists.ports row) ≡ true
    → IsDataNet ((places_in M L.arena.lists (fitted_of L p seen)).gates k) (record { 0 = row_side L.arena.lists (fitted_of L p seen) k })
    → IsControlled M L.arena.lists (device_of L p seen) (places_in M L.arena.lists (fitted_of L p seen)) net.0 k
    (cell_row (fitted_of L p seen) row)
is_driver by {L} {p} {seen} {M} known k row net side there at read n d stays driven data_net =
    let N = L.arena.lists in
    let f = fitted_of L p seen in
    let B : Boundary = boundary_at N f in
    let same : core_side B net.0 ≡ net.0 = known.inside.stays net.0 (λ j other e. stays_at by.stand L p seen known.fits k row net there at.here stays j other e) in
    let output : (core_cell B d.cell).output ≡ Some net
    = ap (option_map (renamed_net (core_side B))) d.drives.output ∙ ap (λ (x : ℕ). Some (let id : NetId = record { 0 = x } in id)) same in
    let feeds : (core_cell B d.cell).feeds ≡ driver_feeds B (side_at B k) row
    = ap (λ (o : Option NetId). unwrap_or (option_and_then (feeds_behind B) o) (map (renamed_feed (core_side B)) d.cell.feeds)) d.drives.output
    ∙ ap (λ (o : Option (List Feed)). unwrap_or o (map (renamed_feed (core_side B)) d.cell.feeds)) (feeds_at by.stand L p seen known.fits k row net there at.here driven) in
    controlled_by by known k row net side true there at n d (record { 0 = row_side N f k }) (core_cell B d.cell) data_net
    (by.found M known.formed.one_driver d.number (core_cell B d.cell) net.0 (record { live = known.inside.stands d.number d.cell d.drives.live; output = output })) d.kind feeds
    (polarity_of by known k row net side true there at read n d)

-- Each output and inout bit.

other_side : (N : NetlistView) (net : ℕ) → direction N.ports net ≡ Some dir.Input → IsRead N net → ⊥
other_side N net e (inl f) = let bad : Some dir.Input ≡ Some dir.Output = sym e ∙ f in cc
other_side N net e (inr f) = let bad : Some dir.Input ≡ Some dir.Inout = sym e ∙ f in cc

driven_case : FitLaws → {L : LinkedView} {p : Plan} {seen : List PinSeen} {M : NetlistView} → Stitch L p seen M → (k : ℕ) (row : FitRow) (net : NetId)
    → slice_get (rows p seen) k ≡ Some row → RowCase L p seen row → net_of_row L.arena.lists (cell_row (fitted_of L p seen) row) ≡ Some net → IsRead L.arena.lists net.0
    → IsDrivenBy M L.arena.lists (device_of L p seen) (places_in M L.arena.lists (fitted_of L p seen)) net.0 k
    (cell_row (fitted_of L p seen) row)
driven_case by {L} {p} {seen} {M} known k row net there (observed_case n at does cell none s) here read =
    let same : n ≡ net = some_same n net (net_of_row L.arena.lists (cell_row (fitted_of L p seen) row)) at.at here in
    absurd (other_side L.arena.lists net.0 (ap (λ (x : NetId). direction L.arena.lists.ports x.0) (sym same) ∙ at.side) read)
driven_case by {L} {p} {seen} {M} known k row net there (input_case n at does cell none s) here read =
    let same : n ≡ net = some_same n net (net_of_row L.arena.lists (cell_row (fitted_of L p seen) row)) at.at here in
    absurd (other_side L.arena.lists net.0 (ap (λ (x : NetId). direction L.arena.lists.ports x.0) (sym same) ∙ at.side) read)
driven_case by {L} {p} {seen} {M} known k row net there (plain_case n at does cell core none d s) here read =
    let same : n ≡ net = some_same n net (net_of_row L.arena.lists (cell_row (fitted_of L p seen) row)) at.at here in
    inl (is_plain by known k row net there (subst (λ (x : NetId). AtBit L p seen row x dir.Output) same at) none s)
driven_case by {L} {p} {seen} {M} known k row net there (added_case n at does cell core names_one d s) here read =
    let same : n ≡ net = some_same n net (net_of_row L.arena.lists (cell_row (fitted_of L p seen) row)) at.at here in
    inr (is_added by known k row net there (subst (λ (x : NetId). AtBit L p seen row x dir.Output) same at) names_one (subst (λ (x : NetId). DrivenAs L.arena.lists x false) same d) s)
driven_case by {L} {p} {seen} {M} known k row net there (driver_case n core at does cell core_is names_one d s) here read =
    let same : n ≡ net = some_same n net (net_of_row L.arena.lists (cell_row (fitted_of L p seen) row)) at.at here in
    let side : NetId = record { 0 = row_side L.arena.lists (fitted_of L p seen) k } in
    inr (is_driver by known k row net dir.Output there (subst (λ (x : NetId). AtBit L p seen row x dir.Output) same at) read names_one
    (subst (λ (x : NetId). DrivenAs L.arena.lists x true) same d) (ap is_moved s) (ap is_driven s)
    (subst (λ (b : BoundaryRow). IsDataNet b side) (sym (gates_are L p seen M k row site.Driver there s)) refl))
driven_case by {L} {p} {seen} {M} known k row net there (inout_case n core at does cell core_is names_one d s) here read =
    let same : n ≡ net = some_same n net (net_of_row L.arena.lists (cell_row (fitted_of L p seen) row)) at.at here in
    let side : NetId = record { 0 = row_side L.arena.lists (fitted_of L p seen) k } in
    inr (is_driver by known k row net dir.Inout there (subst (λ (x : NetId). AtBit L p seen row x dir.Inout) same at) read names_one
    (subst (λ (x : NetId). DrivenAs L.arena.lists x true) same d) (ap is_moved s) (ap is_driven s)
    (subst (λ (b : BoundaryRow). IsDataNet b side) (sym (gates_are L p seen M k row site.Inout there s)) refl))
driven_case by {L} {p} {seen} {M} known k row net there (control_case core pin does cell core_is none s) here read =
    let no_net : net_of_row L.arena.lists (cell_row (fitted_of L p seen) row) ≡ None = ap (λ (o : Option PinBit). option_and_then (net_of_bit L.arena.lists) (option_map (dev_bit (fitted_of L p seen)) o)) pin in
    absurd (let bad : None ≡ Some net = sym no_net ∙ here in cc)

pub driven_bits : FitLaws → {L : LinkedView} {p : Plan} {seen : List PinSeen} {M : NetlistView} → Stitch L p seen M → (k : ℕ) (row : FitRow) (net : NetId)
    → slice_get (rows p seen) k ≡ Some row → net_of_row L.arena.lists (cell_row (fitted_of L p seen) row) ≡ Some net → IsRead L.arena.lists net.0
    → IsDrivenBy M L.arena.lists (device_of L p seen) (places_in M L.arena.lists (fitted_of L p seen)) net.0 k
    (cell_row (fitted_of L p seen) row)
driven_bits by {L} {p} {seen} {M} known k row net there here read =
    driven_case by known k row net there (cases_of by.has by.found by.there L p seen known.fits k row there) here read

-- Each input and inout bit.

seen_case : FitLaws → {L : LinkedView} {p : Plan} {seen : List PinSeen} {M : NetlistView} → Stitch L p seen M → (k : ℕ) (row : FitRow) (net : NetId)
    → slice_get (rows p seen) k ≡ Some row → RowCase L p seen row → net_of_row L.arena.lists (cell_row (fitted_of L p seen) row) ≡ Some net
    → IsSeenOn ((places_in M L.arena.lists (fitted_of L p seen)).gates k) net.0 (core_side (boundary_at L.arena.lists (fitted_of L p seen)) net.0)
seen_case by {L} {p} {seen} {M} known k row net there (observed_case n at does cell none s) here =
    let same : n ≡ net = some_same n net (net_of_row L.arena.lists (cell_row (fitted_of L p seen) row)) at.at here in
    let row_here : row_net L.arena.lists.ports row ≡ Some net = at.here ∙ ap (λ (x : NetId). Some x) same in
    let side : ℕ = core_side (boundary_at L.arena.lists (fitted_of L p seen)) net.0 in
    subst (λ (b : BoundaryRow). IsSeenOn b net.0 side) (sym (gates_are L p seen M k row site.Observed there s))
    (known.inside.stays net.0 (λ j other e. stays_at by.stand L p seen known.fits k row net there row_here (ap is_moved s) j other e))
seen_case by {L} {p} {seen} {M} known k row net there (input_case n at does cell none s) here =
    let same : n ≡ net = some_same n net (net_of_row L.arena.lists (cell_row (fitted_of L p seen) row)) at.at here in
    let row_here : row_net L.arena.lists.ports row ≡ Some net = at.here ∙ ap (λ (x : NetId). Some x) same in
    let side : ℕ = core_side (boundary_at L.arena.lists (fitted_of L p seen)) net.0 in
    subst (λ (b : BoundaryRow). IsSeenOn b net.0 side) (sym (gates_are L p seen M k row site.Input there s))
    (moved_to by.stand L p seen known.fits k row net there row_here (ap is_moved s))
seen_case by {L} {p} {seen} {M} known k row net there (plain_case n at does cell core none d s) here =
    let side : ℕ = core_side (boundary_at L.arena.lists (fitted_of L p seen)) net.0 in
    subst (λ (b : BoundaryRow). IsSeenOn b net.0 side) (sym (gates_are L p seen M k row site.Output there s)) tt
seen_case by {L} {p} {seen} {M} known k row net there (added_case n at does cell core names_one d s) here =
    let side : ℕ = core_side (boundary_at L.arena.lists (fitted_of L p seen)) net.0 in
    subst (λ (b : BoundaryRow). IsSeenOn b net.0 side) (sym (gates_are L p seen M k row site.AddedDriver there s)) tt
seen_case by {L} {p} {seen} {M} known k row net there (driver_case n core at does cell core_is names_one d s) here =
    let side : ℕ = core_side (boundary_at L.arena.lists (fitted_of L p seen)) net.0 in
    subst (λ (b : BoundaryRow). IsSeenOn b net.0 side) (sym (gates_are L p seen M k row site.Driver there s)) tt
seen_case by {L} {p} {seen} {M} known k row net there (inout_case n core at does cell core_is names_one d s) here =
    let same : n ≡ net = some_same n net (net_of_row L.arena.lists (cell_row (fitted_of L p seen) row)) at.at here in
    let row_here : row_net L.arena.lists.ports row ≡ Some net = at.here ∙ ap (λ (x : NetId). Some x) same in
    let side : ℕ = core_side (boundary_at L.arena.lists (fitted_of L p seen)) net.0 in
    subst (λ (b : BoundaryRow). IsSeenOn b net.0 side) (sym (gates_are L p seen M k row site.Inout there s))
    (known.inside.stays net.0 (λ j other e. stays_at by.stand L p seen known.fits k row net there row_here (ap is_moved s) j other e))
seen_case by {L} {p} {seen} {M} known k row net there (control_case core pin does cell core_is none s) here =
    let side : ℕ = core_side (boundary_at L.arena.lists (fitted_of L p seen)) net.0 in
    subst (λ (b : BoundaryRow). IsSeenOn b net.0 side) (sym (gates_are L p seen M k row site.Control there s)) tt

pub seen_bits : FitLaws → {L : LinkedView} {p : Plan} {seen : List PinSeen} {M : NetlistView} → Stitch L p seen M → (k : ℕ) (row : FitRow) (net : NetId)
    → slice_get (rows p seen) k ≡ Some row → net_of_row L.arena.lists (cell_row (fitted_of L p seen) row) ≡ Some net → follows_pin (direction L.arena.lists.ports net.0) ≡ true
    → IsSeenOn ((places_in M L.arena.lists (fitted_of L p seen)).gates k) net.0 ((places_in M L.arena.lists (fitted_of L p seen)).to net.0)
seen_bits by {L} {p} {seen} {M} known k row net there here g =
    let N = L.arena.lists in
    let f = fitted_of L p seen in
    subst (IsSeenOn ((places_in M N f).gates k) net.0) (sym (inner_given N M (boundary_at N f) net.0 (given_by_pin N net.0 g)))
    (seen_case by known k row net there (cases_of by.has by.found by.there L p seen known.fits k row there) here)
