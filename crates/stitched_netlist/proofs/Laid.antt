-- Each net that is named is there, and each cell has its kind's count of operands.
use Rattle.std.proofs.Common.{◌≡◌, ℕ, true, false, List, length, refl, sym, ap, subst, ◌∙◌, Some}
use Rattle.std.specs.Prelude.{slice_get}
use Rattle.std.proofs.lemmas.List.{length-map}
use Rattle.list_laws.proofs.Options.{some_same}
use Rattle.cell_library.specs.declared.Kind.{Kind}
use Rattle.cell_library.specs.declared.Kind.TheVariants.{Bufif0, Bufif1}
use Rattle.cell_library.specs.declared.listed.ListedCell.{ListedCell}
use Rattle.cell_library.specs.Gates.{is_three_state, Takes}
use Rattle.netlist_model.specs.declared.NetId.{NetId}
use Rattle.netlist_model.specs.declared.Feed.{Feed}
use Rattle.netlist_model.specs.Lists.{CellView, NetlistView, cell_at, Drives, Reads}
use Rattle.netlist_model.specs.Nested.{renamed_feed}
use Rattle.plan_fitting.specs.declared.fitted.FitRow.{FitRow}
use Rattle.plan_fitting.specs.declared.fitted.Fitted.{Fitted}
use Rattle.stitched_netlist.specs.declared.model.TapNames.{TapNames}
use Rattle.stitched_netlist.specs.declared.model.Site.{Site}
use Rattle.stitched_netlist.specs.declared.model.Site.TheVariants as site
use Rattle.stitched_netlist.specs.Sites.{row_net, site_of}
use Rattle.stitched_netlist.specs.Sides.{is_driven, drives, core_side, core_cell}
use Rattle.stitched_netlist.specs.Stitched.{boundary_at, stitched}
use Rattle.stitched_netlist.specs.RowsLaws.{StandsAt, at_observed, at_input, at_output, at_added, at_driver, at_inout, at_control, HasGate}
use Rattle.stitched_netlist.proofs.CellsLaws.{has_cells}
use Rattle.stitched_netlist.proofs.Tables.{feeds_at}
use Rattle.stitched_netlist.proofs.FormedContext.{FitsWell, net_number}
use Rattle.stitched_netlist.proofs.Outputs.{output_of}
use Rattle.stitched_netlist.proofs.FormedPlaces.{DriverOf, driver_at}
use Rattle.stitched_netlist.proofs.Operands.{OperandOf, CoreFeeds, own_feeds, row_feeds, core_feeds, driver_site, driver_on}
use Rattle.stitched_netlist.proofs.LogicReads.{CellKind, a_core, a_gate, an_added, a_tdo, kind_of, reads_of}

-- What drives and what is read.

pub driver_in : (N : NetlistView) (names : TapNames) (f : Fitted) → FitsWell N f → (i : ℕ) (cell : CellView) (net : ℕ) → Drives (stitched N names f) i cell net → DriverOf N f i net cell
driver_in N names f well i cell net d = driver_at N f well i net cell (output_of N f i cell net (has_cells N names f well.dense i cell d.live) d.output)

pub kind_in : (N : NetlistView) (names : TapNames) (f : Fitted) → FitsWell N f → (i : ℕ) (cell : CellView) → cell_at (stitched N names f) i ≡ Some cell → CellKind N f i cell
kind_in N names f well i cell live = kind_of N f well i cell (has_cells N names f well.dense i cell live)

pub operand_in : (N : NetlistView) (names : TapNames) (f : Fitted) → FitsWell N f → (i : ℕ) (cell : CellView) (place net : ℕ) → Reads (stitched N names f) i cell place net → OperandOf N f net
operand_in N names f well i cell place net r = feeds_at (OperandOf N f) cell.feeds place net (reads_of N f well i cell (kind_in N names f well i cell r.live)) r.operand

-- Nets that are there.

-- Counts of operands.

three_takes : (library : List ListedCell) (kind : Kind) → is_three_state kind ≡ true → Takes library kind 2
three_takes library Bufif0 e = refl
three_takes library Bufif1 e = refl
three_takes library _ e = absurd (cc)

-- the core's driver behind a row is three-state
not_driven : (N : NetlistView) (row : FitRow) (net : ℕ) (at : Site) → site_of N.ports row ≡ at → is_driven at ≡ false → drives N.ports net row ≡ true → ⊥
not_driven N row net at here none driver =
    let yes_driven : is_driven (site_of N.ports row) ≡ true = driver_site N.ports net row driver in
    let not_here : is_driven (site_of N.ports row) ≡ false = ap is_driven here ∙ none in cc

gate_three : (N : NetlistView) (f : Fitted) → FitsWell N f → (i net : ℕ) (cell : CellView) (row : FitRow) (pin : NetId) (operand : Feed) → Drives N i cell net → row_net N.ports row ≡ Some pin
    → drives N.ports net row ≡ true → HasGate N pin.0 row.core operand → is_three_state cell.kind ≡ true
gate_three N f well i net cell row pin operand d on driver gate =
    let same : pin.0 ≡ net = net_number pin (record { 0 = net }) (row_net N.ports row) on (driver_on N.ports net row driver) in
    let there : Drives N gate.number gate.cell net = subst (λ (n : ℕ). Drives N gate.number gate.cell n) same gate.drives in
    let one : gate.number ≡ i = well.formed.one_driver gate.number i gate.cell cell net there d in
    let alike : gate.cell ≡ cell = some_same gate.cell cell (cell_at N i) (ap (cell_at N) (sym one) ∙ gate.drives.live) d.live in
    ap (λ (c : CellView). is_three_state c.kind) (sym alike) ∙ gate.three

driver_three : (N : NetlistView) (f : Fitted) → FitsWell N f → (i net : ℕ) (cell : CellView) (k : ℕ) (row : FitRow) → Drives N i cell net → slice_get f.rows k ≡ Some row → drives N.ports net row ≡ true
    → StandsAt N f row → is_three_state cell.kind ≡ true
driver_three N f well i net cell k row d there driver (at_observed pin on side here) = absurd (not_driven N row net site.Observed here refl driver)
driver_three N f well i net cell k row d there driver (at_input pin on side here) = absurd (not_driven N row net site.Input here refl driver)
driver_three N f well i net cell k row d there driver (at_output pin on side here core two) = absurd (not_driven N row net site.Output here refl driver)
driver_three N f well i net cell k row d there driver (at_added pin on side here core two control) = absurd (not_driven N row net site.AddedDriver here refl driver)
driver_three N f well i net cell k row d there driver (at_driver pin on side here operand gate control) = gate_three N f well i net cell row pin operand d on driver gate
driver_three N f well i net cell k row d there driver (at_inout pin on side here operand gate control) = gate_three N f well i net cell row pin operand d on driver gate
driver_three N f well i net cell k row d there driver (at_control none here operand core read) = absurd (not_driven N row net site.Control here refl driver)

core_takes : (N : NetlistView) (f : Fitted) → FitsWell N f → (i : ℕ) (old : CellView) → cell_at N i ≡ Some old → (feeds : List Feed) → CoreFeeds N f old feeds → Takes N.library old.kind (length feeds)
core_takes N f well i old live feeds (own_feeds is) =
    let many : length feeds ≡ length old.feeds = ap (λ (xs : List Feed). length xs) is ∙ length-map old.feeds (renamed_feed (core_side (boundary_at N f))) in
    subst (λ (n : ℕ). Takes N.library old.kind n) (sym many) (well.formed.counts i old live)
core_takes N f well i old live feeds (row_feeds net k row out there driver is) =
    let many : length feeds ≡ 2 = ap (λ (xs : List Feed). length xs) is in
    let three = driver_three N f well i net old k row (record { live = live; output = out }) there driver (well.stand k row there) in
    subst (λ (n : ℕ). Takes N.library old.kind n) (sym many) (three_takes N.library old.kind three)

by_kind : (N : NetlistView) (f : Fitted) → FitsWell N f → (i : ℕ) (cell : CellView) → CellKind N f i cell → Takes N.library cell.kind (length cell.feeds)
by_kind N f well i cell (a_core old live is) =
    subst (λ (c : CellView). Takes N.library c.kind (length c.feeds)) is (core_takes N f well i old live (core_cell (boundary_at N f) old).feeds (core_feeds N f old))
by_kind N f well i cell (a_gate gate) = gate.takes N.library
by_kind N f well i cell (an_added k row there a) = let two : Takes N.library Bufif1 2 = refl in subst (λ (c : CellView). Takes N.library c.kind (length c.feeds)) a.is two
by_kind N f well i cell (a_tdo is) = let two : Takes N.library Bufif1 2 = refl in subst (λ (c : CellView). Takes N.library c.kind (length c.feeds)) is two

pub takes_in : (N : NetlistView) (names : TapNames) (f : Fitted) → FitsWell N f → (i : ℕ) (cell : CellView) → cell_at (stitched N names f) i ≡ Some cell → Takes N.library cell.kind (length cell.feeds)
takes_in N names f well i cell live = by_kind N f well i cell (kind_in N names f well i cell live)
