-- Drivers by the place of their nets: among the core's, at TDO, between the core and its boundary cells, or in a part of the test logic.
use Rattle.std.proofs.Common.{◌≡◌, inl, inr, ℕ, ◌+◌, ◌<◌, true, length, refl, sym, ap, subst, ◌∙◌, arith, Option, Some}
use Rattle.std.specs.Prelude.{slice_get, unwrap_or, ◌≢◌}
use Rattle.netlist_model.specs.declared.Dir.TheVariants.{Output}
use Rattle.netlist_model.specs.declared.NetId.{NetId}
use Rattle.netlist_model.specs.Lists.{CellView, NetlistView, cell_count, direction, Drives}
use Rattle.plan_fitting.specs.declared.fitted.FitRow.{FitRow}
use Rattle.plan_fitting.specs.declared.fitted.Fitted.{Fitted}
use Rattle.stitched_netlist.specs.declared.model.Site.{Site}
use Rattle.stitched_netlist.specs.declared.model.Site.TheVariants as site
use Rattle.stitched_netlist.specs.Sites.{row_net, site_of, side_count, row_sides}
use Rattle.stitched_netlist.specs.Sides.{is_moved, core_side, core_cell}
use Rattle.stitched_netlist.specs.ModelRows.{row_nets, net_at}
use Rattle.stitched_netlist.specs.ModelLogic.{logic_size}
use Rattle.stitched_netlist.specs.Stitched.{boundary_at, first_net}
use Rattle.stitched_netlist.proofs.ModelMoves.{moved_counts}
use Rattle.stitched_netlist.specs.PlacesLaws.{tdo_number, row_first, row_side, row_number}
use Rattle.stitched_netlist.specs.RowsLaws.{StandsAt, at_observed, at_input, at_output, at_added, at_driver, at_inout, at_control}
use Rattle.stitched_netlist.specs.CellsLaws.{driver_number}
use Rattle.stitched_netlist.specs.Sizes.{choice_count, driver_count}
use Rattle.stitched_netlist.specs.CellsLogic.{into_at}
use Rattle.stitched_netlist.proofs.FormedContext.{FitsWell, Stays, side_of}
use Rattle.stitched_netlist.proofs.Ranges.{tdo_net}
use Rattle.stitched_netlist.proofs.Outputs.{OutputOf, core_out, logic_out, row_out, into_out, driver_out, tdo_out, tdo_pin}

-- own: what drives a net of the core: its own cell, the cell of an output, or the driver that is added to one
pub data PinDriver (N : NetlistView) (f : Fitted) (i net : ℕ) (cell : CellView) : Type 0 where
  own_pin : (old : CellView) → Drives N i old net → core_cell (boundary_at N f) old ≡ cell → Stays N f net → PinDriver N f i net cell
  cell_pin : (k : ℕ) (row : FitRow) → slice_get f.rows k ≡ Some row → row_net N.ports row ≡ Some (record { 0 = net }) → direction N.ports net ≡ Some Output
      → site_of N.ports row ≡ site.Output → i ≡ row_number N f k + row_nets N.ports row → PinDriver N f i net cell
  added_pin : (k : ℕ) (row : FitRow) → slice_get f.rows k ≡ Some row → row_net N.ports row ≡ Some (record { 0 = net }) → direction N.ports net ≡ Some Output
      → site_of N.ports row ≡ site.AddedDriver → i ≡ driver_number N f k row → PinDriver N f i net cell

-- own: the net of row k, of those between the core and it, to which its boundary cell gives its value
abbrev pub given_side : Site → ℕ
given_side site.AddedDriver = 1
given_side _ = 0

-- own: what drives a net between the core and row k: the cell of the core that drove its pin, or the boundary cell
pub data SideDriver (N : NetlistView) (f : Fitted) (i k : ℕ) (row : FitRow) (e : ℕ) (cell : CellView) : Type 0 where
  core_side_of : (old : CellView) (before : ℕ) → Drives N i old before → core_cell (boundary_at N f) old ≡ cell → row_net N.ports row ≡ Some (record { 0 = before })
      → is_moved (site_of N.ports row) ≡ true → e ≡ 0 → SideDriver N f i k row e cell
  cell_side_of : site_of N.ports row ≢ site.Output → e ≡ given_side (site_of N.ports row) → i ≡ row_number N f k + row_nets N.ports row → SideDriver N f i k row e cell

pub data DriverOf (N : NetlistView) (f : Fitted) (i net : ℕ) (cell : CellView) : Type 0 where
  of_pin : net < length N.nets → PinDriver N f i net cell → DriverOf N f i net cell
  of_tdo_pin : i ≡ tdo_number N f + 6 → net ≡ length N.nets + 3 → DriverOf N f i net cell
  of_side : (k : ℕ) (row : FitRow) (e : ℕ) → slice_get f.rows k ≡ Some row → e < row_sides N.ports row → net ≡ row_side N f k + e → SideDriver N f i k row e cell → DriverOf N f i net cell
  of_logic : (j : ℕ) → j < logic_size f → i ≡ cell_count N + j → net ≡ first_net N f + j → DriverOf N f i net cell
  of_row_net : (k : ℕ) (row : FitRow) (j : ℕ) → slice_get f.rows k ≡ Some row → j < row_nets N.ports row → i ≡ row_number N f k + j → net ≡ row_first N f k + j → DriverOf N f i net cell
  of_tdo_net : (j : ℕ) → j < 6 → i ≡ tdo_number N f + j → net ≡ tdo_net N f + j → DriverOf N f i net cell

-- By the sites of rows.

pub net_at_is : (N : NetlistView) (f : Fitted) (row : FitRow) (net : NetId) → row_net N.ports row ≡ Some net → net_at (boundary_at N f) row ≡ net
net_at_is N f row net e = ap (λ (o : Option NetId). unwrap_or o (record { 0 = 0 })) e

by_core : (N : NetlistView) (f : Fitted) → FitsWell N f → (i net : ℕ) (cell old : CellView) (before : ℕ) → Drives N i old before → core_cell (boundary_at N f) old ≡ cell
    → net ≡ core_side (boundary_at N f) before → DriverOf N f i net cell
by_core N f well i net cell old before drives is e = elim (side_of N f before) [
  | inl s ↦ (let same : before ≡ net = sym (e ∙ s.is) in
      let low : before < length N.nets = well.laid.outputs i old before drives in
      of_pin (subst (λ (n : ℕ). n < length N.nets) same low)
      (own_pin old (subst (λ (n : ℕ). Drives N i old n) same drives) is (subst (λ (n : ℕ). Stays N f n) same s)))
  | inr g ↦ of_side g.k g.row 0 g.there (moved_counts (site_of N.ports g.row) g.moved) (e ∙ g.is ∙ no_more (row_side N f g.k))
      (core_side_of old before drives is g.on g.moved refl)
]
  where
    no_more : (n : ℕ) → n ≡ n + 0
    no_more n = omega arith

-- a boundary cell that gives its value to a net between
by_side : (N : NetlistView) (f : Fitted) (i net : ℕ) (cell : CellView) (k : ℕ) (row : FitRow) (at : Site) → slice_get f.rows k ≡ Some row → site_of N.ports row ≡ at
    → at ≢ site.Output → given_side at < side_count at → (into_at (boundary_at N f) (row_side N f k) row at).0 ≡ row_side N f k + given_side at
    → i ≡ row_number N f k + row_nets N.ports row → net ≡ (into_at (boundary_at N f) (row_side N f k) row (site_of N.ports row)).0 → DriverOf N f i net cell
by_side N f i net cell k row at there here apart low into is e =
    of_side k row (given_side at) there (subst (λ (s : Site). given_side at < side_count s) (sym here) low)
    (e ∙ ap (λ (s : Site). (into_at (boundary_at N f) (row_side N f k) row s).0) here ∙ into)
    (cell_side_of (λ out. apart (sym here ∙ out)) (ap given_side (sym here)) is)

first_side : (n : ℕ) → n ≡ n + 0
first_side n = omega arith

by_into : (N : NetlistView) (f : Fitted) → FitsWell N f → (i net : ℕ) (cell : CellView) (k : ℕ) (row : FitRow) → slice_get f.rows k ≡ Some row → choice_count (site_of N.ports row) ≡ 1
    → i ≡ row_number N f k + row_nets N.ports row → net ≡ (into_at (boundary_at N f) (row_side N f k) row (site_of N.ports row)).0 → StandsAt N f row → DriverOf N f i net cell
by_into N f well i net cell k row there one is e (at_observed pin on side here) = absurd (let no : choice_count (site_of N.ports row) ≡ 0 = ap choice_count here in omega arith)
by_into N f well i net cell k row there one is e (at_input pin on side here) =
    by_side N f i net cell k row site.Input there here (λ same. cc) (omega arith) (first_side (row_side N f k)) is e
by_into N f well i net cell k row there one is e (at_output pin on side here core two) =
    let same : pin.0 ≡ net = sym (e ∙ ap (λ (s : Site). (into_at (boundary_at N f) (row_side N f k) row s).0) here ∙ ap (λ (n : NetId). n.0) (net_at_is N f row pin on)) in
    let wrap : ℕ → Option NetId = λ n. Some (record { 0 = n }) in
    let out : direction N.ports net ≡ Some Output = subst (λ (n : ℕ). direction N.ports n ≡ Some Output) same side in
    of_pin (well.inside net Output out) (cell_pin k row there (on ∙ ap wrap same) out here is)
by_into N f well i net cell k row there one is e (at_added pin on side here core two control) =
    by_side N f i net cell k row site.AddedDriver there here (λ same. cc) (omega arith) refl is e
by_into N f well i net cell k row there one is e (at_driver pin on side here operand gate control) =
    by_side N f i net cell k row site.Driver there here (λ same. cc) (omega arith) (first_side (row_side N f k)) is e
by_into N f well i net cell k row there one is e (at_inout pin on side here operand gate control) =
    by_side N f i net cell k row site.Inout there here (λ same. cc) (omega arith) (first_side (row_side N f k)) is e
by_into N f well i net cell k row there one is e (at_control none here operand core read) =
    by_side N f i net cell k row site.Control there here (λ same. cc) (omega arith) (first_side (row_side N f k)) is e

no_driver : (at other : Site) → at ≡ other → driver_count at ≡ 1 → driver_count other ≡ 0 → ⊥
no_driver at other here one none = let no : driver_count at ≡ 0 = ap driver_count here ∙ none in omega arith

by_driver : (N : NetlistView) (f : Fitted) → FitsWell N f → (i net : ℕ) (cell : CellView) (k : ℕ) (row : FitRow) → slice_get f.rows k ≡ Some row → driver_count (site_of N.ports row) ≡ 1
    → i ≡ driver_number N f k row → net ≡ (net_at (boundary_at N f) row).0 → StandsAt N f row → DriverOf N f i net cell
by_driver N f well i net cell k row there one is e (at_observed pin on side here) = absurd (no_driver _ site.Observed here one refl)
by_driver N f well i net cell k row there one is e (at_input pin on side here) = absurd (no_driver _ site.Input here one refl)
by_driver N f well i net cell k row there one is e (at_output pin on side here core two) = absurd (no_driver _ site.Output here one refl)
by_driver N f well i net cell k row there one is e (at_added pin on side here core two control) =
    let same : pin.0 ≡ net = sym (e ∙ ap (λ (n : NetId). n.0) (net_at_is N f row pin on)) in
    let wrap : ℕ → Option NetId = λ n. Some (record { 0 = n }) in
    let out : direction N.ports net ≡ Some Output = subst (λ (n : ℕ). direction N.ports n ≡ Some Output) same side in
    of_pin (well.inside net Output out) (added_pin k row there (on ∙ ap wrap same) out here is)
by_driver N f well i net cell k row there one is e (at_driver pin on side here operand gate control) = absurd (no_driver _ site.Driver here one refl)
by_driver N f well i net cell k row there one is e (at_inout pin on side here operand gate control) = absurd (no_driver _ site.Inout here one refl)
by_driver N f well i net cell k row there one is e (at_control none here operand core read) = absurd (no_driver _ site.Control here one refl)

pub driver_at : (N : NetlistView) (f : Fitted) → FitsWell N f → (i net : ℕ) (cell : CellView) → OutputOf N f i net cell → DriverOf N f i net cell
driver_at N f well i net cell (core_out old before drives is e) = by_core N f well i net cell old before drives is e
driver_at N f well i net cell (logic_out j low is e) = of_logic j low is e
driver_at N f well i net cell (row_out k row j there low is e) = of_row_net k row j there low is e
driver_at N f well i net cell (into_out k row there one is e) = by_into N f well i net cell k row there one is e (well.stand k row there)
driver_at N f well i net cell (driver_out k row there one is e) = by_driver N f well i net cell k row there one is e (well.stand k row there)
driver_at N f well i net cell (tdo_out j low is e) = of_tdo_net j low is e
driver_at N f well i net cell (tdo_pin is e) = of_tdo_pin is e
