-- Three-state drivers, and the directions of what is driven.
use Rattle.std.proofs.Common.{◌≡◌, ◌⊎◌, inl, inr, ℕ, ◌+◌, ◌<◌, ◌≤◌, true, false, Bool, length, refl, sym, ap, subst, ◌∙◌, arith, Option, Some, None}
use Rattle.std.specs.Prelude.{slice_get}
use Rattle.cell_library.specs.Gates.{is_three_state}
use Rattle.netlist_model.specs.declared.Dir.{Dir}
use Rattle.netlist_model.specs.declared.Dir.TheVariants.{Input, Output, Inout}
use Rattle.netlist_model.specs.declared.NetId.{NetId}
use Rattle.netlist_model.specs.Lists.{CellView, NetlistView, cell_at, direction, Drives}
use Rattle.netlist_model.specs.Ports.{DirectionHasBit}
use Rattle.plan_fitting.specs.declared.fitted.FitRow.{FitRow}
use Rattle.plan_fitting.specs.declared.fitted.Fitted.{Fitted}
use Rattle.stitched_netlist.specs.declared.model.TapNames.{TapNames}
use Rattle.stitched_netlist.specs.declared.model.Site.TheVariants as site
use Rattle.stitched_netlist.specs.Sites.{row_net, site_of, sides_of}
use Rattle.stitched_netlist.specs.Sides.{is_moved, core_side, core_cell}
use Rattle.stitched_netlist.specs.ModelRows.{net_at}
use Rattle.stitched_netlist.specs.Stitched.{boundary_at, first_net, stitched}
use Rattle.stitched_netlist.specs.PlacesLaws.{port_of}
use Rattle.stitched_netlist.specs.RowsLaws.{StandsAt, at_observed, at_input, at_output, at_added, at_driver, at_inout, at_control}
use Rattle.stitched_netlist.specs.Directions.{KeepsDirections}
use Rattle.stitched_netlist.proofs.Directions.{directions}
use Rattle.stitched_netlist.proofs.FormedContext.{FitsWell, net_number, side_of}
use Rattle.stitched_netlist.proofs.Ranges.{side_range, row_range}
use Rattle.stitched_netlist.proofs.Outputs.{output_is, renamed}
use Rattle.stitched_netlist.proofs.FormedPlaces.{net_at_is, PinDriver, own_pin, cell_pin, added_pin, DriverOf, of_pin, of_tdo_pin, of_side, of_logic, of_row_net, of_tdo_net}
use Rattle.stitched_netlist.proofs.LogicReads.{CellKind, a_core, a_gate, an_added, a_tdo}
use Rattle.stitched_netlist.proofs.Laid.{driver_in, kind_in}

abbrev pub dirs : DirectionHasBit → (N : NetlistView) (names : TapNames) (f : Fitted) → FitsWell N f → KeepsDirections N (stitched N names f)
dirs law N names f well = directions law N names f well.laid

-- a driven net: one of the core, TDO, or one that is added
pub data DrivenNet (N : NetlistView) (f : Fitted) (i net : ℕ) (cell : CellView) : Type 0 where
  a_pin : net < length N.nets → PinDriver N f i net cell → DrivenNet N f i net cell
  a_tdo_pin : net ≡ length N.nets + 3 → DrivenNet N f i net cell
  a_new : length N.nets + 5 ≤ net → DrivenNet N f i net cell

pub driven_net : (N : NetlistView) (f : Fitted) (i net : ℕ) (cell : CellView) → DriverOf N f i net cell → DrivenNet N f i net cell
driven_net N f i net cell (of_pin low d) = a_pin low d
driven_net N f i net cell (of_tdo_pin is e) = a_tdo_pin e
driven_net N f i net cell (of_side k row e there low is d) = let r = side_range N f k row e there low in let from = r.low in a_new (omega arith)
driven_net N f i net cell (of_logic j low is e) = let end : first_net N f ≡ length N.nets + 5 + sides_of N.ports f.rows = refl in a_new (omega arith)
driven_net N f i net cell (of_row_net k row j there low is e) =
    let r = row_range N f k row j there low in
    let from = r.low in
    let end : first_net N f ≡ length N.nets + 5 + sides_of N.ports f.rows = refl in
    a_new (omega arith)
driven_net N f i net cell (of_tdo_net j low is e) = let end : first_net N f ≡ length N.nets + 5 + sides_of N.ports f.rows = refl in a_new (omega arith)

pub none_is : (dir : Dir) (o : Option Dir) → o ≡ None → o ≡ Some dir → ⊥
none_is dir o e f = let no_dir : None ≡ Some dir = sym e ∙ f in cc

-- a net of the core that is driven, or TDO
pin_dir : (law : DirectionHasBit) (N : NetlistView) (names : TapNames) (f : Fitted) (well : FitsWell N f) (net : ℕ) (dir : Dir) → net < length N.nets → direction (stitched N names f).ports net ≡ Some dir
    → direction N.ports net ≡ Some dir
pin_dir law N names f well net dir low e = sym ((dirs law N names f well).core net low) ∙ e

pin_no_input : (N : NetlistView) (f : Fitted) → FitsWell N f → (i net : ℕ) (cell : CellView) → PinDriver N f i net cell → direction N.ports net ≡ Some Input → ⊥
pin_no_input N f well i net cell (own_pin old d is s) e = well.formed.inputs_free i old net d e
pin_no_input N f well i net cell (cell_pin k row there on out here at) e = let both_dirs : Some Output ≡ Some Input = sym out ∙ e in cc
pin_no_input N f well i net cell (added_pin k row there on out here at) e = let both_dirs : Some Output ≡ Some Input = sym out ∙ e in cc

inputs_by : (law : DirectionHasBit) (N : NetlistView) (names : TapNames) (f : Fitted) (well : FitsWell N f) (i net : ℕ) (cell : CellView) → DrivenNet N f i net cell
    → direction (stitched N names f).ports net ≡ Some Input → ⊥
inputs_by law N names f well i net cell (a_pin low d) e = pin_no_input N f well i net cell d (pin_dir law N names f well net Input low e)
inputs_by law N names f well i net cell (a_tdo_pin is) e =
    let out : direction (stitched N names f).ports net ≡ Some Output = ap (direction (stitched N names f).ports) is ∙ (dirs law N names f well).tdo in
    let both_dirs : Some Output ≡ Some Input = sym out ∙ e in cc
inputs_by law N names f well i net cell (a_new low) e = none_is Input (direction (stitched N names f).ports net) ((dirs law N names f well).others net low) e

pub inputs_free : (law : DirectionHasBit) (N : NetlistView) (names : TapNames) (f : Fitted) → FitsWell N f → (i : ℕ) (cell : CellView) (net : ℕ) → Drives (stitched N names f) i cell net
    → direction (stitched N names f).ports net ≡ Some Input → ⊥
inputs_free law N names f well i cell net d e = inputs_by law N names f well i net cell (driven_net N f i net cell (driver_in N names f well i cell net d)) e

-- The driver of an inout.

inout_by : (law : DirectionHasBit) (N : NetlistView) (names : TapNames) (f : Fitted) (well : FitsWell N f) (i net : ℕ) (cell : CellView) → PinDriver N f i net cell → direction N.ports net ≡ Some Inout
    → is_three_state cell.kind ≡ true
inout_by law N names f well i net cell (own_pin old d is s) e = ap (λ (c : CellView). is_three_state c.kind) (sym is) ∙ well.formed.inout_bufif i old net d e
inout_by law N names f well i net cell (cell_pin k row there on out here at) e = absurd (let both_dirs : Some Output ≡ Some Inout = sym out ∙ e in cc)
inout_by law N names f well i net cell (added_pin k row there on out here at) e = absurd (let both_dirs : Some Output ≡ Some Inout = sym out ∙ e in cc)

inout_net : (law : DirectionHasBit) (N : NetlistView) (names : TapNames) (f : Fitted) (well : FitsWell N f) (i net : ℕ) (cell : CellView) → DrivenNet N f i net cell
    → direction (stitched N names f).ports net ≡ Some Inout → is_three_state cell.kind ≡ true
inout_net law N names f well i net cell (a_pin low d) e = inout_by law N names f well i net cell d (pin_dir law N names f well net Inout low e)
inout_net law N names f well i net cell (a_tdo_pin is) e =
    absurd (
    let out : direction (stitched N names f).ports net ≡ Some Output = ap (direction (stitched N names f).ports) is ∙ (dirs law N names f well).tdo in
    let both_dirs : Some Output ≡ Some Inout = sym out ∙ e in cc)
inout_net law N names f well i net cell (a_new low) e = absurd (none_is Inout (direction (stitched N names f).ports net) ((dirs law N names f well).others net low) e)

pub inout_bufif : (law : DirectionHasBit) (N : NetlistView) (names : TapNames) (f : Fitted) → FitsWell N f → (i : ℕ) (cell : CellView) (net : ℕ) → Drives (stitched N names f) i cell net
    → direction (stitched N names f).ports net ≡ Some Inout → is_three_state cell.kind ≡ true
inout_bufif law N names f well i cell net d e = inout_net law N names f well i net cell (driven_net N f i net cell (driver_in N names f well i cell net d)) e

-- Where three-state gates stand.

-- own: on an output or inout of the core that stays on its net, on an output that is moved behind its boundary cell, or at TDO
pub data BufifOn (N : NetlistView) (f : Fitted) (net : ℕ) : Type 0 where
  on_core : (i : ℕ) (old : CellView) → Drives N i old net → is_three_state old.kind ≡ true → BufifOn N f net
  on_moved : (k : ℕ) (row : FitRow) → slice_get f.rows k ≡ Some row → row_net N.ports row ≡ Some (record { 0 = net }) → is_moved (site_of N.ports row) ≡ true
      → direction N.ports net ≡ Some Output → BufifOn N f net
  on_tdo : net ≡ length N.nets + 3 → BufifOn N f net

pub bool_both : (b : Bool) → b ≡ true → b ≡ false → ⊥
bool_both true e f = cc
bool_both false e f = cc

-- the core's cell that drives a moved pin always does
moved_two : (N : NetlistView) (f : Fitted) → FitsWell N f → (i before : ℕ) (old : CellView) (row : FitRow) → Drives N i old before → row_net N.ports row ≡ Some (record { 0 = before })
    → is_moved (site_of N.ports row) ≡ true → is_three_state old.kind ≡ true → StandsAt N f row → ⊥
moved_two N f well i before old row d on moved three (at_observed pin at side here) = bool_both (is_moved (site_of N.ports row)) moved (ap is_moved here)
moved_two N f well i before old row d on moved three (at_input pin at side here) =
    let same : pin.0 ≡ before = net_number pin (record { 0 = before }) (row_net N.ports row) at on in
    well.formed.inputs_free i old before d (subst (λ (n : ℕ). direction N.ports n ≡ Some Input) same side)
moved_two N f well i before old row d on moved three (at_output pin at side here core two) =
    let same : before ≡ pin.0 = sym (net_number pin (record { 0 = before }) (row_net N.ports row) at on) in
    bool_both (is_three_state old.kind) three (two i old (subst (λ (n : ℕ). Drives N i old n) same d))
moved_two N f well i before old row d on moved three (at_added pin at side here core two control) =
    let same : before ≡ pin.0 = sym (net_number pin (record { 0 = before }) (row_net N.ports row) at on) in
    bool_both (is_three_state old.kind) three (two i old (subst (λ (n : ℕ). Drives N i old n) same d))
moved_two N f well i before old row d on moved three (at_driver pin at side here operand gate control) = bool_both (is_moved (site_of N.ports row)) moved (ap is_moved here)
moved_two N f well i before old row d on moved three (at_inout pin at side here operand gate control) = bool_both (is_moved (site_of N.ports row)) moved (ap is_moved here)
moved_two N f well i before old row d on moved three (at_control none here operand core read) = bool_both (is_moved (site_of N.ports row)) moved (ap is_moved here)

core_bufif : (N : NetlistView) (f : Fitted) → FitsWell N f → (i net : ℕ) (cell old : CellView) → cell_at N i ≡ Some old → core_cell (boundary_at N f) old ≡ cell
    → cell.output ≡ Some (record { 0 = net }) → is_three_state cell.kind ≡ true → BufifOn N f net
core_bufif N f well i net cell old live is output three =
    let from = renamed (core_side (boundary_at N f)) old.output net (ap (λ (c : CellView). c.output) is ∙ output) in
    let old_three : is_three_state old.kind ≡ true = ap (λ (c : CellView). is_three_state c.kind) is ∙ three in
    let d : Drives N i old from.0 = record { live = live; output = from.1 } in
    elim (side_of N f from.0) [
      | inl s ↦ (let same : from.0 ≡ net = sym (from.2 ∙ s.is) in on_core i old (subst (λ (n : ℕ). Drives N i old n) same d) old_three)
      | inr g ↦ absurd (moved_two N f well i from.0 old g.row d g.on g.moved old_three (well.stand g.k g.row g.there))
    ]

added_bufif : (N : NetlistView) (f : Fitted) → FitsWell N f → (k : ℕ) (row : FitRow) (net : ℕ) → slice_get f.rows k ≡ Some row → site_of N.ports row ≡ site.AddedDriver
    → net ≡ (net_at (boundary_at N f) row).0 → StandsAt N f row → BufifOn N f net
added_bufif N f well k row net there is e (at_observed pin at side here) = absurd (let no_site : site.Observed ≡ site.AddedDriver = sym here ∙ is in cc)
added_bufif N f well k row net there is e (at_input pin at side here) = absurd (let no_site : site.Input ≡ site.AddedDriver = sym here ∙ is in cc)
added_bufif N f well k row net there is e (at_output pin at side here core two) = absurd (let no_site : site.Output ≡ site.AddedDriver = sym here ∙ is in cc)
added_bufif N f well k row net there is e (at_added pin at side here core two control) =
    let same : pin.0 ≡ net = sym (e ∙ ap (λ (n : NetId). n.0) (net_at_is N f row pin at)) in
    let wrap : ℕ → Option NetId = λ n. Some (record { 0 = n }) in
    on_moved k row there (at ∙ ap wrap same) (ap is_moved here) (subst (λ (n : ℕ). direction N.ports n ≡ Some Output) same side)
added_bufif N f well k row net there is e (at_driver pin at side here operand gate control) = absurd (let no_site : site.Driver ≡ site.AddedDriver = sym here ∙ is in cc)
added_bufif N f well k row net there is e (at_inout pin at side here operand gate control) = absurd (let no_site : site.Inout ≡ site.AddedDriver = sym here ∙ is in cc)
added_bufif N f well k row net there is e (at_control none here operand core read) = absurd (let no_site : site.Control ≡ site.AddedDriver = sym here ∙ is in cc)

bufif_by : (N : NetlistView) (f : Fitted) → FitsWell N f → (i net : ℕ) (cell : CellView) → CellKind N f i cell → cell.output ≡ Some (record { 0 = net }) → is_three_state cell.kind ≡ true
    → BufifOn N f net
bufif_by N f well i net cell (a_core old live is) output three = core_bufif N f well i net cell old live is output three
bufif_by N f well i net cell (a_gate gate) output three = absurd (bool_both (is_three_state cell.kind) three gate.two_state)
bufif_by N f well i net cell (an_added k row there a) output three =
    added_bufif N f well k row net there a.here (output_is cell net (net_at (boundary_at N f) row) (sym (ap (λ (c : CellView). c.output) a.is)) output) (well.stand k row there)
bufif_by N f well i net cell (a_tdo is) output three = on_tdo (output_is cell net (port_of N).tdo (sym (ap (λ (c : CellView). c.output) is)) output)

pub bufif_on : (N : NetlistView) (names : TapNames) (f : Fitted) → FitsWell N f → (i : ℕ) (cell : CellView) (net : ℕ) → Drives (stitched N names f) i cell net
    → is_three_state cell.kind ≡ true → BufifOn N f net
bufif_on N names f well i cell net d three = bufif_by N f well i net cell (kind_in N names f well i cell d.live) d.output three

outside_by : (law : DirectionHasBit) (N : NetlistView) (names : TapNames) (f : Fitted) (well : FitsWell N f) (net : ℕ) → BufifOn N f net
    → (direction (stitched N names f).ports net ≡ Some Output) ⊎ (direction (stitched N names f).ports net ≡ Some Inout)
outside_by law N names f well net (on_core i old d three) =
    let same = (dirs law N names f well).core net (well.laid.outputs i old net d) in
    elim (well.formed.bufif_outside i old net d three) [ inl out ↦ inl (same ∙ out) | inr two ↦ inr (same ∙ two) ]
outside_by law N names f well net (on_moved k row there on moved out) = inl ((dirs law N names f well).core net (well.inside net Output out) ∙ out)
outside_by law N names f well net (on_tdo is) = inl (ap (direction (stitched N names f).ports) is ∙ (dirs law N names f well).tdo)

pub bufif_outside : (law : DirectionHasBit) (N : NetlistView) (names : TapNames) (f : Fitted) → FitsWell N f → (i : ℕ) (cell : CellView) (net : ℕ) → Drives (stitched N names f) i cell net
    → is_three_state cell.kind ≡ true → (direction (stitched N names f).ports net ≡ Some Output) ⊎ (direction (stitched N names f).ports net ≡ Some Inout)
bufif_outside law N names f well i cell net d three = outside_by law N names f well net (bufif_on N names f well i cell net d three)
