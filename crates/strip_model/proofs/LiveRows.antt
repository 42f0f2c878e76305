-- The operands of the core's drivers, by their rows.
use Rattle.std.proofs.Common.{◌≡◌, ℕ, true, false, refl, sym, ◌∙◌, ap, Option, Some, slice_get, arith}
use Rattle.list_laws.proofs.Tests.{both_true}
use Rattle.netlist_model.specs.declared.NetId.{NetId}
use Rattle.netlist_model.specs.declared.Feed.{Feed}
use Rattle.netlist_model.specs.declared.Feed.TheVariants.{Net, Const}
use Rattle.netlist_model.specs.Lists.{CellView, NetlistView, cell_at, Drives}
use Rattle.netlist_model.specs.Formed.{IsWellFormed}
use Rattle.netlist_model.specs.Settled.{is_output}
use Rattle.plan_fitting.specs.declared.fitted.FitRow.{FitRow}
use Rattle.plan_fitting.specs.declared.fitted.Fitted.{Fitted}
use Rattle.plan_fitting.specs.Devices.{fitted_of}
use Rattle.stitched_netlist.specs.declared.model.Site.{Site}
use Rattle.stitched_netlist.specs.declared.model.Site.TheVariants as site
use Rattle.stitched_netlist.specs.Sites.{row_net, site_of}
use Rattle.stitched_netlist.specs.Sides.{is_driven, drives}
use Rattle.stitched_netlist.specs.Stitched.{boundary_at}
use Rattle.stitched_netlist.proofs.ModelMoves.{output_is}
use Rattle.stitched_netlist.specs.RowsLaws.{HasGate, HasControl, StandsAt, at_observed, at_input, at_output, at_added, at_driver, at_inout, at_control, RowsStandSomewhere}
use Rattle.strip_model.specs.Pairs.{IsFeedUnder, IsDriverOf}
use Rattle.strip_model.specs.Ready.{FittedCanBeUndone}

some_cell : (a b : CellView) → ◌≡◌ {A = Option CellView} (Some a) (Some b) → a ≡ b
some_cell a b e = cc

some_net : (a b : NetId) → ◌≡◌ {A = Option NetId} (Some a) (Some b) → a ≡ b
some_net a b e = cc

-- the gate at a row is the cell that drives its net
pub gate_of_row : (N : NetlistView) (f : Fitted) → IsWellFormed N → (row : FitRow) (i : ℕ) (cell : CellView) (net other : NetId) (operand : Feed) → cell_at N i ≡ Some cell → cell.output ≡ Some net
    → row_net N.ports row ≡ Some other → other ≡ net → HasGate N other.0 row.core operand → HasControl N f row operand → IsDriverOf (boundary_at N f) row cell
gate_of_row N f formed row i cell net other operand at out has same gate control =
    let own : Drives N i cell other.0 = record { live = at; output = out ∙ ap (λ (n : NetId). Some n) (sym same) } in
    let number = formed.one_driver gate.number i gate.cell cell other.0 gate.drives own in
    let is : gate.cell ≡ cell = some_cell gate.cell cell (sym gate.drives.live ∙ ap (cell_at N) number ∙ at) in
    record {
      datum = gate.datum;
      operand = operand;
      feeds = ap (λ (c : CellView). c.feeds) (sym is) ∙ gate.feeds;
      core = gate.core_is;
      number = control.number;
      control = control.control;
      names = control.names;
      there = control.there;
      is = control.site;
      takes = control.core;
    }

not_driven : (at : Site) (e : is_driven at ≡ true) (was : Site) → at ≡ was → is_driven was ≡ true
not_driven at e was same = ap is_driven (sym same) ∙ e

driver_of_row : (N : NetlistView) (f : Fitted) → IsWellFormed N → (row : FitRow) (i : ℕ) (cell : CellView) (net : NetId) → cell_at N i ≡ Some cell → cell.output ≡ Some net
    → drives N.ports net.0 row ≡ true → StandsAt N f row → IsDriverOf (boundary_at N f) row cell
driver_of_row N f formed row i cell net at out does stands = by stands
  where
    both : (is_driven (site_of N.ports row) ≡ true) × (is_output (row_net N.ports row) net.0 ≡ true)
    both = both_true (is_driven (site_of N.ports row)) (is_output (row_net N.ports row) net.0) does

    no_site : (was : Site) → site_of N.ports row ≡ was → is_driven was ≡ false → ⊥
    no_site was is never = let yes = ap is_driven (sym is) ∙ both.0 in let bad : true ≡ false = sym yes ∙ never in cc

    here : (other : NetId) → row_net N.ports row ≡ Some other → other ≡ net
    here other has = some_net other net (sym has ∙ output_is (row_net N.ports row) net.0 both.1)

    by : StandsAt N f row → IsDriverOf (boundary_at N f) row cell
    by (at_observed other has dir is) = absurd (no_site site.Observed is refl)
    by (at_input other has dir is) = absurd (no_site site.Input is refl)
    by (at_output other has dir is core two) = absurd (no_site site.Output is refl)
    by (at_added other has dir is core two control) = absurd (no_site site.AddedDriver is refl)
    by (at_driver other has dir is operand gate control) = gate_of_row N f formed row i cell net other operand at out has (here other has) gate control
    by (at_inout other has dir is operand gate control) = gate_of_row N f formed row i cell net other operand at out has (here other has) gate control
    by (at_control none is operand core reads) = absurd (no_site site.Control is refl)

pub can_be_undone : RowsStandSomewhere → FittedCanBeUndone
can_be_undone stand L p seen fits laid i cell at = record {
  feeds = feed;
  output = λ net out. let low = laid.outputs i cell net.0 (record { live = at; output = out }) in omega (arith, low);
  driver = λ k row net there out does. driver_of_row N f fits.formed row i cell net at out does (stand L p seen fits k row there);
}
  where
    N : NetlistView
    N = L.arena.lists

    f : Fitted
    f = fitted_of L p seen

    feed : (place : ℕ) (one : Feed) → slice_get cell.feeds place ≡ Some one → IsFeedUnder (boundary_at N f).first one
    feed place (Net net) there = let low = laid.operands i cell place net.0 (record { live = at; operand = there }) in omega (arith, low)
    feed place (Const value) there = tt
