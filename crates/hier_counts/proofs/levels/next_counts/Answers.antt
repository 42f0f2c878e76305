use Rattle.std.proofs.Common.{◌≡◌, ◌∙◌, ℕ, ◌+◌, min, Bool, ◌&&◌, List, Some, get_or, sum_by, ap, sym, arith}
use Rattle.std.specs.Prelude.{slice_get}
use Rattle.std.specs.List.{list_all}
use Rattle.std.proofs.lemmas.Option.{slice_get-get_or}
use Rattle.hier_model.specs.Faults.{cell_limit, net_limit}
use Rattle.hier_counts.specs.declared.sizes.Held.{Held}
use Rattle.hier_counts.specs.declared.levels.Counts.{Counts}
use Rattle.hier_counts.specs.Widths.{capped}
use Rattle.hier_counts.specs.Levels.{counts_in}
use Rattle.hier_counts.proofs.Loops.{fits_next, sum_next, capped_twice}
use Rattle.hier_counts.proofs.levels.next_counts.Goals.{then-fits, else-fits}
use Rattle.hier_counts.proofs.levels.next_counts.Goals as goal

abbrev none : Held
none = record { place = 0; joined = 0 }

pub loop-held-preserved : goal.loop-held-preserved
loop-held-preserved c =
    let hs = c.args.size.now.held in
    let below = c.args.below.now in
    let k = c.loop-held.held-index in
    let items = c.as_slice-held-items.result.now in
    let h : Held = get_or items k none in
    let at : slice_get hs k ≡ Some h = ap (λ (l : List Held). slice_get l k) (sym c.as_slice-held-items.ensures) ∙ slice_get-get_or items k none c.loop-held-test.true in
    let fits_of : Held → Bool = λ x. (counts_in below x.place).fits in
    let cells_of : Held → ℕ = λ x. x.joined + (counts_in below x.place).cells in
    let nets_of : Held → ℕ = λ x. (counts_in below x.place).nets in
    let same = c.counts_in-counts.ensures in
    let fits : c.if-fits.fits ≡ (c.loop-held.fits && fits_of h) = elim c.if-fits.branch [
      | then-fits w ↦ w.fits-is ∙ ap (λ (x : Counts). x.fits) same ∙ sym (ap (λ (b : Bool). b && fits_of h) w.if-fits.true)
      | else-fits w ↦ w.fits-is ∙ w.if-fits.false ∙ sym (ap (λ (b : Bool). b && fits_of h) w.if-fits.false)
    ] in
    let cells : c.capped_sum-cells-in-loop-held.result ≡ min (c.loop-held.cells + cells_of h) (cell_limit + 1) =
    c.capped_sum-cells-in-loop-held.ensures
    ∙ ap (λ (n : ℕ). capped cell_limit (c.loop-held.cells + n)) c.capped_sum-joined.ensures
    ∙ capped_twice cell_limit c.loop-held.cells h.joined c.counts_in-counts.result.cells
    ∙ ap (λ (x : Counts). min (c.loop-held.cells + (h.joined + x.cells)) (cell_limit + 1)) same in
    let nets : c.capped_sum-nets-in-loop-held.result ≡ min (c.loop-held.nets + nets_of h) (net_limit + 1) =
    c.capped_sum-nets-in-loop-held.ensures ∙ ap (λ (x : Counts). capped net_limit (c.loop-held.nets + x.nets)) same in record {
      fits = fits_next fits_of hs k h c.loop-held.fits c.if-fits.fits (list_all fits_of hs) at c.loop-held.invariant.fits fits;
      cells = sum_next cell_limit cells_of hs k h c.loop-held.cells c.capped_sum-cells-in-loop-held.result (capped cell_limit (c.args.size.now.items + sum_by cells_of hs)) at c.loop-held.invariant.cells cells;
      cells_low = omega (arith, cells);
      nets = sum_next net_limit nets_of hs k h c.loop-held.nets c.capped_sum-nets-in-loop-held.result (capped net_limit (c.args.size.now.bits + sum_by nets_of hs)) at c.loop-held.invariant.nets nets;
      nets_low = omega (arith, nets);
    }
