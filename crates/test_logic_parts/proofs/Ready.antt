-- What a row reads stays there as nets are added, and what its cell gives a value.
use Rattle.std.proofs.Common.{◌≡◌, ◌≢◌, ℕ, ◌+◌, ◌≤◌, List, [], ◌∷◌, sym, subst, arith}
use Rattle.boundary_cells.proofs.AddedTables.{feed_more}
use Rattle.plan_fitting.specs.declared.fitted.FitRow.{FitRow}
use Rattle.core_sides.specs.stitched_netlist.declared.model.Site.{Site}
use Rattle.core_sides.specs.stitched_netlist.declared.model.Site.TheVariants as site
use Rattle.core_sides.specs.stitched_netlist.Sites.{Boundary, site_of}
use Rattle.core_sides.specs.stitched_netlist.Sides.{core_feed}
use Rattle.core_sides.specs.stitched_netlist.ModelRows.{enable_of}
use Rattle.test_logic_parts.specs.Rows.{into_at, into_of, IsReady}

pub ready_more : (B : Boundary) (n m : ℕ) (row : FitRow) → n ≤ m → IsReady B n row → IsReady B m row
ready_more B n m row more ready =
    let a = ready.net in
    record {
      net = omega arith;
      core = feed_more n m more (core_feed B row) ready.core;
      enable = feed_more n m more (enable_of B row) ready.enable;
      level = λ at. let b = ready.level at in omega arith;
      control = ready.control;
      inout = ready.inout;
    }

-- What a site's cell gives its value, by the site.

pub at_site : (P : List ℕ → Type 0) (B : Boundary) (side : ℕ) (row : FitRow) (at : Site) → site_of B.ports row ≡ at → P (into_of B side row) → P (into_at B side row at)
at_site P B side row at is h = let Q : Site → Type 0 = λ s. P (into_at B side row s) in subst Q is h

pub of_site : (P : List ℕ → Type 0) (B : Boundary) (side : ℕ) (row : FitRow) (at : Site) → site_of B.ports row ≡ at → P (into_at B side row at) → P (into_of B side row)
of_site P B side row at is h = let Q : Site → Type 0 = λ s. P (into_at B side row s) in subst Q (sym is) h
