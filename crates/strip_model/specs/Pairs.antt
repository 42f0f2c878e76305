-- The nets between the core and its boundary cells by their numbers, each with what the core had in its place, and the
-- core undone by them.
-- IEEE Std 1149.1-2001: boundary-scan register; the numbers are own.
use Rattle.std.specs.Prelude.{◌≡◌, ℕ, ◌+◌, ◌==◌, ◌<◌, true, List, [], ◌∷◌, ◌++◌, map, slice_get, Option, Some, None, unwrap_or, if◌then◌else◌, ⊤}
use Rattle.std.specs.Option.{option_map}
use Rattle.netlist_model.specs.declared.NetId.{NetId}
use Rattle.netlist_model.specs.declared.Feed.{Feed}
use Rattle.netlist_model.specs.declared.Feed.TheVariants.{Net, Const}
use Rattle.netlist_model.specs.Lists.{CellView}
use Rattle.plan_fitting.specs.declared.fitted.FitRow.{FitRow}
use Rattle.stitched_netlist.specs.declared.model.Site.{Site}
use Rattle.stitched_netlist.specs.declared.model.Site.TheVariants as site
use Rattle.stitched_netlist.specs.Sites.{Boundary, site_of, row_sides}
use Rattle.stitched_netlist.specs.Sides.{core_feed, core_cell, drives}
use Rattle.stitched_netlist.specs.ModelRows.{net_at}

-- own: a net, and what the core had in its place
pub record Pair : Type 0 where
  pub net : ℕ
  pub core : Feed

abbrev pub pair : ℕ → Feed → List Pair
pair net core = record { net = net; core = core } ∷ []

-- own: that of a row, whose net between is this one
abbrev pub pair_at : Boundary → ℕ → FitRow → Site → List Pair
pair_at B side row site.Observed = []
pair_at B side row site.Input = pair side (Net (net_at B row))
pair_at B side row site.Output = pair side (Net (net_at B row))
pair_at B side row site.AddedDriver = pair side (Net (net_at B row))
pair_at B side row site.Driver = pair side (core_feed B row)
pair_at B side row site.Inout = pair side (core_feed B row)
pair_at B side row site.Control = pair side (core_feed B row)

-- own: those of these rows, whose nets between begin at `side`
abbrev pub pairs_from : Boundary → ℕ → List FitRow → List Pair
pairs_from B side [] = []
pairs_from B side (row ∷ rows) = pair_at B side row (site_of B.ports row) ++ pairs_from B (side + row_sides B.ports row) rows

abbrev pub pairs_of : Boundary → List Pair
pairs_of B = pairs_from B B.first B.rows

abbrev pub find_pair : ℕ → List Pair → Option Feed
find_pair net [] = None
find_pair net (one ∷ pairs) = if net == one.net then Some one.core else find_pair net pairs

-- own: what the core had in the place of an operand, once and twice
abbrev pub once : List Pair → Feed → Feed
once pairs (Net net) = unwrap_or (find_pair net.0 pairs) (Net net)
once pairs (Const value) = Const value

abbrev pub twice : List Pair → Feed → Feed
twice pairs feed = once pairs (once pairs feed)

-- own: by the nets between, the one cell is the other again
pub record IsUndone (pairs : List Pair) (moved cell : CellView) : Type 0 where
  pub kind : moved.kind ≡ cell.kind
  pub name : moved.name ≡ cell.name
  pub feeds : map (twice pairs) moved.feeds ≡ cell.feeds
  pub output : option_map (λ (net : NetId). twice pairs (Net net)) moved.output ≡ option_map (λ (net : NetId). Net net) cell.output

-- What is needed of the cell.

abbrev pub IsFeedUnder : ℕ → Feed → Type 0
IsFeedUnder first (Net net) = net.0 < first
IsFeedUnder first (Const value) = ⊤

-- own: where the row is of the driver that the cell is, these are the cell's operands: what the core gives the row, and
-- what it gives the control cell that the row names
pub record IsDriverOf (B : Boundary) (row : FitRow) (cell : CellView) : Type 0 where
  pub datum : Feed
  pub operand : Feed
  pub feeds : cell.feeds ≡ datum ∷ operand ∷ []
  pub core : row.core ≡ Some datum
  pub number : ℕ
  pub control : FitRow
  pub names : row.control ≡ Some number
  pub there : slice_get B.rows number ≡ Some control
  pub is : site_of B.ports control ≡ site.Control
  pub takes : control.core ≡ Some operand

-- own: the cell's nets stand before those between, and each row of its driver has its operands
pub record CanBeUndone (B : Boundary) (cell : CellView) : Type 0 where
  pub feeds : (place : ℕ) (feed : Feed) → slice_get cell.feeds place ≡ Some feed → IsFeedUnder B.first feed
  pub output : (net : NetId) → cell.output ≡ Some net → net.0 < B.first
  pub driver : (k : ℕ) (row : FitRow) (net : NetId) → slice_get B.rows k ≡ Some row → cell.output ≡ Some net → drives B.ports net.0 row ≡ true → IsDriverOf B row cell

-- The law.

-- own: behind its boundary cells each cell of the core can be undone
abbrev pub CoreIsUndone : Type 0
CoreIsUndone = (B : Boundary) (cell : CellView) → CanBeUndone B cell → IsUndone (pairs_of B) (core_cell B cell) cell
