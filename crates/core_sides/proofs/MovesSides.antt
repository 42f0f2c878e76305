-- The nets between the core and the cells of some rows, and of one row more.
use Rattle.std.proofs.Common.{◌≡◌, ℕ, ◌+◌, ◌≤◌, inl, inr, true, false, List, [], ◌∷◌, ◌++◌, map, refl, sym, ◌∙◌, ap, Option, Some, None, if◌then◌else◌, arith}
use Rattle.std.specs.Option.{option_or, option_map_or}
use Rattle.std.proofs.lemmas.List.Sums.{sum_by-append}
use Rattle.list_laws.proofs.Tests.{both_true, true_or_false}
use Rattle.netlist_model.specs.declared.NetId.{NetId}
use Rattle.netlist_model.specs.declared.Feed.{Feed}
use Rattle.netlist_model.specs.declared.Feed.TheVariants.{Net}
use Rattle.netlist_model.specs.Lists.{PortView}
use Rattle.netlist_model.specs.Settled.{is_output}
use Rattle.stitched_netlist.specs.plan_fitting.declared.fitted.FitRow.{FitRow}
use Rattle.stitched_netlist.specs.Sites.{Boundary, row_net, site_of, row_sides, sides_of, side_at}
use Rattle.stitched_netlist.specs.Sides.{moves, side_from, is_driven, drives, level_net, driver_feeds, feeds_from}
use Rattle.stitched_netlist.proofs.ModelMoves.{sides_cons, moved_on, fed_here, fed_on}

pub sides_more : (ports : List PortView) (rows : List FitRow) (row : FitRow) → sides_of ports (rows ++ row ∷ []) ≡ sides_of ports rows + row_sides ports row
sides_more ports rows row =
    let joined = sum_by-append (row_sides ports) rows (row ∷ []) in
    let one = sides_cons ports row [] in omega (arith, joined, one)

pub drives_some : (ports : List PortView) (net : ℕ) (row : FitRow) → drives ports net row ≡ true → is_output (row_net ports row) net ≡ true
drives_some ports net row e = (both_true (is_driven (site_of ports row)) (is_output (row_net ports row) net) e).1

-- own: what one row makes of a net, where its net between is this
abbrev pub one_side : List PortView → FitRow → ℕ → ℕ → ℕ
one_side ports row side net = if moves ports net row then side else net

-- with one row more, which moves no net between
pub side_more : (ports : List PortView) (net side : ℕ) (rows : List FitRow) (row : FitRow) → ((other : ℕ) → side ≤ other → moves ports other row ≡ false)
    → side_from ports net side (rows ++ row ∷ []) ≡ one_side ports row (side + sides_of ports rows) (side_from ports net side rows)
side_more ports net side [] row low =
    let same : side + 0 ≡ side = omega arith in rw same refl
side_more ports net side (r ∷ rs) row low = elim (true_or_false (moves ports net r)) [
  | inl e ↦ (let stays = low side (omega arith) in rw (e, stays) refl)
  | inr e ↦
      (let rest = side_more ports net (side + row_sides ports r) rs row (λ other h. low other (omega arith)) in
      let more = sides_cons ports r rs in
      let same : side + row_sides ports r + sides_of ports rs ≡ side + sides_of ports (r ∷ rs) = omega (arith, more) in
      moved_on ports net side r (rs ++ row ∷ []) e
      ∙ rest
      ∙ ap (λ (at : ℕ). one_side ports row at (side_from ports net (side + row_sides ports r) rs)) same
      ∙ ap (one_side ports row (side + sides_of ports (r ∷ rs))) (sym (moved_on ports net side r rs e)))
]

-- own: what one row gives the driver of a net, where its net between is this
abbrev pub one_feeds : Boundary → FitRow → ℕ → ℕ → Option (List Feed)
one_feeds B row side net = if drives B.ports net row then Some (driver_feeds B side row) else None

-- with one row more
pub feeds_more : (B : Boundary) (net side : ℕ) (rows : List FitRow) (row : FitRow)
    → feeds_from B net side (rows ++ row ∷ []) ≡ option_or (feeds_from B net side rows) (one_feeds B row (side + sides_of B.ports rows) net)
feeds_more B net side [] row =
    let same : side + 0 ≡ side = omega arith in rw same refl
feeds_more B net side (r ∷ rs) row = elim (true_or_false (drives B.ports net r)) [
  | inl e ↦ rw e refl
  | inr e ↦
      (let rest = feeds_more B net (side + row_sides B.ports r) rs row in
      let more = sides_cons B.ports r rs in
      let same : side + row_sides B.ports r + sides_of B.ports rs ≡ side + sides_of B.ports (r ∷ rs) = omega (arith, more) in
      fed_on B net side r (rs ++ row ∷ []) e
      ∙ rest
      ∙ ap (λ (at : ℕ). option_or (feeds_from B net (side + row_sides B.ports r) rs) (one_feeds B row at net)) same
      ∙ ap (λ (found : Option (List Feed)). option_or found (one_feeds B row (side + sides_of B.ports (r ∷ rs)) net)) (sym (fed_on B net side r rs e)))
]

level_past : (B : Boundary) (row : FitRow) → B.first ≤ (level_net B row).0
level_past B row = by row.control
  where
    by : (control : Option ℕ) → B.first ≤ option_map_or (side_at B) control B.first
    by None = omega arith
    by (Some number) = omega arith

-- they are nets between
pub feeds_keep : (B : Boundary) (f : Feed → Feed) → ((net : NetId) → B.first ≤ net.0 → f (Net net) ≡ Net net) → (net side : ℕ) (rows : List FitRow) → B.first ≤ side
    → (feeds : List Feed) → feeds_from B net side rows ≡ Some feeds → map f feeds ≡ feeds
feeds_keep B f keeps net side [] low feeds e = absurd (cc)
feeds_keep B f keeps net side (row ∷ rows) low feeds e = elim (true_or_false (drives B.ports net row)) [
  | inl d ↦
      (let some : Some (driver_feeds B side row) ≡ Some feeds = sym (fed_here B net side row rows d) ∙ e in
      let same : driver_feeds B side row ≡ feeds = inside (driver_feeds B side row) feeds some in
      let value = keeps (record { 0 = side }) low in
      let level = keeps (level_net B row) (level_past B row) in
      rw (← same) (rw (value, level) refl))
  | inr d ↦ feeds_keep B f keeps net (side + row_sides B.ports row) rows (omega arith) feeds (sym (fed_on B net side row rows d) ∙ e)
]
  where
    inside : (a b : List Feed) → ◌≡◌ {A = Option (List Feed)} (Some a) (Some b) → a ≡ b
    inside a b h = cc
