-- The rows in their order: before the first, from one to the next, and after the last.
use Rattle.std.proofs.Common.{◌≡◌, ℕ, ◌+◌, ◌^◌, ◌<◌, ◌≤◌, List, [], ◌∷◌, ◌++◌, length, take, refl, sym, ◌∙◌, ap, Option, Some, slice_get, arith}
use Rattle.std.proofs.lemmas.List.{take_more, take_all}
use Rattle.std.proofs.lemmas.List.Sums.{sum_by-take-le}
use Rattle.std.proofs.lemmas.Option.{slice_get_within, get_or_from_slice_get}
use Rattle.netlist_model.specs.declared.NetId.{NetId}
use Rattle.netlist_model.specs.Lists.{CellView, NetlistView}
use Rattle.stitched_netlist.specs.plan_fitting.declared.fitted.FitRow.{FitRow}
use Rattle.stitched_netlist.specs.Sites.{row_net, site_of, row_sides, sides_of}
use Rattle.stitched_netlist.specs.Sides.{level_net}
use Rattle.stitched_netlist.proofs.ModelMoves.{sides_few}
use Rattle.core_sides.specs.Pins.{between}
use Rattle.core_sides.specs.Ready.{CanStandBehind, with_core_behind}
use Rattle.core_sides.specs.Steps.{stood_by, CanStandBy}
use Rattle.core_sides.proofs.MovesCells.{cell_alone, mapped_alone}
use Rattle.core_sides.proofs.Behind.{cell_behind, behind_rows, next_side, row_more}
use Rattle.core_sides.proofs.Next.{next, driven_next, row_ready}
use Rattle.core_sides.proofs.MovesSides.{sides_more}

pub begins : (N : NetlistView) (rows : List FitRow) (first : NetId) → N ≡ behind_rows (between N.ports rows first) [] N
begins N rows first =
    let all = mapped_alone (cell_behind (between N.ports rows first) []) N.cells cell_alone in
    ap (λ (cs : List (Option CellView)). record N { cells = cs }) (sym all)

taken_on : (rows : List FitRow) (k : ℕ) (row : FitRow) → slice_get rows k ≡ Some row → take (k + 1) rows ≡ take k rows ++ row ∷ []
taken_on rows k row there =
    let within = slice_get_within rows k row there in
    let here = get_or_from_slice_get rows k row row there in rw (take_more rows k row within, here) refl

pub goes_on : (N : NetlistView) (rows : List FitRow) (first : NetId) → CanStandBehind N rows first.0 → (k : ℕ) (row : FitRow) → slice_get rows k ≡ Some row
    → stood_by (row_net N.ports row) (site_of N.ports row) (next_side (between N.ports rows first) (take k rows)) (level_net (between N.ports rows first) row) (behind_rows (between N.ports rows first) (take k rows) N)
    ≡ behind_rows (between N.ports rows first) (take (k + 1) rows) N
goes_on N rows first ready k row there =
    let more = row_more (between N.ports rows first) N (take k rows) row (row_net N.ports row) refl
    (λ net has. (next N rows first ready k row net there has, driven_next N rows first ready k row there net has)) in
    sym more ∙ ap (λ (done : List FitRow). behind_rows (between N.ports rows first) done N) (sym (taken_on rows k row there))

pub sides_on : (N : NetlistView) (rows : List FitRow) (k : ℕ) (row : FitRow) → slice_get rows k ≡ Some row
    → sides_of N.ports (take (k + 1) rows) ≡ sides_of N.ports (take k rows) + row_sides N.ports row
sides_on N rows k row there =
    ap (sides_of N.ports) (taken_on rows k row there) ∙ sides_more N.ports (take k rows) row

pub ends : (N : NetlistView) (rows : List FitRow) (first : NetId) (k : ℕ) → length rows ≤ k → behind_rows (between N.ports rows first) (take k rows) N ≡ with_core_behind (between N.ports rows first) N
ends N rows first k all = rw (take_all k rows all) refl

-- In the loop.

pub stands_here : (N : NetlistView) (rows : List FitRow) (first : NetId) → CanStandBehind N rows first.0 → (k : ℕ) (row : FitRow) → slice_get rows k ≡ Some row → (lists : NetlistView) (side : ℕ)
    → lists ≡ behind_rows (between N.ports rows first) (take k rows) N → side ≡ first.0 + sides_of N.ports (take k rows)
    → CanStandBy lists (row_net lists.ports row) (site_of lists.ports row) (record { 0 = side }) (level_net (between lists.ports rows first) row)
stands_here N rows first ready k row there lists side is at = rw (is, at) (row_ready N rows first ready k row there)

pub stood_here : (N : NetlistView) (rows : List FitRow) (first : NetId) → CanStandBehind N rows first.0 → (k : ℕ) (row : FitRow) → slice_get rows k ≡ Some row → (lists new : NetlistView) (side : ℕ)
    → lists ≡ behind_rows (between N.ports rows first) (take k rows) N → side ≡ first.0 + sides_of N.ports (take k rows)
    → new ≡ stood_by (row_net lists.ports row) (site_of lists.ports row) (record { 0 = side }) (level_net (between lists.ports rows first) row) lists
    → new ≡ behind_rows (between N.ports rows first) (take (k + 1) rows) N
stood_here N rows first ready k row there lists new side is at stood = (rw (is, at) at stood) ∙ goes_on N rows first ready k row there

pub side_here : (N : NetlistView) (rows : List FitRow) (first : NetId) (k : ℕ) (row : FitRow) → slice_get rows k ≡ Some row → (lists : NetlistView) (side count : ℕ)
    → lists ≡ behind_rows (between N.ports rows first) (take k rows) N → side ≡ first.0 + sides_of N.ports (take k rows) → count ≡ row_sides lists.ports row
    → side + count ≡ first.0 + sides_of N.ports (take (k + 1) rows)
side_here N rows first k row there lists side count is at counts =
    let more = sides_on N rows k row there in
    let some : count ≡ row_sides N.ports row = rw is at counts in omega (arith, more, some, at)

pub side_fits : (N : NetlistView) (rows : List FitRow) (first : NetId) → CanStandBehind N rows first.0 → (k side : ℕ) → side ≡ first.0 + sides_of N.ports (take k rows) → side < 2 ^ 32
side_fits N rows first ready k side at =
    let front = sum_by-take-le (row_sides N.ports) rows k in
    let few = sides_few N.ports rows in
    let fits = ready.fits in omega (arith, front, few, fits, at)
