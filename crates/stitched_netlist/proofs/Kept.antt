-- The nets that may clock, clear or preset in the netlist with the test logic: TCK, TRST, and the core's behind the boundary cells.
-- No cell of the test logic drives one of these.
use Rattle.std.proofs.Common.{◌≡◌, ℕ, zero, suc, ◌+◌, ◌<◌, ◌≤◌, inl, inr, true, false, List, [], ◌∷◌, take, length, refl, sym, ap, ◌∙◌, subst, Some, arith, slice_get}
use Rattle.std.proofs.lemmas.Bool.{cases_lt}
use Rattle.std.proofs.lemmas.List.Sums.{sum_by-cons}
use Rattle.list_laws.proofs.Tests.{both_true, and_true}
use Rattle.list_laws.proofs.Options.{some_same}
use Rattle.netlist_model.specs.declared.Dir.TheVariants.{Output}
use Rattle.netlist_model.specs.Lists.{PortView, NetlistView, direction}
use Rattle.netlist_model.specs.Settled.{is_output}
use Rattle.netlist_model.specs.Cones.{IsControlNet, IsControlPort}
use Rattle.netlist_model.specs.Formed.{IsLaidOut}
use Rattle.netlist_model.proofs.Controls.{control_read}
use Rattle.plan_fitting.specs.declared.fitted.FitRow.{FitRow}
use Rattle.stitched_netlist.specs.declared.model.Site.{Site}
use Rattle.stitched_netlist.specs.declared.model.Site.TheVariants as site
use Rattle.stitched_netlist.specs.Sites.{Boundary, row_net, site_of, side_count, row_sides, sides_of}
use Rattle.stitched_netlist.specs.Sides.{is_moved, moves, core_side}
use Rattle.stitched_netlist.specs.ModelRows.{net_at}
use Rattle.stitched_netlist.proofs.ModelMoves.{moved_counts, sides_within}
use Rattle.stitched_netlist.proofs.Moved.{net_at_is, sides_next, sides_zero, MovedBy, moved_or_stays}
use Rattle.stitched_netlist.proofs.Placed.{IsPin, Placed}
use Rattle.stitched_netlist.proofs.Steered.{IsFrom}
use Rattle.stitched_netlist.proofs.PartsSteered.{RowDrives, RowsDrive}

-- where so many nets are the core's
pub data IsKept (N : NetlistView) (B : Boundary) (count net : ℕ) : Type 0 where
  kept_tck : net ≡ count → IsKept N B count net
  kept_trst : net ≡ count + 4 → IsKept N B count net
  kept_core : (x : ℕ) → IsControlNet N x → core_side B x ≡ net → IsKept N B count net

abbrev pub IsNotKept : NetlistView → Boundary → ℕ → ℕ → Type 0
IsNotKept N B count net = IsKept N B count net → ⊥

pub control_inside : (N : NetlistView) → IsLaidOut N → (x : ℕ) → IsControlNet N x → x < length N.nets
control_inside N laid x c = let read = control_read N x c in laid.operands read.number read.cell read.place x read.reads

sides_before : (ports : List PortView) (rows : List FitRow) (j k : ℕ) (row : FitRow) → slice_get rows j ≡ Some row → j < k
    → sides_of ports (take j rows) + row_sides ports row ≤ sides_of ports (take k rows)
sides_before ports [] j k row there less = absurd (cc)
sides_before ports (r ∷ rows) zero zero row there less = absurd (omega arith)
sides_before ports (r ∷ rows) zero (suc k) row there less =
    let same : r ≡ row = cc in
    let one : row_sides ports r ≡ row_sides ports row = ap (row_sides ports) same in
    let none : sides_of ports (take 0 (r ∷ rows)) ≡ 0 = refl in
    let more = sum_by-cons (row_sides ports) r (take k rows) in
    omega arith
sides_before ports (r ∷ rows) (suc j) zero row there less = absurd (omega arith)
sides_before ports (r ∷ rows) (suc j) (suc k) row there less =
    let rest = sides_before ports rows j k row there (omega arith) in
    let a = sum_by-cons (row_sides ports) r (take j rows) in
    let b = sum_by-cons (row_sides ports) r (take k rows) in
    omega arith

-- A kept net that is one between the core and a cell is a net of the core that the cell's row moves there.
record IsTaken (N : NetlistView) (B : Boundary) (row : FitRow) (place : ℕ) : Type 0 where
  control : IsControlNet N (net_at B row).0
  moved : is_moved (site_of B.ports row) ≡ true
  first : place ≡ 0

same_row : (N : NetlistView) (B : Boundary) (x k place : ℕ) (row : FitRow) (by : MovedBy B.ports x B.first B.rows) → IsControlNet N x → slice_get B.rows k ≡ Some row → place < row_sides B.ports row
    → sides_of B.ports (take by.k B.rows) ≡ sides_of B.ports (take k B.rows) + place → IsTaken N B row place
same_row N B x k place row by c there less e =
    let both = both_true (is_moved (site_of B.ports by.row)) (is_output (row_net B.ports by.row) x) by.moved in
    let some : 0 < row_sides B.ports by.row = moved_counts (site_of B.ports by.row) both.0 in
    elim (cases_lt by.k k) [
      | inl low ↦ absurd (let before = sides_before B.ports B.rows by.k k by.row by.there low in omega arith)
      | inr more ↦ elim (cases_lt k by.k) [
        | inl low ↦ absurd (let before = sides_before B.ports B.rows k by.k row there low in omega arith)
        | inr other ↦
            (let same : by.k ≡ k = omega arith in
            let one : by.row ≡ row = some_same by.row row (slice_get B.rows k) (ap (slice_get B.rows) (sym same) ∙ by.there) there in
            let sides : sides_of B.ports (take by.k B.rows) ≡ sides_of B.ports (take k B.rows) = ap (λ (n : ℕ). sides_of B.ports (take n B.rows)) same in
            let at : (net_at B row).0 ≡ x = ap (λ (r : FitRow). (net_at B r).0) (sym one) ∙ net_at_is B by.row x both.1 in
            record {
              control = subst (IsControlNet N) (sym at) c;
              moved = ap (λ (r : FitRow). is_moved (site_of B.ports r)) (sym one) ∙ both.0;
              first = omega arith;
            })
      ]
    ]

taken : (N : NetlistView) (B : Boundary) (count : ℕ) → IsLaidOut N → length N.nets ≡ count → B.first ≡ count + 5 → (k place : ℕ) (row : FitRow) → slice_get B.rows k ≡ Some row
    → place < row_sides B.ports row → (net : ℕ) → net ≡ B.first + sides_of B.ports (take k B.rows) + place → IsKept N B count net → IsTaken N B row place
taken N B count laid many begins k place row there less net at (kept_tck e) = absurd (omega arith)
taken N B count laid many begins k place row there less net at (kept_trst e) = absurd (omega arith)
taken N B count laid many begins k place row there less net at (kept_core x c e) =
    let inside = control_inside N laid x c in
    elim (moved_or_stays B.ports x B.first B.rows) [
      | inl stays ↦ absurd (let same = stays.same in omega arith)
      | inr by ↦ (let is = by.is in same_row N B x k place row by c there less (omega arith))
    ]

-- The pin of an output whose row moves it.
pin_apart : (N : NetlistView) (B : Boundary) (count : ℕ) → IsLaidOut N → length N.nets ≡ count → B.first ≡ count + 5 → (k : ℕ) (row : FitRow) → slice_get B.rows k ≡ Some row
    → (net : ℕ) → net < count → moves B.ports net row ≡ true → IsNotKept N B count net
pin_apart N B count laid many begins k row there net inside moved (kept_tck e) = omega arith
pin_apart N B count laid many begins k row there net inside moved (kept_trst e) = omega arith
pin_apart N B count laid many begins k row there net inside moved (kept_core x c e) =
    elim (moved_or_stays B.ports x B.first B.rows) [
      | inl stays ↦ (let same : x ≡ net = sym stays.same ∙ e in let none = stays.none k row there in let is : moves B.ports x row ≡ true = ap (λ (n : ℕ). moves B.ports n row) same ∙ moved in cc)
      | inr by ↦ (let is = by.is in absurd (omega arith))
    ]

-- Nets of the test logic, and TDO.
pub from_apart : (N : NetlistView) (B : Boundary) (count : ℕ) → IsLaidOut N → length N.nets ≡ count → B.first ≡ count + 5 → IsFrom (IsNotKept N B count) (B.first + sides_of B.ports B.rows)
from_apart N B count laid many begins net from (kept_tck e) = omega arith
from_apart N B count laid many begins net from (kept_trst e) = omega arith
from_apart N B count laid many begins net from (kept_core x c e) =
    let inside = control_inside N laid x c in
    elim (moved_or_stays B.ports x B.first B.rows) [
      | inl stays ↦ (let same = stays.same in absurd (omega arith))
      | inr by ↦
          (let both = both_true (is_moved (site_of B.ports by.row)) (is_output (row_net B.ports by.row) x) by.moved in
          let some : 0 < row_sides B.ports by.row = moved_counts (site_of B.ports by.row) both.0 in
          let within = sides_within B.ports B.rows by.k by.row by.there in
          let is = by.is in
          absurd (omega arith))
    ]

pub tdo_apart : (N : NetlistView) (B : Boundary) (count : ℕ) → IsLaidOut N → length N.nets ≡ count → B.first ≡ count + 5 → IsNotKept N B count (count + 3)
tdo_apart N B count laid many begins (kept_tck e) = omega arith
tdo_apart N B count laid many begins (kept_trst e) = omega arith
tdo_apart N B count laid many begins (kept_core x c e) =
    let inside = control_inside N laid x c in
    elim (moved_or_stays B.ports x B.first B.rows) [
      | inl stays ↦ (let same = stays.same in absurd (omega arith))
      | inr by ↦ (let is = by.is in absurd (omega arith))
    ]

-- Rows.

row_moves : (B : Boundary) (count : ℕ) (row : FitRow) (at : Site) → site_of B.ports row ≡ at → is_moved at ≡ true → IsPin B count row Output → moves B.ports (net_at B row).0 row ≡ true
row_moves B count row at is moved pin = and_true (is_moved (site_of B.ports row)) (is_output (row_net B.ports row) (net_at B row).0) (ap is_moved is ∙ moved) pin.own

not_moved : (B : Boundary) (row : FitRow) (at : Site) → site_of B.ports row ≡ at → is_moved at ≡ false → is_moved (site_of B.ports row) ≡ true → ⊥
not_moved B row at is none moved = let no_move : is_moved (site_of B.ports row) ≡ false = ap is_moved is ∙ none in cc

one_side : (B : Boundary) (row : FitRow) (at : Site) → site_of B.ports row ≡ at → side_count at ≡ 1 → 0 < row_sides B.ports row
one_side B row at is one = let e : row_sides B.ports row ≡ 1 = ap side_count is ∙ one in omega arith

pub row_apart : (N : NetlistView) (B : Boundary) (count : ℕ) (alone : ℕ → ℕ) → IsLaidOut N → length N.nets ≡ count → B.first ≡ count + 5 → B.ports ≡ N.ports
    → ((k : ℕ) (row : FitRow) → slice_get B.rows k ≡ Some row → site_of B.ports row ≡ site.Input → IsControlPort N (net_at B row).0 → ⊥)
    → (k : ℕ) (row : FitRow) → slice_get B.rows k ≡ Some row → (at : Site) → site_of B.ports row ≡ at → Placed alone B count row at
    → RowDrives (IsNotKept N B count) B (B.first + sides_of B.ports (take k B.rows)) row at
row_apart N B count alone laid many begins same inputs k row there site.Observed is placed = tt
row_apart N B count alone laid many begins same inputs k row there site.Input is placed = λ kept.
    let t = taken N B count laid many begins k 0 row there (one_side B row site.Input is refl) (B.first + sides_of B.ports (take k B.rows)) (omega arith) kept in
    inputs k row there is (ap (λ (ports : List PortView). direction ports (net_at B row).0) (sym same) ∙ placed.side_is, t.control)
row_apart N B count alone laid many begins same inputs k row there site.Output is placed =
    pin_apart N B count laid many begins k row there (net_at B row).0 placed.inside (row_moves B count row site.Output is refl placed)
row_apart N B count alone laid many begins same inputs k row there site.AddedDriver is placed = (
  λ kept. let two : row_sides B.ports row ≡ 2 = ap side_count is in
      let t = taken N B count laid many begins k 1 row there (omega arith) (B.first + sides_of B.ports (take k B.rows) + 1) refl kept in
      let first = t.first in absurd (omega arith),
  pin_apart N B count laid many begins k row there (net_at B row).0 placed.0.inside (row_moves B count row site.AddedDriver is refl placed.0),
)
row_apart N B count alone laid many begins same inputs k row there site.Driver is placed = λ kept.
    let t = taken N B count laid many begins k 0 row there (one_side B row site.Driver is refl) (B.first + sides_of B.ports (take k B.rows)) (omega arith) kept in
    not_moved B row site.Driver is refl t.moved
row_apart N B count alone laid many begins same inputs k row there site.Inout is placed = λ kept.
    let t = taken N B count laid many begins k 0 row there (one_side B row site.Inout is refl) (B.first + sides_of B.ports (take k B.rows)) (omega arith) kept in
    not_moved B row site.Inout is refl t.moved
row_apart N B count alone laid many begins same inputs k row there site.Control is placed = λ kept.
    let t = taken N B count laid many begins k 0 row there (one_side B row site.Control is refl) (B.first + sides_of B.ports (take k B.rows)) (omega arith) kept in
    not_moved B row site.Control is refl t.moved

pub rows_apart : (Q : ℕ → Type 0) (B : Boundary) (side : ℕ) (rows : List FitRow)
    → ((k : ℕ) (row : FitRow) → slice_get rows k ≡ Some row → RowDrives Q B (side + sides_of B.ports (take k rows)) row (site_of B.ports row)) → RowsDrive Q B side rows
rows_apart Q B side [] each = tt
rows_apart Q B side (row ∷ rows) each = (
  subst (λ (n : ℕ). RowDrives Q B n row (site_of B.ports row)) (sym (sides_zero B.ports side (row ∷ rows))) (each 0 row refl),
  rows_apart Q B (side + row_sides B.ports row) rows
      (λ k other there. subst (λ (n : ℕ). RowDrives Q B n other (site_of B.ports other)) (sym (sides_next B.ports side k row rows)) (each (suc k) other there)),
)
