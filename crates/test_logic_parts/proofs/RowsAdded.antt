-- The boundary register grows by the cell before it.
use Rattle.std.proofs.Common.{◌≡◌, ◌≢◌, ℕ, suc, ◌+◌, ◌-◌, ◌*◌, ◌<◌, ◌≤◌, List, [], ◌∷◌, ◌++◌, length, drop, length-drop, refl, sym, ◌∙◌, ap, subst, Some, arith}
use Rattle.std.proofs.Math.Seq.{drop-cons, drop-length}
use Rattle.std.proofs.lemmas.Option.{slice_get_within, get_or_from_slice_get}
use Rattle.std.proofs.lemmas.List.Sums.{sum_by-cons}
use Rattle.std.specs.List.{slice_get}
use Rattle.netlist_model.specs.declared.NetId.{NetId}
use Rattle.netlist_model.specs.Lists.{PortView, cell_count}
use Rattle.netlist_model.specs.Contained.{IsDense}
use Rattle.netlist_arena.specs.Arena.{ArenaView}
use Rattle.netlist_arena.specs.Adds.{IsFree}
use Rattle.gate_parts.specs.Appended.{Appended}
use Rattle.gate_parts.specs.Laws.{AppendedNone, AppendedCount, AppendedMore}
use Rattle.test_logic.specs.declared.ScanNets.{ScanNets}
use Rattle.plan_fitting.specs.declared.fitted.FitRow.{FitRow}
use Rattle.core_sides.specs.stitched_netlist.Sites.{Boundary, row_sides, sides_of}
use Rattle.core_sides.specs.stitched_netlist.ModelRows.{row_nets, nets_of_rows, row_cells, last_bit, rows_cells}
use Rattle.test_logic_parts.specs.Rows.{into_of, into_from, IsApart, AreApart, AreFree}
use Rattle.test_logic_parts.proofs.Lists.{apart_left, apart_right, apart_front, apart_back, free_back, free_kept, of_last_rows}
use Rattle.test_logic_parts.proofs.LogicAdded.{behind_added, counted_as}
use Rattle.test_logic_parts.proofs.RowSizes.{nets_few, cells_few}

-- the cells of these rows were added, and this is their bit nearest TDO
pub record RowsAdded (old new : ArenaView) (B : Boundary) (scan : ScanNets) (tdi last : NetId) (side : ℕ) (rows : List FitRow) : Type 0 where
  pub added : Appended old new (nets_of_rows B.ports rows) (rows_cells B scan (length old.lists.nets) (cell_count old.lists) tdi side rows)
  pub last_is : last ≡ last_bit B.ports (length old.lists.nets) tdi rows
  pub dense : IsDense new.lists
  pub free : (net : ℕ) → IsApart (into_from B side rows) net → net < length old.lists.nets → IsFree old.lists net → IsFree new.lists net

no_rows : AppendedNone → (old : ArenaView) (B : Boundary) (scan : ScanNets) (tdi : NetId) (side : ℕ) → IsDense old.lists → RowsAdded old old B scan tdi tdi side []
no_rows none old B scan tdi side dense = record { added = none old dense; last_is = refl; dense = dense; free = λ net apart low free. free }

pub rows_none : AppendedNone → (old : ArenaView) (B : Boundary) (scan : ScanNets) (tdi : NetId) (side : ℕ) (rows : List FitRow) → IsDense old.lists
    → RowsAdded old old B scan tdi tdi side (drop (length rows) rows)
rows_none none old B scan tdi side rows dense =
    let P : List FitRow → Type 0 = λ rest. RowsAdded old old B scan tdi tdi side rest in
    subst P (sym (drop-length rows)) (no_rows none old B scan tdi side dense)

pub no_rows_left : (ports : List PortView) (rows : List FitRow) (end : ℕ) → end + sides_of ports (drop (length rows) rows) ≡ end
no_rows_left ports rows end =
    let none : sides_of ports (drop (length rows) rows) ≡ 0 = ap (λ (rs : List FitRow). sides_of ports rs) (drop-length rows) in
    omega arith

abbrev numbered : ℕ → NetId
numbered n = record { 0 = n }

rows_more : AppendedCount → AppendedMore → (old middle new : ArenaView) (B : Boundary) (scan : ScanNets) (tdi last last' : NetId) (side : ℕ) (row : FitRow) (rest : List FitRow)
    → RowsAdded old middle B scan tdi last (side + row_sides B.ports row) rest → last'.0 ≡ length middle.lists.nets
    → Appended middle new (row_nets B.ports row) (row_cells B scan (length middle.lists.nets) (cell_count middle.lists) side row last) → IsDense new.lists
    → ((net : ℕ) → IsApart (into_of B side row) net → net < length middle.lists.nets → IsFree middle.lists net → IsFree new.lists net)
    → RowsAdded old new B scan tdi last' side (row ∷ rest)
rows_more count join old middle new B scan tdi last last' side row rest rows at step dense keeps =
    let first : ℕ = length old.lists.nets in
    let nets : length middle.lists.nets ≡ first + nets_of_rows B.ports rest = count old middle _ _ rows.added in
    let more = sum_by-cons (row_nets B.ports) row rest in
    let P : ℕ → Type 0 = λ n. Appended middle new (row_nets B.ports row) (row_cells B scan n (cell_count middle.lists) side row last) in
    let Q : NetId → Type 0 = λ net. Appended middle new (row_nets B.ports row) (row_cells B scan (first + nets_of_rows B.ports rest) (cell_count middle.lists) side row net) in
    let step' = subst Q rows.last_is (subst P nets step) in
    record {
      added = counted_as old new (nets_of_rows B.ports rest + row_nets B.ports row) (nets_of_rows B.ports (row ∷ rest)) _ (omega arith)
          (behind_added join old middle new (nets_of_rows B.ports rest) (row_nets B.ports row)
          (rows_cells B scan first (cell_count old.lists) tdi (side + row_sides B.ports row) rest)
          (λ n. row_cells B scan (first + nets_of_rows B.ports rest) n side row (last_bit B.ports first tdi rest)) rows.added step');
      last_is = ap numbered (at ∙ nets);
      dense = dense;
      free = λ net apart low free.
          keeps net (apart_left (into_of B side row) (into_from B (side + row_sides B.ports row) rest) net apart) (omega arith)
          (rows.free net (apart_right (into_of B side row) (into_from B (side + row_sides B.ports row) rest) net apart) low free);
    }

-- the rows from a place on are the row there and those behind it
pub row_before : (rows : List FitRow) (place : ℕ) (row : FitRow) → 0 < place → slice_get rows (place - 1) ≡ Some row → drop (place - 1) rows ≡ row ∷ drop place rows
row_before rows place row low at =
    let n : suc (place - 1) ≡ place = omega arith in
    let below = slice_get_within rows (place - 1) row at in
    let e : drop (place - 1) rows ≡ row ∷ drop (suc (place - 1)) rows
    = drop-cons rows (place - 1) row below ∙ ap (λ (x : FitRow). x ∷ drop (suc (place - 1)) rows) (get_or_from_slice_get rows (place - 1) row row at) in
    rw n at e

pub rows_step : AppendedCount → AppendedMore → (old middle new : ArenaView) (B : Boundary) (scan : ScanNets) (tdi last last' : NetId) (before side : ℕ) (row : FitRow) (rows : List FitRow)
    (place : ℕ) → 0 < place → slice_get rows (place - 1) ≡ Some row → before ≡ side + row_sides B.ports row → RowsAdded old middle B scan tdi last before (drop place rows)
    → last'.0 ≡ length middle.lists.nets
    → Appended middle new (row_nets B.ports row) (row_cells B scan (length middle.lists.nets) (cell_count middle.lists) side row last) → IsDense new.lists
    → ((net : ℕ) → IsApart (into_of B side row) net → net < length middle.lists.nets → IsFree middle.lists net → IsFree new.lists net)
    → RowsAdded old new B scan tdi last' side (drop (place - 1) rows)
rows_step count join old middle new B scan tdi last last' before side row rows place low at is added first step dense keeps =
    let P : List FitRow → Type 0 = λ rest. RowsAdded old new B scan tdi last' side rest in
    let Q : ℕ → Type 0 = λ n. RowsAdded old middle B scan tdi last n (drop place rows) in
    subst P (sym (row_before rows place row low at))
    (rows_more count join old middle new B scan tdi last last' side row (drop place rows) (subst Q is added) first step dense keeps)

-- the nets between that are left
pub sides_before : (B : Boundary) (rows : List FitRow) (place before end : ℕ) (row : FitRow) → 0 < place → slice_get rows (place - 1) ≡ Some row
    → before + sides_of B.ports (drop place rows) ≡ end → before + sides_of B.ports (drop (place - 1) rows) ≡ end + row_sides B.ports row
sides_before B rows place before end row low at e =
    let split = row_before rows place row low at in
    let more = sum_by-cons (row_sides B.ports) row (drop place rows) in
    let both : sides_of B.ports (drop (place - 1) rows) ≡ row_sides B.ports row + sides_of B.ports (drop place rows) = ap (λ (rs : List FitRow). sides_of B.ports rs) split ∙ more in
    omega arith

-- The nets that a row's cell gives values.

pub free_at : (old middle : ArenaView) (B : Boundary) (scan : ScanNets) (tdi last : NetId) (before side : ℕ) (row : FitRow) (rows : List FitRow) (place : ℕ) → 0 < place
    → slice_get rows (place - 1) ≡ Some row → before ≡ side + row_sides B.ports row → side + sides_of B.ports (drop (place - 1) rows) ≡ B.first + sides_of B.ports rows
    → AppendedCount → RowsAdded old middle B scan tdi last before (drop place rows) → AreFree old.lists (into_from B B.first rows) → AreApart (into_from B B.first rows)
    → AreFree middle.lists (into_of B side row)
free_at old middle B scan tdi last before side row rows place low at is end count added free apart =
    let xs : List ℕ = into_of B side row in
    let ys : List ℕ = into_from B (side + row_sides B.ports row) (drop place rows) in
    let split = row_before rows place row low at in
    let F : List FitRow → Type 0 = λ rs. AreFree old.lists (into_from B side rs) in
    let A : List FitRow → Type 0 = λ rs. AreApart (into_from B side rs) in
    let free' : AreFree old.lists (xs ++ ys)
    = subst F split (of_last_rows B (λ (ns : List ℕ). AreFree old.lists ns) tt (λ (us vs : List ℕ). free_back old.lists us vs) (place - 1) B.first side rows end free) in
    let apart' : AreApart (xs ++ ys)
    = subst A split (of_last_rows B (λ (ns : List ℕ). AreApart ns) tt (λ (us vs : List ℕ). apart_back us vs) (place - 1) B.first side rows end apart) in
    let Q : ℕ → Type 0 = λ n. RowsAdded old middle B scan tdi last n (drop place rows) in
    let here = subst Q is added in
    let more = count old middle _ _ added.added in
    free_kept old.lists middle.lists xs ys (omega arith) here.free apart' free'

pub apart_at : (B : Boundary) (side : ℕ) (row : FitRow) (rows : List FitRow) (place : ℕ) → 0 < place → slice_get rows (place - 1) ≡ Some row
    → side + sides_of B.ports (drop (place - 1) rows) ≡ B.first + sides_of B.ports rows → AreApart (into_from B B.first rows) → AreApart (into_of B side row)
apart_at B side row rows place low at end apart =
    let split = row_before rows place row low at in
    let A : List FitRow → Type 0 = λ rs. AreApart (into_from B side rs) in
    apart_front (into_of B side row) (into_from B (side + row_sides B.ports row) (drop place rows))
    (subst A split (of_last_rows B (λ (ns : List ℕ). AreApart ns) tt (λ (us vs : List ℕ). apart_back us vs) (place - 1) B.first side rows end apart))

-- The room that is left.

pub nets_left : (old middle : ArenaView) (B : Boundary) (scan : ScanNets) (tdi last : NetId) (side : ℕ) (rows : List FitRow) (place : ℕ) → 0 < place → place ≤ length rows
    → RowsAdded old middle B scan tdi last side (drop place rows) → 8 * length rows ≤ old.spare.nets → 7 ≤ middle.spare.nets
nets_left old middle B scan tdi last side rows place low high added room =
    let used = added.added.net_room in
    let few = nets_few B.ports (drop place rows) in
    let long = length-drop place rows in
    omega arith

pub cells_left : (old middle : ArenaView) (B : Boundary) (scan : ScanNets) (tdi last : NetId) (side : ℕ) (rows : List FitRow) (place : ℕ) → 0 < place → place ≤ length rows
    → RowsAdded old middle B scan tdi last side (drop place rows) → 8 * length rows ≤ old.spare.cells → 8 ≤ middle.spare.cells
cells_left old middle B scan tdi last side rows place low high added room =
    let used = added.added.cell_room in
    let few = cells_few B scan (length old.lists.nets) (cell_count old.lists) tdi side (drop place rows) in
    let long = length-drop place rows in
    omega arith
