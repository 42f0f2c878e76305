-- One turn of the loop over the rows: what its cell needs is there.
use Rattle.std.proofs.Common.{◌≡◌, ◌≢◌, ℕ, ◌+◌, ◌-◌, ◌*◌, ◌^◌, ◌<◌, ◌≤◌, List, [], ◌∷◌, length, drop, Bool, false, sym, ◌∙◌, ap, subst, Option, Some, None, arith}
use Rattle.std.specs.List.{slice_get}
use Rattle.std.specs.Option.{option_map_or}
use Rattle.cell_library.specs.declared.codes.BoundaryKind.TheVariants.{Bc1}
use Rattle.cell_library.specs.declared.codes.Function.TheVariants as function
use Rattle.netlist_model.specs.declared.NetId.{NetId}
use Rattle.netlist_model.specs.declared.Feed.{Feed}
use Rattle.netlist_model.specs.declared.Feed.TheVariants.{Const}
use Rattle.netlist_model.specs.Lists.{PortView, cell_count}
use Rattle.netlist_model.specs.Contained.{IsDense}
use Rattle.netlist_arena.specs.Arena.{ArenaView}
use Rattle.netlist_arena.specs.Adds.{IsFree}
use Rattle.gate_parts.specs.Appended.{Appended}
use Rattle.gate_parts.specs.Laws.{AppendedCount, AppendedMore}
use Rattle.test_logic.specs.declared.ScanNets.{ScanNets}
use Rattle.boundary_cells.specs.ThreeState.{bidir_cells}
use Rattle.plan_fitting.specs.declared.fitted.FitRow.{FitRow}
use Rattle.core_sides.specs.stitched_netlist.declared.model.Site.TheVariants as site
use Rattle.core_sides.specs.stitched_netlist.Sites.{Boundary, row_sides, sides_of}
use Rattle.core_sides.specs.stitched_netlist.Sides.{core_feed}
use Rattle.core_sides.specs.stitched_netlist.ModelRows.{net_at, control_row, enable_of, is_active_high, row_nets, site_cells, row_cells}
use Rattle.test_logic_parts.specs.Rows.{into_of, IsApart, AreApart, AreFree, CanTakeRows}
use Rattle.test_logic_parts.proofs.RowSizes.{last_sides, sides_behind, last_there}
use Rattle.test_logic_parts.proofs.RowsAdded.{RowsAdded, rows_step, sides_before, free_at, apart_at}

-- what indexing gives past the end
abbrev pub blank_row : FitRow
blank_row = record { cell = Bc1; function = function.Input; pin = None; core = None; control = None; active_high = false }

-- the rows from this place on are added, and the row before it is the next
pub record RowHere (old middle : ArenaView) (B : Boundary) (scan : ScanNets) (tdi last : NetId) (before count : ℕ) (row : FitRow) (place : ℕ) : Type 0 where
  pub low : 0 < place
  pub high : place ≤ length B.rows
  pub at : slice_get B.rows (place - 1) ≡ Some row
  pub added : RowsAdded old middle B scan tdi last before (drop place B.rows)
  pub left : before + sides_of B.ports (drop place B.rows) ≡ B.first + sides_of B.ports B.rows
  pub counted : count ≡ row_sides B.ports row
  pub can : CanTakeRows old B

pub enough : (old middle : ArenaView) (B : Boundary) (scan : ScanNets) (tdi last : NetId) (before count : ℕ) (row : FitRow) (place : ℕ)
    → RowHere old middle B scan tdi last before count row place → count ≤ before
enough old middle B scan tdi last before count row place here =
    let split = sides_before B B.rows place before (B.first + sides_of B.ports B.rows) row here.low here.at here.left in
    let few = last_sides B.ports (place - 1) B.rows in
    let counted = here.counted in
    omega arith

pub ends : (old middle : ArenaView) (B : Boundary) (scan : ScanNets) (tdi last : NetId) (before count : ℕ) (row : FitRow) (place : ℕ)
    → RowHere old middle B scan tdi last before count row place → (before - count) + sides_of B.ports (drop (place - 1) B.rows) ≡ B.first + sides_of B.ports B.rows
ends old middle B scan tdi last before count row place here =
    let split = sides_before B B.rows place before (B.first + sides_of B.ports B.rows) row here.low here.at here.left in
    let some = enough old middle B scan tdi last before count row place here in
    let counted = here.counted in
    omega arith

pub side_fits : (old middle : ArenaView) (B : Boundary) (scan : ScanNets) (tdi last : NetId) (before count : ℕ) (row : FitRow) (place : ℕ)
    → RowHere old middle B scan tdi last before count row place → (before - count) + 1 < 2 ^ 32
side_fits old middle B scan tdi last before count row place here =
    let end = ends old middle B scan tdi last before count row place here in
    let low = here.low in
    let high = here.high in
    let few = sides_behind B.ports (place - 1) B.rows (omega arith) in
    let fits = here.can.boundary.fits in
    omega arith

pub next_there : AppendedCount → (old middle : ArenaView) (B : Boundary) (scan : ScanNets) (tdi last : NetId) (side : ℕ) (rows : List FitRow)
    → RowsAdded old middle B scan tdi last side rows → tdi.0 < length old.lists.nets → last.0 < length middle.lists.nets
next_there count old middle B scan tdi last side rows added low =
    let more = count old middle _ _ added.added in
    let there = last_there B.ports (length old.lists.nets) tdi rows low in
    let same = ap (λ (net : NetId). net.0) added.last_is in
    omega arith

side_of : (old middle : ArenaView) (B : Boundary) (scan : ScanNets) (tdi last : NetId) (before count : ℕ) (row : FitRow) (place : ℕ)
    → RowHere old middle B scan tdi last before count row place → before ≡ (before - count) + row_sides B.ports row
side_of old middle B scan tdi last before count row place here =
    let some = enough old middle B scan tdi last before count row place here in
    let counted = here.counted in
    omega arith

pub free_here : AppendedCount → (old middle : ArenaView) (B : Boundary) (scan : ScanNets) (tdi last : NetId) (before count : ℕ) (row : FitRow) (place : ℕ) (ports : List PortView)
    → RowHere old middle B scan tdi last before count row place → ports ≡ B.ports
    → AreFree middle.lists (into_of (record { ports = ports; rows = B.rows; first = B.first }) (before - count) row)
free_here count old middle B scan tdi last before sides row place ports here same =
    let P : List PortView → Type 0 = λ ps. AreFree middle.lists (into_of (record { ports = ps; rows = B.rows; first = B.first }) (before - sides) row) in
    subst P (sym same)
    (free_at old middle B scan tdi last before (before - sides) row B.rows place here.low here.at (side_of old middle B scan tdi last before sides row place here)
    (ends old middle B scan tdi last before sides row place here) count here.added here.can.free here.can.apart)

pub apart_here : (old middle : ArenaView) (B : Boundary) (scan : ScanNets) (tdi last : NetId) (before count : ℕ) (row : FitRow) (place : ℕ) (ports : List PortView)
    → RowHere old middle B scan tdi last before count row place → ports ≡ B.ports
    → AreApart (into_of (record { ports = ports; rows = B.rows; first = B.first }) (before - count) row)
apart_here old middle B scan tdi last before count row place ports here same =
    let P : List PortView → Type 0 = λ ps. AreApart (into_of (record { ports = ps; rows = B.rows; first = B.first }) (before - count) row) in
    subst P (sym same)
    (apart_at B (before - count) row B.rows place here.low here.at (ends old middle B scan tdi last before count row place here) here.can.apart)

-- what adding a row gave
pub record RowGave (middle new : ArenaView) (B : Boundary) (scan : ScanNets) (side : ℕ) (row : FitRow) (last : NetId) : Type 0 where
  pub added : Appended middle new (row_nets B.ports row) (row_cells B scan (length middle.lists.nets) (cell_count middle.lists) side row last)
  pub free : (net : ℕ) → IsApart (into_of B side row) net → net < length middle.lists.nets → IsFree middle.lists net → IsFree new.lists net

pub rows_here : AppendedCount → AppendedMore → (old middle new : ArenaView) (B : Boundary) (scan : ScanNets) (tdi last last' : NetId) (before count : ℕ) (row : FitRow) (place : ℕ)
    (ports : List PortView) → RowHere old middle B scan tdi last before count row place → ports ≡ B.ports → last'.0 ≡ length middle.lists.nets → IsDense new.lists
    → RowGave middle new (record { ports = ports; rows = B.rows; first = B.first }) scan (before - count) row last
    → RowsAdded old new B scan tdi last' (before - count) (drop (place - 1) B.rows)
rows_here counted join old middle new B scan tdi last last' before count row place ports here same at dense gave =
    let P : List PortView → Type 0 = λ ps. RowGave middle new (record { ports = ps; rows = B.rows; first = B.first }) scan (before - count) row last in
    let given = subst P same gave in
    rows_step counted join old middle new B scan tdi last last' before (before - count) row B.rows place here.low here.at
    (side_of old middle B scan tdi last before count row place here) here.added at given.added dense given.free

-- where no row is left, all are added
pub all_rows : (old new : ArenaView) (B : Boundary) (scan : ScanNets) (tdi last : NetId) (side place : ℕ) → place ≡ 0 → RowsAdded old new B scan tdi last side (drop place B.rows)
    → side + sides_of B.ports (drop place B.rows) ≡ B.first + sides_of B.ports B.rows → RowsAdded old new B scan tdi last B.first B.rows
all_rows old new B scan tdi last side place is added left =
    let P : ℕ → Type 0 = λ k. RowsAdded old new B scan tdi last side (drop k B.rows) in
    let left' : side + sides_of B.ports B.rows ≡ B.first + sides_of B.ports B.rows = rw is at left in
    let Q : ℕ → Type 0 = λ n. RowsAdded old new B scan tdi last n B.rows in
    let here : side ≡ B.first = omega arith in
    subst Q here (subst P is added)

-- An inout.

enable_is : (B : Boundary) (row control : FitRow) (number : ℕ) → row.control ≡ Some number → slice_get B.rows number ≡ Some control → control_row B row ≡ Some control
enable_is B row control number is at = rw is at

pub inout_added : (old new : ArenaView) (B : Boundary) (scan : ScanNets) (side number : ℕ) (row control : FitRow) (pin next : NetId) (core enable : Feed) (high : Bool)
    → row.control ≡ Some number → slice_get B.rows number ≡ Some control → core ≡ core_feed B row → enable ≡ core_feed B control → high ≡ control.active_high → pin ≡ net_at B row
    → Appended old new 7 (bidir_cells (length old.lists.nets) (cell_count old.lists) scan core enable high pin (record { 0 = side }) next)
    → Appended old new 7 (site_cells B scan (length old.lists.nets) (cell_count old.lists) side row next site.Inout)
inout_added old new B scan side number row control pin next core enable high is at core_is enable_at high_is pin_is added =
    let found = enable_is B row control number is at in
    let into : NetId = record { 0 = side } in
    let e : enable ≡ enable_of B row = enable_at ∙ sym (ap (λ (o : Option FitRow). option_map_or (core_feed B) o (Const false)) found) in
    let h : high ≡ is_active_high B row = high_is ∙ sym (ap (λ (o : Option FitRow). option_map_or (λ (r : FitRow). r.active_high) o false) found) in
    let P : Feed → Feed → Bool → NetId → Type 0
    = λ c d b n. Appended old new 7 (bidir_cells (length old.lists.nets) (cell_count old.lists) scan c d b n into next) in
    subst (λ (n : NetId). P (core_feed B row) (enable_of B row) (is_active_high B row) n) pin_is
    (subst (λ (b : Bool). P (core_feed B row) (enable_of B row) b pin) h
    (subst (λ (d : Feed). P (core_feed B row) d high pin) e
    (subst (λ (c : Feed). P c enable high pin) core_is added)))
