-- The cells of each part are there.
use Rattle.std.proofs.Common.{◌≡◌, ℕ, zero, suc, ◌+◌, List, [], ◌∷◌, ◌++◌, map, take, drop, length, length-append, refl, sym, ◌∙◌, ap, Some, None, arith}
use Rattle.std.specs.Prelude.{slice_get}
use Rattle.std.proofs.lemmas.List.{append-nil}
use Rattle.netlist_model.specs.declared.NetId.{NetId}
use Rattle.netlist_model.specs.Lists.{PortView, CellView, NetlistView, cell_at, cell_count}
use Rattle.netlist_model.specs.Contained.{HasCells}
use Rattle.netlist_model.specs.LawsContained.{ContainedParts}
use Rattle.gate_parts.proofs.LawProofs.{has_from}
use Rattle.test_logic.specs.declared.ScanNets.{ScanNets}
use Rattle.surrounded_core.specs.Rows.{row_cells}
use Rattle.plan_fitting.specs.declared.fitted.FitRow.{FitRow}
use Rattle.plan_fitting.specs.declared.fitted.Fitted.{Fitted}
use Rattle.stitched_netlist.specs.declared.model.Site.{Site}
use Rattle.stitched_netlist.specs.declared.model.Site.TheVariants as site
use Rattle.stitched_netlist.specs.declared.model.TapNames.{TapNames}
use Rattle.stitched_netlist.specs.Sites.{Boundary, site_of, row_sides, sides_of}
use Rattle.stitched_netlist.specs.Sides.{core_cell}
use Rattle.stitched_netlist.specs.ModelRows.{behind, nets_of_rows, site_cells, row_cells as cells_of_row, last_bit, rows_cells}
use Rattle.stitched_netlist.specs.ModelLogic.{bypass_at, controller_part, instruction_part, bypass_part, ident_part}
use Rattle.stitched_netlist.specs.Stitched.{boundary_at, first_net, rows_part, tdo_part_by, test_logic_cells, live_cells, stitched_cells_by, stitched}
use Rattle.stitched_netlist.proofs.ModelMoves.{sides_cons}
use Rattle.stitched_netlist.specs.PlacesLaws.{port_of, scan_of, bypass_number, ident_number, register_number, tdo_number, register_net, row_first, row_side, row_number, row_next, handed_at, boundary_row, drivers_at, added_drivers}
use Rattle.stitched_netlist.specs.Places.{HoldsRow, HoldsPartsBy, StitchedHoldsParts, StitchedHoldsTheCore, ExtensionIsBuiltIn, StitchedExtends, StitchedIsBuiltIn}
use Rattle.stitched_netlist.proofs.PlacesLaws.{listed_at, core_there}
use Rattle.stitched_netlist.proofs.Core.{is_inside}

-- Each cell of the list is there.

has_all : (N : NetlistView) (names : TapNames) (f : Fitted)
    → HasCells (stitched N names f) (map (core_cell (boundary_at N f)) (live_cells N) ++ test_logic_cells (boundary_at N f) (first_net N f) (cell_count N) (port_of N) f)
has_all N names f =
    let cells : List CellView = map (core_cell (boundary_at N f)) (live_cells N) ++ test_logic_cells (boundary_at N f) (first_net N f) (cell_count N) (port_of N) f in
    has_from (stitched N names f) 0 cells (λ k. let e : 0 + k ≡ k = omega arith in rw e (listed_at cells k))

-- so it is in every netlist that has them under their numbers
has_listed : (M : NetlistView) (first : ℕ) (part : List CellView) → ((k : ℕ) (cell : CellView) → slice_get part k ≡ Some cell → cell_at M (first + k) ≡ Some cell) → HasCells M part
has_listed M first [] at = tt
has_listed M first (cell ∷ cells) at = (
  record { number = first; name = cell.name; live = let e : first + 0 ≡ first = omega arith in rw e at (at 0 cell refl) },
  has_listed M (suc first) cells (λ k c h. let e : first + suc k ≡ suc first + k = omega arith in rw e at (at (suc k) c h)),
)

-- Parts behind one another.

front_has : ContainedParts → (M : NetlistView) (xs ys : List CellView) → HasCells M (xs ++ ys) → HasCells M xs
front_has parts M xs ys h = ((parts M xs ys).parts h).0

back_has : ContainedParts → (M : NetlistView) (xs ys : List CellView) → HasCells M (xs ++ ys) → HasCells M ys
back_has parts M xs ys h = ((parts M xs ys).parts h).1

pub length_behind : (number : ℕ) (xs : List CellView) (part : ℕ → List CellView)
    → number + length (behind number xs part) ≡ number + length xs + length (part (number + length xs))
length_behind number xs part = let both = length-append xs (part (number + length xs)) in omega arith

same_has : (M : NetlistView) (xs ys : List CellView) → xs ≡ ys → HasCells M xs → HasCells M ys
same_has M xs ys e h = rw e at h

renumbered : (M : NetlistView) (part : ℕ → List CellView) (m n : ℕ) → m ≡ n → HasCells M (part m) → HasCells M (part n)
renumbered M part m n e h = rw e at h

-- Rows.

sides_none : (ports : List PortView) → sides_of ports [] ≡ 0
sides_none ports = refl

-- the cells of a row, by the first nets between the core and it, and the row after it
abbrev pub cells_there : Boundary → ScanNets → ℕ → ℕ → NetId → List FitRow → FitRow → ℕ → ℕ → List CellView
cells_there B scan first number tdi rows row here after =
    cells_of_row B scan (first + nets_of_rows B.ports rows) (number + length (rows_cells B scan first number tdi after rows)) here row (last_bit B.ports first tdi rows)

record RowThere (M : NetlistView) (B : Boundary) (scan : ScanNets) (first number : ℕ) (tdi : NetId) (side : ℕ) (rows : List FitRow) (k : ℕ) (row : FitRow) : Type 0 where
  here : ℕ
  after : ℕ
  here_is : here ≡ side + sides_of B.ports (take k rows)
  after_is : after ≡ side + sides_of B.ports (take (suc k) rows)
  cells : HasCells M (cells_there B scan first number tdi (drop (suc k) rows) row here after)

-- each row's cells are there
row_there : ContainedParts → (M : NetlistView) (B : Boundary) (scan : ScanNets) (first number : ℕ) (tdi : NetId) (side : ℕ) (rows : List FitRow)
    → HasCells M (rows_cells B scan first number tdi side rows) → (k : ℕ) (row : FitRow) → slice_get rows k ≡ Some row
    → RowThere M B scan first number tdi side rows k row
row_there parts M B scan first number tdi side [] h k row e = absurd (cc)
row_there parts M B scan first number tdi side (r ∷ rows) h zero row e =
    let same : r ≡ row = cc in
    let before : List CellView = rows_cells B scan first number tdi (side + row_sides B.ports r) rows in
    let mine : HasCells M (cells_there B scan first number tdi rows r side (side + row_sides B.ports r)) =
    back_has parts M before (cells_there B scan first number tdi rows r side (side + row_sides B.ports r)) h in
    record {
      here = side;
      after = side + row_sides B.ports r;
      here_is = let none = sides_none B.ports in omega arith;
      after_is = let none = sides_none B.ports in let one = sides_cons B.ports r [] in omega arith;
      cells = rw (sym same) mine;
    }
row_there parts M B scan first number tdi side (r ∷ rows) h (suc k) row e =
    let before : List CellView = rows_cells B scan first number tdi (side + row_sides B.ports r) rows in
    let rest = front_has parts M before (cells_there B scan first number tdi rows r side (side + row_sides B.ports r)) h in
    let there = row_there parts M B scan first number tdi (side + row_sides B.ports r) rows rest k row e in
    record {
      here = there.here;
      after = there.after;
      here_is = let one = sides_cons B.ports r (take k rows) in let is = there.here_is in omega arith;
      after_is = let one = sides_cons B.ports r (take (suc k) rows) in let is = there.after_is in omega arith;
      cells = there.cells;
    }

row_moved : (M : NetlistView) (part : ℕ → ℕ → List CellView) (a b c d : ℕ) → a ≡ c → b ≡ d → HasCells M (part a b) → HasCells M (part c d)
row_moved M part a b c d e f h = rw (e, f) at h

-- a row's cells by its site are those by its kind, and the driver that is added
pub by_kind : (B : Boundary) (scan : ScanNets) (first number side : ℕ) (row : FitRow) (next : NetId) (at : Site)
    → site_cells B scan first number side row next at ≡ row_cells (handed_at B side row at) first number scan next
    ++ drivers_at B (number + length (row_cells (handed_at B side row at) first number scan next)) side row at
by_kind B scan first number side row next site.Observed = sym (append-nil _)
by_kind B scan first number side row next site.Input = sym (append-nil _)
by_kind B scan first number side row next site.Output = sym (append-nil _)
by_kind B scan first number side row next site.AddedDriver = refl
by_kind B scan first number side row next site.Driver = sym (append-nil _)
by_kind B scan first number side row next site.Inout = sym (append-nil _)
by_kind B scan first number side row next site.Control = sym (append-nil _)

-- the next bit
next_is : (ports : List PortView) (first : ℕ) (tdi : NetId) (rows : List FitRow) (k : ℕ) (row : FitRow) → slice_get rows k ≡ Some row
    → last_bit ports first tdi (drop k rows) ≡ record { 0 = first + nets_of_rows ports (drop (suc k) rows) }
next_is ports first tdi [] k row e = absurd (cc)
next_is ports first tdi (r ∷ rows) zero row e = refl
next_is ports first tdi (r ∷ rows) (suc k) row e = next_is ports first tdi rows k row e

last_is : (ports : List PortView) (first : ℕ) (tdi : NetId) (rows : List FitRow) (k : ℕ) → slice_get rows k ≡ None → last_bit ports first tdi (drop k rows) ≡ tdi
last_is ports first tdi [] zero e = refl
last_is ports first tdi [] (suc k) e = refl
last_is ports first tdi (r ∷ rows) zero e = absurd (cc)
last_is ports first tdi (r ∷ rows) (suc k) e = last_is ports first tdi rows k e

holds_row : ContainedParts → (M N : NetlistView) (f : Fitted) → HasCells M (rows_part (boundary_at N f) (first_net N f) (port_of N) f (register_number N f))
    → (k : ℕ) (row : FitRow) → slice_get f.rows k ≡ Some row → HoldsRow M N f k row
holds_row parts M N f h k row e =
    let B : Boundary = boundary_at N f in
    let there = row_there parts M B (scan_of N f) (register_net N f) (register_number N f) (port_of N).tdi B.first f.rows h k row e in
    let gates : List CellView = row_cells (boundary_row B (row_side N f k) row) (row_first N f k) (row_number N f k) (scan_of N f) (row_next N f k) in
    let driver : List CellView = added_drivers B (row_number N f k + length gates) (row_side N f k) row in
    let split = by_kind B (scan_of N f) (row_first N f k) (row_number N f k) (row_side N f k) row (row_next N f k) (site_of B.ports row) in
    let whole : HasCells M (cells_there B (scan_of N f) (register_net N f) (register_number N f) (port_of N).tdi (drop (suc k) f.rows) row (row_side N f k) (row_side N f (suc k))) =
    row_moved M (λ a b. cells_there B (scan_of N f) (register_net N f) (register_number N f) (port_of N).tdi (drop (suc k) f.rows) row a b) there.here there.after
    (row_side N f k) (row_side N f (suc k)) there.here_is there.after_is there.cells in
    let both : HasCells M (gates ++ driver) = same_has M _ _ split whole in
    record { gates = front_has parts M gates driver both; driver = back_has parts M gates driver both }

-- All parts.

has_parts : ContainedParts → (M N : NetlistView) (f : Fitted) (shown : NetId) → HasCells M (stitched_cells_by shown N f) → HoldsPartsBy M N f shown
has_parts parts M N f shown whole =
    let number : ℕ = cell_count N in
    let C : List CellView = controller_part (first_net N f) (port_of N) number in
    let I : ℕ → List CellView = instruction_part (first_net N f) (port_of N) f in
    let P : ℕ → List CellView = bypass_part (first_net N f) (port_of N) f in
    let D : ℕ → List CellView = ident_part (first_net N f) (port_of N) f in
    let R : ℕ → List CellView = rows_part (boundary_at N f) (first_net N f) (port_of N) f in
    let T : ℕ → List CellView = tdo_part_by shown (boundary_at N f) (first_net N f) (port_of N) f in
    let CI : List CellView = behind number C I in
    let CIP : List CellView = behind number CI P in
    let CIPD : List CellView = behind number CIP D in
    let CIPDR : List CellView = behind number CIPD R in
    let p : number + length CI ≡ bypass_number N f = length_behind number C I in
    let d : number + length CIP ≡ ident_number N f = length_behind number CI P ∙ ap (λ (n : ℕ). n + length (P n)) p in
    let r : number + length CIPD ≡ register_number N f = length_behind number CIP D ∙ ap (λ (n : ℕ). n + length (D n)) d in
    let t : number + length CIPDR ≡ tdo_number N f = length_behind number CIPD R ∙ ap (λ (n : ℕ). n + length (R n)) r in
    let all : HasCells M (behind number CIPDR T) = back_has parts M (map (core_cell (boundary_at N f)) (live_cells N)) (behind number CIPDR T) whole in
    let to_rows : HasCells M CIPDR = front_has parts M CIPDR (T (number + length CIPDR)) all in
    let to_ident : HasCells M CIPD = front_has parts M CIPD (R (number + length CIPD)) to_rows in
    let to_bypass : HasCells M CIP = front_has parts M CIP (D (number + length CIP)) to_ident in
    let to_instruction : HasCells M CI = front_has parts M CI (P (number + length CI)) to_bypass in
    record {
      controller = front_has parts M C (I (number + length C)) to_instruction;
      instruction = back_has parts M C (I (number + length C)) to_instruction;
      bypass = renumbered M P (number + length CI) (bypass_number N f) p (back_has parts M CI (P (number + length CI)) to_bypass);
      ident = renumbered M D (number + length CIP) (ident_number N f) d (back_has parts M CIP (D (number + length CIP)) to_ident);
      rows = holds_row parts M N f (renumbered M R (number + length CIPD) (register_number N f) r (back_has parts M CIPD (R (number + length CIPD)) to_rows));
      tdo = renumbered M T (number + length CIPDR) (tdo_number N f) t (back_has parts M CIPDR (T (number + length CIPDR)) all);
      next = λ k row e. next_is N.ports (register_net N f) (port_of N).tdi f.rows (suc k) row e;
      last = λ k e. last_is N.ports (register_net N f) (port_of N).tdi f.rows (suc k) e;
    }

pub holds_parts : ContainedParts → StitchedHoldsParts
holds_parts parts N names f = has_parts parts (stitched N names f) N f (bypass_at (first_net N f) f) (has_all N names f)

pub is_built_in : StitchedHoldsParts → StitchedHoldsTheCore → StitchedIsBuiltIn
is_built_in parts core N names f dense = record { library = refl; ports = refl; core = core N names f dense; parts = parts N names f }

-- Netlists with further cells.

pub extension_is_built_in : ContainedParts → ExtensionIsBuiltIn
extension_is_built_in parts M N names f shown dense extends = record {
  library = extends.library;
  ports = extends.ports;
  core = is_inside M N f (core_there M N f shown dense extends.cells);
  parts = has_parts parts M N f shown (has_listed M 0 (stitched_cells_by shown N f) (λ k cell e. let z : 0 + k ≡ k = omega arith in rw z (extends.cells k cell e)));
}

pub stitched_extends : StitchedExtends
stitched_extends N names f = record { library = refl; ports = refl; cells = λ k cell e. listed_at (stitched_cells_by (bypass_at (first_net N f) f) N f) k ∙ e }
