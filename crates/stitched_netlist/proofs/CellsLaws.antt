-- Each live cell is one of the core or one of the test logic, and the other way round.
use Rattle.std.proofs.Common.{◌≡◌, inl, inr, ℕ, zero, suc, ◌+◌, ◌<◌, List, [], ◌∷◌, ◌++◌, map, length, refl, sym, ◌∙◌, ap, subst, Option, Some, None, arith}
use Rattle.std.specs.Prelude.{slice_get, filter_map, count_by, is_some}
use Rattle.std.proofs.lemmas.List.{length-map}
use Rattle.std.proofs.lemmas.Option.{slice_get_within}
use Rattle.list_laws.proofs.Options.{some_there}
use Rattle.netlist_model.specs.Lists.{CellView, NetlistView, cell_at, cell_count}
use Rattle.netlist_model.specs.Contained.{IsDense}
use Rattle.plan_fitting.specs.declared.fitted.Fitted.{Fitted}
use Rattle.stitched_netlist.specs.declared.model.TapNames.{TapNames}
use Rattle.stitched_netlist.specs.Sites.{Boundary}
use Rattle.stitched_netlist.specs.Sides.{core_cell}
use Rattle.stitched_netlist.specs.ModelRows.{behind}
use Rattle.stitched_netlist.specs.ModelLogic.{controller_part, instruction_part, bypass_part, ident_part}
use Rattle.stitched_netlist.specs.Stitched.{same_place, boundary_at, first_net, live_cells, rows_part, tdo_part, test_logic_cells, stitched}
use Rattle.stitched_netlist.specs.PlacesLaws.{port_of, bypass_number, ident_number, register_number, tdo_number}
use Rattle.stitched_netlist.proofs.PlacesLaws.{listed_at, mapped_at, counts_live, counts_empty, live_at}
use Rattle.stitched_netlist.proofs.PlacesParts.{length_behind}
use Rattle.stitched_netlist.specs.CellsLaws.{IsAt, CellOf, of_core, of_controller, of_instruction, of_bypass, of_ident, of_row, of_driver, of_tdo}
use Rattle.stitched_netlist.proofs.Split.{split, front, back, moved}
use Rattle.stitched_netlist.proofs.CellsRows.{IsOfRow, of_rows, in_rows}

-- The core.

pub live_length : (places : List (Option CellView)) → length (filter_map same_place places) ≡ count_by is_some places
live_length [] = refl
live_length (Some c ∷ places) = ap suc (live_length places) ∙ sym (counts_live c places)
live_length (None ∷ places) = live_length places ∙ sym (counts_empty places)

pub core_length : (N : NetlistView) (f : Fitted) → length (map (core_cell (boundary_at N f)) (live_cells N)) ≡ cell_count N
core_length N f = length-map (live_cells N) (core_cell (boundary_at N f)) ∙ live_length N.cells

record MappedFrom (to : CellView → CellView) (xs : List CellView) (k : ℕ) (cell : CellView) : Type 0 where
  old : CellView
  at : slice_get xs k ≡ Some old
  is : to old ≡ cell

mapped_from : (to : CellView → CellView) (xs : List CellView) (k : ℕ) (cell : CellView) → slice_get (map to xs) k ≡ Some cell → MappedFrom to xs k cell
mapped_from to [] k cell e = absurd (cc)
mapped_from to (x ∷ xs) zero cell e = record { old = x; at = refl; is = cc }
mapped_from to (x ∷ xs) (suc k) cell e = let rest = mapped_from to xs k cell e in record { old = rest.old; at = rest.at; is = rest.is }

-- the live cell with this number is the one in this place
core_at : (N : NetlistView) → IsDense N → (k : ℕ) (old : CellView) → slice_get (live_cells N) k ≡ Some old → cell_at N k ≡ Some old
core_at N dense k old at =
    let inside : k < length (live_cells N) = slice_get_within (live_cells N) k old at in
    let many = live_length N.cells in
    let one = some_there (cell_at N k) (dense k (omega arith)) in
    let there : slice_get (live_cells N) k ≡ Some one.0 = live_at N.cells dense k one.0 one.1 in
    let same : one.0 ≡ old = cc in
    one.1 ∙ ap (λ (c : CellView). Some c) same

-- The parts.

abbrev LogicOf : NetlistView → Fitted → ℕ → CellView → Type 0
LogicOf N f i cell = IsAt i (cell_count N) (test_logic_cells (boundary_at N f) (first_net N f) (cell_count N) (port_of N) f) cell

abbrev C : NetlistView → Fitted → List CellView
C N f = controller_part (first_net N f) (port_of N) (cell_count N)

abbrev I : NetlistView → Fitted → ℕ → List CellView
I N f = instruction_part (first_net N f) (port_of N) f

abbrev P : NetlistView → Fitted → ℕ → List CellView
P N f = bypass_part (first_net N f) (port_of N) f

abbrev D : NetlistView → Fitted → ℕ → List CellView
D N f = ident_part (first_net N f) (port_of N) f

abbrev R : NetlistView → Fitted → ℕ → List CellView
R N f = rows_part (boundary_at N f) (first_net N f) (port_of N) f

abbrev pub T : NetlistView → Fitted → ℕ → List CellView
T N f = tdo_part (boundary_at N f) (first_net N f) (port_of N) f

abbrev CI : NetlistView → Fitted → List CellView
CI N f = behind (cell_count N) (C N f) (I N f)

abbrev CIP : NetlistView → Fitted → List CellView
CIP N f = behind (cell_count N) (CI N f) (P N f)

abbrev CIPD : NetlistView → Fitted → List CellView
CIPD N f = behind (cell_count N) (CIP N f) (D N f)

abbrev pub CIPDR : NetlistView → Fitted → List CellView
CIPDR N f = behind (cell_count N) (CIPD N f) (R N f)

bypass_from : (N : NetlistView) (f : Fitted) → cell_count N + length (CI N f) ≡ bypass_number N f
bypass_from N f = length_behind (cell_count N) (C N f) (I N f)

ident_from : (N : NetlistView) (f : Fitted) → cell_count N + length (CIP N f) ≡ ident_number N f
ident_from N f = length_behind (cell_count N) (CI N f) (P N f) ∙ ap (λ (n : ℕ). n + length (P N f n)) (bypass_from N f)

register_from : (N : NetlistView) (f : Fitted) → cell_count N + length (CIPD N f) ≡ register_number N f
register_from N f = length_behind (cell_count N) (CIP N f) (D N f) ∙ ap (λ (n : ℕ). n + length (D N f n)) (ident_from N f)

pub tdo_from : (N : NetlistView) (f : Fitted) → cell_count N + length (CIPDR N f) ≡ tdo_number N f
tdo_from N f = length_behind (cell_count N) (CIPD N f) (R N f) ∙ ap (λ (n : ℕ). n + length (R N f n)) (register_from N f)

row_or_driver : (N : NetlistView) (f : Fitted) (i : ℕ) (cell : CellView) → IsOfRow N f i cell → CellOf N f i cell
row_or_driver N f i cell r = elim r.at [
  | inl gate ↦ of_row r.k r.row r.there gate
  | inr driver ↦ of_driver r.k r.row r.there driver
]

of_controls : (N : NetlistView) (f : Fitted) (i : ℕ) (cell : CellView) → IsAt i (cell_count N) (CI N f) cell → CellOf N f i cell
of_controls N f i cell h = elim (split i (cell_count N) (C N f) (I N f (cell_count N + length (C N f))) cell h) [
  | inl c ↦ of_controller c
  | inr n ↦ of_instruction n
]

of_registers : (N : NetlistView) (f : Fitted) (i : ℕ) (cell : CellView) → IsAt i (cell_count N) (CIPD N f) cell → CellOf N f i cell
of_registers N f i cell h = elim (split i (cell_count N) (CIP N f) (D N f (cell_count N + length (CIP N f))) cell h) [
  | inl early ↦ elim (split i (cell_count N) (CI N f) (P N f (cell_count N + length (CI N f))) cell early) [
    | inl controls ↦ of_controls N f i cell controls
    | inr bypass ↦ of_bypass (moved (P N f) (cell_count N + length (CI N f)) (bypass_number N f) i cell (bypass_from N f) bypass)
  ]
  | inr ident ↦ of_ident (moved (D N f) (cell_count N + length (CIP N f)) (ident_number N f) i cell (ident_from N f) ident)
]

of_logic : (N : NetlistView) (f : Fitted) (i : ℕ) (cell : CellView) → LogicOf N f i cell → CellOf N f i cell
of_logic N f i cell h = elim (split i (cell_count N) (CIPDR N f) (T N f (cell_count N + length (CIPDR N f))) cell h) [
  | inl early ↦ elim (split i (cell_count N) (CIPD N f) (R N f (cell_count N + length (CIPD N f))) cell early) [
    | inl registers ↦ of_registers N f i cell registers
    | inr rows ↦ row_or_driver N f i cell
        (of_rows N f i cell (moved (R N f) (cell_count N + length (CIPD N f)) (register_number N f) i cell (register_from N f) rows))
  ]
  | inr tdo ↦ of_tdo (moved (T N f) (cell_count N + length (CIPDR N f)) (tdo_number N f) i cell (tdo_from N f) tdo)
]

-- own: it has no others
pub has_cells : (N : NetlistView) (names : TapNames) (f : Fitted) → IsDense N → (number : ℕ) (cell : CellView)
    → cell_at (stitched N names f) number ≡ Some cell → CellOf N f number cell
has_cells N names f dense i cell e =
    let B : Boundary = boundary_at N f in
    let core : List CellView = map (core_cell B) (live_cells N) in
    let logic : List CellView = test_logic_cells B (first_net N f) (cell_count N) (port_of N) f in
    let at : slice_get (core ++ logic) i ≡ Some cell = sym (listed_at (core ++ logic) i) ∙ e in
    let n : 0 + length core ≡ cell_count N = (let c = core_length N f in omega arith) in
    elim (split i 0 core logic cell (record { place = i; is = omega arith; at = at })) [
      | inl c ↦ (let same : c.place ≡ i = (let is = c.is in omega arith) in
          let from = mapped_from (core_cell B) (live_cells N) i cell (subst (λ (k : ℕ). slice_get core k ≡ Some cell) same c.at) in
          of_core from.old (core_at N dense i from.old from.at) from.is)
      | inr l ↦ of_logic N f i cell (subst (λ (k : ℕ). IsAt i k logic cell) n l)
    ]

-- The other way round.

from_controls : (N : NetlistView) (f : Fitted) (i : ℕ) (cell : CellView) → IsAt i (cell_count N) (CI N f) cell → IsAt i (cell_count N) (CIPD N f) cell
from_controls N f i cell h =
    front i (cell_count N) (CIP N f) (D N f (cell_count N + length (CIP N f))) cell (front i (cell_count N) (CI N f) (P N f (cell_count N + length (CI N f))) cell h)

from_registers : (N : NetlistView) (f : Fitted) (i : ℕ) (cell : CellView) → IsAt i (cell_count N) (CIPD N f) cell → LogicOf N f i cell
from_registers N f i cell h =
    front i (cell_count N) (CIPDR N f) (T N f (cell_count N + length (CIPDR N f))) cell (front i (cell_count N) (CIPD N f) (R N f (cell_count N + length (CIPD N f))) cell h)

from_rows : (N : NetlistView) (f : Fitted) (i : ℕ) (cell : CellView) → IsAt i (register_number N f) (R N f (register_number N f)) cell → LogicOf N f i cell
from_rows N f i cell h =
    front i (cell_count N) (CIPDR N f) (T N f (cell_count N + length (CIPDR N f))) cell
    (back i (cell_count N) (CIPD N f) (R N f (cell_count N + length (CIPD N f))) cell (moved (R N f) (register_number N f) (cell_count N + length (CIPD N f)) i cell (sym (register_from N f)) h))

behind_core : (N : NetlistView) (names : TapNames) (f : Fitted) (i : ℕ) (cell : CellView) → LogicOf N f i cell → cell_at (stitched N names f) i ≡ Some cell
behind_core N names f i cell h =
    let B : Boundary = boundary_at N f in
    let core : List CellView = map (core_cell B) (live_cells N) in
    let logic : List CellView = test_logic_cells B (first_net N f) (cell_count N) (port_of N) f in
    let n : cell_count N ≡ 0 + length core = (let c = core_length N f in omega arith) in
    let all = back i 0 core logic cell (subst (λ (k : ℕ). IsAt i k logic cell) n h) in
    let same : all.place ≡ i = (let is = all.is in omega arith) in
    listed_at (core ++ logic) i ∙ subst (λ (k : ℕ). slice_get (core ++ logic) k ≡ Some cell) same all.at

core_there : (N : NetlistView) (names : TapNames) (f : Fitted) → IsDense N → (i : ℕ) (old cell : CellView) → cell_at N i ≡ Some old → core_cell (boundary_at N f) old ≡ cell
    → cell_at (stitched N names f) i ≡ Some cell
core_there N names f dense i old cell at is =
    let B : Boundary = boundary_at N f in
    let core : List CellView = map (core_cell B) (live_cells N) in
    let logic : List CellView = test_logic_cells B (first_net N f) (cell_count N) (port_of N) f in
    let all = front i 0 core logic cell (record {
      place = i;
      is = omega arith;
      at = mapped_at (core_cell B) (live_cells N) i old (live_at N.cells dense i old at) ∙ ap (λ (c : CellView). Some c) is;
    }) in
    let same : all.place ≡ i = (let is = all.is in omega arith) in
    listed_at (core ++ logic) i ∙ subst (λ (k : ℕ). slice_get (core ++ logic) k ≡ Some cell) same all.at

-- own: and each of them under its number
pub stands_by : (N : NetlistView) (names : TapNames) (f : Fitted) → IsDense N → (number : ℕ) (cell : CellView)
    → CellOf N f number cell → cell_at (stitched N names f) number ≡ Some cell
stands_by N names f dense i cell (of_core old at is) = core_there N names f dense i old cell at is
stands_by N names f dense i cell (of_controller h) =
    behind_core N names f i cell (from_registers N f i cell (from_controls N f i cell (front i (cell_count N) (C N f) (I N f (cell_count N + length (C N f))) cell h)))
stands_by N names f dense i cell (of_instruction h) =
    behind_core N names f i cell (from_registers N f i cell (from_controls N f i cell (back i (cell_count N) (C N f) (I N f (cell_count N + length (C N f))) cell h)))
stands_by N names f dense i cell (of_bypass h) =
    behind_core N names f i cell (from_registers N f i cell (front i (cell_count N) (CIP N f) (D N f (cell_count N + length (CIP N f))) cell
    (back i (cell_count N) (CI N f) (P N f (cell_count N + length (CI N f))) cell (moved (P N f) (bypass_number N f) (cell_count N + length (CI N f)) i cell (sym (bypass_from N f)) h))))
stands_by N names f dense i cell (of_ident h) =
    behind_core N names f i cell (from_registers N f i cell
    (back i (cell_count N) (CIP N f) (D N f (cell_count N + length (CIP N f))) cell (moved (D N f) (ident_number N f) (cell_count N + length (CIP N f)) i cell (sym (ident_from N f)) h)))
stands_by N names f dense i cell (of_row k row there h) = behind_core N names f i cell (from_rows N f i cell (in_rows N f i cell k row there (inl h)))
stands_by N names f dense i cell (of_driver k row there h) = behind_core N names f i cell (from_rows N f i cell (in_rows N f i cell k row there (inr h)))
stands_by N names f dense i cell (of_tdo h) =
    behind_core N names f i cell
    (back i (cell_count N) (CIPDR N f) (T N f (cell_count N + length (CIPDR N f))) cell (moved (T N f) (tdo_number N f) (cell_count N + length (CIPDR N f)) i cell (sym (tdo_from N f)) h))
