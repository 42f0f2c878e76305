-- What stands under which number.
use Rattle.std.proofs.Common.{◌≡◌, ℕ, zero, suc, ◌+◌, ◌<◌, ◌⊎◌, inl, inr, List, [], ◌∷◌, ◌++◌, map, length, length-append, Some, refl, ap, sym, ◌∙◌, arith}
use Rattle.std.specs.Prelude.{slice_get}
use Rattle.std.proofs.lemmas.Option.{same_Some}
use Rattle.list_laws.proofs.Lists.{slice_get-append_left, slice_get-append_right}
use Rattle.netlist_model.specs.declared.NetId.{NetId}
use Rattle.netlist_model.specs.declared.Feed.TheVariants.{Net}
use Rattle.netlist_model.specs.Lists.{NetView, CellView, NetlistView, cell_at, cell_count}
use Rattle.gate_parts.specs.Parts.{added_nets}
use Rattle.gate_parts.proofs.Steps.{length-added_nets}
use Rattle.plan_fitting.specs.declared.fitted.Fitted.{Fitted}
use Rattle.stitched_netlist.specs.declared.model.TapNames.{TapNames}
use Rattle.stitched_netlist.specs.declared.model.TapPort.{TapPort}
use Rattle.stitched_netlist.specs.Sites.{Boundary, sides_of}
use Rattle.stitched_netlist.specs.Sides.{core_cell}
use Rattle.stitched_netlist.specs.Stitched.{live_cells, tap_net_views, boundary_at, first_net, test_logic_nets, tdo_part_by, tdo_part, stitched_cells_by, stitched_cells, stitched}
use Rattle.stitched_netlist.specs.PlacesLaws.{port_of}
use Rattle.status_fitting.specs.declared.fitted.FittedRegister.{FittedRegister}
use Rattle.open_stitch.specs.Connected.{shows}
use Rattle.open_stitch.proofs.Connected.{choice_cell, middle_cells, choice_at, opened_length}
use Rattle.open_stitch.specs.Open.{through_number, through_net, through_cell, stitched_open}
use Rattle.status_stitch.specs.Built.{first_behind, number_behind, cells_behind, shown_behind, IsBuilt}

-- a place of two lists
pub split_at : {X : Type 0} (xs ys : List X) (k : ℕ) (x : X) → slice_get (xs ++ ys) k ≡ Some x
    → ((slice_get xs k ≡ Some x) × (k < length xs)) ⊎ ((j : ℕ) × (k ≡ length xs + j) × (slice_get ys j ≡ Some x))
split_at [] ys k x e = inr (k, omega arith, e)
split_at (y ∷ xs) ys zero x e = inl (e, omega arith)
split_at (y ∷ xs) ys (suc k) x e = elim (split_at xs ys k x e) [
  | inl l ↦ (let less = l.1 in inl (l.0, omega (arith, less)))
  | inr r ↦ (let there = r.1 in inr (r.0, omega (arith, there), r.2))
]

-- TDO's cells, with another net for the bypass bit.

tdo_both : (shown : NetId) (B : Boundary) (first : ℕ) (port : TapPort) (f : Fitted) (number j : ℕ) (cell : CellView) → slice_get (tdo_part B first port f number) j ≡ Some cell
    → (slice_get (tdo_part_by shown B first port f number) j ≡ Some cell) ⊎ ((j ≡ 4) × (cell ≡ choice_cell B first port f number))
tdo_both shown B first port f number zero cell e = inl e
tdo_both shown B first port f number (suc zero) cell e = inl e
tdo_both shown B first port f number (suc (suc zero)) cell e = inl e
tdo_both shown B first port f number (suc (suc (suc zero))) cell e = inl e
tdo_both shown B first port f number (suc (suc (suc (suc zero)))) cell e = inr (refl, sym (same_Some (choice_cell B first port f number) cell e))
tdo_both shown B first port f number (suc (suc (suc (suc (suc zero))))) cell e = inl e
tdo_both shown B first port f number (suc (suc (suc (suc (suc (suc zero)))))) cell e = inl e
tdo_both shown B first port f number (suc (suc (suc (suc (suc (suc (suc j))))))) cell e = inl e

-- the gate that chooses between the bits of the boundary and the bypass register
pub record IsChosen (N : NetlistView) (f : Fitted) (shown : NetId) (i : ℕ) (cell : CellView) : Type 0 where
  pub is : cell ≡ choice_at N f
  pub now : slice_get (stitched_cells_by shown N f) i ≡ Some (shows shown (choice_at N f))

-- each cell of the stitched netlist stays, but that gate
pub opened_at : (N : NetlistView) (f : Fitted) (shown : NetId) (i : ℕ) (cell : CellView) → slice_get (stitched_cells N f) i ≡ Some cell
    → (slice_get (stitched_cells_by shown N f) i ≡ Some cell) ⊎ IsChosen N f shown i cell
opened_at N f shown i cell e = elim (split_at front (middle ++ old) i cell e) [
  | inl a ↦ inl (slice_get-append_left front (middle ++ new) i a.1 ∙ a.0)
  | inr r ↦ elim (split_at middle old r.0 cell r.2) [
    | inl b ↦ inl (slice_get-append_right front (middle ++ new) i r.0 r.1 ∙ slice_get-append_left middle new r.0 b.1 ∙ b.0)
    | inr t ↦ by_place r.0 r.1 t.0 t.1 (tdo_both shown (boundary_at N f) (first_net N f) (port_of N) f number t.0 cell t.2)
  ]
]
  where
    front : List CellView
    front = map (core_cell (boundary_at N f)) (live_cells N)

    middle : List CellView
    middle = middle_cells N f

    number : ℕ
    number = cell_count N + length middle

    old : List CellView
    old = tdo_part (boundary_at N f) (first_net N f) (port_of N) f number

    new : List CellView
    new = tdo_part_by shown (boundary_at N f) (first_net N f) (port_of N) f number

    after : slice_get new 4 ≡ Some (shows shown (choice_at N f))
    after = refl

    by_place : (j : ℕ) → i ≡ length front + j → (k : ℕ) → j ≡ length middle + k → (slice_get new k ≡ Some cell) ⊎ ((k ≡ 4) × (cell ≡ choice_at N f))
        → (slice_get (stitched_cells_by shown N f) i ≡ Some cell) ⊎ IsChosen N f shown i cell
    by_place j at k there (inl same) = inl (slice_get-append_right front (middle ++ new) i j at ∙ slice_get-append_right middle new j k there ∙ same)
    by_place j at k there (inr chosen) = inr (record {
      is = chosen.1;
      now = slice_get-append_right front (middle ++ new) i j at ∙ slice_get-append_right middle new j k there ∙ ap (slice_get new) chosen.0 ∙ after;
    })

-- Nets.

stitched_nets : (N : NetlistView) (names : TapNames) (f : Fitted) → length (stitched N names f).nets ≡ (through_net N f).0
stitched_nets N names f =
    let more : List NetView = added_nets (boundary_at N f).first (sides_of N.ports f.rows + test_logic_nets (boundary_at N f) f) in
    let five : length (tap_net_views names) ≡ 5 = refl in
    let many = length-added_nets (boundary_at N f).first (sides_of N.ports f.rows + test_logic_nets (boundary_at N f) f) in
    let both = length-append (tap_net_views names) more in
    let all = length-append N.nets (tap_net_views names ++ more) in
    let is : length (stitched N names f).nets ≡ length (N.nets ++ (tap_net_views names ++ more)) = refl in
    let start : first_net N f ≡ length N.nets + 5 + sides_of N.ports f.rows = refl in
    let end : (through_net N f).0 ≡ first_net N f + test_logic_nets (boundary_at N f) f = refl in
    omega (arith, five, many, both, all, is, start, end)

pub open_nets : (N : NetlistView) (names : TapNames) (f : Fitted) → length (stitched_open N names f).nets ≡ first_behind N f
open_nets N names f =
    let both = length-append (stitched N names f).nets (added_nets (through_net N f).0 1) in
    let one = length-added_nets (through_net N f).0 1 in
    let before = stitched_nets N names f in
    let is : length (stitched_open N names f).nets ≡ length ((stitched N names f).nets ++ added_nets (through_net N f).0 1) = refl in
    omega (arith, both, one, before, is)

-- The numbers of the whole.

pub front_length : (N : NetlistView) (f : Fitted) → length (stitched_cells_by (through_net N f) N f) ≡ through_number N f
front_length N f = opened_length N f (through_net N f)

-- the buffer, with what the registers show
abbrev pub built_buffer : NetlistView → Fitted → List FittedRegister → CellView
built_buffer N f registers = through_cell N f (Net (shown_behind N f registers))

pub at_front : (M N : NetlistView) (names : TapNames) (f : Fitted) (registers : List FittedRegister) → IsBuilt M N names f registers → (k : ℕ) → k < length (stitched_cells_by (through_net N f) N f)
    → cell_at M k ≡ slice_get (stitched_cells_by (through_net N f) N f) k
at_front M N names f registers built k low =
    built.cells k ∙ slice_get-append_left (stitched_cells_by (through_net N f) N f) (built_buffer N f registers ∷ cells_behind N f registers) k low

pub at_buffer : (M N : NetlistView) (names : TapNames) (f : Fitted) (registers : List FittedRegister) → IsBuilt M N names f registers
    → cell_at M (through_number N f) ≡ Some (built_buffer N f registers)
at_buffer M N names f registers built =
    let long = front_length N f in
    let is : through_number N f ≡ length (stitched_cells_by (through_net N f) N f) + 0 = omega (arith, long) in
    built.cells (through_number N f)
    ∙ slice_get-append_right (stitched_cells_by (through_net N f) N f) (built_buffer N f registers ∷ cells_behind N f registers) (through_number N f) 0 is

pub at_behind : (M N : NetlistView) (names : TapNames) (f : Fitted) (registers : List FittedRegister) → IsBuilt M N names f registers → (k : ℕ)
    → cell_at M (number_behind N f + k) ≡ slice_get (cells_behind N f registers) k
at_behind M N names f registers built k =
    let long = front_length N f in
    let is : number_behind N f + k ≡ length (stitched_cells_by (through_net N f) N f) + suc k = omega (arith, long) in
    built.cells (number_behind N f + k)
    ∙ slice_get-append_right (stitched_cells_by (through_net N f) N f) (built_buffer N f registers ∷ cells_behind N f registers) (number_behind N f + k) (suc k) is

-- what stands under a number: a cell with the test logic, the buffer, or one of the registers' gates
abbrev pub IsBuffer : NetlistView → Fitted → List FittedRegister → ℕ → CellView → Type 0
IsBuffer N f registers i cell = (i ≡ through_number N f) × (built_buffer N f registers ≡ cell)

abbrev pub IsBehind : NetlistView → Fitted → List FittedRegister → CellView → Type 0
IsBehind N f registers cell = (k : ℕ) × (slice_get (cells_behind N f registers) k ≡ Some cell)

pub stands : (M N : NetlistView) (names : TapNames) (f : Fitted) (registers : List FittedRegister) → IsBuilt M N names f registers → (i : ℕ) (cell : CellView) → cell_at M i ≡ Some cell
    → (slice_get (stitched_cells_by (through_net N f) N f) i ≡ Some cell) ⊎ (IsBuffer N f registers i cell ⊎ IsBehind N f registers cell)
stands M N names f registers built i cell live =
    elim (split_at all (built_buffer N f registers ∷ cells_behind N f registers) i cell (sym (built.cells i) ∙ live)) [
      | inl a ↦ inl a.0
      | inr r ↦ inr (by r.0 r.1 r.2)
    ]
  where
    all : List CellView
    all = stitched_cells_by (through_net N f) N f

    by : (j : ℕ) → i ≡ length all + j → slice_get (built_buffer N f registers ∷ cells_behind N f registers) j ≡ Some cell → IsBuffer N f registers i cell ⊎ IsBehind N f registers cell
    by zero at e =
        let long : length all ≡ through_number N f = front_length N f in
        inl (omega (arith, at, long), same_Some (built_buffer N f registers) cell e)
    by (suc k) at e = inr (k, e)
