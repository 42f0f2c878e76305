-- Places in the list of cells.
use Rattle.std.proofs.Common.{◌≡◌, ◌≢◌, ℕ, zero, suc, ◌+◌, ◌<◌, ◌==◌, ◌⊎◌, inl, inr, Bool, true, false, List, [], ◌∷◌, ◌++◌, map, length, length-append, Option, Some, refl, ap, sym, ◌∙◌, subst, arith, eqb-true, eq-eqb}
use Rattle.std.specs.Prelude.{slice_get}
use Rattle.list_laws.proofs.Lists.{slice_get-append_left, slice_get-append_right}
use Rattle.cell_library.specs.declared.Kind.TheVariants.{Mux2}
use Rattle.netlist_model.specs.declared.Name.TheVariants.{Added}
use Rattle.netlist_model.specs.declared.NetId.{NetId}
use Rattle.netlist_model.specs.declared.Feed.TheVariants.{Net}
use Rattle.netlist_model.specs.Lists.{CellView, NetlistView, cell_at, cell_count}
use Rattle.plan_fitting.specs.declared.fitted.Fitted.{Fitted}
use Rattle.stitched_netlist.specs.declared.model.TapPort.{TapPort}
use Rattle.stitched_netlist.specs.Sites.{Boundary}
use Rattle.stitched_netlist.specs.Sides.{core_cell}
use Rattle.stitched_netlist.specs.ModelRows.{nets_of_rows, behind}
use Rattle.stitched_netlist.specs.ModelLogic.{logic_size, instruction_at, bypass_at, logic_cells}
use Rattle.stitched_netlist.specs.Stitched.{live_cells, boundary_at, first_net, rows_part, boundary_last, tdo_part_by, tdo_part, stitched_cells_by, stitched_cells}
use Rattle.stitched_netlist.specs.PlacesLaws.{port_of}
use Rattle.open_stitch.specs.Connected.{shows, ConnectedExtends}

same_or_not : (a b : ℕ) → (a ≡ b) ⊎ (a ≢ b)
same_or_not a b = by_test (a == b) refl
  where
    by_test : (t : Bool) → (a == b) ≡ t → (a ≡ b) ⊎ (a ≢ b)
    by_test true e = inl (eqb-true a b e)
    by_test false e = inr (λ f. let bad : false ≡ true = sym e ∙ eq-eqb a b f in cc)

split_at : {X : Type 0} (xs ys : List X) (k : ℕ) (x : X) → slice_get (xs ++ ys) k ≡ Some x
    → ((slice_get xs k ≡ Some x) × (k < length xs)) ⊎ ((j : ℕ) × (k ≡ length xs + j) × (slice_get ys j ≡ Some x))
split_at [] ys k x e = inr (k, omega arith, e)
split_at (y ∷ xs) ys zero x e = inl (e, omega arith)
split_at (y ∷ xs) ys (suc k) x e = elim (split_at xs ys k x e) [
  | inl l ↦ (let less = l.1 in inl (l.0, omega (arith, less)))
  | inr r ↦ (let there = r.1 in inr (r.0, omega (arith, there), r.2))
]

-- lists of three parts, the last of which differ in one place
same_but_one : (M : NetlistView) (front middle old new : List CellView) (place gate : ℕ) → gate ≡ length front + (length middle + place)
    → ((k : ℕ) (cell : CellView) → k ≢ gate → slice_get (front ++ (middle ++ old)) k ≡ Some cell → cell_at M k ≡ Some cell)
    → ((j : ℕ) (cell : CellView) → j ≢ place → slice_get new j ≡ Some cell → slice_get old j ≡ Some cell)
    → ((cell : CellView) → slice_get new place ≡ Some cell → cell_at M gate ≡ Some cell)
    → (k : ℕ) (cell : CellView) → slice_get (front ++ (middle ++ new)) k ≡ Some cell → cell_at M k ≡ Some cell
same_but_one M front middle old new place gate is others same mine k cell e = elim (split_at front (middle ++ new) k cell e) [
  | inl a ↦ (
      let less = a.1 in
      others k cell (λ f. absurd (omega (arith, f, is, less))) (slice_get-append_left front (middle ++ old) k a.1 ∙ a.0))
  | inr r ↦ (
      let there = r.1 in
      elim (split_at middle new r.0 cell r.2) [
        | inl b ↦ (
            let less = b.1 in
            others k cell (λ f. absurd (omega (arith, f, is, there, less)))
            (slice_get-append_right front (middle ++ old) k r.0 r.1 ∙ slice_get-append_left middle old r.0 b.1 ∙ b.0))
        | inr t ↦ (
            let here = t.1 in
            elim (same_or_not t.0 place) [
              | inl at ↦ (
                  let k_is : gate ≡ k = omega (arith, is, there, here, at) in
                  subst (λ (x : ℕ). cell_at M x ≡ Some cell) k_is (mine cell (ap (slice_get new) (sym at) ∙ t.2)))
              | inr apart ↦ others k cell (λ f. apart (omega (arith, f, is, there, here)))
                  (slice_get-append_right front (middle ++ old) k r.0 r.1 ∙ slice_get-append_right middle old r.0 t.0 t.1 ∙ same t.0 cell apart t.2)
            ])
      ])
]

-- TDO's cells.

tdo_others : (shown : NetId) (B : Boundary) (first : ℕ) (port : TapPort) (f : Fitted) (number j : ℕ) (cell : CellView) → j ≢ 4
    → slice_get (tdo_part_by shown B first port f number) j ≡ Some cell → slice_get (tdo_part B first port f number) j ≡ Some cell
tdo_others shown B first port f number zero cell apart e = e
tdo_others shown B first port f number (suc zero) cell apart e = e
tdo_others shown B first port f number (suc (suc zero)) cell apart e = e
tdo_others shown B first port f number (suc (suc (suc zero))) cell apart e = e
tdo_others shown B first port f number (suc (suc (suc (suc zero)))) cell apart e = absurd (apart refl)
tdo_others shown B first port f number (suc (suc (suc (suc (suc zero))))) cell apart e = e
tdo_others shown B first port f number (suc (suc (suc (suc (suc (suc zero)))))) cell apart e = e
tdo_others shown B first port f number (suc (suc (suc (suc (suc (suc (suc j))))))) cell apart e = e

-- the gate that chooses between the bits of the boundary and the bypass register
abbrev pub choice_cell : Boundary → ℕ → TapPort → Fitted → ℕ → CellView
choice_cell B first port f number = record {
  kind = Mux2;
  name = Some (Added (suc (suc (suc (suc number)))));
  feeds = Net (boundary_last B first port f) ∷ Net (bypass_at first f) ∷ Net (instruction_at first port f).bypass_on ∷ [];
  output = Some (record { 0 = suc (suc (suc (suc (first + logic_size f + nets_of_rows B.ports B.rows)))) });
}

record TheGate (shown : NetId) (cell : CellView) (old new : List CellView) : Type 0 where
  before : slice_get old 4 ≡ Some cell
  after : slice_get new 4 ≡ Some (shows shown cell)

tdo_gate : (shown : NetId) (B : Boundary) (first : ℕ) (port : TapPort) (f : Fitted) (number : ℕ)
    → TheGate shown (choice_cell B first port f number) (tdo_part B first port f number) (tdo_part_by shown B first port f number)
tdo_gate shown B first port f number = record { before = refl; after = refl }

tdo_long : (B : Boundary) (first : ℕ) (port : TapPort) (f : Fitted) (number : ℕ) → length (tdo_part B first port f number) ≡ 7
tdo_long B first port f number = refl

pub connected_extends : ConnectedExtends
connected_extends M N names f shown gate c = record { library = c.library; ports = c.ports; cells = same_but_one M front middle old new 4 gate is c.others others mine }
  where
    front : List CellView
    front = map (core_cell (boundary_at N f)) (live_cells N)

    middle : List CellView
    middle = behind (cell_count N) (logic_cells (first_net N f) (cell_count N) (port_of N) f) (rows_part (boundary_at N f) (first_net N f) (port_of N) f)

    number : ℕ
    number = cell_count N + length middle

    old : List CellView
    old = tdo_part (boundary_at N f) (first_net N f) (port_of N) f number

    new : List CellView
    new = tdo_part_by shown (boundary_at N f) (first_net N f) (port_of N) f number

    is : gate ≡ length front + (length middle + 4)
    is =
        let a = length-append front (middle ++ old) in
        let b = length-append middle old in
        let t = tdo_long (boundary_at N f) (first_net N f) (port_of N) f number in
        let n = c.number in
        omega (arith, a, b, t, n)

    others : (j : ℕ) (cell : CellView) → j ≢ 4 → slice_get new j ≡ Some cell → slice_get old j ≡ Some cell
    others j cell = tdo_others shown (boundary_at N f) (first_net N f) (port_of N) f number j cell

    mine : (cell : CellView) → slice_get new 4 ≡ Some cell → cell_at M gate ≡ Some cell
    mine cell e =
        let g = tdo_gate shown (boundary_at N f) (first_net N f) (port_of N) f number in
        let c4 : CellView = choice_cell (boundary_at N f) (first_net N f) (port_of N) f number in
        let in_bs : slice_get (middle ++ old) (length middle + 4) ≡ Some c4 = slice_get-append_right middle old (length middle + 4) 4 refl ∙ g.before in
        let in_all : slice_get (front ++ (middle ++ old)) gate ≡ Some c4 = slice_get-append_right front (middle ++ old) gate (length middle + 4) is ∙ in_bs in
        c.connected c4 in_all ∙ sym g.after ∙ e

-- Where that gate stands, and how many cells there are.

abbrev pub middle_cells : NetlistView → Fitted → List CellView
middle_cells N f = behind (cell_count N) (logic_cells (first_net N f) (cell_count N) (port_of N) f) (rows_part (boundary_at N f) (first_net N f) (port_of N) f)

abbrev pub choice_at : NetlistView → Fitted → CellView
choice_at N f = choice_cell (boundary_at N f) (first_net N f) (port_of N) f (cell_count N + length (middle_cells N f))

pub choice_stands : (N : NetlistView) (f : Fitted) (gate : ℕ) → gate + 3 ≡ length (stitched_cells N f) → slice_get (stitched_cells N f) gate ≡ Some (choice_at N f)
choice_stands N f gate e =
    let front : List CellView = map (core_cell (boundary_at N f)) (live_cells N) in
    let middle : List CellView = middle_cells N f in
    let last : List CellView = tdo_part (boundary_at N f) (first_net N f) (port_of N) f (cell_count N + length middle) in
    let a = length-append front (middle ++ last) in
    let b = length-append middle last in
    let t : length last ≡ 7 = tdo_long (boundary_at N f) (first_net N f) (port_of N) f (cell_count N + length middle) in
    let whole : length (stitched_cells N f) ≡ length (front ++ (middle ++ last)) = refl in
    let is : gate ≡ length front + (length middle + 4) = omega (arith, a, b, t, whole, e) in
    let g = tdo_gate (record { 0 = 0 }) (boundary_at N f) (first_net N f) (port_of N) f (cell_count N + length middle) in
    slice_get-append_right front (middle ++ last) gate (length middle + 4) is ∙ slice_get-append_right middle last (length middle + 4) 4 refl ∙ g.before

pub opened_length : (N : NetlistView) (f : Fitted) (shown : NetId) → length (stitched_cells_by shown N f) ≡ length (stitched_cells N f)
opened_length N f shown =
    let front : List CellView = map (core_cell (boundary_at N f)) (live_cells N) in
    let middle : List CellView = middle_cells N f in
    let number : ℕ = cell_count N + length middle in
    let old : List CellView = tdo_part (boundary_at N f) (first_net N f) (port_of N) f number in
    let new : List CellView = tdo_part_by shown (boundary_at N f) (first_net N f) (port_of N) f number in
    let same : length new ≡ length old = refl in
    length-append front (middle ++ new) ∙ ap (λ (n : ℕ). length front + n) (length-append middle new ∙ ap (λ (n : ℕ). length middle + n) same ∙ sym (length-append middle old))
    ∙ sym (length-append front (middle ++ old))

-- Each of these cells drives what the cell under its number drives in the stitched netlist.

pub record SameOutput (cells : List CellView) (k : ℕ) (cell : CellView) : Type 0 where
  pub other : CellView
  pub at : slice_get cells k ≡ Some other
  pub output : other.output ≡ cell.output

same_inside : (a b : CellView) → ◌≡◌ {A = Option CellView} (Some a) (Some b) → a ≡ b
same_inside a b e = cc

pub opened_output : (N : NetlistView) (f : Fitted) (shown : NetId) (k : ℕ) (cell : CellView) → slice_get (stitched_cells_by shown N f) k ≡ Some cell → SameOutput (stitched_cells N f) k cell
opened_output N f shown k cell e = elim (split_at front (middle ++ new) k cell e) [
  | inl a ↦ record { other = cell; at = slice_get-append_left front (middle ++ old) k a.1 ∙ a.0; output = refl }
  | inr r ↦ elim (split_at middle new r.0 cell r.2) [
    | inl b ↦ record {
      other = cell;
      at = slice_get-append_right front (middle ++ old) k r.0 r.1 ∙ slice_get-append_left middle old r.0 b.1 ∙ b.0;
      output = refl;
    }
    | inr t ↦ elim (same_or_not t.0 4) [
      | inl here ↦ record {
        other = choice_at N f;
        at = slice_get-append_right front (middle ++ old) k r.0 r.1 ∙ slice_get-append_right middle old r.0 t.0 t.1 ∙ ap (slice_get old) here ∙ g.before;
        output = ap (λ (c : CellView). c.output) (same_inside (shows shown (choice_at N f)) cell (sym g.after ∙ ap (slice_get new) (sym here) ∙ t.2));
      }
      | inr apart ↦ record {
        other = cell;
        at = slice_get-append_right front (middle ++ old) k r.0 r.1 ∙ slice_get-append_right middle old r.0 t.0 t.1
            ∙ tdo_others shown (boundary_at N f) (first_net N f) (port_of N) f number t.0 cell apart t.2;
        output = refl;
      }
    ]
  ]
]
  where
    front : List CellView
    front = map (core_cell (boundary_at N f)) (live_cells N)

    middle : List CellView
    middle = middle_cells N f

    number : ℕ
    number = cell_count N + length middle

    old : List CellView
    old = tdo_part (boundary_at N f) (first_net N f) (port_of N) f number

    new : List CellView
    new = tdo_part_by shown (boundary_at N f) (first_net N f) (port_of N) f number

    g : TheGate shown (choice_at N f) old new
    g = tdo_gate shown (boundary_at N f) (first_net N f) (port_of N) f number
