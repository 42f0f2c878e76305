-- What stands in the netlist with the test logic and registers: the netlist's cells, and no name of its own.
use Rattle.std.proofs.Common.{◌≡◌, ℕ, zero, suc, ◌+◌, ◌<◌, ◌⊎◌, inl, inr, List, [], ◌∷◌, ◌++◌, map, length, Some, None, refl, ap, sym, ◌∙◌, arith}
use Rattle.std.specs.Prelude.{slice_get, count_by, is_some}
use Rattle.std.proofs.lemmas.Option.{same_Some, slice_get_within}
use Rattle.list_laws.proofs.Lists.{slice_get-append_left, slice_get-append_right, slice_get_there}
use Rattle.list_laws.proofs.Options.{is_there}
use Rattle.netlist_model.specs.declared.NetId.{NetId}
use Rattle.netlist_model.specs.declared.Name.{Name}
use Rattle.netlist_model.specs.declared.Name.TheVariants.{Original, Added}
use Rattle.netlist_model.specs.declared.Feed.TheVariants.{Net}
use Rattle.netlist_model.specs.Lists.{PortView, NetView, CellView, NetlistView, cell_at, cell_count}
use Rattle.netlist_model.specs.Contained.{IsDense}
use Rattle.netlist_unlink.specs.Prefixes.{IsUsed, port as used_port, net as used_net, cell as used_cell}
use Rattle.gate_parts.specs.Parts.{added_nets}
use Rattle.plan_fitting.specs.declared.fitted.Fitted.{Fitted}
use Rattle.stitched_netlist.specs.declared.model.TapNames.{TapNames}
use Rattle.stitched_netlist.specs.declared.model.TapPort.{TapPort}
use Rattle.stitched_netlist.specs.Sites.{Boundary}
use Rattle.stitched_netlist.specs.Sides.{core_cell}
use Rattle.stitched_netlist.specs.Stitched.{live_cells, boundary_at, first_net, tdo_part_by, tdo_part, stitched_cells_by, stitched_cells, stitched}
use Rattle.stitched_netlist.specs.PlacesLaws.{port_of}
use Rattle.stitched_netlist.proofs.PlacesLaws.{counts_live, listed_at, core_there}
use Rattle.written_netlists.specs.Same.{IsSameNetlist}
use Rattle.written_netlists.proofs.ModulesLists.{same_count}
use Rattle.status_stitch.specs.open_stitch.Connected.{shows}
use Rattle.status_stitch.proofs.open_stitch.Connected.{choice_cell, middle_cells}
use Rattle.status_stitch.specs.open_stitch.Open.{through_net, through_cell, stitched_open, parts_at}
use Rattle.status_fitting.specs.declared.fitted.FittedRegister.{FittedRegister}
use Rattle.status_stitch.specs.status_build.FormedLaws.{RegistersAreNamed}
use Rattle.status_stitch.specs.Stitched.{status_first, status_number, status_size, shared_at, status_cells, status_shown, all_cells, stitched_status}

-- a place of two lists
split_at : {X : Type 0} (xs ys : List X) (k : ℕ) (x : X) → slice_get (xs ++ ys) k ≡ Some x
    → ((slice_get xs k ≡ Some x) × (k < length xs)) ⊎ ((j : ℕ) × (k ≡ length xs + j) × (slice_get ys j ≡ Some x))
split_at [] ys k x e = inr (k, omega arith, e)
split_at (y ∷ xs) ys zero x e = inl (e, omega arith)
split_at (y ∷ xs) ys (suc k) x e = elim (split_at xs ys k x e) [
  | inl l ↦ (let less = l.1 in inl (l.0, omega (arith, less)))
  | inr r ↦ (let there = r.1 in inr (r.0, omega (arith, there), r.2))
]

-- The cells of the netlist with the test logic, by their names.

record SameName (cells : List CellView) (k : ℕ) (cell : CellView) : Type 0 where
  other : CellView
  at : slice_get cells k ≡ Some other
  name : other.name ≡ cell.name

tdo_named : (shown : NetId) (B : Boundary) (first : ℕ) (port : TapPort) (f : Fitted) (number j : ℕ) (cell : CellView) → slice_get (tdo_part_by shown B first port f number) j ≡ Some cell
    → SameName (tdo_part B first port f number) j cell
tdo_named shown B first port f number zero cell e = record { other = cell; at = e; name = refl }
tdo_named shown B first port f number (suc zero) cell e = record { other = cell; at = e; name = refl }
tdo_named shown B first port f number (suc (suc zero)) cell e = record { other = cell; at = e; name = refl }
tdo_named shown B first port f number (suc (suc (suc zero))) cell e = record { other = cell; at = e; name = refl }
tdo_named shown B first port f number (suc (suc (suc (suc zero)))) cell e =
    let own : CellView = choice_cell B first port f number in
    record { other = own; at = refl; name = ap (λ (c : CellView). c.name) (same_Some (shows shown own) cell e) }
tdo_named shown B first port f number (suc (suc (suc (suc (suc zero))))) cell e = record { other = cell; at = e; name = refl }
tdo_named shown B first port f number (suc (suc (suc (suc (suc (suc zero)))))) cell e = record { other = cell; at = e; name = refl }
tdo_named shown B first port f number (suc (suc (suc (suc (suc (suc (suc j))))))) cell e = record { other = cell; at = e; name = refl }

opened_named : (N : NetlistView) (f : Fitted) (shown : NetId) (k : ℕ) (cell : CellView) → slice_get (stitched_cells_by shown N f) k ≡ Some cell → SameName (stitched_cells N f) k cell
opened_named N f shown k cell e = elim (split_at front (middle ++ new) k cell e) [
  | inl a ↦ record { other = cell; at = slice_get-append_left front (middle ++ old) k a.1 ∙ a.0; name = refl }
  | inr r ↦ elim (split_at middle new r.0 cell r.2) [
    | inl b ↦ record {
      other = cell;
      at = slice_get-append_right front (middle ++ old) k r.0 r.1 ∙ slice_get-append_left middle old r.0 b.1 ∙ b.0;
      name = refl;
    }
    | inr t ↦ (let same = tdo_named shown (boundary_at N f) (first_net N f) (port_of N) f number t.0 cell t.2 in record {
      other = same.other;
      at = slice_get-append_right front (middle ++ old) k r.0 r.1 ∙ slice_get-append_right middle old r.0 t.0 t.1 ∙ same.at;
      name = same.name;
    })
  ]
]
  where
    front : List CellView
    front = map (core_cell (boundary_at N f)) (live_cells N)

    middle : List CellView
    middle = middle_cells N f

    number : ℕ
    number = cell_count N + length middle

    old : List CellView
    old = tdo_part (boundary_at N f) (first_net N f) (port_of N) f number

    new : List CellView
    new = tdo_part_by shown (boundary_at N f) (first_net N f) (port_of N) f number

-- Names.

not_both : {A : Type 0} (name : Name) (number added : ℕ) → name ≡ Original number → name ≡ Added added → A
not_both name number added a b = absurd (let no : Original number ≡ Added added = sym a ∙ b in cc)

name_is : (cell : CellView) (name other : Name) → cell.name ≡ Some other → cell.name ≡ Some name → name ≡ other
name_is cell name other a b = same_Some name other (sym b ∙ a)

added_named : (first count k : ℕ) (view : NetView) → slice_get (added_nets first count) k ≡ Some view → (n : ℕ) × (view.name ≡ Added n)
added_named first zero k view at = absurd (let no : None ≡ Some view = at in cc)
added_named first (suc count) zero view at =
    let own : NetView = record { name = Added first; index = None } in
    (first, ap (λ (v : NetView). v.name) (sym (same_Some own view at)))
added_named first (suc count) (suc k) view at = added_named (suc first) count k view at

-- a name of one netlist is one of the other that is the same
pub used_same : (one other : NetlistView) → IsSameNetlist one other → (name : Name) → IsUsed one name → IsUsed other name
used_same one other same _ (used_port p port at) = used_port p port (ap (λ (ps : List PortView). slice_get ps p) (sym same.ports) ∙ at)
used_same one other same _ (used_net net view at) = used_net net view (ap (λ (ns : List NetView). slice_get ns net) (sym same.nets) ∙ at)
used_same one other same _ (used_cell i cell name live is) = used_cell i cell name (sym (same.cells i) ∙ live) is

-- an original name is one that the netlist with the test logic alone has
pub used_before : RegistersAreNamed → (N : NetlistView) (names : TapNames) (f : Fitted) (rs : List FittedRegister) (name : Name) (number : ℕ) → IsUsed (stitched_status N names f rs) name
    → name ≡ Original number → IsUsed (stitched N names f) name
used_before law N names f rs _ number (used_port p port at) is = used_port p port at
used_before law N names f rs _ number (used_net net view at) is = elim (split_at (stitched_open N names f).nets (added_nets (status_first N f) (status_size f rs)) net view at) [
  | inl opened ↦ elim (split_at (stitched N names f).nets (added_nets (through_net N f).0 1) net view opened.0) [
    | inl front ↦ used_net net view front.0
    | inr buffer ↦ (let n = added_named (through_net N f).0 1 buffer.0 view buffer.2 in not_both view.name number n.0 is n.1)
  ]
  | inr gate ↦ (let n = added_named (status_first N f) (status_size f rs) gate.0 view gate.2 in not_both view.name number n.0 is n.1)
]
used_before law N names f rs _ number (used_cell i cell name live has) is = elim (split_at front (buffer ∷ gates) i cell (sym (listed_at (all_cells N f rs) i) ∙ live)) [
  | inl a ↦ (let same = opened_named N f (through_net N f) i cell a.0 in used_cell i same.other name (listed_at (stitched_cells N f) i ∙ same.at) (same.name ∙ has))
  | inr r ↦ behind r.0 r.2
]
  where
    front : List CellView
    front = stitched_cells_by (through_net N f) N f

    buffer : CellView
    buffer = through_cell N f (Net (status_shown N f rs))

    gates : List CellView
    gates = status_cells N f rs

    behind : (j : ℕ) → slice_get (buffer ∷ gates) j ≡ Some cell → IsUsed (stitched N names f) name
    behind zero e =
        let same : buffer.name ≡ cell.name = ap (λ (c : CellView). c.name) (same_Some buffer cell e) in
        not_both name number (length (stitched_cells N f)) is (name_is cell name (Added (length (stitched_cells N f))) (sym same) has)
    behind (suc k) e =
        let named = law (status_first N f) (status_number N f) (shared_at N f).opcode.0 f.codes.length (shared_at N f) (parts_at N f).bypass rs cell (record { place = k; at = e }) in
        not_both name number named.number is (name_is cell name (Added named.number) named.name has)

-- Places.

-- the cells are listed without gaps
count_listed : (cells : List CellView) → count_by is_some (map Some cells) ≡ length cells
count_listed [] = refl
count_listed (c ∷ cells) = counts_live c (map Some cells) ∙ ap suc (count_listed cells)

pub status_count : (N : NetlistView) (names : TapNames) (f : Fitted) (rs : List FittedRegister) → cell_count (stitched_status N names f rs) ≡ length (all_cells N f rs)
status_count N names f rs = count_listed (all_cells N f rs)

pub stitched_count : (N : NetlistView) (names : TapNames) (f : Fitted) → cell_count (stitched N names f) ≡ length (stitched_cells N f)
stitched_count N names f = count_listed (stitched_cells N f)

-- so are those of a netlist that is the same
pub same_cells : (A N : NetlistView) (names : TapNames) (f : Fitted) (rs : List FittedRegister) → IsSameNetlist A (stitched_status N names f rs) → (k : ℕ) → cell_at A k ≡ slice_get (all_cells N f rs) k
same_cells A N names f rs same k = same.cells k ∙ listed_at (all_cells N f rs) k

pub count_after : (A N : NetlistView) (names : TapNames) (f : Fitted) (rs : List FittedRegister) → IsSameNetlist A (stitched_status N names f rs) → cell_count A ≡ length (all_cells N f rs)
count_after A N names f rs same = same_count A.cells (stitched_status N names f rs).cells same.cells ∙ status_count N names f rs

pub dense_after : (A N : NetlistView) (names : TapNames) (f : Fitted) (rs : List FittedRegister) → IsSameNetlist A (stitched_status N names f rs) → IsDense A
dense_after A N names f rs same i low =
    let many = count_after A N names f rs same in
    let there = slice_get_there (all_cells N f rs) i (omega (arith, many, low)) in
    is_there (cell_at A i) there.0 (same_cells A N names f rs same i ∙ there.1)

-- a cell of the core stands under its number, behind the boundary cells
pub core_after : (A N : NetlistView) (names : TapNames) (f : Fitted) (rs : List FittedRegister) → IsSameNetlist A (stitched_status N names f rs) → IsDense N
    → (i : ℕ) (cell : CellView) → cell_at N i ≡ Some cell → cell_at A i ≡ Some (core_cell (boundary_at N f) cell)
core_after A N names f rs same dense = core_there A N f (through_net N f) dense there
  where
    front : List CellView
    front = stitched_cells_by (through_net N f) N f

    back : List CellView
    back = through_cell N f (Net (status_shown N f rs)) ∷ status_cells N f rs

    there : (k : ℕ) (cell : CellView) → slice_get front k ≡ Some cell → cell_at A k ≡ Some cell
    there k cell at = same_cells A N names f rs same k ∙ slice_get-append_left front back k (slice_get_within front k cell at) ∙ at
