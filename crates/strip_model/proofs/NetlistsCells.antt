-- The items of a module with test logic: the core's, and the added ones behind them.
use Rattle.std.proofs.Common.{◌≡◌, ℕ, suc, ◌+◌, ◌<◌, ◌-◌, true, false, List, [], ◌∷◌, ◌++◌, map, length, filter_map, take, refl, Option, Some, None, slice_get, arith, length-append}
use Rattle.std.specs.Fmt.{decimal}
use Rattle.std.specs.Str.{bytes_eq}
use Rattle.std.proofs.lemmas.Slice.Eq.{bytes_eq-Decides}
use Rattle.list_laws.proofs.Lists.{front_of, last_push}
use Rattle.cell_library.specs.Library.{cell_name}
use Rattle.netlist_model.specs.declared.Name.{Name}
use Rattle.netlist_model.specs.declared.Name.TheVariants.{Original, Added}
use Rattle.netlist_model.specs.Lists.{CellView, live_cell}
use Rattle.verilog_tree.specs.declared.tree.GateKind.{GateKind}
use Rattle.verilog_tree.specs.declared.tree.Item.{Item}
use Rattle.netlist_unlink.specs.Trees.{Naming, added, cell_text, gate_of, written, item_of, items_from}
use Rattle.stitched_netlist.specs.Sites.{Boundary}
use Rattle.stitched_netlist.specs.Sides.{core_cell}
use Rattle.stitched_netlist.specs.Stitched.{same_place}
use Rattle.strip_model.specs.Core.{begins, name_of, is_added, before_added, core_item}
use Rattle.strip_model.specs.Prefix.{before_end, prefix_of}
use Rattle.strip_model.specs.Pairs.{Pair, IsUndone}
use Rattle.strip_model.specs.Chain.{written_side}
use Rattle.strip_model.specs.NetlistsTold.{IsOwn}
use Rattle.strip_model.proofs.Nets.{AreNets}
use Rattle.strip_model.proofs.Items.{IsWrittenAlike, item_told}

-- The core, told.

-- own: what is known of each live cell
abbrev pub AreTold : Naming → Naming → List Pair → Boundary → List (Option CellView) → Type 0
AreTold naming own pairs B cells = (i : ℕ) (cell : CellView) → live_cell (slice_get cells i) ≡ Some cell
    → IsUndone pairs (core_cell B cell) cell × ((n m : ℕ) → IsWrittenAlike naming own n m cell)

pub core_told : (naming own : Naming) (pairs : List Pair) → AreNets naming pairs → (B : Boundary) (n m : ℕ) (cells : List (Option CellView)) → AreTold naming own pairs B cells
    → map (core_item (map (written_side naming) pairs)) (items_from naming n (map Some (map (core_cell B) (filter_map same_place cells)))) ≡ items_from own m cells
core_told naming own pairs are B n m [] told = refl
core_told naming own pairs are B n m (None ∷ cells) told = core_told naming own pairs are B n (m + 1) cells (λ i cell at. told (suc i) cell at)
core_told naming own pairs are B n m (Some cell ∷ cells) told =
    let here = told 0 cell refl in
    let one = item_told naming own pairs are n m cell (core_cell B cell).feeds (core_cell B cell).output here.0.feeds here.0.output (here.1 n m) in
    let rest = core_told naming own pairs are B (n + 1) (m + 1) cells (λ i other at. told (suc i) other at) in
    rw (one, rest) refl

-- Names.

empty_apart : (prefix : List ℕ) → 0 < length prefix → begins prefix [] ≡ false
empty_apart [] some = absurd (omega (arith, some))
empty_apart (p ∷ prefix) some = refl

own_apart : (naming : Naming) (n : ℕ) (name : Name) → IsOwn naming.table naming.prefix name → begins naming.prefix (cell_text naming n name) ≡ false
own_apart naming n (Original number) own = own.1
own_apart naming n (Added number) own = absurd own

item_own : (naming : Naming) (n : ℕ) (cell : CellView) → 0 < length naming.prefix → ((name : Name) → cell.name ≡ Some name → IsOwn naming.table naming.prefix name)
    → is_added naming.prefix (item_of naming n cell) ≡ false
item_own naming n cell some own = at (gate_of cell.kind) (cell_name naming.library cell.kind) cell.name refl
  where
    at : (gate : Option GateKind) (library : Option (List ℕ)) (name : Option Name) → cell.name ≡ name → is_added naming.prefix (written naming n cell gate library) ≡ false
    at (Some kind) library None e = rw e refl
    at (Some kind) library (Some name) e = rw e (own_apart naming n name (own name e))
    at None (Some port) None e = rw e (empty_apart naming.prefix some)
    at None (Some port) (Some name) e = rw e (own_apart naming n name (own name e))
    at None None name e = refl

-- the cells of the core stand before the first added one
pub core_first : (naming : Naming) (B : Boundary) (n : ℕ) (cells : List (Option CellView)) (first : Item) (more : List Item) → 0 < length naming.prefix
    → ((i : ℕ) (cell : CellView) (name : Name) → live_cell (slice_get cells i) ≡ Some cell → cell.name ≡ Some name → IsOwn naming.table naming.prefix name)
    → is_added naming.prefix first ≡ true
    → before_added naming.prefix (items_from naming n (map Some (map (core_cell B) (filter_map same_place cells))) ++ first ∷ more)
    ≡ items_from naming n (map Some (map (core_cell B) (filter_map same_place cells)))
core_first naming B n [] first more some own is = rw is refl
core_first naming B n (None ∷ cells) first more some own is = core_first naming B n cells first more some (λ i cell name at e. own (suc i) cell name at e) is
core_first naming B n (Some cell ∷ cells) first more some own is =
    let here = item_own naming n (core_cell B cell) some (λ name e. own 0 cell name refl e) in
    let rest = core_first naming B (n + 1) cells first more some (λ i other name at e. own (suc i) other name at e) is in
    rw (here, rest) refl

-- The prefix.

before_joined : (front end : List ℕ) → before_end end (front ++ end) ≡ Some front
before_joined front end =
    let count = length-append front end in
    let left : length (front ++ end) - length end ≡ length front = omega (arith, count) in
    let taken : take (length front) (front ++ end) ≡ front = front_of front end (length front) refl in
    let same : bytes_eq (front ++ end) (front ++ end) ≡ true = grind (arith, bytes_eq-Decides (front ++ end) (front ++ end)) in
    rw (left, taken, same) refl

pub prefix_told : (naming : Naming) (items : List Item) (last : Item) → name_of last ≡ Some (added naming.prefix 99 (length items)) → prefix_of (items ++ last ∷ []) ≡ Some naming.prefix
prefix_told naming items last named =
    let count = length-append items (last ∷ []) in
    let at : length (items ++ last ∷ []) - 1 ≡ length items = omega (arith, count) in
    let there : slice_get (items ++ last ∷ []) (length items) ≡ Some last = last_push items last in
    rw (at, there, named) (before_joined naming.prefix (99 ∷ decimal (length items)))
