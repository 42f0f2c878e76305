-- The names of a tree: none stands twice.
use Rattle.std.proofs.Common.{◌≡◌, ℕ, zero, suc, ◌+◌, ◌<◌, ◌^◌, List, [], ◌∷◌, ◌++◌, length, map, refl, ap, sym, ◌∙◌, subst, inl, inr, Option, Some, None, arith}
use Rattle.std.specs.Prelude.{slice_get, unwrap_or, IsSome}
use Rattle.std.specs.Fmt.{decimal}
use Rattle.std.specs.Option.{option_map}
use Rattle.std.specs.List.{filter_map}
use Rattle.std.proofs.lemmas.Fmt.{decimal_injective}
use Rattle.std.proofs.lemmas.List.{append_cancel_left, map-append}
use Rattle.std.proofs.lemmas.Option.{same_Some, slice_get_within}
use Rattle.list_laws.proofs.Lists.{slice_get_there, map_same}
use Rattle.verilog_tree.specs.declared.tree.Item.{Item}
use Rattle.verilog_tree.specs.declared.tree.Item.TheVariants as item
use Rattle.verilog_tree.specs.declared.tree.Port.{Port}
use Rattle.verilog_tree.specs.declared.tree.Wire.{Wire}
use Rattle.cell_library.specs.declared.listed.ListedCell.{ListedCell}
use Rattle.netlist_model.specs.declared.Name.{Name}
use Rattle.netlist_model.specs.declared.Name.TheVariants.{Original, Added}
use Rattle.netlist_model.specs.Lists.{PortView, NetView, CellView, NetlistView, cell_at, live_cell}
use Rattle.link_model.specs.Cells.{cell_of}
use Rattle.link_model.specs.Faults.{item_name, names_of}
use Rattle.netlist_link.specs.Linked.{LinkedView}
use Rattle.netlist_link.specs.WellNamed.{IsWellNamed, IsWireNet}
use Rattle.netlist_unlink.specs.declared.rows.NetRow.{NetRow}
use Rattle.netlist_unlink.specs.Rows.{rows}
use Rattle.netlist_unlink.specs.Trees.{Naming, added, added_from, cell_text, item_of, items_from, naming_of, original, port_of, port_text, tree_of, wire_of}
use Rattle.netlist_unlink.specs.Prefixes.{IsFreePrefix, IsUsed, port as used_port, net as used_net, cell as used_cell}
use Rattle.netlist_unlink.specs.Renumbered.{added_test, numbers_from}
use Rattle.netlist_unlink.proofs.Apart.{Apart, Disjoint, NotIn, all_of_joined, apart_joined, apart_mapped, disjoint_joined, mapped_apart, not_in_joined}
use Rattle.netlist_unlink.proofs.Kept.{are_kept}
use Rattle.netlist_unlink.proofs.Members.{joined_source, map_twice, mapped_source, number_source, numbers_apart}
use Rattle.netlist_unlink.proofs.Nets.{AreNamed, rows_from}
use Rattle.netlist_unlink.proofs.WireRows.{HasNet, row_name}

-- what a name of the tree is made from: a name of the table, or the number of an added net or cell
pub data Key : Type 0 where
  of_table : ℕ → Key
  of_net : ℕ → Key
  of_cell : ℕ → Key

abbrev pub key_text : List (List ℕ) → List ℕ → Key → List ℕ
key_text table prefix (of_table number) = original table number
key_text table prefix (of_net number) = added prefix 110 number
key_text table prefix (of_cell number) = added prefix 99 number

abbrev IsKey : LinkedView → Key → Type 0
IsKey linked (of_table number) = (number < length linked.names) × IsUsed linked.arena.lists (Original number)
IsKey linked (of_net number) = number < 2 ^ 32
IsKey linked (of_cell number) = number < 2 ^ 32

-- what is known of a netlist that is written with a prefix
pub record CanName (linked : LinkedView) (prefix : List ℕ) : Type 0 where
  pub are : AreNamed linked.names linked.arena.lists
  pub free : IsFreePrefix linked prefix
  pub few : length linked.arena.lists.nets < 2 ^ 32
  pub numbers : (i : ℕ) → IsSome (cell_at linked.arena.lists i) → i < 2 ^ 32

-- Keys are told apart by their texts.

-- the bytes of an original name
original_at : (table : List (List ℕ)) (number : ℕ) → number < length table → slice_get table number ≡ Some (original table number)
original_at table number less =
    let x = slice_get_there table number (omega arith) in
    let name : original table number ≡ x.0 = ap (λ (o : Option (List ℕ)). unwrap_or o []) x.1 in
    x.1 ∙ ap Some (sym name)

not_free : (linked : LinkedView) (prefix : List ℕ) (number : ℕ) (rest : List ℕ) → IsFreePrefix linked prefix → IsKey linked (of_table number) → original linked.names number ≡ prefix ++ rest → ⊥
not_free linked prefix number rest free is same = free.free number rest is.1 (original_at linked.names number is.0 ∙ ap Some same)

same_added : (prefix : List ℕ) (letter one other : ℕ) → one < 2 ^ 32 → other < 2 ^ 32 → added prefix letter one ≡ added prefix letter other → one ≡ other
same_added prefix letter one other low high same =
    let rest : letter ∷ decimal one ≡ letter ∷ decimal other = append_cancel_left prefix (letter ∷ decimal one) (letter ∷ decimal other) same in
    decimal_injective one other (omega arith) (omega arith) (cc)

same_first : (x y : ℕ) (xs ys : List ℕ) → x ∷ xs ≡ y ∷ ys → x ≡ y
same_first x y xs ys same = cc

other_letter : (prefix : List ℕ) (one other : ℕ) → added prefix 110 one ≡ added prefix 99 other → ⊥
other_letter prefix one other same =
    let rest : 110 ∷ decimal one ≡ 99 ∷ decimal other = append_cancel_left prefix (110 ∷ decimal one) (99 ∷ decimal other) same in
    let letters = same_first 110 99 (decimal one) (decimal other) rest in
    omega arith

key_one : (linked : LinkedView) (prefix : List ℕ) → CanName linked prefix → (a b : Key) → IsKey linked a → IsKey linked b → key_text linked.names prefix a ≡ key_text linked.names prefix b → a ≡ b
key_one linked prefix w (of_table m) (of_table n) a b same =
    ap of_table (w.are.named.once m n (original linked.names n) (original_at linked.names m a.0 ∙ ap Some same) (original_at linked.names n b.0))
key_one linked prefix w (of_table m) (of_net n) a b same = absurd (not_free linked prefix m (110 ∷ decimal n) w.free a same)
key_one linked prefix w (of_table m) (of_cell n) a b same = absurd (not_free linked prefix m (99 ∷ decimal n) w.free a same)
key_one linked prefix w (of_net m) (of_table n) a b same = absurd (not_free linked prefix n (110 ∷ decimal m) w.free b (sym same))
key_one linked prefix w (of_net m) (of_net n) a b same = ap of_net (same_added prefix 110 m n a b same)
key_one linked prefix w (of_net m) (of_cell n) a b same = absurd (other_letter prefix m n same)
key_one linked prefix w (of_cell m) (of_table n) a b same = absurd (not_free linked prefix n (99 ∷ decimal m) w.free b (sym same))
key_one linked prefix w (of_cell m) (of_net n) a b same = absurd (other_letter prefix n m (sym same))
key_one linked prefix w (of_cell m) (of_cell n) a b same = ap of_cell (same_added prefix 99 m n a b same)

-- Ports.

abbrev name_key : Name → Key
name_key (Original number) = of_table number
name_key (Added number) = of_net number

abbrev port_key : PortView → Key
port_key p = name_key p.name

-- the name of a port
record HasKey (linked : LinkedView) (p : ℕ) (view : PortView) : Type 0 where
  number : ℕ
  is : view.name ≡ Original number
  key : port_key view ≡ of_table number
  known : IsKey linked (of_table number)

port_has : (linked : LinkedView) (p : ℕ) (view : PortView) → IsWellNamed linked.names linked.arena.lists → slice_get linked.arena.lists.ports p ≡ Some view → HasKey linked p view
port_has linked p view named at =
    let has = named.port_names p view at in
    let number : ℕ = has.0 in
    let is : view.name ≡ Original number = has.1 in
    let U : Name → Type 0 = IsUsed linked.arena.lists in
    record { number = number; is = is; key = ap name_key is; known = (has.2, subst U is (used_port p view at)) }

port_names : (linked : LinkedView) (prefix : List ℕ) → IsWellNamed linked.names linked.arena.lists
    → map (λ (p : Port). p.name) (map (port_of linked.names) linked.arena.lists.ports) ≡ map (key_text linked.names prefix) (map port_key linked.arena.lists.ports)
port_names linked prefix named =
    map_twice (λ (p : Port). p.name) (port_of linked.names) linked.arena.lists.ports
    ∙ map_same (λ (p : PortView). port_text linked.names p.name) (λ (p : PortView). key_text linked.names prefix (port_key p)) linked.arena.lists.ports
    (λ k view at. let has = port_has linked k view named at in ap (port_text linked.names) has.is ∙ sym (ap (key_text linked.names prefix) has.key))
    ∙ sym (map_twice (key_text linked.names prefix) port_key linked.arena.lists.ports)

ports_apart : (linked : LinkedView) → IsWellNamed linked.names linked.arena.lists → Apart (map port_key linked.arena.lists.ports)
ports_apart linked named = mapped_apart port_key linked.arena.lists.ports (λ j k x y one two same.
    let a = port_has linked j x named one in
    let b = port_has linked k y named two in
    let keys : of_table a.number ≡ of_table b.number = sym a.key ∙ same ∙ b.key in
    let numbers : a.number ≡ b.number = cc in
    named.ports_apart j k x y one two (a.is ∙ ap Original numbers ∙ sym b.is))

-- where a port's key comes from
record FromPort (linked : LinkedView) (key : Key) : Type 0 where
  p : ℕ
  view : PortView
  at : slice_get linked.arena.lists.ports p ≡ Some view
  has : HasKey linked p view
  is : key ≡ of_table has.number

from_port : (linked : LinkedView) (k : ℕ) (key : Key) → IsWellNamed linked.names linked.arena.lists → slice_get (map port_key linked.arena.lists.ports) k ≡ Some key → FromPort linked key
from_port linked k key named at =
    let from = mapped_source port_key linked.arena.lists.ports k key at in
    let has = port_has linked k from.from named from.there in
    record { p = k; view = from.from; at = from.there; has = has; is = sym from.is ∙ has.key }

-- Wires.

abbrev row_keys : List NetRow → List Key
row_keys found = map of_table (map row_name found)

row_names : (table : List (List ℕ)) (prefix : List ℕ) (found : List NetRow) → map (λ (w : Wire). w.name) (map (wire_of table) found) ≡ map (key_text table prefix) (row_keys found)
row_names table prefix [] = refl
row_names table prefix (row ∷ found) = ap (λ (names : List (List ℕ)). original table row.name ∷ names) (row_names table prefix found)

number_one : (m n : ℕ) → of_table m ≡ of_table n → m ≡ n
number_one m n same = cc

net_one : (m n : ℕ) → of_net m ≡ of_net n → m ≡ n
net_one m n same = cc

-- where a row's key comes from
record FromRow (N : NetlistView) (key : Key) : Type 0 where
  number : ℕ
  is : key ≡ of_table number
  net : ℕ
  wire : IsWireNet N net (Original number)

from_row : (N : NetlistView) (found : List NetRow) (k : ℕ) (key : Key) → ((j : ℕ) (row : NetRow) → slice_get found j ≡ Some row → HasNet N 0 row) → slice_get (row_keys found) k ≡ Some key → FromRow N key
from_row N found k key each at =
    let one = mapped_source of_table (map row_name found) k key at in
    let two = mapped_source row_name found k one.from one.there in
    let has = each k two.from two.there in
    record { number = two.from.name; is = sym one.is ∙ ap of_table (sym two.is); net = has.net; wire = has.is }

row_known : (linked : LinkedView) (key : Key) → IsWellNamed linked.names linked.arena.lists → FromRow linked.arena.lists key → IsKey linked key
row_known linked key named from =
    let U : Name → Type 0 = IsUsed linked.arena.lists in
    let K : Key → Type 0 = IsKey linked in
    let wire = from.wire in
    let known : from.number < length linked.names = rw wire.named at (named.net_names from.net wire.view wire.there) in
    subst K (sym from.is) (known, subst U wire.named (used_net from.net wire.view wire.there))

-- Added nets.

added_names : (table : List (List ℕ)) (prefix : List ℕ) (from : ℕ) (nets : List NetView)
    → map (λ (w : Wire). w.name) (added_from prefix from nets) ≡ map (key_text table prefix) (map of_net (numbers_from added_test from nets))
added_names table prefix from [] = refl
added_names table prefix from (view ∷ nets) = by_name view.name refl (added_names table prefix (from + 1) nets)
  where
    by_name : (name : Name) → view.name ≡ name → map (λ (w : Wire). w.name) (added_from prefix (from + 1) nets) ≡ map (key_text table prefix) (map of_net (numbers_from added_test (from + 1) nets))
        → map (λ (w : Wire). w.name) (added_from prefix from (view ∷ nets)) ≡ map (key_text table prefix) (map of_net (numbers_from added_test from (view ∷ nets)))
    by_name (Original number) is rest = rw is rest
    by_name (Added number) is rest = rw is (ap (λ (names : List (List ℕ)). added prefix 110 from ∷ names) rest)

-- where an added net's key comes from
record FromNet (nets : List NetView) (key : Key) : Type 0 where
  number : ℕ
  is : key ≡ of_net number
  less : number < length nets

from_net : (nets : List NetView) (k : ℕ) (key : Key) → slice_get (map of_net (numbers_from added_test 0 nets)) k ≡ Some key → FromNet nets key
from_net nets k key at =
    let one = mapped_source of_net (numbers_from added_test 0 nets) k key at in
    let two = number_source added_test 0 nets k one.from one.there in
    let less = slice_get_within nets two.k two.view two.there in
    let is = two.is in
    record { number = one.from; is = sym one.is; less = omega arith }

-- Items.

abbrev cell_key : ℕ → Name → Key
cell_key number (Original place) = of_table place
cell_key number (Added other) = of_cell number

abbrev name_keys : ℕ → Option Name → List Key
name_keys number None = []
name_keys number (Some name) = cell_key number name ∷ []

abbrev item_keys : ℕ → List (Option CellView) → List Key
item_keys number [] = []
item_keys number (None ∷ cells) = item_keys (number + 1) cells
item_keys number (Some cell ∷ cells) = name_keys number cell.name ++ item_keys (number + 1) cells

cell_key_text : (naming : Naming) (number : ℕ) (name : Name) → cell_text naming number name ≡ key_text naming.table naming.prefix (cell_key number name)
cell_key_text naming number (Original place) = refl
cell_key_text naming number (Added other) = refl

named_item : (library : List ListedCell) (x : Item) → (cell_of library [] x).name ≡ item_name x
named_item library (item.Gate g) = refl
named_item library (item.Instance i) = refl
named_item library (item.Assign output input) = refl

item_names : (naming : Naming) (number : ℕ) (cells : List (Option CellView))
    → ((k : ℕ) (cell : CellView) → live_cell (slice_get cells k) ≡ Some cell → item_name (item_of naming (number + k) cell) ≡ option_map (cell_text naming (number + k)) cell.name)
    → filter_map item_name (items_from naming number cells) ≡ map (key_text naming.table naming.prefix) (item_keys number cells)
item_names naming number [] each = refl
item_names naming number (None ∷ cells) each =
    item_names naming (number + 1) cells (λ k cell at.
    let same : number + suc k ≡ number + 1 + k = omega arith in
    let P : ℕ → Type 0 = λ n. item_name (item_of naming n cell) ≡ option_map (cell_text naming n) cell.name in
    subst P same (each (suc k) cell at))
item_names naming number (Some first ∷ cells) each =
    let zeroth : number + 0 ≡ number = omega arith in
    let F : ℕ → Type 0 = λ n. item_name (item_of naming n first) ≡ option_map (cell_text naming n) first.name in
    by_name first.name refl (subst F zeroth (each 0 first refl)) (item_names naming (number + 1) cells (λ k cell at.
    let same : number + suc k ≡ number + 1 + k = omega arith in
    let P : ℕ → Type 0 = λ n. item_name (item_of naming n cell) ≡ option_map (cell_text naming n) cell.name in
    subst P same (each (suc k) cell at)))
  where
    by_name : (name : Option Name) → first.name ≡ name → item_name (item_of naming number first) ≡ option_map (cell_text naming number) first.name
        → filter_map item_name (items_from naming (number + 1) cells) ≡ map (key_text naming.table naming.prefix) (item_keys (number + 1) cells)
        → filter_map item_name (items_from naming number (Some first ∷ cells)) ≡ map (key_text naming.table naming.prefix) (item_keys number (Some first ∷ cells))
    by_name None is here rest =
        let none : item_name (item_of naming number first) ≡ None = here ∙ ap (option_map (cell_text naming number)) is in
        rw (none, is) rest
    by_name (Some name) is here rest =
        let some : item_name (item_of naming number first) ≡ Some (cell_text naming number name) = here ∙ ap (option_map (cell_text naming number)) is in
        rw (some, is) (ap (λ (names : List (List ℕ)). cell_text naming number name ∷ names) rest
        ∙ ap (λ (text : List ℕ). text ∷ map (key_text naming.table naming.prefix) (item_keys (number + 1) cells)) (cell_key_text naming number name))

-- where an item's key comes from
record FromItem (number : ℕ) (cells : List (Option CellView)) (key : Key) : Type 0 where
  k : ℕ
  cell : CellView
  name : Name
  at : live_cell (slice_get cells k) ≡ Some cell
  named : cell.name ≡ Some name
  is : key ≡ cell_key (number + k) name

later_item : (number : ℕ) (first : Option CellView) (cells : List (Option CellView)) (key : Key) → FromItem (number + 1) cells key → FromItem number (first ∷ cells) key
later_item number first cells key f =
    let same : number + 1 + f.k ≡ number + suc f.k = omega arith in
    record { k = suc f.k; cell = f.cell; name = f.name; at = f.at; named = f.named; is = f.is ∙ ap (λ (n : ℕ). cell_key n f.name) same }

from_item : (number : ℕ) (cells : List (Option CellView)) (j : ℕ) (key : Key) → slice_get (item_keys number cells) j ≡ Some key → FromItem number cells key
from_item number [] j key at = absurd (cc)
from_item number (None ∷ cells) j key at = later_item number None cells key (from_item (number + 1) cells j key at)
from_item number (Some first ∷ cells) j key at =
    elim (joined_source (name_keys number first.name) (item_keys (number + 1) cells) j key at) [
      | inr there ↦ later_item number (Some first) cells key (from_item (number + 1) cells there.0 key there.1)
      | inl here ↦ one first.name refl here.0 here.1
    ]
  where
    one : (name : Option Name) → first.name ≡ name → (i : ℕ) → slice_get (name_keys number name) i ≡ Some key → FromItem number (Some first ∷ cells) key
    one None is i here = absurd (cc)
    one (Some name) is zero here =
        let zeroth : number ≡ number + 0 = omega arith in
        record { k = 0; cell = first; name = name; at = refl; named = is; is = sym (same_Some (cell_key number name) key here) ∙ ap (λ (n : ℕ). cell_key n name) zeroth }
    one (Some name) is (suc i) here = absurd (cc)

-- no two live cells have the same original name
abbrev CellsApart : List (Option CellView) → Type 0
CellsApart cells = (j k number : ℕ) (cell other : CellView) → live_cell (slice_get cells j) ≡ Some cell → live_cell (slice_get cells k) ≡ Some other
    → cell.name ≡ Some (Original number) → other.name ≡ Some (Original number) → j ≡ k

later_apart : (first : Option CellView) (cells : List (Option CellView)) → CellsApart (first ∷ cells) → CellsApart cells
later_apart first cells apart j k number cell other one two named also = let e : suc j ≡ suc k = apart (suc j) (suc k) number cell other one two named also in omega arith

first_alone : (number : ℕ) (first : CellView) (name : Name) (cells : List (Option CellView)) → CellsApart (Some first ∷ cells) → first.name ≡ Some name → NotIn (cell_key number name) (item_keys (number + 1) cells)
first_alone number first name cells apart is j at = go name (from_item (number + 1) cells j (cell_key number name) at) is
  where
    go : (mine : Name) → FromItem (number + 1) cells (cell_key number mine) → first.name ≡ Some mine → ⊥
    go mine f is = by mine f.name is f.named f.is
      where
        by : (mine its : Name) → first.name ≡ Some mine → f.cell.name ≡ Some its → cell_key number mine ≡ cell_key (number + 1 + f.k) its → ⊥
        by (Original m) (Original n) a b same =
            let e : m ≡ n = number_one m n same in
            let bad : 0 ≡ suc f.k = apart 0 (suc f.k) n first f.cell refl f.at (a ∙ ap (λ (x : ℕ). Some (Original x)) e) b in
            omega arith
        by (Original m) (Added n) a b same = cc
        by (Added m) (Original n) a b same = cc
        by (Added m) (Added n) a b same = let e : number ≡ number + 1 + f.k = cc in omega arith

items_apart : (number : ℕ) (cells : List (Option CellView)) → CellsApart cells → Apart (item_keys number cells)
items_apart number [] apart = tt
items_apart number (None ∷ cells) apart = items_apart (number + 1) cells (later_apart None cells apart)
items_apart number (Some first ∷ cells) apart = go first.name refl (items_apart (number + 1) cells (later_apart (Some first) cells apart))
  where
    go : (name : Option Name) → first.name ≡ name → Apart (item_keys (number + 1) cells) → Apart (name_keys number name ++ item_keys (number + 1) cells)
    go None is rest = rest
    go (Some name) is rest = (first_alone number first name cells apart is, rest)

item_known : (linked : LinkedView) (prefix : List ℕ) (key : Key) → CanName linked prefix → FromItem 0 linked.arena.lists.cells key → IsKey linked key
item_known linked prefix key w f = by f.name f.named f.is
  where
    K : Key → Type 0
    K = IsKey linked

    by : (name : Name) → f.cell.name ≡ Some name → key ≡ cell_key (0 + f.k) name → IsKey linked key
    by (Original n) named is =
        subst K (sym is) (w.are.named.cell_names f.k f.cell (Original n) f.at named, used_cell f.k f.cell (Original n) f.at named)
    by (Added n) named is =
        let less = w.numbers f.k (rw f.at refl) in
        let low : 0 + f.k < 2 ^ 32 = omega arith in
        subst K (sym is) low

-- All names.

abbrev front_keys : NetlistView → List Key
front_keys N = map port_key N.ports ++ (row_keys (rows N.ports N.nets) ++ map of_net (numbers_from added_test 0 N.nets))

abbrev keys : NetlistView → List Key
keys N = front_keys N ++ item_keys 0 N.cells

zeroth_net : (N : NetlistView) (k : ℕ) (view : NetView) → slice_get N.nets k ≡ Some view → slice_get N.nets (0 + k) ≡ Some view
zeroth_net N k view at = let zeroth : 0 + k ≡ k = omega arith in ap (slice_get N.nets) zeroth ∙ at

names_are : (linked : LinkedView) (prefix : List ℕ) → CanName linked prefix → names_of (tree_of linked prefix) ≡ map (key_text linked.names prefix) (keys linked.arena.lists)
names_are linked prefix w =
    let N : NetlistView = linked.arena.lists in
    let table : List (List ℕ) = linked.names in
    let text : Key → List ℕ = key_text table prefix in
    let found : List NetRow = rows N.ports N.nets in
    let named : (k : ℕ) (cell : CellView) → live_cell (slice_get N.cells k) ≡ Some cell → item_name (item_of (naming_of linked prefix) (0 + k) cell) ≡ option_map (cell_text (naming_of linked prefix) (0 + k)) cell.name =
    λ k cell at.
    let zeroth : k ≡ 0 + k = omega arith in
    let P : ℕ → Type 0 = λ n. item_name (item_of (naming_of linked prefix) n cell) ≡ option_map (cell_text (naming_of linked prefix) n) cell.name in
    let kept = are_kept N (naming_of linked prefix) refl w.are.named w.are.formed [] k cell at in
    subst P zeroth (sym (named_item N.library (item_of (naming_of linked prefix) k cell)) ∙ kept.name) in
    let p = port_names linked prefix w.are.named in
    let r = map-append (λ (x : Wire). x.name) (map (wire_of table) found) (added_from prefix 0 N.nets)
    ∙ ap (λ (xs : List (List ℕ)). xs ++ map (λ (x : Wire). x.name) (added_from prefix 0 N.nets)) (row_names table prefix found)
    ∙ ap (λ (xs : List (List ℕ)). map text (row_keys found) ++ xs) (added_names table prefix 0 N.nets)
    ∙ sym (map-append text (row_keys found) (map of_net (numbers_from added_test 0 N.nets))) in
    let i = item_names (naming_of linked prefix) 0 N.cells named in
    let P : List Key = map port_key N.ports in
    let R : List Key = row_keys found ++ map of_net (numbers_from added_test 0 N.nets) in
    let I : List Key = item_keys 0 N.cells in
    let left : map text ((P ++ R) ++ I) ≡ (map text P ++ map text R) ++ map text I = map-append text (P ++ R) I ∙ ap (λ (xs : List (List ℕ)). xs ++ map text I) (map-append text P R) in
    let wires : List (List ℕ) = map (λ (x : Wire). x.name) (map (wire_of table) found ++ added_from prefix 0 N.nets) in
    let names : List (List ℕ) = filter_map item_name (items_from (naming_of linked prefix) 0 N.cells) in
    ap (λ (xs : List (List ℕ)). (xs ++ wires) ++ names) p ∙ ap (λ (xs : List (List ℕ)). (map text P ++ xs) ++ names) r ∙ ap (λ (xs : List (List ℕ)). (map text P ++ map text R) ++ xs) i ∙ sym left

-- keys of different things differ

port_or_row : (linked : LinkedView) (key : Key) → IsWellNamed linked.names linked.arena.lists → FromPort linked key → FromRow linked.arena.lists key → ⊥
port_or_row linked key named a b =
    let same : a.has.number ≡ b.number = number_one a.has.number b.number (sym a.is ∙ b.is) in
    let name : Original b.number ≡ a.view.name = ap Original (sym same) ∙ sym a.has.is in
    let W : Name → Type 0 = IsWireNet linked.arena.lists b.net in
    named.port_or_wire a.p b.net a.view a.at (subst W name b.wire)

port_or_added : (linked : LinkedView) (key : Key) → FromPort linked key → FromNet linked.arena.lists.nets key → ⊥
port_or_added linked key a b = let bad : of_table a.has.number ≡ of_net b.number = sym a.is ∙ b.is in cc

row_or_added : (N : NetlistView) (key : Key) → FromRow N key → FromNet N.nets key → ⊥
row_or_added N key a b = let bad : of_table a.number ≡ of_net b.number = sym a.is ∙ b.is in cc

port_or_item : (linked : LinkedView) (key : Key) → IsWellNamed linked.names linked.arena.lists → FromPort linked key → FromItem 0 linked.arena.lists.cells key → ⊥
port_or_item linked key named a f = by f.name f.named (sym a.is ∙ f.is)
  where
    by : (name : Name) → f.cell.name ≡ Some name → of_table a.has.number ≡ cell_key (0 + f.k) name → ⊥
    by (Original n) is same =
        let e : a.has.number ≡ n = number_one a.has.number n same in
        named.port_or_cell a.p f.k a.view f.cell a.at f.at (is ∙ ap (λ (x : ℕ). Some (Original x)) (sym e) ∙ ap Some (sym a.has.is))
    by (Added n) is same = cc

row_or_item : (linked : LinkedView) (key : Key) → IsWellNamed linked.names linked.arena.lists → FromRow linked.arena.lists key → FromItem 0 linked.arena.lists.cells key → ⊥
row_or_item linked key named a f = by f.name f.named (sym a.is ∙ f.is)
  where
    by : (name : Name) → f.cell.name ≡ Some name → of_table a.number ≡ cell_key (0 + f.k) name → ⊥
    by (Original n) is same =
        let e : a.number ≡ n = number_one a.number n same in
        named.cell_or_wire f.k a.net a.number f.cell f.at (is ∙ ap (λ (x : ℕ). Some (Original x)) (sym e)) a.wire
    by (Added n) is same = cc

added_or_item : (nets : List NetView) (cells : List (Option CellView)) (key : Key) → FromNet nets key → FromItem 0 cells key → ⊥
added_or_item nets cells key a f = by f.name (sym a.is ∙ f.is)
  where
    by : (name : Name) → of_net a.number ≡ cell_key (0 + f.k) name → ⊥
    by (Original n) same = cc
    by (Added n) same = cc

-- what is known of all rows
rows_of : (linked : LinkedView) (prefix : List ℕ) → CanName linked prefix
    → Apart (map row_name (rows linked.arena.lists.ports linked.arena.lists.nets))
    × ((j : ℕ) (row : NetRow) → slice_get (rows linked.arena.lists.ports linked.arena.lists.nets) j ≡ Some row → HasNet linked.arena.lists 0 row)
rows_of linked prefix w =
    let N : NetlistView = linked.arena.lists in
    let are = rows_from linked.names prefix N 0 N.nets w.are (omega arith) (zeroth_net N) in
    (are.apart, are.each)

keys_apart : (linked : LinkedView) (prefix : List ℕ) → CanName linked prefix → Apart (keys linked.arena.lists)
keys_apart linked prefix w =
    let N : NetlistView = linked.arena.lists in
    let named = w.are.named in
    let found : List NetRow = rows N.ports N.nets in
    let are = rows_of linked prefix w in
    let P : List Key = map port_key N.ports in
    let R : List Key = row_keys found in
    let A : List Key = map of_net (numbers_from added_test 0 N.nets) in
    let I : List Key = item_keys 0 N.cells in
    let rows_alone : Apart R = apart_mapped (λ (n : ℕ). Unit {0}) of_table (map row_name found) (λ m n a b same. number_one m n same) (λ k n at. tt) are.0 in
    let added_alone : Apart A = apart_mapped (λ (n : ℕ). Unit {0}) of_net (numbers_from added_test 0 N.nets) (λ m n a b same. net_one m n same) (λ k n at. tt) (numbers_apart added_test 0 N.nets) in
    let rows_added : Disjoint R A = λ j key at k here. row_or_added N key (from_row N found j key are.1 at) (from_net N.nets k key here) in
    let ports_others : Disjoint P (R ++ A) = λ j key at. not_in_joined key R A
    (λ k here. port_or_row linked key named (from_port linked j key named at) (from_row N found k key are.1 here))
    (λ k here. port_or_added linked key (from_port linked j key named at) (from_net N.nets k key here)) in
    let ports_items : Disjoint P I = λ j key at k here. port_or_item linked key named (from_port linked j key named at) (from_item 0 N.cells k key here) in
    let rows_items : Disjoint R I = λ j key at k here. row_or_item linked key named (from_row N found j key are.1 at) (from_item 0 N.cells k key here) in
    let added_items : Disjoint A I = λ j key at k here. added_or_item N.nets N.cells key (from_net N.nets j key at) (from_item 0 N.cells k key here) in
    apart_joined (P ++ (R ++ A)) I (apart_joined P (R ++ A) (ports_apart linked named) (apart_joined R A rows_alone added_alone rows_added) ports_others)
    (items_apart 0 N.cells (λ j k number one other at here a b. named.cells_apart j k number one other at here a b))
    (disjoint_joined P (R ++ A) I ports_items (disjoint_joined R A I rows_items added_items))

keys_known : (linked : LinkedView) (prefix : List ℕ) → CanName linked prefix → (k : ℕ) (key : Key) → slice_get (keys linked.arena.lists) k ≡ Some key → IsKey linked key
keys_known linked prefix w =
    let N : NetlistView = linked.arena.lists in
    let named = w.are.named in
    let found : List NetRow = rows N.ports N.nets in
    let are = rows_of linked prefix w in
    let P : List Key = map port_key N.ports in
    let R : List Key = row_keys found in
    let A : List Key = map of_net (numbers_from added_test 0 N.nets) in
    let I : List Key = item_keys 0 N.cells in
    let K : Key → Type 0 = IsKey linked in
    let ports : (k : ℕ) (key : Key) → slice_get P k ≡ Some key → K key = λ k key at. let f = from_port linked k key named at in subst K (sym f.is) f.has.known in
    let wires : (k : ℕ) (key : Key) → slice_get R k ≡ Some key → K key = λ k key at. row_known linked key named (from_row N found k key are.1 at) in
    let added : (k : ℕ) (key : Key) → slice_get A k ≡ Some key → K key = λ k key at.
    let f = from_net N.nets k key at in
    let less = f.less in
    let few = w.few in
    let low : f.number < 2 ^ 32 = omega arith in
    subst K (sym f.is) low in
    let items : (k : ℕ) (key : Key) → slice_get I k ≡ Some key → K key = λ k key at. item_known linked prefix key w (from_item 0 N.cells k key at) in
    all_of_joined K (P ++ (R ++ A)) I (all_of_joined K P (R ++ A) ports (all_of_joined K R A wires added)) items

-- no name of the tree stands twice
pub names_apart : (linked : LinkedView) (prefix : List ℕ) → CanName linked prefix → Apart (names_of (tree_of linked prefix))
names_apart linked prefix w =
    let A : List (List ℕ) → Type 0 = Apart in
    subst A (sym (names_are linked prefix w))
    (apart_mapped (IsKey linked) (key_text linked.names prefix) (keys linked.arena.lists) (key_one linked prefix w) (keys_known linked prefix w) (keys_apart linked prefix w))
