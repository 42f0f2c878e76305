-- The test of a prefix is exact.
use Rattle.std.proofs.Common.{◌≡◌, ℕ, suc, ◌+◌, ◌<◌, ◌≤◌, Bool, true, false, ◌&&◌, not, List, [], ◌∷◌, ◌++◌, length, drop, refl, ap, sym, ◌∙◌, subst, Option, Some, None, IsTrue, arith}
use Rattle.std.specs.Prelude.{slice_get, slice_index_or, unwrap_or, ◌↔◌, nat_eq, nat_le, IsSome}
use Rattle.std.specs.List.{list_all, starts_with}
use Rattle.std.proofs.lemmas.Bool.Decides.{nat_tests}
use Rattle.std.specs.Option.{option_map}
use Rattle.std.proofs.lemmas.Option.{same_Some, slice_get-get_or}
use Rattle.std.proofs.lemmas.Bool.{and_parts, and_from}
use Rattle.list_laws.proofs.Lists.{slice_get_there, left_at, begins_joined, test_at}
use Rattle.verilog_lexicon.specs.Bytes.{is_letter}
use Rattle.netlist_model.specs.declared.CellId.{CellId}
use Rattle.netlist_model.specs.declared.Name.{Name}
use Rattle.netlist_model.specs.declared.Name.TheVariants.{Original, Added}
use Rattle.netlist_model.specs.Lists.{CellView, NetView, NetlistView, PortView, cell_at}
use Rattle.netlist_model.specs.Orders.{IsCellOrder}
use Rattle.netlist_arena.specs.Arena.{ArenaView}
use Rattle.netlist_link.specs.Linked.{IsLinked, LinkedView}
use Rattle.netlist_link.specs.WellNamed.{IsKnown}
use Rattle.netlist_unlink.specs.Trees.{original}
use Rattle.netlist_unlink.specs.Prefixes.{IsFreePrefix, IsPrefix, IsUsed, port as used_port, net as used_net, cell as used_cell}
use Rattle.netlist_unlink.specs.FreeNames.{cells_are_free, has_free_name, is_free_cell, is_free_name, is_free_prefix, is_prefix, is_word_byte, nets_are_free, ports_are_free}

all_from : {X : Type 0} (test : X → Bool) (xs : List X) → ((k : ℕ) (x : X) → slice_get xs k ≡ Some x → test x ≡ true) → list_all test xs ≡ true
all_from test [] each = refl
all_from test (x ∷ xs) each = and_from (test x) (list_all test xs) (each 0 x refl) (all_from test xs (λ k y at. each (suc k) y at))

-- what begins with the bytes

joined_begins : (xs prefix : List ℕ) → starts_with nat_eq xs prefix ≡ true → xs ≡ prefix ++ drop (length prefix) xs
joined_begins xs [] h = refl
joined_begins [] (x ∷ prefix) h = absurd (cc)
joined_begins (y ∷ xs) (x ∷ prefix) h =
    let parts = and_parts (nat_eq x y) (starts_with nat_eq xs prefix) h in
    let same : y ≡ x = grind (arith, nat_tests, parts.0) in
    ap (λ (z : ℕ). z ∷ xs) same ∙ ap (λ (zs : List ℕ). x ∷ zs) (joined_begins xs prefix parts.1)

-- a prefix

prefix_word : (prefix : List ℕ) → is_prefix prefix ≡ true → IsPrefix prefix
prefix_word [] h = absurd (cc)
prefix_word (first ∷ rest) h =
    let one = and_parts (nat_le (length (first ∷ rest)) 32) (is_letter first && list_all is_word_byte rest) h in
    let two = and_parts (is_letter first) (list_all is_word_byte rest) one.1 in
    record { first = first; rest = rest; is = refl; letter = two.0; word = two.1; short = grind (arith, nat_tests, one.0) }

word_prefix : (prefix : List ℕ) → IsPrefix prefix → is_prefix prefix ≡ true
word_prefix prefix p =
    let whole : prefix ≡ p.first ∷ p.rest = p.is in
    let short : length (p.first ∷ p.rest) ≤ 32 = let s = p.short in let same : length prefix ≡ length (p.first ∷ p.rest) = ap (λ (xs : List ℕ). length xs) whole in omega arith in
    ap is_prefix whole ∙ and_from (nat_le (length (p.first ∷ p.rest)) 32) (is_letter p.first && list_all is_word_byte p.rest) (grind (arith, nat_tests, short)) (and_from (is_letter p.first) (list_all is_word_byte p.rest) p.letter p.word)

-- a name

abbrev IsFree : LinkedView → List ℕ → Name → Type 0
IsFree linked prefix name = (number : ℕ) (rest : List ℕ) → name ≡ Original number → slice_get linked.names number ≡ Some (prefix ++ rest) → ⊥

name_free : (linked : LinkedView) (prefix : List ℕ) (name : Name) → is_free_name linked.names prefix name ≡ true → IsFree linked prefix name
name_free linked prefix (Added other) h number rest same at = cc
name_free linked prefix (Original other) h number rest same at =
    let e : other ≡ number = cc in
    let text : original linked.names other ≡ prefix ++ rest = ap (original linked.names) e ∙ ap (λ (o : Option (List ℕ)). unwrap_or o []) at in
    let begins : starts_with nat_eq (original linked.names other) prefix ≡ true = ap (λ (xs : List ℕ). starts_with nat_eq xs prefix) text ∙ begins_joined prefix rest in
    let bad : not true ≡ true = ap not (sym begins) ∙ h in
    cc

free_name : (linked : LinkedView) (prefix : List ℕ) (name : Name) → IsKnown linked.names name → IsFree linked prefix name → is_free_name linked.names prefix name ≡ true
free_name linked prefix (Added other) known free = refl
free_name linked prefix (Original other) known free = go (starts_with nat_eq (original linked.names other) prefix) refl
  where
    go : (b : Bool) → starts_with nat_eq (original linked.names other) prefix ≡ b → not (starts_with nat_eq (original linked.names other) prefix) ≡ true
    go false e = ap not e
    go true e =
        let x = slice_get_there linked.names other (omega arith) in
        let text : original linked.names other ≡ x.0 = ap (λ (o : Option (List ℕ)). unwrap_or o []) x.1 in
        let whole = joined_begins (original linked.names other) prefix e in
        absurd (free other (drop (length prefix) (original linked.names other)) refl (x.1 ∙ ap Some (sym text ∙ whole)))

-- all names

cell_free : (linked : LinkedView) (prefix : List ℕ) (i : ℕ) (cell : CellView) (name : Name) → IsCellOrder linked.arena.lists linked.order → cells_are_free linked prefix linked.order ≡ true → cell_at linked.arena.lists i ≡ Some cell
    → cell.name ≡ Some name → is_free_name linked.names prefix name ≡ true
cell_free linked prefix i cell name order all at named =
    let place = order.each i (rw at refl) in
    let here = test_at (λ (c : CellId). is_free_cell linked.names prefix (cell_at linked.arena.lists c.0)) linked.order place.0 (record { 0 = i }) all place.1 in
    ap (has_free_name linked.names prefix) (sym named) ∙ ap (is_free_cell linked.names prefix) (sym at) ∙ here

free_all : (linked : LinkedView) (prefix : List ℕ) → IsLinked linked.arena.lists linked.names linked.order → is_free_prefix linked prefix ≡ true → IsFreePrefix linked prefix
free_all linked prefix is h =
    let N : NetlistView = linked.arena.lists in
    let one = and_parts (is_prefix prefix) (ports_are_free linked.names prefix N.ports && (nets_are_free linked.names prefix N.nets && cells_are_free linked prefix linked.order)) h in
    let two = and_parts (ports_are_free linked.names prefix N.ports) (nets_are_free linked.names prefix N.nets && cells_are_free linked prefix linked.order) one.1 in
    let three = and_parts (nets_are_free linked.names prefix N.nets) (cells_are_free linked prefix linked.order) two.1 in
    record { word = prefix_word prefix one.0; free = λ number rest used at. go (Original number) used two.0 three.0 three.1 number rest refl at }
  where
    go : (name : Name) → IsUsed linked.arena.lists name → ports_are_free linked.names prefix linked.arena.lists.ports ≡ true → nets_are_free linked.names prefix linked.arena.lists.nets ≡ true
        → cells_are_free linked prefix linked.order ≡ true → IsFree linked prefix name
    go _ (used_port p view at) ports nets cells = name_free linked prefix view.name (test_at (λ (x : PortView). is_free_name linked.names prefix x.name) linked.arena.lists.ports p view ports at)
    go _ (used_net n view at) ports nets cells = name_free linked prefix view.name (test_at (λ (x : NetView). is_free_name linked.names prefix x.name) linked.arena.lists.nets n view nets at)
    go _ (used_cell i cell name at named) ports nets cells = name_free linked prefix name (cell_free linked prefix i cell name is.ordered cells at named)

all_free : (linked : LinkedView) (prefix : List ℕ) → IsLinked linked.arena.lists linked.names linked.order → IsFreePrefix linked prefix → is_free_prefix linked prefix ≡ true
all_free linked prefix is free =
    let N : NetlistView = linked.arena.lists in
    let U : Name → Type 0 = IsUsed N in
    let one : (name : Name) → IsKnown linked.names name → IsUsed N name → is_free_name linked.names prefix name ≡ true =
    λ name known used. free_name linked prefix name known (λ number rest same at. free.free number rest (subst U same used) at) in
    let ports = all_from (λ (x : PortView). is_free_name linked.names prefix x.name) N.ports (λ p view at.
    let has = is.named.port_names p view at in
    let K : Name → Type 0 = IsKnown linked.names in
    one view.name (subst K (sym has.1) has.2) (used_port p view at)) in
    let nets = all_from (λ (x : NetView). is_free_name linked.names prefix x.name) N.nets (λ n view at. one view.name (is.named.net_names n view at) (used_net n view at)) in
    let cells = all_from (λ (c : CellId). is_free_cell linked.names prefix (cell_at N c.0)) linked.order (λ place c at. by_cell c.0 (cell_at N c.0) refl one) in
    and_from (is_prefix prefix) (ports_are_free linked.names prefix N.ports && (nets_are_free linked.names prefix N.nets && cells_are_free linked prefix linked.order)) (word_prefix prefix free.word)
    (and_from (ports_are_free linked.names prefix N.ports) (nets_are_free linked.names prefix N.nets && cells_are_free linked prefix linked.order) ports
    (and_from (nets_are_free linked.names prefix N.nets) (cells_are_free linked prefix linked.order) nets cells))
  where
    by_cell : (i : ℕ) (o : Option CellView) → cell_at linked.arena.lists i ≡ o
        → ((name : Name) → IsKnown linked.names name → IsUsed linked.arena.lists name → is_free_name linked.names prefix name ≡ true) → is_free_cell linked.names prefix o ≡ true
    by_cell i None e one = refl
    by_cell i (Some cell) e one = by_name cell.name refl
      where
        by_name : (n : Option Name) → cell.name ≡ n → has_free_name linked.names prefix n ≡ true
        by_name None named = refl
        by_name (Some name) named = one name (is.named.cell_names i cell name e named) (used_cell i cell name e named)

pub free_iff : (linked : LinkedView) (prefix : List ℕ) → IsLinked linked.arena.lists linked.names linked.order → IsTrue (is_free_prefix linked prefix) ↔ IsFreePrefix linked prefix
free_iff linked prefix is = (free_all linked prefix is, all_free linked prefix is)

-- a loop's step, by what is left

left_passes : {X : Type 0} (test : X → Bool) (xs : List X) (i : ℕ) (x : X) → slice_get xs i ≡ Some x → test x ≡ true → list_all test (drop i xs) ≡ list_all test xs → list_all test (drop (i + 1) xs) ≡ list_all test xs
left_passes test xs i x at passes so_far =
    let split = left_at xs i x at in
    let next : i + 1 ≡ suc i = omega arith in
    ap (λ (k : ℕ). list_all test (drop k xs)) next ∙ sym (ap (λ (b : Bool). b && list_all test (drop (suc i) xs)) passes) ∙ sym (ap (list_all test) split) ∙ so_far

left_fails : {X : Type 0} (test : X → Bool) (xs : List X) (i : ℕ) (x : X) → slice_get xs i ≡ Some x → test x ≡ false → list_all test (drop i xs) ≡ list_all test xs → false ≡ list_all test xs
left_fails test xs i x at fails so_far =
    let split = left_at xs i x at in
    sym (ap (λ (b : Bool). b && list_all test (drop (suc i) xs)) fails) ∙ sym (ap (list_all test) split) ∙ so_far

pub port_passes : (table : List (List ℕ)) (prefix : List ℕ) (ports : List PortView) (i : ℕ) (name : Name) (free : Bool) → option_map (λ (found : PortView). found.name) (slice_get ports i) ≡ Some name
    → free ≡ is_free_name table prefix name → free ≡ true → ports_are_free table prefix (drop i ports) ≡ ports_are_free table prefix ports → ports_are_free table prefix (drop (i + 1) ports) ≡ ports_are_free table prefix ports
port_passes table prefix ports i name free at is passes so_far = go (slice_get ports i) refl at
  where
    go : (o : Option PortView) → slice_get ports i ≡ o → option_map (λ (found : PortView). found.name) o ≡ Some name → ports_are_free table prefix (drop (i + 1) ports) ≡ ports_are_free table prefix ports
    go None e same = absurd (cc)
    go (Some p) e same = left_passes (λ (x : PortView). is_free_name table prefix x.name) ports i p e (ap (is_free_name table prefix) (same_Some p.name name same) ∙ sym is ∙ passes) so_far

pub port_fails : (table : List (List ℕ)) (prefix : List ℕ) (ports : List PortView) (i : ℕ) (name : Name) (free : Bool) → option_map (λ (found : PortView). found.name) (slice_get ports i) ≡ Some name
    → free ≡ is_free_name table prefix name → free ≡ false → ports_are_free table prefix (drop i ports) ≡ ports_are_free table prefix ports → false ≡ ports_are_free table prefix ports
port_fails table prefix ports i name free at is fails so_far = go (slice_get ports i) refl at
  where
    go : (o : Option PortView) → slice_get ports i ≡ o → option_map (λ (found : PortView). found.name) o ≡ Some name → false ≡ ports_are_free table prefix ports
    go None e same = absurd (cc)
    go (Some p) e same = left_fails (λ (x : PortView). is_free_name table prefix x.name) ports i p e (ap (is_free_name table prefix) (same_Some p.name name same) ∙ sym is ∙ fails) so_far

pub net_passes : (table : List (List ℕ)) (prefix : List ℕ) (nets : List NetView) (i : ℕ) (name : Name) (free : Bool) → option_map (λ (found : NetView). found.name) (slice_get nets i) ≡ Some name
    → free ≡ is_free_name table prefix name → free ≡ true → nets_are_free table prefix (drop i nets) ≡ nets_are_free table prefix nets → nets_are_free table prefix (drop (i + 1) nets) ≡ nets_are_free table prefix nets
net_passes table prefix nets i name free at is passes so_far = go (slice_get nets i) refl at
  where
    go : (o : Option NetView) → slice_get nets i ≡ o → option_map (λ (found : NetView). found.name) o ≡ Some name → nets_are_free table prefix (drop (i + 1) nets) ≡ nets_are_free table prefix nets
    go None e same = absurd (cc)
    go (Some n) e same = left_passes (λ (x : NetView). is_free_name table prefix x.name) nets i n e (ap (is_free_name table prefix) (same_Some n.name name same) ∙ sym is ∙ passes) so_far

pub net_fails : (table : List (List ℕ)) (prefix : List ℕ) (nets : List NetView) (i : ℕ) (name : Name) (free : Bool) → option_map (λ (found : NetView). found.name) (slice_get nets i) ≡ Some name
    → free ≡ is_free_name table prefix name → free ≡ false → nets_are_free table prefix (drop i nets) ≡ nets_are_free table prefix nets → false ≡ nets_are_free table prefix nets
net_fails table prefix nets i name free at is fails so_far = go (slice_get nets i) refl at
  where
    go : (o : Option NetView) → slice_get nets i ≡ o → option_map (λ (found : NetView). found.name) o ≡ Some name → false ≡ nets_are_free table prefix nets
    go None e same = absurd (cc)
    go (Some n) e same = left_fails (λ (x : NetView). is_free_name table prefix x.name) nets i n e (ap (is_free_name table prefix) (same_Some n.name name same) ∙ sym is ∙ fails) so_far

-- a cell of the order is live
pub order_live : (N : NetlistView) (order items : List CellId) (i : ℕ) (d : CellId) → IsCellOrder N order → items ≡ order → i < length items → IsSome (cell_at N (slice_index_or items i d).0)
order_live N order items i d is same less =
    let at : slice_get order i ≡ Some (slice_index_or items i d) = ap (λ (xs : List CellId). slice_get xs i) (sym same) ∙ slice_get-get_or items i d less in
    is.only i (slice_index_or items i d).0 at

-- the name of a net in an arena that is the netlist's
pub net_name_there : (mine other : ArenaView) (n : ℕ) (name : Name) → mine ≡ other → option_map (λ (found : NetView). found.name) (slice_get mine.lists.nets n) ≡ Some name
    → option_map (λ (found : NetView). found.name) (slice_get other.lists.nets n) ≡ Some name
net_name_there mine other n name same at =
    let P : ArenaView → Type 0 = λ a. option_map (λ (found : NetView). found.name) (slice_get a.lists.nets n) ≡ Some name in subst P same at
