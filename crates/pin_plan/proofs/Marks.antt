-- The nets of hidden bits are marked, and no others; and the names of those that are, and of the others.
use Rattle.std.proofs.Common.{◌≡◌, ◌≢◌, ℕ, zero, suc, ◌+◌, ◌-◌, ◌<◌, ◌≤◌, ◌||◌, Bool, true, false, not, List, [], ◌∷◌, ◌++◌, length, take, drop, replicate, length-set, length-drop, get_or-set_other, get_or-set_same, if◌then◌else◌, refl, ap, sym, ◌∙◌, arith, eq-eqb, ne_eqb, Option, Some, None, inl, inr}
use Rattle.std.specs.Prelude.{slice_get, slice_index_or, slice_set, nat_eq}
use Rattle.std.specs.Bool.{beq}
use Rattle.std.specs.List.{list_any, enumerate_from, flat_map}
use Rattle.std.specs.Option.{option_map, option_map_or, option_and_then}
use Rattle.std.proofs.lemmas.Bool.{cases_eq}
use Rattle.std.proofs.lemmas.List.{append_assoc, append-nil, length-map, length-replicate}
use Rattle.std.proofs.lemmas.Option.{slice_get-map, slice_get_past}
use Rattle.list_laws.proofs.Lists.{front_all, slice_get_there, taken_more}
use Rattle.netlist_model.specs.declared.NetId.{NetId}
use Rattle.netlist_model.specs.declared.Name.{Name}
use Rattle.netlist_model.specs.Lists.{PortView, NetView, NetlistView, bit_net}
use Rattle.netlist_link.specs.Hidden.{EndsHidden}
use Rattle.netlist_link.specs.Linked.{LinkedView, hidden_nets}
use Rattle.link_model.specs.Denoted.{name_bytes}
use Rattle.plan_fitting.specs.Names.{is_hidden_net}
use Rattle.plan_fitting.proofs.DevicesLists.{enumerated_at}
use Rattle.pin_plan.specs.Marks.{MarksHidden, marked, nets_at, nets_of}
use Rattle.pin_plan.specs.Names.{net_name_if}

-- One by one.

marked-append : (xs ys : List ℕ) (marks : List Bool) → marked (xs ++ ys) marks ≡ marked ys (marked xs marks)
marked-append [] ys marks = refl
marked-append (x ∷ xs) ys marks = marked-append xs ys (slice_set marks x true)

pub marked-length : (nets : List ℕ) (marks : List Bool) → length (marked nets marks) ≡ length marks
marked-length [] marks = refl
marked-length (net ∷ nets) marks = marked-length nets (slice_set marks net true) ∙ length-set marks net true

-- a net of a port's bit
net_there : (N : NetlistView) (number bit : ℕ) (net : NetId) → bit_net N number bit ≡ Some net → slice_get (nets_at N number) bit ≡ Some net.0
net_there N number bit net at = by (slice_get N.ports number) refl
  where
    by : (o : Option PortView) → slice_get N.ports number ≡ o → slice_get (nets_at N number) bit ≡ Some net.0
    by None e = let no : None ≡ Some net = rw e at at in absurd (cc)
    by (Some port) e =
        let here : slice_get port.nets bit ≡ Some net = rw e at at in
        rw e (slice_get-map (λ (n : NetId). n.0) port.nets bit ∙ ap (option_map (λ (n : NetId). n.0)) here)

pub bit_marked : (N : NetlistView) (number bit : ℕ) (net : NetId) (start marks new : List Bool) → bit_net N number bit ≡ Some net
    → marks ≡ marked (take bit (nets_at N number)) start → new ≡ slice_set marks net.0 true → new ≡ marked (take (bit + 1) (nets_at N number)) start
bit_marked N number bit net start marks new at so_far grown =
    let nets = nets_at N number in
    let longer : take bit nets ++ net.0 ∷ [] ≡ take (bit + 1) nets = taken_more nets bit net.0 (take bit nets) (take bit nets ++ net.0 ∷ []) (net_there N number bit net at) refl refl in
    grown ∙ ap (λ (m : List Bool). slice_set m net.0 true) so_far ∙ sym (marked-append (take bit nets) (net.0 ∷ []) start) ∙ ap (λ (ns : List ℕ). marked ns start) longer

nets_many : (N : NetlistView) (number width : ℕ) → option_map (λ (p : PortView). length p.nets) (slice_get N.ports number) ≡ Some width → length (nets_at N number) ≡ width
nets_many N number width wide = by (slice_get N.ports number) refl
  where
    by : (o : Option PortView) → slice_get N.ports number ≡ o → length (nets_at N number) ≡ width
    by None e = let no : None ≡ Some width = rw e at wide in absurd (cc)
    by (Some port) e =
        let long : length port.nets ≡ width = let s : Some (length port.nets) ≡ Some width = rw e at wide in cc in
        rw e (length-map port.nets (λ (n : NetId). n.0) ∙ long)

-- all bits of a port
pub port_marked : (N : NetlistView) (number bit width : ℕ) (start marks : List Bool) → option_map (λ (p : PortView). length p.nets) (slice_get N.ports number) ≡ Some width → width ≤ bit
    → marks ≡ marked (take bit (nets_at N number)) start → marks ≡ marked (nets_at N number) start
port_marked N number bit width start marks wide past so_far =
    let many = nets_many N number width wide in
    so_far ∙ ap (λ (ns : List ℕ). marked ns start) (front_all (nets_at N number) bit (omega (arith, many, past)))

-- Port by port.

dropped_at : {X : Type 0} (n : ℕ) (xs : List X) (k : ℕ) → slice_get (drop n xs) k ≡ slice_get xs (n + k)
dropped_at zero xs k = let at : k ≡ 0 + k = omega arith in ap (slice_get xs) at
dropped_at (suc n) [] k = slice_get_past [] (suc n + k) (omega arith)
dropped_at (suc n) (x ∷ xs) k = let at : suc (n + k) ≡ suc n + k = omega arith in dropped_at n xs k ∙ ap (slice_get (x ∷ xs)) at

flat-push : {X Y : Type 0} (f : X → List Y) (xs : List X) (x : X) → flat_map f (xs ++ x ∷ []) ≡ flat_map f xs ++ f x
flat-push f [] x = append-nil (f x)
flat-push {Y} f (y ∷ xs) x = ap (λ (l : List Y). f y ++ l) (flat-push f xs x) ∙ sym (append_assoc (f y) (flat_map f xs) (f x))

pub next_marked : (L : LinkedView) (place number : ℕ) (start marks new : List Bool) → EndsHidden L → place < L.straight.count → number ≡ L.straight.first + place
    → marks ≡ marked (flat_map nets_of (take place (drop L.straight.first L.arena.lists.ports))) start → new ≡ marked (nets_at L.arena.lists number) marks
    → new ≡ marked (flat_map nets_of (take (place + 1) (drop L.straight.first L.arena.lists.ports))) start
next_marked L place number start marks new ends less is so_far grown =
    let ports = L.arena.lists.ports in
    let behind = drop L.straight.first ports in
    let all : L.straight.first + L.straight.count ≡ length ports = ends in
    let port = slice_get_there ports number (omega (arith, all, less, is)) in
    let there : slice_get behind place ≡ Some port.0 = dropped_at L.straight.first ports place ∙ ap (slice_get ports) (sym is) ∙ port.1 in
    let nets : nets_at L.arena.lists number ≡ nets_of port.0 = ap (λ (o : Option PortView). option_map_or nets_of o []) port.1 in
    let longer : take place behind ++ port.0 ∷ [] ≡ take (place + 1) behind = taken_more behind place port.0 (take place behind) (take place behind ++ port.0 ∷ []) there refl refl in
    grown
    ∙ ap (λ (ns : List ℕ). marked ns marks) nets
    ∙ ap (marked (nets_of port.0)) so_far
    ∙ sym (marked-append (flat_map nets_of (take place behind)) (nets_of port.0) start)
    ∙ ap (λ (ns : List ℕ). marked ns start) (sym (flat-push nets_of (take place behind) port.0) ∙ ap (flat_map nets_of) longer)

pub all_marked : (L : LinkedView) (place : ℕ) (start marks : List Bool) → EndsHidden L → L.straight.count ≤ place
    → marks ≡ marked (flat_map nets_of (take place (drop L.straight.first L.arena.lists.ports))) start → marks ≡ marked (hidden_nets L) start
all_marked L place start marks ends past so_far =
    let behind = drop L.straight.first L.arena.lists.ports in
    let all : L.straight.first + L.straight.count ≡ length L.arena.lists.ports = ends in
    let many : length behind ≡ length L.arena.lists.ports - L.straight.first = length-drop L.straight.first L.arena.lists.ports in
    let long : take place behind ≡ behind = front_all behind place (omega (arith, many, all, past)) in
    let same : take L.straight.count behind ≡ behind = front_all behind L.straight.count (omega (arith, many, all)) in
    so_far ∙ ap (λ (ports : List PortView). marked (flat_map nets_of ports) start) (long ∙ sym same)

-- What is marked.

or_true : (a b : Bool) → (a || (true || b)) ≡ true
or_true true b = refl
or_true false b = refl

or_false : (a : Bool) → a ≡ (a || false)
or_false true = refl
or_false false = refl

is_marked : (nets : List ℕ) (marks : List Bool) (net : ℕ) → net < length marks → slice_index_or (marked nets marks) net false ≡ (slice_index_or marks net false || list_any (nat_eq net) nets)
is_marked [] marks net low = or_false (slice_index_or marks net false)
is_marked (x ∷ nets) marks net low =
    let long : length (slice_set marks x true) ≡ length marks = length-set marks x true in
    is_marked nets (slice_set marks x true) net (omega (arith, long, low)) ∙ elim (cases_eq net x) [
      | inl same ↦ (let there : slice_index_or (slice_set marks x true) net false ≡ true = ap (λ (k : ℕ). slice_index_or (slice_set marks x true) k false) same ∙ set_here marks x (omega (arith, same, low)) in
          ap (λ (b : Bool). b || list_any (nat_eq net) nets) there
          ∙ sym (ap (λ (b : Bool). slice_index_or marks net false || (b || list_any (nat_eq net) nets)) (eq-eqb net x same) ∙ or_true (slice_index_or marks net false) (list_any (nat_eq net) nets)))
      | inr apart ↦ (let there : slice_index_or (slice_set marks x true) net false ≡ slice_index_or marks net false = rw get_or-set_other refl in
          ap (λ (b : Bool). b || list_any (nat_eq net) nets) there
          ∙ sym (ap (λ (b : Bool). slice_index_or marks net false || (b || list_any (nat_eq net) nets)) (ne_eqb net x apart)))
    ]
  where
    set_here : (ms : List Bool) (k : ℕ) → k < length ms → slice_index_or (slice_set ms k true) k false ≡ true
    set_here ms k inside = rw get_or-set_same refl

none_marked : (n net : ℕ) → slice_index_or (replicate n false) net false ≡ false
none_marked zero zero = refl
none_marked zero (suc net) = refl
none_marked (suc n) zero = refl
none_marked (suc n) (suc net) = none_marked n net

pub marks_hidden : (L : LinkedView) (start marks : List Bool) → start ≡ replicate (length L.arena.lists.nets) false → marks ≡ marked (hidden_nets L) start → MarksHidden L marks
marks_hidden L start marks none is =
    let long : length start ≡ length L.arena.lists.nets = ap length none ∙ length-replicate (length L.arena.lists.nets) false in
    record {
      long = ap length is ∙ marked-length (hidden_nets L) start ∙ long;
      each = λ net low.
          ap (λ (m : List Bool). slice_index_or m net false) is
          ∙ is_marked (hidden_nets L) start net (omega (arith, long, low))
          ∙ ap (λ (b : Bool). b || is_hidden_net L net) (ap (λ (m : List Bool). slice_index_or m net false) none ∙ none_marked (length L.arena.lists.nets) net);
    }

-- The name of a net.

asked : (L : LinkedView) (are : Bool) (net : ℕ) (view : NetView) → is_hidden_net L net ≡ are → net_name_if L are (net, view) ≡ name_bytes L.names view.name
asked L true net view is = ap (λ (b : Bool). if b then name_bytes L.names view.name else None) is
asked L false net view is = ap (λ (b : Bool). if b then None else name_bytes L.names view.name) is

unasked : (L : LinkedView) (are : Bool) (net : ℕ) (view : NetView) → is_hidden_net L net ≡ not are → net_name_if L are (net, view) ≡ None
unasked L true net view is = ap (λ (b : Bool). if b then name_bytes L.names view.name else None) is
unasked L false net view is = ap (λ (b : Bool). if b then None else name_bytes L.names view.name) is

view_there : (L : LinkedView) (are : Bool) (net : ℕ) (view : NetView) → slice_get L.arena.lists.nets net ≡ Some view
    → option_and_then (net_name_if L are) (slice_get (enumerate_from 0 L.arena.lists.nets) net) ≡ net_name_if L are (net, view)
view_there L are net view there =
    let at : 0 + net ≡ net = omega arith in
    ap (option_and_then (net_name_if L are)) (enumerated_at 0 L.arena.lists.nets net view there ∙ ap (λ (k : ℕ). Some (k, view)) at)

pub net_is_told : (L : LinkedView) (marks : List Bool) (are : Bool) (net : ℕ) (name : Name) → MarksHidden L marks → net < length L.arena.lists.nets
    → option_map (λ (found : NetView). found.name) (slice_get L.arena.lists.nets net) ≡ Some name → slice_index_or marks net false ≡ are
    → option_and_then (net_name_if L are) (slice_get (enumerate_from 0 L.arena.lists.nets) net) ≡ name_bytes L.names name
net_is_told L marks are net name mark low named is =
    let view = slice_get_there L.arena.lists.nets net low in
    let some : Some view.0.name ≡ Some name = ap (option_map (λ (found : NetView). found.name)) (sym view.1) ∙ named in
    let same : view.0.name ≡ name = cc in
    view_there L are net view.0 view.1 ∙ asked L are net view.0 (sym (mark.each net low) ∙ is) ∙ ap (name_bytes L.names) same

pub net_is_passed : (L : LinkedView) (marks : List Bool) (are : Bool) (net : ℕ) → MarksHidden L marks → net < length L.arena.lists.nets → slice_index_or marks net false ≡ not are
    → option_and_then (net_name_if L are) (slice_get (enumerate_from 0 L.arena.lists.nets) net) ≡ None
net_is_passed L marks are net mark low is =
    let view = slice_get_there L.arena.lists.nets net low in
    view_there L are net view.0 view.1 ∙ unasked L are net view.0 (sym (mark.each net low) ∙ is)

pub differ : (a b : Bool) → not (beq a b) ≡ true → a ≡ not b
differ true true h = absurd (cc)
differ true false h = refl
differ false true h = refl
differ false false h = absurd (cc)

pub agree : (a b : Bool) → not (beq a b) ≡ false → a ≡ b
agree true true h = refl
agree true false h = absurd (cc)
agree false true h = absurd (cc)
agree false false h = refl
