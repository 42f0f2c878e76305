-- Names that are collected one by one, and how wide ports are.
use Rattle.std.proofs.Common.{◌≡◌, ℕ, zero, suc, ◌+◌, ◌<◌, ◌≤◌, ◌^◌, List, [], ◌∷◌, ◌++◌, length, take, Bor, refl, ap, sym, ◌∙◌, arith, Option, Some, None}
use Rattle.std.specs.Prelude.{slice_get, IsSome}
use Rattle.std.specs.List.{filter_map, cons_option}
use Rattle.std.specs.Option.{option_map, option_and_then}
use Rattle.std.proofs.lemmas.List.{append_assoc, append-nil}
use Rattle.std.proofs.lemmas.List.Sums.{sum_by-cons}
use Rattle.netlist_model.specs.declared.Name.{Name}
use Rattle.netlist_model.specs.declared.Range.{Range}
use Rattle.netlist_model.specs.Lists.{PortView, NetView, CellView, NetlistView, live_cell}
use Rattle.netlist_model.specs.Formed.{IsLaidOut, width_of}
use Rattle.netlist_arena.specs.Arena.{bit_count}
use Rattle.link_model.specs.Denoted.{name_bytes}
use Rattle.texts.specs.Repeated.{texts}
use Rattle.plan_fitting.specs.Names.{name_of_cell}

-- One by one.

abbrev listed : {Y : Type 0} → Option Y → List Y
listed None = []
listed (Some y) = y ∷ []

joined : {Y : Type 0} (o : Option Y) (xs ys : List Y) → cons_option o (xs ++ ys) ≡ cons_option o xs ++ ys
joined None xs ys = refl
joined (Some y) xs ys = refl

alone : {Y : Type 0} (o : Option Y) → cons_option o [] ≡ listed o
alone None = refl
alone (Some y) = refl

one_more : {X Y : Type 0} (f : X → Option Y) (xs : List X) (i : ℕ) → filter_map f (take (suc i) xs) ≡ filter_map f (take i xs) ++ listed (option_and_then f (slice_get xs i))
one_more f [] zero = refl
one_more f [] (suc i) = refl
one_more f (x ∷ xs) zero = alone (f x)
one_more {X} {Y} f (x ∷ xs) (suc i) =
    ap (λ (l : List Y). cons_option (f x) l) (one_more f xs i) ∙ joined (f x) (filter_map f (take i xs)) (listed (option_and_then f (slice_get xs i)))

pub collected : {X Y : Type 0} (f : X → Option Y) (xs : List X) (i : ℕ) (y : Y) (base front new : List Y) → option_and_then f (slice_get xs i) ≡ Some y
    → front ≡ base ++ filter_map f (take i xs) → new ≡ front ++ y ∷ [] → new ≡ base ++ filter_map f (take (i + 1) xs)
collected {X} {Y} f xs i y base front new at so_far grown =
    let next : i + 1 ≡ suc i = omega arith in
    grown ∙ ap (λ (l : List Y). l ++ y ∷ []) so_far ∙ append_assoc base (filter_map f (take i xs)) (y ∷ [])
    ∙ ap (λ (l : List Y). base ++ l) (
    ap (λ (o : Option Y). filter_map f (take i xs) ++ listed o) (sym at)
    ∙ sym (one_more f xs i)
    ∙ ap (λ (k : ℕ). filter_map f (take k xs)) (sym next)
    )

pub passed : {X Y : Type 0} (f : X → Option Y) (xs : List X) (i : ℕ) (base front : List Y) → option_and_then f (slice_get xs i) ≡ None
    → front ≡ base ++ filter_map f (take i xs) → front ≡ base ++ filter_map f (take (i + 1) xs)
passed {X} {Y} f xs i base front at so_far =
    let next : i + 1 ≡ suc i = omega arith in
    so_far
    ∙ ap (λ (l : List Y). base ++ l) (
    sym (append-nil (filter_map f (take i xs)))
    ∙ ap (λ (o : Option Y). filter_map f (take i xs) ++ listed o) (sym at)
    ∙ sym (one_more f xs i)
    ∙ ap (λ (k : ℕ). filter_map f (take k xs)) (sym next)
    )

-- Cells.

pub cell_there : (names : List (List ℕ)) (places : List (Option CellView)) (i : ℕ) → option_and_then (name_of_cell names) (slice_get places i) ≡ name_of_cell names (live_cell (slice_get places i))
cell_there names places i = by (slice_get places i) refl
  where
    by : (o : Option (Option CellView)) → slice_get places i ≡ o → option_and_then (name_of_cell names) (slice_get places i) ≡ name_of_cell names (live_cell (slice_get places i))
    by None e = rw e refl
    by (Some place) e = rw e refl

pub dead_behind : (names : List (List ℕ)) (places : List (Option CellView)) (bound : ℕ) → ((i : ℕ) → IsSome (live_cell (slice_get places i)) → i < bound)
    → filter_map (name_of_cell names) (take bound places) ≡ filter_map (name_of_cell names) places
dead_behind names [] zero below = refl
dead_behind names [] (suc bound) below = refl
dead_behind names (None ∷ places) zero below = dead_behind names places zero (λ i live. let no = below (suc i) live in absurd (omega arith))
dead_behind names (Some cell ∷ places) zero below = let no = below zero refl in absurd (omega arith)
dead_behind names (place ∷ places) (suc bound) below =
    ap (λ (l : List (List ℕ)). cons_option (name_of_cell names place) l) (dead_behind names places bound (λ i live. let more = below (suc i) live in omega arith))

-- Nets.

pub net_text : (table : List (List ℕ)) (N : NetlistView) (net : ℕ) (name : Name) → option_map (λ (found : NetView). found.name) (slice_get N.nets net) ≡ Some name
    → option_and_then (λ (found : NetView). name_bytes table found.name) (slice_get N.nets net) ≡ name_bytes table name
net_text table N net name at = by (slice_get N.nets net) refl
  where
    by : (o : Option NetView) → slice_get N.nets net ≡ o → option_and_then (λ (found : NetView). name_bytes table found.name) (slice_get N.nets net) ≡ name_bytes table name
    by None e = let no : None ≡ Some name = rw e at at in absurd (cc)
    by (Some view) e = let same : view.name ≡ name = let s : Some view.name ≡ Some name = rw e at at in cc in rw e (ap (name_bytes table) same)

-- Widths.

width_below : (ports : List PortView) (p : ℕ) (port : PortView) → slice_get ports p ≡ Some port → length port.nets ≤ bit_count ports
width_below [] p port at = absurd (cc)
width_below (first ∷ ports) zero port at =
    let same : first ≡ port = cc in
    let lengths : length first.nets ≡ length port.nets = ap (λ (v : PortView). length v.nets) same in
    let sum = sum_by-cons (λ (v : PortView). length v.nets) first ports in
    omega (arith, lengths, sum)
width_below (first ∷ ports) (suc p) port at =
    let more = width_below ports p port at in
    let sum = sum_by-cons (λ (v : PortView). length v.nets) first ports in
    omega (arith, more, sum)

pub width_fits : (N : NetlistView) (p : ℕ) (range : Option Range) (width pins : ℕ) → IsLaidOut N → option_map (λ (found : PortView). found.range) (slice_get N.ports p) ≡ Some range
    → width ≡ width_of range → pins ≡ bit_count N.ports → pins < 2 ^ 32
    → (width < 2 ^ 32) × (option_map (λ (found : PortView). length found.nets) (slice_get N.ports p) ≡ Some width)
width_fits N p range width pins laid at is count few = by (slice_get N.ports p) refl
  where
    by : (o : Option PortView) → slice_get N.ports p ≡ o → (width < 2 ^ 32) × (option_map (λ (found : PortView). length found.nets) (slice_get N.ports p) ≡ Some width)
    by None e = let no : None ≡ Some range = rw e at at in absurd (cc)
    by (Some port) e =
        let same : port.range ≡ range = let s : Some port.range ≡ Some range = rw e at at in cc in
        let wide : length port.nets ≡ width = laid.widths p port e ∙ ap width_of same ∙ sym is in
        let below = width_below N.ports p port e in
        (omega (arith, wide, below, count, few), rw e (ap (λ (n : ℕ). Some n) wide))

pub width_small : (N : NetlistView) (p : ℕ) (range : Option Range) (width pins : ℕ) → IsLaidOut N → option_map (λ (found : PortView). found.range) (slice_get N.ports p) ≡ Some range
    → width ≡ width_of range → pins ≡ bit_count N.ports → pins < 2 ^ 32 → width < 2 ^ 32
width_small N p range width pins laid at is count few = (width_fits N p range width pins laid at is count few).0

-- Texts.

texts-last : (names : List (Bor (List ℕ))) (name : Bor (List ℕ)) → texts (names ++ name ∷ []) ≡ texts names ++ name.now ∷ []
texts-last [] name = refl
texts-last (n ∷ names) name = ap (λ (l : List (List ℕ)). n.now ∷ l) (texts-last names name)

pub text_collected : {X : Type 0} (f : X → Option (List ℕ)) (xs : List X) (i : ℕ) (name : Bor (List ℕ)) (base : List (List ℕ)) (names new : List (Bor (List ℕ))) → option_and_then f (slice_get xs i) ≡ Some name.now
    → texts names ≡ base ++ filter_map f (take i xs) → new ≡ names ++ name ∷ [] → texts new ≡ base ++ filter_map f (take (i + 1) xs)
text_collected f xs i name base names new at so_far grown = collected f xs i name.now base (texts names) (texts new) at so_far (ap texts grown ∙ texts-last names name)

pub name_collected : {X : Type 0} (f : X → Option (List ℕ)) (xs : List X) (i : ℕ) (o : Option (List ℕ)) (base front new : List (List ℕ)) → option_and_then f (slice_get xs i) ≡ o
    → front ≡ base ++ filter_map f (take i xs) → new ≡ front ++ cons_option o [] → new ≡ base ++ filter_map f (take (i + 1) xs)
name_collected f xs i None base front new at so_far grown = passed f xs i base new at (grown ∙ append-nil front ∙ so_far)
name_collected f xs i (Some name) base front new at so_far grown = collected f xs i name base front new at so_far grown
