-- What is made of items, one after another.
use Rattle.std.proofs.Common.{◌≡◌, ◌⊎◌, inl, inr, ℕ, suc, ◌+◌, ◌-◌, ◌<◌, ◌≤◌, min, Bool, true, false, not, ◌&&◌, ◌||◌, if◌then◌else◌, List, [], ◌∷◌, ◌++◌, length, map, take, drop, filter, Option, Some, None, refl, sym, ap, ◌∙◌, arith, append_assoc, append-nil, length-append, length-drop, cond, replicate}
use Rattle.std.specs.List.{flat_map, list_any}
use Rattle.std.specs.Option.{option_map_or}
use Rattle.std.specs.Str.{bytes_eq}
use Rattle.std.proofs.lemmas.List.{take-append-le, drop-append-le, length-map}
use Rattle.std.proofs.lemmas.List.Folds.{list_any-append}
use Rattle.list_laws.proofs.Tests.{or_false}
use Rattle.list_laws.proofs.Lists.{none_left, front_all}
use Rattle.list_laws.proofs.Numbers.{below_or_not}
use Rattle.texts.specs.Repeated.{has_name}
use Rattle.verilog_tree.specs.declared.tree.Port.{Port}
use Rattle.verilog_tree.specs.declared.tree.Wire.{Wire}
use Rattle.verilog_tree.specs.declared.tree.Operand.{Operand}
use Rattle.verilog_tree.specs.declared.tree.Operand.TheVariants as operand
use Rattle.verilog_tree.specs.declared.tree.Instance.{Instance}
use Rattle.verilog_tree.specs.declared.tree.Item.{Item}
use Rattle.verilog_tree.specs.declared.tree.Item.TheVariants as item
use Rattle.verilog_tree.specs.declared.tree.Module.{Module}
use Rattle.box_model.specs.declared.boxes.BoxLibrary.{BoxLibrary}
use Rattle.box_model.specs.declared.boxes.BoxPort.{BoxPort}
use Rattle.box_model.specs.Ports.{cut_ports, hidden_name, hidden_bits, linked_to, other_links}
use Rattle.box_model.specs.Opened.{is_joined, item_ports, link_bits, assigns, port_items, opened_instance, opened_item, origins_from, joins_port, joins_item, is_kept_wire, hidden_ports, opened, origins}
use Rattle.box_tables.specs.Nets.{emptied}
use Rattle.box_trees.specs.Opening.{linked_joined, port_joined, item_joined, joined_names}

pub none_left_of : {X : Type 0} (xs : List X) (n : ℕ) → n ≡ length xs → n ≡ 0 → xs ≡ []
none_left_of [] n long none = refl
none_left_of (x ∷ xs) n long none = absurd (omega (arith, long, none))

-- Behind what was gathered stands what one more gives.
pub flat_next : {X Y : Type 0} (f : X → List Y) (x : X) (left rest : List X) (old new all : List Y) → left ≡ x ∷ rest → old ++ flat_map f left ≡ all → new ≡ old ++ f x → new ++ flat_map f rest ≡ all
flat_next f x left rest old new all is was made =
    ap (λ (l : List _). l ++ flat_map f rest) made ∙ append_assoc old (f x) (flat_map f rest) ∙ ap (λ (l : List _). old ++ flat_map f l) (sym is) ∙ was

pub flat_end : {X Y : Type 0} (f : X → List Y) (left : List X) (old all : List Y) → left ≡ [] → old ++ flat_map f left ≡ all → old ≡ all
flat_end f left old all none was = sym (append-nil old) ∙ ap (λ (l : List _). old ++ flat_map f l) (sym none) ∙ was

-- one more, where so many are left
pub left_more : {X : Type 0} (x : X) (left rest : List X) (number all : ℕ) → left ≡ x ∷ rest → number + length left ≡ all → number + 1 + length rest ≡ all
left_more x left rest number all is was = let long = ap (λ (l : List _). length l) is in omega (arith, long, was)

pub long_more : {X : Type 0} (x : X) (left rest : List X) (n k : ℕ) → left ≡ x ∷ rest → n ≡ length left → k + 1 ≡ n → k ≡ length rest
long_more x left rest n k is was more = let long = ap (λ (l : List _). length l) is in omega (arith, long, was, more)

-- Origins.

one_number : {X : Type 0} (number : ℕ) (xs : List X) → replicate (length xs) number ≡ map (λ (x : X). number) xs
one_number number [] = refl
one_number number (x ∷ xs) = ap (λ (l : List ℕ). number ∷ l) (one_number number xs)

many_more : (before made after : List Item) (old : List ℕ) → length old ≡ length before → after ≡ before ++ made → length after - length old ≡ length made
many_more before made after old same is =
    let long = ap (λ (l : List Item). length l) is in
    let both = length-append before made in
    omega (arith, same, long, both)

-- there are no fewer items than origins
pub not_less : (before after made : List Item) (old : List ℕ) (count : ℕ) → after ≡ before ++ made → length old ≡ length before → count ≡ length after → length old ≤ count
not_less before after made old count is same many =
    let long = ap (λ (l : List Item). length l) is in
    let both = length-append before made in
    omega (arith, long, both, same, many)

pub origins_next : (B : BoxLibrary) (m : Module) (number : ℕ) (i : Item) (left rest : List Item) (old new : List ℕ) (before after : List Item) (all : List ℕ) → left ≡ i ∷ rest → length old ≡ length before → after ≡ before ++ opened_item B m i
    → new ≡ old ++ replicate (length after - length old) number → old ++ origins_from B m number left ≡ all → new ++ origins_from B m (number + 1) rest ≡ all
origins_next B m number i left rest old new before after all is same made filled was =
    let made_here : List ℕ = map (λ (x : Item). number) (opened_item B m i) in
    let here : replicate (length after - length old) number ≡ made_here =
    ap (λ (n : ℕ). replicate n number) (many_more before (opened_item B m i) after old same made) ∙ one_number number (opened_item B m i) in
    let more : number + 1 ≡ suc number = omega arith in
    ap (λ (n : ℕ). new ++ origins_from B m n rest) more
    ∙ ap (λ (l : List ℕ). l ++ origins_from B m (suc number) rest) (filled ∙ ap (λ (l : List ℕ). old ++ l) here)
    ∙ append_assoc old made_here (origins_from B m (suc number) rest)
    ∙ ap (λ (l : List Item). old ++ origins_from B m number l) (sym is)
    ∙ was

pub origins_long : (B : BoxLibrary) (m : Module) (number : ℕ) (i : Item) (old new : List ℕ) (before after : List Item) → length old ≡ length before → after ≡ before ++ opened_item B m i
    → new ≡ old ++ replicate (length after - length old) number → length new ≡ length after
origins_long B m number i old new before after same made filled =
    let count = many_more before (opened_item B m i) after old same made in
    let long = ap (λ (l : List Item). length l) made in
    let both = length-append before (opened_item B m i) in
    ap (λ (l : List ℕ). length l) (filled ∙ ap (λ (l : List ℕ). old ++ l) (ap (λ (n : ℕ). replicate n number) count ∙ one_number number (opened_item B m i)))
    ∙ length-append old (map (λ (x : Item). number) (opened_item B m i))
    ∙ (let mapped = length-map (opened_item B m i) (λ (x : Item). number) in omega (arith, same, long, both, mapped))

pub origins_end : (B : BoxLibrary) (m : Module) (number : ℕ) (left : List Item) (old all : List ℕ) → left ≡ [] → old ++ origins_from B m number left ≡ all → old ≡ all
origins_end B m number left old all none was = sym (append-nil old) ∙ ap (λ (l : List Item). old ++ origins_from B m number l) (sym none) ∙ was

-- The ports and wires of a module alone tell what comes of its items.

bits_of_rest : (m : Module) (p : BoxPort) (o : Operand) → link_bits (emptied m) p o ≡ link_bits m p o
bits_of_rest m p (operand.Const value) = refl
bits_of_rest m p (operand.Bit b) = refl

flat_same : {X Y : Type 0} (f g : X → List Y) → ((x : X) → f x ≡ g x) → (xs : List X) → flat_map f xs ≡ flat_map g xs
flat_same f g same [] = refl
flat_same f g same (x ∷ xs) = ap (λ (l : List _). l ++ flat_map f xs) (same x) ∙ ap (λ (l : List _). g x ++ l) (flat_same f g same xs)

port_of_rest : (m : Module) (i : Instance) (p : BoxPort) → port_items (emptied m) i p ≡ port_items m i p
port_of_rest m i p = by (linked_to i.links p.name)
  where
    by : (o : Option Operand) → option_map_or (λ x. if is_joined (emptied m) i p x then [] else assigns p.dir (hidden_bits i p) (link_bits (emptied m) p x)) o []
        ≡ option_map_or (λ x. if is_joined m i p x then [] else assigns p.dir (hidden_bits i p) (link_bits m p x)) o []
    by None = refl
    by (Some x) = ap (λ (os : List Operand). if is_joined m i p x then [] else assigns p.dir (hidden_bits i p) os) (bits_of_rest m p x)

pub item_of_rest : (B : BoxLibrary) (m : Module) (i : Item) → opened_item B (emptied m) i ≡ opened_item B m i
item_of_rest B m (item.Gate g) = refl
item_of_rest B m (item.Assign output input) = refl
item_of_rest B m (item.Instance i) = by (cut_ports B i)
  where
    by : (ports : Option (List BoxPort)) → option_map_or (opened_instance (emptied m) i) ports (item.Instance i ∷ []) ≡ option_map_or (opened_instance m i) ports (item.Instance i ∷ [])
    by None = refl
    by (Some ports) = ap (λ (l : List Item). item.Instance (record i { links = other_links ports i.links }) ∷ l) (flat_same (port_items (emptied m) i) (port_items m i) (port_of_rest m i) ports)

pub items_of_rest : (B : BoxLibrary) (m : Module) (items : List Item) → flat_map (opened_item B (emptied m)) items ≡ flat_map (opened_item B m) items
items_of_rest B m items = flat_same (opened_item B (emptied m)) (opened_item B m) (item_of_rest B m) items

pub origins_of_rest : (B : BoxLibrary) (m : Module) (number : ℕ) (items : List Item) → origins_from B (emptied m) number items ≡ origins_from B m number items
origins_of_rest B m number [] = refl
origins_of_rest B m number (i ∷ items) =
    ap (λ (l : List Item). map (λ (x : Item). number) l ++ origins_from B (emptied m) (suc number) items) (item_of_rest B m i)
    ∙ ap (λ (l : List ℕ). map (λ (x : Item). number) (opened_item B m i) ++ l) (origins_of_rest B m (suc number) items)

-- The wires that join ports, by the names of these.

any_flat : {X Y : Type 0} (p : Y → Bool) (f : X → List Y) (xs : List X) → list_any p (flat_map f xs) ≡ list_any (λ (x : X). list_any p (f x)) xs
any_flat p f [] = refl
any_flat p f (x ∷ xs) = list_any-append p (f x) (flat_map f xs) ∙ ap (λ (b : Bool). list_any p (f x) || b) (any_flat p f xs)

and_none : (b : Bool) → false ≡ (b && false)
and_none true = refl
and_none false = refl

and_yes : (b : Bool) → b ≡ (b && true)
and_yes true = refl
and_yes false = refl

port_joins : (m : Module) (w : Wire) (i : Instance) (p : BoxPort) → has_name (port_joined (emptied m) i p) w.name ≡ joins_port m w i p
port_joins m w i p = by (linked_to i.links p.name)
  where
    chosen : (b : Bool) → has_name (if b then hidden_name i.name p.name ∷ [] else []) w.name ≡ (bytes_eq w.name (hidden_name i.name p.name) && b)
    chosen true = or_false (bytes_eq w.name (hidden_name i.name p.name)) ∙ and_yes (bytes_eq w.name (hidden_name i.name p.name))
    chosen false = and_none (bytes_eq w.name (hidden_name i.name p.name))

    by : (o : Option Operand) → has_name (option_map_or (linked_joined (emptied m) i p) o []) w.name ≡ (bytes_eq w.name (hidden_name i.name p.name) && option_map_or (is_joined m i p) o false)
    by None = and_none (bytes_eq w.name (hidden_name i.name p.name))
    by (Some x) = chosen (is_joined m i p x)

any_same : {X : Type 0} (p q : X → Bool) → ((x : X) → p x ≡ q x) → (xs : List X) → list_any p xs ≡ list_any q xs
any_same p q same [] = refl
any_same p q same (x ∷ xs) = ap (λ (b : Bool). b || list_any p xs) (same x) ∙ ap (λ (b : Bool). q x || b) (any_same p q same xs)

item_joins : (B : BoxLibrary) (m : Module) (w : Wire) (i : Item) → has_name (item_joined B (emptied m) i) w.name ≡ joins_item B m w i
item_joins B m w (item.Gate g) = refl
item_joins B m w (item.Assign output input) = refl
item_joins B m w (item.Instance i) = by (cut_ports B i)
  where
    by : (ports : Option (List BoxPort)) → has_name (option_map_or (flat_map (port_joined (emptied m) i)) ports []) w.name ≡ option_map_or (list_any (joins_port m w i)) ports false
    by None = refl
    by (Some ports) =
        any_flat (bytes_eq w.name) (port_joined (emptied m) i) ports
        ∙ any_same (λ (p : BoxPort). has_name (port_joined (emptied m) i p) w.name) (joins_port m w i) (port_joins m w i) ports

wire_joins : (B : BoxLibrary) (m : Module) (items : List Item) (w : Wire) → not (has_name (joined_names B (emptied m) items) w.name) ≡ not (list_any (joins_item B m w) items)
wire_joins B m items w =
    ap not (any_flat (bytes_eq w.name) (item_joined B (emptied m)) items
    ∙ any_same (λ (i : Item). has_name (item_joined B (emptied m) i) w.name) (joins_item B m w) (item_joins B m w) items)

filter_same : {X : Type 0} (p q : X → Bool) → ((x : X) → p x ≡ q x) → (xs : List X) → filter p xs ≡ filter q xs
filter_same p q same [] = refl
filter_same {X} p q same (x ∷ xs) = ap (λ (b : Bool). cond b (x ∷ filter p xs) (filter p xs)) (same x) ∙ ap (λ (l : List X). cond (q x) (x ∷ l) l) (filter_same p q same xs)

-- the wires that stay
pub wires_stay : (B : BoxLibrary) (m : Module) (joined : List (List ℕ)) → joined ≡ joined_names B (emptied m) m.items → filter (λ (w : Wire). not (has_name joined w.name)) m.wires ≡ filter (is_kept_wire B m) m.wires
wires_stay B m joined is =
    ap (λ (names : List (List ℕ)). filter (λ (w : Wire). not (has_name names w.name)) m.wires) is
    ∙ filter_same (λ (w : Wire). not (has_name (joined_names B (emptied m) m.items) w.name)) (is_kept_wire B m) (wire_joins B m m.items) m.wires

-- Hidden ports between the others.

drop_exact : {X : Type 0} (xs ys : List X) (n : ℕ) → n ≡ length xs → drop n (xs ++ ys) ≡ ys
drop_exact xs ys n is = drop-append-le n xs ys (omega (arith, is)) ∙ ap (λ (l : List _). l ++ ys) (none_left xs n (omega (arith, is)))

take_exact : {X : Type 0} (xs ys : List X) (n : ℕ) → n ≡ length xs → take n (xs ++ ys) ≡ xs
take_exact xs ys n is = take-append-le n xs ys (omega (arith, is)) ∙ front_all xs n (omega (arith, is))

pub turned : {X : Type 0} (xs ys all new : List X) (first before count : ℕ) → before ≡ min first (length xs) → count ≡ length xs → all ≡ xs ++ ys
    → new ≡ take before all ++ (drop (count - before) (drop before all) ++ take (count - before) (drop before all)) → new ≡ take first xs ++ (ys ++ drop first xs)
turned {X} xs ys all new first before count least long is made =
    let low : before ≤ length xs = omega (arith, least) in
    let tail : drop before all ≡ drop before xs ++ ys = ap (drop before) is ∙ drop-append-le before xs ys low in
    let rest : count - before ≡ length (drop before xs) = (let left = length-drop before xs in omega (arith, long, left)) in
    made
    ∙ ap (λ (l : List X). l ++ (drop (count - before) (drop before all) ++ take (count - before) (drop before all))) (ap (take before) is ∙ take-append-le before xs ys low)
    ∙ ap (λ (l : List X). take before xs ++ (drop (count - before) l ++ take (count - before) l)) tail
    ∙ ap (λ (l : List X). take before xs ++ (l ++ take (count - before) (drop before xs ++ ys))) (drop_exact (drop before xs) ys (count - before) rest)
    ∙ ap (λ (l : List X). take before xs ++ (ys ++ l)) (take_exact (drop before xs) ys (count - before) rest)
    ∙ by (below_or_not first (length xs))
  where
    by : (first < length xs) ⊎ (length xs ≤ first) → take before xs ++ (ys ++ drop before xs) ≡ take first xs ++ (ys ++ drop first xs)
    by (inl inside) = let same : before ≡ first = omega (arith, least, inside) in ap (λ (n : ℕ). take n xs ++ (ys ++ drop n xs)) same
    by (inr past) =
        let all : before ≡ length xs = omega (arith, least, past) in
        ap (λ (l : List X). l ++ (ys ++ drop before xs)) (front_all xs before (omega (arith, all)) ∙ sym (front_all xs first past))
        ∙ ap (λ (l : List X). take first xs ++ (ys ++ l)) (none_left xs before (omega (arith, all)) ∙ sym (none_left xs first past))

-- The opened module, by its parts.

pub opened_is : (B : BoxLibrary) (first : ℕ) (m : Module) (ports : List Port) (wires : List Wire) (items : List Item) → ports ≡ take first m.ports ++ (hidden_ports B m ++ drop first m.ports)
    → wires ≡ filter (is_kept_wire B m) m.wires → items ≡ flat_map (opened_item B m) m.items → (let made : Module = record { name = m.name; ports = ports; wires = wires; items = items } in made) ≡ opened B first m
opened_is B first m ports wires items p w i =
    ap (λ (l : List Port). let made : Module = record { name = m.name; ports = l; wires = wires; items = items } in made) p
    ∙ ap (λ (l : List Wire). let made : Module = record { name = m.name; ports = take first m.ports ++ (hidden_ports B m ++ drop first m.ports); wires = l; items = items } in made) w
    ∙ ap (λ (l : List Item). let made : Module = record { name = m.name; ports = take first m.ports ++ (hidden_ports B m ++ drop first m.ports); wires = filter (is_kept_wire B m) m.wires; items = l } in made) i

-- What is made of a module without its items, and of these.

pub open_is : (B : BoxLibrary) (first : ℕ) (m rest : Module) (left items : List Item) (hidden : List Port) (joined names : List (List ℕ)) (ports : List Port) (wires : List Wire) → rest ≡ emptied m → left ≡ m.items
    → items ≡ flat_map (opened_item B rest) left → hidden ≡ flat_map (item_ports B) left → joined ≡ joined_names B rest left → names ≡ joined → ports ≡ take first rest.ports ++ (hidden ++ drop first rest.ports)
    → wires ≡ filter (λ (w : Wire). not (has_name names w.name)) rest.wires → (let made : Module = record { name = rest.name; ports = ports; wires = wires; items = items } in made) ≡ opened B first m
open_is B first m rest left items hidden joined names ports wires is same made_items made_hidden made_joined named made_ports made_wires =
    let all_items : items ≡ flat_map (opened_item B m) m.items =
    made_items ∙ ap (λ (r : Module). flat_map (opened_item B r) left) is ∙ ap (flat_map (opened_item B (emptied m))) same ∙ items_of_rest B m m.items in
    let all_hidden : hidden ≡ hidden_ports B m = made_hidden ∙ ap (flat_map (item_ports B)) same in
    let all_ports : ports ≡ take first m.ports ++ (hidden_ports B m ++ drop first m.ports) =
    made_ports ∙ ap (λ (r : Module). take first r.ports ++ (hidden ++ drop first r.ports)) is ∙ ap (λ (l : List Port). take first m.ports ++ (l ++ drop first m.ports)) all_hidden in
    let all_names : names ≡ joined_names B (emptied m) m.items = named ∙ made_joined ∙ ap (λ (r : Module). joined_names B r left) is ∙ ap (joined_names B (emptied m)) same in
    let all_wires : wires ≡ filter (is_kept_wire B m) m.wires = made_wires ∙ ap (λ (r : Module). filter (λ (w : Wire). not (has_name names w.name)) r.wires) is ∙ wires_stay B m names all_names in
    ap (λ (r : Module). let made : Module = record { name = r.name; ports = ports; wires = wires; items = items } in made) is
    ∙ opened_is B first m ports wires items all_ports all_wires all_items

pub hidden_counted : (B : BoxLibrary) (m : Module) (left : List Item) (hidden : List Port) (count : ℕ) → left ≡ m.items → hidden ≡ flat_map (item_ports B) left → count ≡ length hidden → count ≡ length (hidden_ports B m)
hidden_counted B m left hidden count same made many = many ∙ ap (λ (l : List Port). length l) (made ∙ ap (flat_map (item_ports B)) same)

pub origins_are : (B : BoxLibrary) (m rest : Module) (left : List Item) (all : List ℕ) → rest ≡ emptied m → left ≡ m.items → all ≡ origins_from B rest 0 left → all ≡ origins B m
origins_are B m rest left all is same made = made ∙ ap (λ (r : Module). origins_from B r 0 left) is ∙ ap (origins_from B (emptied m) 0) same ∙ origins_of_rest B m 0 m.items
