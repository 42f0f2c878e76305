-- Hidden names that are taken, and the first of them.
use Rattle.std.proofs.Common.{◌≡◌, ℕ, Bool, true, false, not, cond, ◌&&◌, ◌||◌, if◌then◌else◌, find, List, [], ◌∷◌, ◌++◌, length, map, Option, Some, None, refl, sym, ap, ◌∙◌, append_assoc, inl, inr}
use Rattle.std.specs.Prelude.{nat_lt, ◌⊎◌}
use Rattle.std.specs.List.{flat_map, list_any}
use Rattle.std.specs.Option.{option_map_or}
use Rattle.std.specs.Str.{bytes_eq}
use Rattle.list_laws.proofs.Bytes.{bytes_eq-same}
use Rattle.list_laws.proofs.Lists.{map_push}
use Rattle.list_laws.proofs.Tests.{or_first, or_second, or_true, not_false, true_or_false}
use Rattle.texts.specs.Repeated.{has_name}
use Rattle.verilog_tree.specs.declared.tree.Port.{Port}
use Rattle.verilog_tree.specs.declared.tree.Module.{Module}
use Rattle.box_model.specs.declared.fault.BoxFault.{BoxFault}
use Rattle.box_model.specs.declared.fault.BoxFault.TheVariants.{BoxName}
use Rattle.box_model.specs.declared.boxes.BoxLibrary.{BoxLibrary}
use Rattle.box_model.specs.Faults.{Hidden, is_bit_word, is_bad_name, item_hidden, name_fault, used_names}
use Rattle.box_trees.specs.declared.hidden_names.HiddenName.{HiddenName}
use Rattle.box_trees.specs.HiddenNames.{names_at, names_of, clashes_among, told}
use Rattle.box_trees.proofs.HiddenParts.{held, held_items}

-- One name after another.

abbrev pub bad_by : List (List ℕ) → List (List ℕ) → Bool → HiddenName → Bool
bad_by used clashing before h = nat_lt 255 (length h.name) || (has_name clashing h.name || ((has_name used h.name && not h.joined) || before))

twice_not : (b : Bool) → not (not b) ≡ b
twice_not true = refl
twice_not false = refl

told_bad : (used clashing old : List (List ℕ)) (h : HiddenName) (name : List ℕ) (fresh bad : Bool) → name ≡ h.name → fresh ≡ not (has_name old name) → bad ≡ bad_by used clashing (not fresh) h → bad ≡ is_bad_name used old (told clashing h)
told_bad used clashing old h name fresh bad same is by_fresh =
    by_fresh ∙ ap (λ (b : Bool). bad_by used clashing b h) (ap not is ∙ twice_not (has_name old name) ∙ ap (has_name old) same)

pub taken_next : (used clashing old new : List (List ℕ)) (h : HiddenName) (left rest : List HiddenName) (name : List ℕ) (fresh bad : Bool) → left ≡ h ∷ rest → name ≡ h.name → fresh ≡ not (has_name old name)
    → new ≡ (if fresh then old ++ name ∷ [] else old) → bad ≡ bad_by used clashing (not fresh) h → bad ≡ false → name_fault used new (map (told clashing) rest) ≡ name_fault used old (map (told clashing) left)
taken_next used clashing old new h left rest name fresh bad here same is made by_fresh good =
    let first : Bool = nat_lt 255 (length h.name) in
    let clash : Bool = has_name clashing h.name in
    let used_not : Bool = has_name used h.name && not h.joined in
    let behind : (clash || (used_not || not fresh)) ≡ false = or_second first (clash || (used_not || not fresh)) (sym by_fresh ∙ good) in
    let none : not fresh ≡ false = or_second used_not (not fresh) (or_second clash (used_not || not fresh) behind) in
    let new_is : new ≡ old ++ h.name ∷ [] = made ∙ ap (λ (b : Bool). if b then old ++ name ∷ [] else old) (not_false fresh none) ∙ ap (λ (n : List ℕ). old ++ n ∷ []) same in
    ap (λ (l : List (List ℕ)). name_fault used l (map (told clashing) rest)) new_is
    ∙ sym (ap (λ (b : Bool). if b then Some (BoxName h.name) else name_fault used (old ++ h.name ∷ []) (map (told clashing) rest)) (sym (told_bad used clashing old h name fresh bad same is by_fresh) ∙ good))
    ∙ ap (λ (l : List HiddenName). name_fault used old (map (told clashing) l)) (sym here)

pub taken_here : (used clashing old : List (List ℕ)) (h : HiddenName) (left rest : List HiddenName) (name : List ℕ) (fresh bad : Bool) (fault : BoxFault) → left ≡ h ∷ rest → name ≡ h.name → fresh ≡ not (has_name old name)
    → bad ≡ bad_by used clashing (not fresh) h → bad ≡ true → fault ≡ BoxName name → Some fault ≡ name_fault used old (map (told clashing) left)
taken_here used clashing old h left rest name fresh bad fault here same is by_fresh bad_is made =
    ap (λ (f : BoxFault). Some f) (made ∙ ap (λ (n : List ℕ). BoxName n) same)
    ∙ sym (ap (λ (b : Bool). if b then Some (BoxName h.name) else name_fault used (old ++ h.name ∷ []) (map (told clashing) rest)) (sym (told_bad used clashing old h name fresh bad same is by_fresh) ∙ bad_is))
    ∙ ap (λ (l : List HiddenName). name_fault used old (map (told clashing) l)) (sym here)

-- A name that didn't come before is the first of its name.

first_here : (front rest : List HiddenName) (h : HiddenName) → has_name (names_of front) h.name ≡ false → find (λ (x : HiddenName). bytes_eq h.name x.name) (front ++ h ∷ rest) ≡ Some h
first_here [] rest h none = ap (λ (b : Bool). cond b (Some h) (find (λ (x : HiddenName). bytes_eq h.name x.name) rest)) (bytes_eq-same h.name)
first_here (x ∷ front) rest h none =
    ap (λ (b : Bool). cond b (Some x) (find (λ (y : HiddenName). bytes_eq h.name y.name) (front ++ h ∷ rest))) (or_first (bytes_eq h.name x.name) (has_name (names_of front) h.name) none)
    ∙ first_here front rest h (or_second (bytes_eq h.name x.name) (has_name (names_of front) h.name) none)

clash_here : (clashing : List (List ℕ)) (front rest : List HiddenName) (ports : List Port) (h : HiddenName) → ((name : List ℕ) → has_name clashing name ≡ clashes_among (front ++ h ∷ rest) ports name) → has_name (names_of front) h.name ≡ false
    → has_name clashing h.name ≡ list_any (is_bit_word h.name h.vector) ports
clash_here clashing front rest ports h clash none =
    clash h.name
    ∙ ap (λ (o : Option HiddenName). list_any (λ (q : Port). option_map_or (λ (x : HiddenName). is_bit_word h.name x.vector q) o false) ports) (first_here front rest h none)

abbrev of_parts : List ℕ → Bool → Bool → Hidden
of_parts name joined clashes = record { name = name; joined = joined; clashes = clashes }

came_before : (a b c d : Bool) → d ≡ true → (a || (b || (c || d))) ≡ true
came_before a b c d e = ap (λ (x : Bool). a || (b || (c || x))) e ∙ ap (λ (x : Bool). a || (b || x)) (or_true c) ∙ ap (λ (x : Bool). a || x) (or_true b) ∙ or_true a

either_fault : (used before : List (List ℕ)) (name : List ℕ) (joined c d : Bool) (one other : Option BoxFault) → (has_name before name ≡ false → c ≡ d) → one ≡ other
    → (if is_bad_name used before (of_parts name joined c) then Some (BoxName name) else one) ≡ (if is_bad_name used before (of_parts name joined d) then Some (BoxName name) else other)
either_fault used before name joined c d one other same rest = by (true_or_false (has_name before name))
  where
    long : Bool
    long = nat_lt 255 (length name)

    used_not : Bool
    used_not = has_name used name && not joined

    by : (has_name before name ≡ true) ⊎ (has_name before name ≡ false)
        → (if is_bad_name used before (of_parts name joined c) then Some (BoxName name) else one) ≡ (if is_bad_name used before (of_parts name joined d) then Some (BoxName name) else other)
    by (inl e) =
        ap (λ (b : Bool). if b then Some (BoxName name) else one) (came_before long c used_not (has_name before name) e)
        ∙ sym (ap (λ (b : Bool). if b then Some (BoxName name) else other) (came_before long d used_not (has_name before name) e))
    by (inr e) =
        ap (λ (b : Bool). if is_bad_name used before (of_parts name joined b) then Some (BoxName name) else one) (same e)
        ∙ ap (λ (o : Option BoxFault). if is_bad_name used before (of_parts name joined d) then Some (BoxName name) else o) rest

-- a clash matters at the first of a name alone
told_held : (used clashing : List (List ℕ)) (front rest : List HiddenName) (ports : List Port) → ((name : List ℕ) → has_name clashing name ≡ clashes_among (front ++ rest) ports name)
    → name_fault used (names_of front) (map (told clashing) rest) ≡ name_fault used (names_of front) (map (held ports) rest)
told_held used clashing front [] ports clash = refl
told_held used clashing front (h ∷ rest) ports clash =
    let grown : names_of (front ++ h ∷ []) ≡ names_of front ++ h.name ∷ [] = map_push (λ (x : HiddenName). x.name) front h in
    let whole : (front ++ h ∷ []) ++ rest ≡ front ++ h ∷ rest = append_assoc front (h ∷ []) rest in
    let behind = told_held used clashing (front ++ h ∷ []) rest ports (λ name. clash name ∙ ap (λ (l : List HiddenName). clashes_among l ports name) (sym whole)) in
    either_fault used (names_of front) h.name h.joined (has_name clashing h.name) (list_any (is_bit_word h.name h.vector) ports)
    (name_fault used (names_of front ++ h.name ∷ []) (map (told clashing) rest)) (name_fault used (names_of front ++ h.name ∷ []) (map (held ports) rest))
    (clash_here clashing front rest ports h clash)
    (ap (λ (l : List (List ℕ)). name_fault used l (map (told clashing) rest)) (sym grown) ∙ behind ∙ ap (λ (l : List (List ℕ)). name_fault used l (map (held ports) rest)) grown)

-- the first fault of names, by tables of what is used and of what clashes
pub first_taken : (B : BoxLibrary) (m : Module) (used clashing : List (List ℕ)) (hidden : List HiddenName) (ports : List Port) → used ≡ used_names m → hidden ≡ flat_map (names_at B m) m.items → ports ≡ m.ports
    → ((name : List ℕ) → has_name clashing name ≡ clashes_among hidden ports name) → name_fault used [] (map (told clashing) hidden) ≡ name_fault (used_names m) [] (flat_map (item_hidden B m) m.items)
first_taken B m used clashing hidden ports all gathered same clash =
    told_held used clashing [] hidden ports clash
    ∙ ap (λ (l : List (List ℕ)). name_fault l [] (map (held ports) hidden)) all
    ∙ ap (λ (l : List Port). name_fault (used_names m) [] (map (held l) hidden)) same
    ∙ ap (name_fault (used_names m) []) (ap (map (held m.ports)) gathered ∙ held_items B m m.items)
