-- Opening a closed instance gives back its items, where its ways are fine.
use Rattle.std.proofs.Common.{◌≡◌, ℕ, ◌+◌, ◌≤◌, Bool, true, false, not, cond, ◌||◌, List, [], ◌∷◌, ◌++◌, map, Option, Some, None, refl, sym, ap, subst, ◌∙◌, arith, append-nil, if◌then◌else◌}
use Rattle.std.specs.Prelude.{filter}
use Rattle.std.specs.List.{AllByRecursion, flat_map, filter_map, cons_option, list_any}
use Rattle.std.specs.Option.{option_map, option_map_or, option_or}
use Rattle.std.specs.Str.{bytes_eq}
use Rattle.std.proofs.lemmas.Slice.Eq.{bytes_eq-Decides}
use Rattle.std.proofs.lemmas.List.Elements.{filter-append}
use Rattle.list_laws.proofs.Bytes.{bytes_eq-same, bytes_eq-sym}
use Rattle.list_laws.proofs.Lists.{all_mapped}
use Rattle.list_laws.proofs.Tests.{or_first, or_second, or_more, not_true}
use Rattle.verilog_tree.specs.declared.tree.Operand.{Operand}
use Rattle.verilog_tree.specs.declared.tree.Link.{Link}
use Rattle.verilog_tree.specs.declared.tree.Instance.{Instance}
use Rattle.verilog_tree.specs.declared.tree.Item.{Item}
use Rattle.verilog_tree.specs.declared.tree.Item.TheVariants as item
use Rattle.verilog_tree.specs.declared.tree.Module.{Module}
use Rattle.box_model.specs.declared.boxes.BoxLibrary.{BoxLibrary}
use Rattle.box_model.specs.declared.boxes.BoxPort.{BoxPort}
use Rattle.box_model.specs.Ports.{cut_ports, hidden_name, hidden_port, hidden_bits, linked_to, is_port_of, other_links}
use Rattle.box_model.specs.Opened.{is_joined, link_bits, assigns, port_items, opened_item, hidden_at}
use Rattle.box_model.specs.Closed.{link, whole_net, has_port, present_at}
use Rattle.box_model.proofs.Counting.{all_to, times, AreOnce}
use Rattle.box_model.proofs.Clear.{kept_all}
use Rattle.box_model.proofs.Items.{opened_some}
use Rattle.box_model.proofs.TreeNames.{all_kept}
use Rattle.box_model.proofs.Returned.{all_unmapped}
use Rattle.box_model.proofs.Ways.{Way, Linked, Wired, way_port, collect, ways}
use Rattle.box_model.proofs.WaysItems.{way_items, is_there, ways_ports}

-- what a way's port is linked to
abbrev pub way_operand : Instance → Way → Operand
way_operand i (Linked p os o) = o
way_operand i (Wired p) = whole_net (hidden_name i.name p.name)

abbrev pub way_name : Way → List ℕ
way_name w = (way_port w).name

abbrev pub way_link : Instance → Way → Link
way_link i w = link (way_name w) (way_operand i w)

pub collected_links : (i : Instance) (ws : List Way) → (collect i ws).links ≡ map (way_link i) ws
collected_links i [] = refl
collected_links i (Linked p os o ∷ ws) = ap (λ (ls : List Link). link p.name o ∷ ls) (collected_links i ws)
collected_links i (Wired p ∷ ws) = ap (λ (ls : List Link). link p.name (whole_net (hidden_name i.name p.name)) ∷ ls) (collected_links i ws)

-- the instance with its links back
abbrev pub closed_as : Instance → List Way → Instance
closed_as i ws = record i { links = i.links ++ map (way_link i) ws }

-- Links of ways.

linked_each : (i : Instance) (ws : List Way) → AreOnce (map way_name ws) → AllByRecursion (λ w. linked_to (map (way_link i) ws) (way_name w) ≡ Some (way_operand i w)) ws
linked_each i [] once = tt
linked_each i (v ∷ ws) once = (
  ap (λ (b : Bool). if b then Some (way_operand i v) else linked_to (map (way_link i) ws) (way_name v)) (bytes_eq-same (way_name v)),
  along ws (there ws) (linked_each i ws (λ name. let all = once name in omega arith)),
)
  where
    there : (us : List Way) → AllByRecursion (λ w. 1 ≤ times (way_name w) (map way_name us)) us
    there [] = tt
    there (u ∷ us) = (rw (bytes_eq-same (way_name u)) (omega arith), all_to us (λ w below. omega arith) (there us))

    other : (w : Way) → 1 ≤ times (way_name w) (map way_name ws) → linked_to (map (way_link i) ws) (way_name w) ≡ Some (way_operand i w) → linked_to (map (way_link i) (v ∷ ws)) (way_name w) ≡ Some (way_operand i w)
    other w here found = by (bytes_eq (way_name v) (way_name w)) refl
      where
        by : (b : Bool) → bytes_eq (way_name v) (way_name w) ≡ b → (if b then Some (way_operand i v) else linked_to (map (way_link i) ws) (way_name w)) ≡ Some (way_operand i w)
        by true t =
            let head : bytes_eq (way_name w) (way_name v) ≡ true = bytes_eq-sym (way_name w) (way_name v) ∙ t in
            let twice = once (way_name w) in
            absurd (let all = rw head at twice in omega arith)
        by false t = found

    along : (us : List Way) → AllByRecursion (λ w. 1 ≤ times (way_name w) (map way_name ws)) us → AllByRecursion (λ w. linked_to (map (way_link i) ws) (way_name w) ≡ Some (way_operand i w)) us
        → AllByRecursion (λ w. linked_to (map (way_link i) (v ∷ ws)) (way_name w) ≡ Some (way_operand i w)) us
    along [] one all = tt
    along (u ∷ us) one all = (other u one.0 all.0, along us one.1 all.1)

linked_absent : (i : Instance) (ws : List Way) (name : List ℕ) → times name (map way_name ws) ≡ 0 → linked_to (map (way_link i) ws) name ≡ None
linked_absent i [] name none = refl
linked_absent i (w ∷ ws) name none = by (bytes_eq name (way_name w)) (bytes_eq-sym (way_name w) name) (linked_absent i ws name) none
  where
    by : (b : Bool) → bytes_eq (way_name w) name ≡ b → (times name (map way_name ws) ≡ 0 → linked_to (map (way_link i) ws) name ≡ None) → cond b 1 0 + times name (map way_name ws) ≡ 0
        → (if bytes_eq (way_name w) name then Some (way_operand i w) else linked_to (map (way_link i) ws) name) ≡ None
    by true e rest k = absurd (omega arith)
    by false e rest k = rw e (rest (omega arith))

linked_to-append : (xs ys : List Link) (name : List ℕ) → linked_to (xs ++ ys) name ≡ option_or (linked_to xs name) (linked_to ys name)
linked_to-append [] ys name = refl
linked_to-append (x ∷ xs) ys name = by (bytes_eq x.port name) x.operand (linked_to-append xs ys name)
  where
    by : (b : Bool) (o : Option Operand) → linked_to (xs ++ ys) name ≡ option_or (linked_to xs name) (linked_to ys name)
        → (if b then option_or o (linked_to (xs ++ ys) name) else linked_to (xs ++ ys) name) ≡ option_or (if b then option_or o (linked_to xs name) else linked_to xs name) (linked_to ys name)
    by true None rest = rest
    by true (Some o) rest = refl
    by false o rest = rest

-- Bare instances.

linked_none : (links : List Link) (name : List ℕ) → AllByRecursion (λ (l : Link). bytes_eq name l.port ≡ false) links → linked_to links name ≡ None
linked_none [] name all = refl
linked_none (l ∷ links) name all = rw (bytes_eq-sym l.port name, all.0) (linked_none links name all.1)

pub bare_linked : (ports : List BoxPort) (links : List Link) → other_links ports links ≡ links → AllByRecursion (λ (p : BoxPort). linked_to links p.name ≡ None) ports
bare_linked ports links bare = along ports (all_to links (λ l kept. not_true (is_port_of ports l) kept) (kept_all (λ l. not (is_port_of ports l)) links bare))
  where
    along : (ps : List BoxPort) → AllByRecursion (λ (l : Link). list_any (λ (p : BoxPort). bytes_eq p.name l.port) ps ≡ false) links → AllByRecursion (λ (p : BoxPort). linked_to links p.name ≡ None) ps
    along [] all = tt
    along (p ∷ ps) all = (
      linked_none links p.name (all_to links (λ l never. or_first (bytes_eq p.name l.port) (list_any (λ (q : BoxPort). bytes_eq q.name l.port) ps) never) all),
      along ps (all_to links (λ l never. or_second (bytes_eq p.name l.port) (list_any (λ (q : BoxPort). bytes_eq q.name l.port) ps) never) all),
    )

-- What holds of the ports that stand there holds of the ways'.

pub ways_from : (P : BoxPort → Type 0) (m : Module) (i : Instance) (ports : List BoxPort) (items : List Item) → AllByRecursion P (filter (is_there m i) ports) → AllByRecursion (λ w. P (way_port w)) (ways m i false ports items)
ways_from P m i ports items all = all_unmapped P way_port (ways m i false ports items) (subst (AllByRecursion P) (sym (ways_ports m i false ports items)) all)

pub ways_to : (P : BoxPort → Type 0) (m : Module) (i : Instance) (ports : List BoxPort) (items : List Item) → AllByRecursion (λ w. P (way_port w)) (ways m i false ports items) → AllByRecursion P (filter (is_there m i) ports)
ways_to P m i ports items all = subst (AllByRecursion P) (ways_ports m i false ports items) (all_mapped P way_port (ways m i false ports items) all)

names_same : (ws : List Way) → map (λ (p : BoxPort). p.name) (map way_port ws) ≡ map way_name ws
names_same [] = refl
names_same (w ∷ ws) = ap (λ (ns : List (List ℕ)). way_name w ∷ ns) (names_same ws)

pub ways_names : (m : Module) (i : Instance) (ports : List BoxPort) (items : List Item) → map way_name (ways m i false ports items) ≡ map (λ (p : BoxPort). p.name) (filter (is_there m i) ports)
ways_names m i ports items = sym (names_same (ways m i false ports items)) ∙ ap (map (λ (p : BoxPort). p.name)) (ways_ports m i false ports items)

-- an instance without links of cut ports, whose ports that stand there have different names
pub record IsLaid (m : Module) (i : Instance) (ports : List BoxPort) : Type 0 where
  pub bare : other_links ports i.links ≡ i.links
  pub once : AreOnce (map (λ (p : BoxPort). p.name) (filter (is_there m i) ports))

-- what the closed instance's ports are linked to
pub way_linked : (m : Module) (i : Instance) (ports : List BoxPort) (items : List Item) → IsLaid m i ports
    → AllByRecursion (λ w. linked_to (i.links ++ map (way_link i) (ways m i false ports items)) (way_name w) ≡ Some (way_operand i w)) (ways m i false ports items)
way_linked m i ports items laid =
    let ws = ways m i false ports items in
    let once : AreOnce (map way_name ws) = λ name. subst (λ (ns : List (List ℕ)). times name ns ≤ 1) (sym (ways_names m i ports items)) (laid.once name) in
    along ws (ways_from (λ p. linked_to i.links p.name ≡ None) m i ports items (all_kept (λ p. linked_to i.links p.name ≡ None) (is_there m i) ports (bare_linked ports i.links laid.bare))) (linked_each i ws once)
  where
    along : (us : List Way) → AllByRecursion (λ w. linked_to i.links (way_name w) ≡ None) us → AllByRecursion (λ w. linked_to (map (way_link i) (ways m i false ports items)) (way_name w) ≡ Some (way_operand i w)) us
        → AllByRecursion (λ w. linked_to (i.links ++ map (way_link i) (ways m i false ports items)) (way_name w) ≡ Some (way_operand i w)) us
    along [] none all = tt
    along (u ∷ us) none all = (
      linked_to-append i.links (map (way_link i) (ways m i false ports items)) (way_name u)
          ∙ ap (λ (o : Option Operand). option_or o (linked_to (map (way_link i) (ways m i false ports items)) (way_name u))) none.0 ∙ all.0,
      along us none.1 all.1,
    )

-- a port that isn't there has another name than those that are
absent_apart : (m : Module) (i : Instance) (p : BoxPort) → is_there m i p ≡ false → (ports : List BoxPort) → times p.name (map (λ (q : BoxPort). q.name) (filter (is_there m i) ports)) ≡ 0
absent_apart m i p never [] = refl
absent_apart m i p never (q ∷ ports) = by (is_there m i q) refl (absent_apart m i p never ports)
  where
    by : (b : Bool) → is_there m i q ≡ b → times p.name (map (λ (r : BoxPort). r.name) (filter (is_there m i) ports)) ≡ 0
        → times p.name (map (λ (r : BoxPort). r.name) (cond b (q ∷ filter (is_there m i) ports) (filter (is_there m i) ports))) ≡ 0
    by false e rest = rest
    by true e rest = same (bytes_eq p.name q.name) refl
      where
        same : (t : Bool) → bytes_eq p.name q.name ≡ t → cond t 1 0 + times p.name (map (λ (r : BoxPort). r.name) (filter (is_there m i) ports)) ≡ 0
        same true u =
            let there : is_there m i p ≡ true = ap (λ (n : List ℕ). has_port m (hidden_name i.name n)) ((bytes_eq-Decides p.name q.name).0 u) ∙ e in
            absurd (let no_way : true ≡ false = sym there ∙ never in cc)
        same false u = omega (arith, rest)

pub absent_linked : (m : Module) (i : Instance) (ports : List BoxPort) (items : List Item) → IsLaid m i ports
    → AllByRecursion (λ (p : BoxPort). is_there m i p ≡ false → linked_to (i.links ++ map (way_link i) (ways m i false ports items)) p.name ≡ None) ports
absent_linked m i ports items laid = all_to ports one (bare_linked ports i.links laid.bare)
  where
    one : (p : BoxPort) → linked_to i.links p.name ≡ None → is_there m i p ≡ false → linked_to (i.links ++ map (way_link i) (ways m i false ports items)) p.name ≡ None
    one p none never =
        let ws = ways m i false ports items in
        let apart : times p.name (map way_name ws) ≡ 0 = ap (times p.name) (ways_names m i ports items) ∙ absent_apart m i p never ports in
        linked_to-append i.links (map (way_link i) ws) p.name
        ∙ ap (λ (o : Option Operand). option_or o (linked_to (map (way_link i) ws) p.name)) none ∙ linked_absent i ws p.name apart

-- The items of a closed instance that is opened.

-- an operand that opening takes apart to what closing joined
abbrev pub IsFine : Module → Instance → Way → Type 0
IsFine c i (Linked p os o) = (is_joined c i p o ≡ false) × (link_bits c p o ≡ os)
IsFine c i (Wired p) = is_joined c i p (whole_net (hidden_name i.name p.name)) ≡ true

way_opened : (c : Module) (i : Instance) (links : List Link) (w : Way) → linked_to links (way_name w) ≡ Some (way_operand i w) → IsFine c i w → port_items c (record i { links = links }) (way_port w) ≡ way_items i w
way_opened c i links (Linked p os o) there fine =
    let put : Option Operand → List Item = λ l. option_map_or (λ y. if is_joined c i p y then [] else assigns p.dir (hidden_bits i p) (link_bits c p y)) l [] in
    ap put there ∙ ap (λ (b : Bool). if b then [] else assigns p.dir (hidden_bits i p) (link_bits c p o)) fine.0 ∙ ap (assigns p.dir (hidden_bits i p)) fine.1
way_opened c i links (Wired p) there fine =
    let o = whole_net (hidden_name i.name p.name) in
    let put : Option Operand → List Item = λ l. option_map_or (λ y. if is_joined c i p y then [] else assigns p.dir (hidden_bits i p) (link_bits c p y)) l [] in
    ap put there ∙ ap (λ (b : Bool). if b then [] else assigns p.dir (hidden_bits i p) (link_bits c p o)) fine

pub flat_kept : {X Y : Type 0} (f : X → List Y) (test : X → Bool) (xs : List X) → AllByRecursion (λ x. test x ≡ false → f x ≡ []) xs → flat_map f xs ≡ flat_map f (filter test xs)
flat_kept f test [] all = refl
flat_kept {Y = Y} f test (x ∷ xs) all = by (test x) refl (flat_kept f test xs all.1)
  where
    by : (b : Bool) → test x ≡ b → flat_map f xs ≡ flat_map f (filter test xs) → f x ++ flat_map f xs ≡ flat_map f (cond b (x ∷ filter test xs) (filter test xs))
    by true e rest = ap (λ (ys : List Y). f x ++ ys) rest
    by false e rest = ap (λ (ys : List Y). ys ++ flat_map f xs) (all.0 e) ∙ rest

flat_mapped : {X Y Z : Type 0} (f : Y → List Z) (g : X → List Z) (h : X → Y) (xs : List X) → AllByRecursion (λ x. f (h x) ≡ g x) xs → flat_map f (map h xs) ≡ flat_map g xs
flat_mapped f g h [] all = refl
flat_mapped {Z = Z} f g h (x ∷ xs) all = ap (λ (zs : List Z). zs ++ flat_map f (map h xs)) all.0 ∙ ap (λ (zs : List Z). g x ++ zs) (flat_mapped f g h xs all.1)

ports_opened : (m c : Module) (i : Instance) (ports : List BoxPort) (items : List Item) → IsLaid m i ports → AllByRecursion (IsFine c i) (ways m i false ports items)
    → flat_map (port_items c (closed_as i (ways m i false ports items))) ports ≡ flat_map (way_items i) (ways m i false ports items)
ports_opened m c i ports items laid fine =
    let ws = ways m i false ports items in
    let f = port_items c (closed_as i ws) in
    flat_kept f (is_there m i) ports (all_to ports absent (absent_linked m i ports items laid))
    ∙ ap (flat_map f) (sym (ways_ports m i false ports items))
    ∙ flat_mapped f (way_items i) way_port ws (along ws (way_linked m i ports items laid) fine)
  where
    absent : (p : BoxPort) → (is_there m i p ≡ false → linked_to (i.links ++ map (way_link i) (ways m i false ports items)) p.name ≡ None) → is_there m i p ≡ false
        → port_items c (closed_as i (ways m i false ports items)) p ≡ []
    absent p none never = ap (λ (l : Option Operand). option_map_or (λ y. if is_joined c i p y then [] else assigns p.dir (hidden_bits i p) (link_bits c p y)) l []) (none never)

    along : (us : List Way) → AllByRecursion (λ w. linked_to (i.links ++ map (way_link i) (ways m i false ports items)) (way_name w) ≡ Some (way_operand i w)) us → AllByRecursion (IsFine c i) us
        → AllByRecursion (λ w. port_items c (closed_as i (ways m i false ports items)) (way_port w) ≡ way_items i w) us
    along [] there all = tt
    along (u ∷ us) there all = (way_opened c i (i.links ++ map (way_link i) (ways m i false ports items)) u there.0 all.0, along us there.1 all.1)

-- Other links.

each_port : (ports : List BoxPort) → AllByRecursion (λ (p : BoxPort). list_any (λ (q : BoxPort). bytes_eq q.name p.name) ports ≡ true) ports
each_port [] = tt
each_port (p ∷ ports) = (
  ap (λ (b : Bool). b || list_any (λ (q : BoxPort). bytes_eq q.name p.name) ports) (bytes_eq-same p.name),
  all_to ports (λ r there. or_more (bytes_eq p.name r.name) (list_any (λ (q : BoxPort). bytes_eq q.name r.name) ports) there) (each_port ports),
)

none_other : (ports : List BoxPort) (links : List Link) → AllByRecursion (λ l. is_port_of ports l ≡ true) links → other_links ports links ≡ []
none_other ports [] all = refl
none_other ports (l ∷ links) all = rw all.0 (none_other ports links all.1)

others_back : (m : Module) (i : Instance) (ports : List BoxPort) (items : List Item) → IsLaid m i ports → other_links ports (i.links ++ map (way_link i) (ways m i false ports items)) ≡ i.links
others_back m i ports items laid =
    let ws = ways m i false ports items in
    let mine = ways_from (λ p. list_any (λ (q : BoxPort). bytes_eq q.name p.name) ports ≡ true) m i ports items
    (all_kept (λ p. list_any (λ (q : BoxPort). bytes_eq q.name p.name) ports ≡ true) (is_there m i) ports (each_port ports)) in
    filter-append (λ l. not (is_port_of ports l)) i.links (map (way_link i) ws)
    ∙ ap (λ (ls : List Link). ls ++ other_links ports (map (way_link i) ws)) laid.bare
    ∙ ap (λ (ls : List Link). i.links ++ ls) (none_other ports (map (way_link i) ws) (all_mapped (λ l. is_port_of ports l ≡ true) (way_link i) ws mine))
    ∙ append-nil i.links

pub instance_opened : (B : BoxLibrary) (m c : Module) (i : Instance) (ports : List BoxPort) (items : List Item) → cut_ports B i ≡ Some ports → IsLaid m i ports → AllByRecursion (IsFine c i) (ways m i false ports items)
    → opened_item B c (item.Instance (closed_as i (ways m i false ports items))) ≡ item.Instance i ∷ flat_map (way_items i) (ways m i false ports items)
instance_opened B m c i ports items e laid fine =
    let ws = ways m i false ports items in
    opened_some B c (closed_as i ws) ports e
    ∙ ap (λ (ls : List Link). item.Instance (record i { links = ls }) ∷ flat_map (port_items c (closed_as i ws)) ports) (others_back m i ports items laid)
    ∙ ap (λ (xs : List Item). item.Instance i ∷ xs) (ports_opened m c i ports items laid fine)

-- The hidden ports.

map_kept : {X Y : Type 0} (f : X → Option Y) (test : X → Bool) (xs : List X) → AllByRecursion (λ x. test x ≡ false → f x ≡ None) xs → filter_map f xs ≡ filter_map f (filter test xs)
map_kept f test [] all = refl
map_kept {Y = Y} f test (x ∷ xs) all = by (test x) refl (map_kept f test xs all.1)
  where
    by : (b : Bool) → test x ≡ b → filter_map f xs ≡ filter_map f (filter test xs) → cons_option (f x) (filter_map f xs) ≡ filter_map f (cond b (x ∷ filter test xs) (filter test xs))
    by true e rest = ap (λ (ys : List Y). cons_option (f x) ys) rest
    by false e rest = ap (λ (o : Option Y). cons_option o (filter_map f xs)) (all.0 e) ∙ rest

map_some : {X Y : Type 0} (f : X → Option Y) (g : X → Y) (xs : List X) → AllByRecursion (λ x. f x ≡ Some (g x)) xs → filter_map f xs ≡ map g xs
map_some f g [] all = refl
map_some {Y = Y} f g (x ∷ xs) all = ap (λ (o : Option Y). cons_option o (filter_map f xs)) all.0 ∙ ap (λ (ys : List Y). g x ∷ ys) (map_some f g xs all.1)

pub ports_present : (m : Module) (i : Instance) (ports : List BoxPort) (items : List Item) → IsLaid m i ports
    → filter_map (hidden_at (closed_as i (ways m i false ports items))) ports ≡ present_at m i ports
ports_present m i ports items laid =
    let ws = ways m i false ports items in
    let f = hidden_at (closed_as i ws) in
    map_kept f (is_there m i) ports (all_to ports (λ p none never. ap (option_map (λ (o : Operand). hidden_port i p)) (none never)) (absent_linked m i ports items laid))
    ∙ map_some f (hidden_port i) (filter (is_there m i) ports)
    (ways_to (λ p. hidden_at (closed_as i ws) p ≡ Some (hidden_port i p)) m i ports items (all_to ws (λ w there. ap (option_map (λ (o : Operand). hidden_port i (way_port w))) there) (way_linked m i ports items laid)))
