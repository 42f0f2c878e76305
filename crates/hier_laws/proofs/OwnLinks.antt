-- The bits that links join are declared in their own modules.
use Rattle.std.proofs.Common.{◌≡◌, ℕ, zero, suc, ◌+◌, ◌<◌, Bool, true, false, ◌||◌, ◌&&◌, not, cond, nat_eq, List, [], ◌∷◌, ◌++◌, map, find, Option, Some, None, slice_get, refl, sym, ap, subst, ◌∙◌, arith, ◌⊎◌, inl, inr}
use Rattle.std.specs.List.{flat_map, AllByRecursion}
use Rattle.std.specs.Option.{option_map, option_map_or, option_and_then, option_eq}
use Rattle.std.specs.Str.{bytes_eq}
use Rattle.list_laws.proofs.Lists.{all_append, all_front, all_back, all_at}
use Rattle.list_laws.proofs.Tests.{or_second}
use Rattle.verilog_tree.specs.declared.tree.Dir.{Dir}
use Rattle.verilog_tree.specs.declared.tree.Range.{Range}
use Rattle.verilog_tree.specs.declared.tree.Bit.{Bit}
use Rattle.verilog_tree.specs.declared.tree.Operand.{Operand}
use Rattle.verilog_tree.specs.declared.tree.Operand.TheVariants as operand
use Rattle.verilog_tree.specs.declared.tree.Link.{Link}
use Rattle.verilog_tree.specs.declared.tree.Port.{Port}
use Rattle.verilog_tree.specs.declared.tree.Instance.{Instance}
use Rattle.verilog_tree.specs.declared.tree.Item.{Item}
use Rattle.verilog_tree.specs.declared.tree.Module.{Module}
use Rattle.link_model.specs.Lists.{or_else, has_name, repeated}
use Rattle.link_model.specs.Cells.{linked_operand}
use Rattle.link_model.specs.Nets.{Declared, NetDeclaration, port_nets, wire_nets, width, counted_from, index_at, is_within, net_in, declared_nets, declared_names, declared_as, names_from}
use Rattle.link_model.specs.Faults.{operand_bits}
use Rattle.hier_model.specs.Visits.{Turn, keeps, opens, closes, Visit, visit, opened_by, item_visits, visits}
use Rattle.hier_model.specs.Entries.{Place, place, places, inner_place, Entry, stays, carries, entries, level_limit, visit_entries, turn_entries, links_in, inwards, outwards, bits_of, spread, spread_net, is_in, is_out}
use Rattle.hier_model.specs.Flat.{flat}
use Rattle.hier_model.specs.declared.fault.HierFault.{HierFault}
use Rattle.hier_model.specs.Faults.{index_width, net_width, operand_width, is_inout, is_const, is_bad_operand, port_named, is_bad_link, bad_link, bad_port, unlinked, turn_link, bad_link_in}
use Rattle.hier_laws.specs.Solves.{own_net, IsOwnBit}
use Rattle.hier_laws.proofs.Apart.{same_declared, index_there, listed_some}
use Rattle.hier_laws.proofs.Blocks.{Listed, found_listed}
use Rattle.hier_laws.specs.SolutionsLaws.{HasOwnBits, EntriesOwnBits}
use Rattle.hier_laws.proofs.OwnBits.{first_none, within_range, stays_own_bits}
use Rattle.hier_laws.proofs.SolutionsPlaces.{stands_at, TurnStands, VisitStands, made, visits_stand}

-- The links of each instance are without a fault, before and behind its items.

abbrev OpensOk : Module → Turn → Type 0
OpensOk m (keeps i) = Unit {0}
OpensOk m (opens i c) = bad_port m i c ≡ None
OpensOk m (closes i c) = Unit {0}

abbrev LinksOk : Module → Turn → Type 0
LinksOk m (keeps i) = Unit {0}
LinksOk m (opens i c) = bad_port m i c ≡ None
LinksOk m (closes i c) = bad_port m i c ≡ None

abbrev AllOpens : List Visit → Type 0
AllOpens vs = AllByRecursion (λ (v : Visit). OpensOk v.within v.turn) vs

abbrev AllLinks : List Visit → Type 0
AllLinks vs = AllByRecursion (λ (v : Visit). LinksOk v.within v.turn) vs

made_ok : (below : List (List ℕ) → Module → List Visit) (at : List (List ℕ)) (m : Module) (i : Item) (o : Option (Instance × Module)) → ((a : List (List ℕ)) (c : Module) → AllOpens (below a c) → AllLinks (below a c)) → AllOpens (made below at m i o) → AllLinks (made below at m i o)
made_ok below at m i None under h = (tt, tt)
made_ok below at m i (Some (j, c)) under h =
    let inner : List Visit = below (at ++ j.name ∷ []) c in
    let last : List Visit = visit at m (closes j c) ∷ [] in
    (h.0, all_append (λ (v : Visit). LinksOk v.within v.turn) inner last (under (at ++ j.name ∷ []) c (all_front (λ (v : Visit). OpensOk v.within v.turn) inner last h.1)) (h.0, tt))

items_ok : (below : List (List ℕ) → Module → List Visit) (modules : List Module) (at : List (List ℕ)) (m : Module) (is : List Item) → ((a : List (List ℕ)) (c : Module) → AllOpens (below a c) → AllLinks (below a c)) → AllOpens (flat_map (item_visits below modules at m) is) → AllLinks (flat_map (item_visits below modules at m) is)
items_ok below modules at m [] under h = tt
items_ok below modules at m (i ∷ is) under h =
    let first : List Visit = item_visits below modules at m i in
    let more : List Visit = flat_map (item_visits below modules at m) is in
    all_append (λ (v : Visit). LinksOk v.within v.turn) first more (made_ok below at m i (opened_by modules i) under (all_front (λ (v : Visit). OpensOk v.within v.turn) first more h)) (items_ok below modules at m is under (all_back (λ (v : Visit). OpensOk v.within v.turn) first more h))

visits_ok : (levels : ℕ) (modules : List Module) (at : List (List ℕ)) (m : Module) → AllOpens (visits levels modules at m) → AllLinks (visits levels modules at m)
visits_ok zero modules at m h = tt
visits_ok (suc levels) modules at m h = items_ok (λ a c. visits levels modules a c) modules at m m.items (λ a c. visits_ok levels modules a c) h

opens_of : (vs : List Visit) → AllByRecursion (λ (v : Visit). turn_link v.at v.within v.turn ≡ None) vs → AllOpens vs
opens_of [] h = tt
opens_of (v ∷ vs) h = (go v.turn h.0, opens_of vs h.1)
  where
    none_of : (f : List ℕ → HierFault) (o : Option (List ℕ)) → option_map f o ≡ None → o ≡ None
    none_of f None e = refl
    none_of f (Some x) e = absurd (cc)

    go : (t : Turn) → turn_link v.at v.within t ≡ None → OpensOk v.within t
    go (keeps i) e = tt
    go (opens i c) e = none_of _ (bad_port v.within i c) e
    go (closes i c) e = tt

-- Nets that are declared have bits of their own.

pub counted_below : (first n bound : ℕ) → first + n ≡ bound → AllByRecursion (λ (k : ℕ). k < bound) (counted_from first n)
counted_below first zero bound is = tt
counted_below first (suc n) bound is = (omega (arith, is), counted_below (suc first) n bound (omega (arith, is)))

net_bits_own : (m : Module) (name : List ℕ) (d : Declared) → declared_as (declared_names m) name ≡ Some d → AllByRecursion (IsOwnBit m) (bits_of name d.range)
net_bits_own m name d found = go (counted_from 0 (width d.range)) (counted_below 0 (width d.range) (width d.range) (omega arith))
  where
    go : (ks : List ℕ) → AllByRecursion (λ (k : ℕ). k < width d.range) ks → AllByRecursion (IsOwnBit m) (map (λ k. record { net = name; index = index_at d.range k }) ks)
    go [] h = tt
    go (k ∷ ks) h =
        let value : own_net m (record { net = name; index = index_at d.range k }) ≡ d.first + k = ap (λ (o : Option Declared). net_in o (index_at d.range k)) found ∙ index_there d k h.0 in
        (record { declared = d; found = found; within = omega (arith, value, h.0) }, go ks h.1)

-- a port is one of these
abbrev Stood : Port → List Port → Type 0
Stood p [] = ⊥
Stood p (q ∷ ps) = (q ≡ p) ⊎ Stood p ps

port_listed : (first : ℕ) (p : Port) (ports : List Port) (others : List NetDeclaration) → Stood p ports → (d : Declared) × Listed p.name d (names_from first (map port_nets ports ++ others)) × (d.range ≡ p.range)
port_listed first p [] others h = absurd h
port_listed first p (q ∷ ports) others (inl h) = (record { first = first; range = q.range }, inl (ap (λ (x : Port). x.name) h, refl), ap (λ (x : Port). x.range) h)
port_listed first p (q ∷ ports) others (inr h) = let t = port_listed (first + width q.range) p ports others h in (t.0, inr t.1, t.2)

port_own : (modules : List Module) (top : Module) (j : ℕ) (q : Place) (p : Port) → repeated (map (λ (n : NetDeclaration). n.name) (declared_nets (flat modules top))) ≡ None → slice_get (places modules top) j ≡ Some q → Stood p q.here.ports → AllByRecursion (IsOwnBit q.here) (bits_of p.name p.range)
port_own modules top j q p once there stood =
    let t = port_listed 0 p q.here.ports (map wire_nets q.here.wires) stood in
    let s = listed_some p.name t.0 (declared_names q.here) t.1 in
    let same : s.0 ≡ t.0 = same_declared modules top j q p.name s.0 t.0 once there (found_listed p.name s.0 (declared_names q.here) s.1) t.1 in
    let P : Option Range → Type 0 = λ r. AllByRecursion (IsOwnBit q.here) (bits_of p.name r) in
    subst P t.2 (net_bits_own q.here p.name t.0 (s.1 ∙ ap (λ (x : Declared). Some x) same))

abbrev OperandOwn : Module → Operand → Type 0
OperandOwn m o = AllByRecursion (IsOwnBit m) (operand_bits o)

operand_own : (m : Module) (o : Operand) (w : ℕ) → operand_width m o ≡ Some w → AllByRecursion (OperandOwn m) (spread m o)
operand_own m (operand.Const c) w h = (tt, tt)
operand_own m (operand.Bit b) w h = go (declared_as (declared_names m) b.net) refl b.index refl h
  where
    wires_of : (bs : List Bit) → AllByRecursion (IsOwnBit m) bs → AllByRecursion (OperandOwn m) (map (λ c. operand.Bit c) bs)
    wires_of [] e = tt
    wires_of (x ∷ bs) e = ((e.0, tt), wires_of bs e.1)

    at_index : (d : Declared) (i : ℕ) → declared_as (declared_names m) b.net ≡ Some d → b.index ≡ Some i → (r : Option Range) → d.range ≡ r → index_width r i ≡ Some w → IsOwnBit m b
    at_index d i found is None range e = absurd (cc)
    at_index d i found is (Some r) range e =
        let inside : (x : Bool) → is_within r i ≡ x → cond x (Some 1) None ≡ Some w → is_within r i ≡ true = λ x y z. by x y z in
        let value : own_net m b ≡ net_in (Some d) (Some i) = ap (λ (o : Option Declared). net_in o b.index) found ∙ ap (net_in (Some d)) is in
        let less = within_range r i (inside (is_within r i) refl e) in
        record {
          declared = d;
          found = found;
          within = (let P : Option Range → Type 0 = λ z. net_in (Some (record { first = d.first; range = z })) (Some i) < d.first + width z in rw value (subst P (sym range) (omega (arith, less))));
        }
      where
        by : (x : Bool) → is_within r i ≡ x → cond x (Some 1) None ≡ Some w → is_within r i ≡ true
        by true y z = y
        by false y z = absurd (cc)

    go : (o : Option Declared) → declared_as (declared_names m) b.net ≡ o → (index : Option ℕ) → b.index ≡ index → option_map_or (net_width index) o None ≡ Some w → AllByRecursion (OperandOwn m) (option_map_or (λ i. operand.Bit b ∷ []) index (spread_net b o))
    go None found index is e = absurd (cc)
    go (Some d) found None is e = wires_of (bits_of b.net d.range) (net_bits_own m b.net d found)
    go (Some d) found (Some i) is e = ((at_index d i found is d.range refl e, tt), tt)

-- What is linked has a width.

widths_ok : (m : Module) (p : Port) (o : Operand) → is_bad_operand m p o ≡ false → (w : ℕ) × (operand_width m o ≡ Some w)
widths_ok m p o h =
    let third : not (option_eq nat_eq (operand_width m o) (Some (width p.range))) ≡ false = or_second (is_inout p.dir || (is_out p.dir && is_const o)) _ h in
    go (operand_width m o) refl third
  where
    go : (x : Option ℕ) → operand_width m o ≡ x → not (option_eq nat_eq x (Some (width p.range))) ≡ false → (w : ℕ) × (operand_width m o ≡ Some w)
    go None is e = absurd (cc)
    go (Some w) is e = (w, is)

link_width : (m child : Module) (had : List (List ℕ)) (l : Link) (o : Operand) → is_bad_link m child had l ≡ false → l.operand ≡ Some o → (w : ℕ) × (operand_width m o ≡ Some w)
link_width m child had l o h is = go (port_named child l.port) h
  where
    go : (q : Option Port) → option_map_or (λ p. has_name had l.port || option_map_or (is_bad_operand m p) l.operand false) q true ≡ false → (w : ℕ) × (operand_width m o ≡ Some w)
    go None e = absurd (cc)
    go (Some p) e = widths_ok m p o (sym (ap (λ (x : Option Operand). option_map_or (is_bad_operand m p) x false) is) ∙ or_second (has_name had l.port) (option_map_or (is_bad_operand m p) l.operand false) e)

linked_width : (m child : Module) (had : List (List ℕ)) (links : List Link) (port : List ℕ) (o : Operand) → bad_link m child had links ≡ None → linked_operand links port ≡ Some o → (w : ℕ) × (operand_width m o ≡ Some w)
linked_width m child had [] port o h is = absurd (cc)
linked_width m child had (l ∷ links) port o h is = go (is_bad_link m child had l) refl h (bytes_eq l.port port) is (λ e f. linked_width m child (had ++ l.port ∷ []) links port o e f)
  where
    go : (b : Bool) → is_bad_link m child had l ≡ b → cond b (Some l.port) (bad_link m child (had ++ l.port ∷ []) links) ≡ None → (c : Bool) → option_and_then (λ (k : Link). k.operand) (cond c (Some l) (find (λ (k : Link). bytes_eq k.port port) links)) ≡ Some o
        → (bad_link m child (had ++ l.port ∷ []) links ≡ None → linked_operand links port ≡ Some o → (w : ℕ) × (operand_width m o ≡ Some w)) → (w : ℕ) × (operand_width m o ≡ Some w)
    go true bad e c f rest = absurd (cc)
    go false bad e true f rest = link_width m child had l o bad f
    go false bad e false f rest = rest e f

links_first : (a b : Option (List ℕ)) → or_else a b ≡ None → a ≡ None
links_first None b h = refl
links_first (Some x) b h = absurd (cc)

-- Links as entries.

abbrev pub LinkOwn : Entry → Type 0
LinkOwn (stays p i) = Unit {0}
LinkOwn (carries p b q o) = IsOwnBit p.here b × AllByRecursion (IsOwnBit q.here) (operand_bits o)

inwards_own : (outer inner : Place) (bs : List Bit) (os : List Operand) → AllByRecursion (IsOwnBit inner.here) bs → AllByRecursion (OperandOwn outer.here) os → AllByRecursion LinkOwn (inwards outer inner bs os)
inwards_own outer inner [] os a b = tt
inwards_own outer inner (x ∷ bs) [] a b = tt
inwards_own outer inner (x ∷ bs) (o ∷ os) a b = ((a.0, b.0), inwards_own outer inner bs os a.1 b.1)

outwards_own : (outer inner : Place) (bs : List Bit) (os : List Operand) → AllByRecursion (IsOwnBit inner.here) bs → AllByRecursion (OperandOwn outer.here) os → AllByRecursion LinkOwn (outwards outer inner bs os)
outwards_own outer inner [] os a b = tt
outwards_own outer inner (x ∷ bs) [] a b = tt
outwards_own outer inner (x ∷ bs) (operand.Bit c ∷ os) a b = ((b.0.0, (a.0, tt)), outwards_own outer inner bs os a.1 b.1)
outwards_own outer inner (x ∷ bs) (operand.Const v ∷ os) a b = outwards_own outer inner bs os a.1 b.1

links_own : (test : Dir → Bool) (join : List Bit → List Operand → List Entry) (m child : Module) (i : Instance) (ports : List Port) → ((bs : List Bit) (os : List Operand) → AllByRecursion (IsOwnBit child) bs → AllByRecursion (OperandOwn m) os → AllByRecursion LinkOwn (join bs os))
    → bad_port m i child ≡ None → ((p : Port) → Stood p ports → AllByRecursion (IsOwnBit child) (bits_of p.name p.range)) → AllByRecursion LinkOwn (links_in test join m i ports)
links_own test join m child i [] each ok own = tt
links_own test join m child i (p ∷ ports) each ok own = all_append LinkOwn _ (links_in test join m i ports) (go (test p.dir) (linked_operand i.links p.name) refl) (links_own test join m child i ports each ok (λ q h. own q (inr h)))
  where
    go : (b : Bool) (o : Option Operand) → linked_operand i.links p.name ≡ o → AllByRecursion LinkOwn (cond b (option_map_or (λ x. join (bits_of p.name p.range) (spread m x)) o []) [])
    go false o is = tt
    go true None is = tt
    go true (Some o) is =
        let w = linked_width m child [] i.links p.name o (links_first (bad_link m child [] i.links) (unlinked child i.links) ok) is in
        each (bits_of p.name p.range) (spread m o) (own p (inl refl)) (operand_own m o w.0 w.1)

turn_own : (modules : List Module) (top : Module) (at : List (List ℕ)) (m : Module) (t : Turn) → repeated (map (λ (n : NetDeclaration). n.name) (declared_nets (flat modules top))) ≡ None → TurnStands at t (places modules top) → LinksOk m t → AllByRecursion LinkOwn (turn_entries at m t)
turn_own modules top at m (keeps i) once stands ok = (tt, tt)
turn_own modules top at m (opens i c) once stands ok =
    let s = stands_at (inner_place at i c) (places modules top) stands in
    links_own is_in (inwards (place at m) (inner_place at i c)) m c i c.ports (λ bs os a b. inwards_own (place at m) (inner_place at i c) bs os a b) ok (λ p h. port_own modules top s.0 (inner_place at i c) p once s.1 h)
turn_own modules top at m (closes i c) once stands ok =
    let s = stands_at (inner_place at i c) (places modules top) stands in
    links_own is_out (outwards (place at m) (inner_place at i c)) m c i c.ports (λ bs os a b. outwards_own (place at m) (inner_place at i c) bs os a b) ok (λ p h. port_own modules top s.0 (inner_place at i c) p once s.1 h)

visits_own : (modules : List Module) (top : Module) (vs : List Visit) → repeated (map (λ (n : NetDeclaration). n.name) (declared_nets (flat modules top))) ≡ None → AllByRecursion (VisitStands (places modules top)) vs → AllLinks vs → AllByRecursion LinkOwn (flat_map visit_entries vs)
visits_own modules top [] once stands ok = tt
visits_own modules top (v ∷ vs) once stands ok = all_append LinkOwn (visit_entries v) (flat_map visit_entries vs) (turn_own modules top v.at v.within v.turn once stands.0.1 ok.0) (visits_own modules top vs once stands.1 ok.1)

pub links_are_own : (modules : List Module) (top : Module) → repeated (map (λ (n : NetDeclaration). n.name) (declared_nets (flat modules top))) ≡ None → bad_link_in modules top ≡ None → AllByRecursion LinkOwn (entries modules top)
links_are_own modules top once ok =
    visits_own modules top (visits level_limit modules [] top) once (visits_stand level_limit modules [] top)
    (visits_ok level_limit modules [] top (opens_of (visits level_limit modules [] top) (first_none (λ (v : Visit). turn_link v.at v.within v.turn) (visits level_limit modules [] top) ok)))

pub all_given : {X : Type 0} (P : X → Type 0) (xs : List X) → ((k : ℕ) (x : X) → slice_get xs k ≡ Some x → P x) → AllByRecursion P xs
all_given P [] f = tt
all_given P (x ∷ xs) f = (f zero x refl, all_given P xs (λ k y h. f (suc k) y h))

pub entries_own_bits : EntriesOwnBits
entries_own_bits modules top once known inside links names_ok =
    all_given HasOwnBits (entries modules top) (λ k e there. go k e there (all_at LinkOwn (entries modules top) k e (links_are_own modules top once links) there))
  where
    go : (k : ℕ) (e : Entry) → slice_get (entries modules top) k ≡ Some e → LinkOwn e → HasOwnBits e
    go k (stays p i) there own = stays_own_bits modules top once known inside names_ok k p i there
    go k (carries p b q o) there own = own
