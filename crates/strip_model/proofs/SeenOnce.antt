-- A word names one bit, at which one thing stands.
use Rattle.std.proofs.Common.{◌≡◌, ◌↔◌, ℕ, suc, Bool, true, false, List, [], ◌∷◌, length, refl, sym, ◌∙◌, ap, subst, Option, Some, slice_get, arith, IsTrue}
use Rattle.netlist_model.specs.declared.Dir.{Dir}
use Rattle.netlist_model.specs.declared.NetId.{NetId}
use Rattle.netlist_model.specs.declared.PinBit.{PinBit}
use Rattle.netlist_model.specs.declared.Range.{Range}
use Rattle.netlist_model.specs.Lists.{PortView, CellView, NetlistView}
use Rattle.netlist_model.specs.Settled.{driver_of}
use Rattle.netlist_model.specs.Cones.{IsClockPort, IsControlPort}
use Rattle.netlist_link.specs.Linked.{LinkedView}
use Rattle.netlist_link.specs.PinWords.{IsBitAt, HasPortName, IsVectorBit, IsBitWord, IsPinWord, pin_at}
use Rattle.netlist_link.specs.PinWords.IsPinWord.{scalar, vector}
use Rattle.netlist_link.specs.WellNamed.{IsWellNamed}
use Rattle.netlist_link.proofs.PinLaws.{SameIndexed, one_port, indexed_once}
use Rattle.plan_texts.specs.declared.plan.PinLine.{PinLine}
use Rattle.plan_fitting.specs.Pins.{PinSeen, IsSeen, AreSeen}
use Rattle.wrapped_chip.specs.Cells.{bit_place}
use Rattle.plan_fitting.proofs.Indices.{place_of_index}
use Rattle.strip_model.specs.Once.{PinsAreSeenOnce}

same_some : {X : Type 0} (a b : X) → ◌≡◌ {A = Option X} (Some a) (Some b) → a ≡ b
same_some a b e = cc

-- Words.

-- a bit by its index
bit_once : (range : Range) (one other index : ℕ) → IsBitAt range index one → IsBitAt range index other → one ≡ other
bit_once range one other index is there =
    sym (place_of_index (Some range) one is.within)
    ∙ ap (bit_place (Some range)) (is.at ∙ sym there.at)
    ∙ place_of_index (Some range) other there.within

vector_once : (N : NetlistView) (number index one other : ℕ) → IsVectorBit N number index one → IsVectorBit N number index other → one ≡ other
vector_once N number index one other is there =
    let port : is.port ≡ there.port = same_some is.port there.port (sym is.there ∙ there.there) in
    let range : is.range ≡ there.range = same_some is.range there.range (sym is.vector ∙ ap (λ (p : PortView). p.range) port ∙ there.vector) in
    bit_once there.range one other index (subst (λ (r : Range). IsBitAt r index one) range is.at) there.at

word_once : (table : List (List ℕ)) (N : NetlistView) → IsWellNamed table N → (word : List ℕ) (number bit other at : ℕ) → IsBitWord table N word number bit → IsBitWord table N word other at
    → pin_at number bit ≡ pin_at other at
word_once table N well word number bit other at is there =
    let same : SameIndexed is.name is.index there.name there.index = indexed_once word is.name there.name is.index there.index is.indexed there.indexed in
    let port : number ≡ other = one_port table N number other there.name well (subst (HasPortName table N number) same.name_is is.of.named) there.of.named in
    let here : IsVectorBit N other there.index bit = subst (λ (i : ℕ). IsVectorBit N other i bit) same.index_is (subst (λ (n : ℕ). IsVectorBit N n is.index bit) port is.of.indexed) in
    ap (λ (n : ℕ). pin_at n bit) port ∙ ap (pin_at other) (vector_once N other there.index bit at here there.of.indexed)

pin_once : (table : List (List ℕ)) (N : NetlistView) → IsWellNamed table N → (word : List ℕ) (one other : PinBit) → IsPinWord table N word one → IsPinWord table N word other → one ≡ other
pin_once table N well word one other (scalar {number} is) (scalar {number = next} there) =
    ap (λ (n : ℕ). pin_at n 0) (one_port table N number next word well (record { port = is.port; named = is.named }) (record { port = there.port; named = there.named }))
pin_once table N well word one other (scalar {number} is) (vector none there) = absurd (none number is)
pin_once table N well word one other (vector none is) (scalar {number = next} there) = absurd (none next there)
pin_once table N well word one other (vector {number} {bit} none is) (vector {number = next} {bit = at} never there) = word_once table N well word number bit next at is there

-- What stands at a bit.

same_truth : (one other : Bool) (P : Type 0) → IsTrue one ↔ P → IsTrue other ↔ P → one ≡ other
same_truth true true P is there = refl
same_truth false false P is there = refl
same_truth true false P is there = absurd (let bad : false ≡ true = there.1 (is.0 refl) in cc)
same_truth false true P is there = absurd (let bad : false ≡ true = is.1 (there.0 refl) in cc)

abbrev seen_by : PinBit → NetId → Dir → Bool → Bool → Option CellView → PinSeen
seen_by pin net side clock control driver = record { pin = pin; net = net; side = side; clock = clock; control = control; driver = driver }

one_seen : (L : LinkedView) → IsWellNamed L.names L.arena.lists → (word : List ℕ) (one other : PinSeen) → IsSeen L word one → IsSeen L word other → one ≡ other
one_seen L well word one other is there =
    let N : NetlistView = L.arena.lists in
    let pin : one.pin ≡ other.pin = pin_once L.names N well word one.pin other.pin is.named.0 there.named.0 in
    let port : is.port ≡ there.port =
    same_some is.port there.port (sym is.there ∙ ap (λ (p : PinBit). slice_get N.ports p.port.0) pin ∙ there.there) in
    let net : one.net ≡ other.net =
    same_some one.net other.net (sym is.net ∙ ap (λ (p : PortView). slice_get p.nets one.pin.bit) port ∙ ap (λ (p : PinBit). slice_get there.port.nets p.bit) pin ∙ there.net) in
    let side : one.side ≡ other.side = is.side ∙ ap (λ (p : PortView). p.dir) port ∙ sym there.side in
    let clock : one.clock ≡ other.clock =
    same_truth one.clock other.clock (IsClockPort N other.net.0) (subst (λ (n : NetId). IsTrue one.clock ↔ IsClockPort N n.0) net is.clock) there.clock in
    let control : one.control ≡ other.control =
    same_truth one.control other.control (IsControlPort N other.net.0) (subst (λ (n : NetId). IsTrue one.control ↔ IsControlPort N n.0) net is.control) there.control in
    let driver : one.driver ≡ other.driver = is.driver ∙ ap (λ (n : NetId). driver_of N.cells n.0) net ∙ sym there.driver in
    ap (λ (p : PinBit). seen_by p one.net one.side one.clock one.control one.driver) pin
    ∙ ap (λ (n : NetId). seen_by other.pin n one.side one.clock one.control one.driver) net
    ∙ ap (λ (d : Dir). seen_by other.pin other.net d one.clock one.control one.driver) side
    ∙ ap (λ (b : Bool). seen_by other.pin other.net other.side b one.control one.driver) clock
    ∙ ap (λ (b : Bool). seen_by other.pin other.net other.side other.clock b one.driver) control
    ∙ ap (seen_by other.pin other.net other.side other.clock other.control) driver

later : (L : LinkedView) (line : PinLine) (lines : List PinLine) (one : PinSeen) (seen : List PinSeen) → AreSeen L (line ∷ lines) (one ∷ seen) → AreSeen L lines seen
later L line lines one seen are = record {
  count = (let many : length (one ∷ seen) ≡ length (line ∷ lines) = are.count in omega (arith, many));
  each = λ place next here at there. are.each (suc place) next here at there;
}

pub seen_once : PinsAreSeenOnce
seen_once L [] [] [] well a b = refl
seen_once L [] (x ∷ xs) ys well a b = absurd (let many : length (x ∷ xs) ≡ 0 = a.count in omega (arith, many))
seen_once L [] [] (y ∷ ys) well a b = absurd (let many : length (y ∷ ys) ≡ 0 = b.count in omega (arith, many))
seen_once L (line ∷ lines) [] ys well a b = absurd (let many : 0 ≡ length (line ∷ lines) = a.count in omega (arith, many))
seen_once L (line ∷ lines) (x ∷ xs) [] well a b = absurd (let many : 0 ≡ length (line ∷ lines) = b.count in omega (arith, many))
seen_once L (line ∷ lines) (x ∷ xs) (y ∷ ys) well a b =
    ap (λ (z : PinSeen). z ∷ xs) (one_seen L well line.port x y (a.each 0 line x refl refl) (b.each 0 line y refl refl))
    ∙ ap (λ (zs : List PinSeen). y ∷ zs) (seen_once L lines xs ys well (later L line lines x xs a) (later L line lines y ys b))
