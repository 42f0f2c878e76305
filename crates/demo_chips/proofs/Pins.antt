-- The bits that the plan's pin lines name, and what stands at each.
use Rattle.std.proofs.Common.{◌≡◌, ℕ, zero, suc, ◌+◌, ◌-◌, ◌*◌, ◌/◌, ◌%◌, ◌<◌, ◌≤◌, ◌^◌, ◌⊎◌, inl, inr, Bool, true, false, List, [], ◌∷◌, ◌++◌, map, length, codes, slice_get, Option, Some, None, decimal, refl, sym, ap, ◌∙◌, subst, arith, leb-true, leb-false}
use Rattle.std.specs.Prelude.{IsTrue, is_some, nat_le, option_map, if◌then◌else◌}
use Rattle.std.specs.List.{AllByRecursion}
use Rattle.std.proofs.lemmas.Fmt.{decimal_by_steps, decimal_nonempty, length-decimal-le}
use Rattle.std.proofs.lemmas.Option.{slice_get-map}
use Rattle.list_laws.specs.Lists.{AreAll, counted_from}
use Rattle.list_laws.proofs.Lists.{AreAll-left, AreAll-right, slice_get-counted_from}
use Rattle.verilog_lexicon.specs.Bytes.{is_digit}
use Rattle.verilog_lexicon.specs.Pieces.{value_from}
use Rattle.cell_library.specs.Gates.{is_flop, is_three_state}
use Rattle.cell_library.specs.declared.Kind.TheVariants as kind
use Rattle.netlist_model.specs.declared.Dir.{Dir}
use Rattle.netlist_model.specs.declared.Dir.TheVariants as dir
use Rattle.netlist_model.specs.declared.Feed.{Feed}
use Rattle.netlist_model.specs.declared.Feed.TheVariants.{Net}
use Rattle.netlist_model.specs.declared.NetId.{NetId}
use Rattle.netlist_model.specs.declared.PinBit.{PinBit}
use Rattle.netlist_model.specs.declared.Range.{Range}
use Rattle.netlist_model.specs.Lists.{PortView, CellView, NetlistView, Drives}
use Rattle.netlist_model.specs.Settled.{driver_of}
use Rattle.netlist_model.specs.Cones.{InCone, FlopReads, IsControlPort}
use Rattle.netlist_model.specs.Cones.InCone.{itself, behind}
use Rattle.netlist_model.specs.Drivers.{DriverDrives, IsDriverOf}
use Rattle.link_model.specs.Denoted.{NamedPort, IsPort, net_id}
use Rattle.netlist_link.specs.Linked.{LinkedView}
use Rattle.netlist_link.specs.Links.{IsLinkOf}
use Rattle.netlist_link.specs.PinWords.{IsIndexed, IsScalarWord, IsBitAt, HasPortName, IsVectorBit, IsPinWord, pin_at}
use Rattle.netlist_link.specs.PinWords.IsPinWord.{scalar, vector}
use Rattle.netlist_link.specs.WellNamed.{IsWellNamed}
use Rattle.netlist_link.proofs.PinLaws.{one_port, indexed_once}
use Rattle.plan_texts.specs.declared.plan.PinLine.{PinLine}
use Rattle.plan_fitting.specs.Pins.{PinSeen, IsSeen, AreSeen}
use Rattle.plan_fitting.specs.Rows.{three_state}
use Rattle.plan_fitting.proofs.Drivers.{plain_driver}
use Rattle.demo_chips.specs.Netlists.{from_zero, demo_module}
use Rattle.demo_chips.specs.Plans.{bit_word, vector_line, pin_lines}
use Rattle.demo_chips.proofs.PlansLists.{are_more, are_mapped}
use Rattle.demo_chips.proofs.Views.{chip_ports, ports_are, cell_is}

-- A word names one bit.

some_same : {X : Type 0} (x y : X) → ◌≡◌ {A = Option X} (Some x) (Some y) → x ≡ y
some_same x y e = cc

index_once : (range : Range) (bit other index : ℕ) → IsBitAt range index bit → IsBitAt range index other → bit ≡ other
index_once range bit other index one two = by (nat_le range.left range.right) refl
  where
    by : (b : Bool) → nat_le range.left range.right ≡ b → bit ≡ other
    by true e =
        let low : range.left ≤ range.right = leb-true range.left range.right e in
        let at : range.left + bit ≡ index = some_same (range.left + bit) index (ap (λ (t : Bool). Some (if t then range.left + bit else range.left - bit)) (sym e) ∙ one.at) in
        let too : range.left + other ≡ index = some_same (range.left + other) index (ap (λ (t : Bool). Some (if t then range.left + other else range.left - other)) (sym e) ∙ two.at) in
        omega arith
    by false e =
        let high : range.right < range.left = leb-false range.left range.right e in
        let at : range.left - bit ≡ index = some_same (range.left - bit) index (ap (λ (t : Bool). Some (if t then range.left + bit else range.left - bit)) (sym e) ∙ one.at) in
        let too : range.left - other ≡ index = some_same (range.left - other) index (ap (λ (t : Bool). Some (if t then range.left + other else range.left - other)) (sym e) ∙ two.at) in
        let within = one.within in
        let within_too = two.within in
        omega arith

ports_same : (ports : List PortView) (k : ℕ) (p q : PortView) → slice_get ports k ≡ Some p → slice_get ports k ≡ Some q → p ≡ q
ports_same ports k p q a b = some_same p q (sym a ∙ b)

bit_once : (N : NetlistView) (number index bit other : ℕ) → IsVectorBit N number index bit → IsVectorBit N number index other → bit ≡ other
bit_once N number index bit other one two =
    let same : one.port ≡ two.port = ports_same N.ports number one.port two.port one.there two.there in
    let range : two.range ≡ one.range = some_same two.range one.range (sym two.vector ∙ ap (λ (p : PortView). p.range) (sym same) ∙ one.vector) in
    index_once one.range bit other index one.at (subst (λ (r : Range). IsBitAt r index other) range two.at)

pub pin_once : (table : List (List ℕ)) (N : NetlistView) (word : List ℕ) → IsWellNamed table N → (a b : PinBit) → IsPinWord table N word a → IsPinWord table N word b → a ≡ b
pin_once table N word well a b (scalar {number = p} one) (scalar {number = q} two) =
    ap (λ (n : ℕ). pin_at n 0) (one_port table N p q word well (record { port = one.port; named = one.named }) (record { port = two.port; named = two.named }))
pin_once table N word well a b (scalar {number = p} one) (vector none two) = absurd (none p one)
pin_once table N word well a b (vector none one) (scalar {number = q} two) = absurd (none q two)
pin_once table N word well a b (vector {number = p} {bit = k} none one) (vector {number = q} {bit = j} none_too two) =
    let same = indexed_once word one.name two.name one.index two.index one.indexed two.indexed in
    let port : p ≡ q = one_port table N p q one.name well one.of.named (subst (λ (n : List ℕ). HasPortName table N q n) (sym same.name_is) two.of.named) in
    let at : IsVectorBit N p one.index j = subst (λ (n : ℕ). IsVectorBit N n one.index j) (sym port) (subst (λ (i : ℕ). IsVectorBit N q i j) (sym same.index_is) two.of.indexed) in
    let bit : k ≡ j = bit_once N p one.index k j one.of.indexed at in
    ap (λ (n : ℕ). pin_at n k) port ∙ ap (λ (i : ℕ). pin_at q i) bit

-- Digits.

record DigitsOf (n : ℕ) (ds : List ℕ) : Type 0 where
  pub digits : AllByRecursion (λ c. IsTrue (is_digit c)) ds
  pub value : value_from 0 ds ≡ n

push_value : (n : ℕ) (ds : List ℕ) (d : ℕ) → value_from n (ds ++ d ∷ []) ≡ 10 * value_from n ds + (d - 48)
push_value n [] d = refl
push_value n (e ∷ ds) d = push_value (10 * n + (e - 48)) ds d

push_digits : (ds : List ℕ) (d : ℕ) → AllByRecursion (λ c. IsTrue (is_digit c)) ds → IsTrue (is_digit d) → AllByRecursion (λ c. IsTrue (is_digit c)) (ds ++ d ∷ [])
push_digits [] d all last = (last, tt)
push_digits (e ∷ ds) d all last = (all.0, push_digits ds d all.1 last)

digit_byte : (d : ℕ) → d < 10 → IsTrue (is_digit (48 + d))
digit_byte d low = grind arith

one_digit : (n : ℕ) → n < 10 → DigitsOf n ((48 + n) ∷ [])
one_digit n low = record { digits = (digit_byte n low, tt); value = omega arith }

more_digits : (n : ℕ) (ds : List ℕ) → 10 ≤ n → DigitsOf (n / 10) ds → DigitsOf n (ds ++ (48 + n % 10) ∷ [])
more_digits n ds large before = record {
  digits = push_digits ds (48 + n % 10) before.digits (digit_byte (n % 10) (omega arith));
  value = push_value 0 ds (48 + n % 10) ∙ (let e : value_from 0 ds ≡ n / 10 = before.value in omega arith);
}

decimal_digits : (n : ℕ) → n < 2 ^ 64 → DigitsOf n (decimal n)
decimal_digits n low = decimal_by_steps DigitsOf one_digit more_digits n low

word_indexed : (letter index : ℕ) → index < 16 → IsIndexed (bit_word (letter ∷ []) index) (letter ∷ []) index
word_indexed letter index low =
    let digits = decimal_digits index (omega arith) in
    record {
      digits = decimal index;
      number = (decimal_nonempty index (omega arith), (let few : length (decimal index) ≤ 2 = length-decimal-le 2 index (omega arith) (omega arith) (omega arith) in omega arith), digits.digits);
      spelled = refl;
      value = sym digits.value;
    }

-- What stands at a line.

-- a bit: its port, its place there, its net, and its port's direction
pub record Spot : Type 0 where
  pub pin : PinBit
  pub side : Dir
  pub net : ℕ

abbrev spot : ℕ → ℕ → Dir → ℕ → Spot
spot port bit side net = record { pin = pin_at port bit; side = side; net = net }

abbrev pub chip_spots : List Spot
chip_spots =
    spot 0 0 dir.Input 0 ∷ spot 1 0 dir.Input 1 ∷ (map (λ (k : ℕ). spot 2 k dir.Input (2 + k)) (from_zero 16) ++ map (λ (k : ℕ). spot 3 k dir.Output (18 + k)) (from_zero 16))

-- the line names the bit, with what stands there
pub record StandsAt (L : LinkedView) (line : PinLine) (s : Spot) : Type 0 where
  pub named : IsPinWord L.names L.arena.lists line.port s.pin
  pub port : PortView
  pub there : slice_get L.arena.lists.ports s.pin.port.0 ≡ Some port
  pub side : port.dir ≡ s.side
  pub net : slice_get port.nets s.pin.bit ≡ Some (net_id s.net)

scalar_at : (number : ℕ) (L : LinkedView) → IsLinkOf (demo_module number) L → (k : ℕ) (port : NamedPort) (net : ℕ) → slice_get chip_ports k ≡ Some port → port.range ≡ None → port.nets ≡ net_id net ∷ []
    → (line : PinLine) → line.port ≡ port.name → StandsAt L line (spot k 0 port.dir net)
scalar_at number L links k port net at alone one line word =
    let there = AreAll-left (IsPort L.names) L.arena.lists.ports chip_ports k port (ports_are number L links) at in
    record {
      named = scalar {number = k} (record {
        port = there.0;
        named = record { there = there.1; named = there.2.name ∙ ap (λ (n : List ℕ). Some n) (sym word) };
        scalar = there.2.range ∙ alone;
      });
      port = there.0;
      there = there.1;
      side = there.2.dir;
      net = ap (λ (ns : List NetId). slice_get ns 0) (there.2.nets ∙ one);
    }

-- no scalar's name is a word with an index
scalars_plain : (k : ℕ) (port : NamedPort) → slice_get chip_ports k ≡ Some port → port.range ≡ None → (port.name ≡ codes "clk") ⊎ (port.name ≡ codes "rn")
scalars_plain zero port at alone = inl (cc)
scalars_plain (suc zero) port at alone = inr (cc)
scalars_plain (suc (suc zero)) port at alone = absurd (cc)
scalars_plain (suc (suc (suc zero))) port at alone = absurd (cc)
scalars_plain (suc (suc (suc (suc k)))) port at alone = absurd (cc)

second_apart : (x y : List ℕ) (a b : ℕ) → slice_get x 1 ≡ Some a → slice_get y 1 ≡ Some b → x ≡ y → a < b → ⊥
second_apart x y a b at too same less =
    let equal : a ≡ b = some_same a b (sym at ∙ ap (λ (l : List ℕ). slice_get l 1) same ∙ too) in
    omega (arith, equal, less)

no_scalar : (number : ℕ) (L : LinkedView) → IsLinkOf (demo_module number) L → (letter index : ℕ) (other : ℕ) → IsScalarWord L.names L.arena.lists (bit_word (letter ∷ []) index) other → ⊥
no_scalar number L links letter index other is =
    let there = AreAll-right (IsPort L.names) L.arena.lists.ports chip_ports other is.port (ports_are number L links) is.named.there in
    let name : there.0.name ≡ bit_word (letter ∷ []) index = some_same there.0.name (bit_word (letter ∷ []) index) (sym there.2.name ∙ is.named.named) in
    by (scalars_plain other there.0 there.1 (sym there.2.range ∙ is.scalar)) there.0.name name
  where
    by : {name : List ℕ} → (name ≡ codes "clk") ⊎ (name ≡ codes "rn") → (given : List ℕ) → name ≡ bit_word (letter ∷ []) index → ⊥
    by (inl e) given same = second_apart (bit_word (letter ∷ []) index) (codes "clk") 91 108 refl refl (sym same ∙ e) (omega arith)
    by (inr e) given same = second_apart (bit_word (letter ∷ []) index) (codes "rn") 91 110 refl refl (sym same ∙ e) (omega arith)

vector_at : (number : ℕ) (L : LinkedView) → IsLinkOf (demo_module number) L → (p letter first pin : ℕ) (side : Dir)
    → slice_get chip_ports p ≡ Some (record { name = letter ∷ []; dir = side; range = Some (record { left = 15; right = 0 }); nets = map net_id (counted_from first 16) })
    → (k : ℕ) → k < 16 → StandsAt L (vector_line (letter ∷ []) pin k) (spot p k side (first + k))
vector_at number L links p letter first pin side at k low =
    let port : NamedPort = record { name = letter ∷ []; dir = side; range = Some (record { left = 15; right = 0 }); nets = map net_id (counted_from first 16) } in
    let there = AreAll-left (IsPort L.names) L.arena.lists.ports chip_ports p port (ports_are number L links) at in
    record {
      named = vector {number = p} {bit = k} (λ other is. no_scalar number L links letter (15 - k) other is) (record {
        name = letter ∷ [];
        index = 15 - k;
        indexed = word_indexed letter (15 - k) (omega arith);
        of = record {
          named = record { port = there.0; named = record { there = there.1; named = there.2.name } };
          indexed = record { port = there.0; there = there.1; range = record { left = 15; right = 0 }; vector = there.2.range; at = record { within = low; at = refl } };
        };
      });
      port = there.0;
      there = there.1;
      side = there.2.dir;
      net = ap (λ (ns : List NetId). slice_get ns k) there.2.nets ∙ slice_get-map net_id (counted_from first 16) k ∙ ap (option_map net_id) (slice_get-counted_from first 16 k low);
    }

vectors_stand : (number : ℕ) (L : LinkedView) → IsLinkOf (demo_module number) L
    → AreAll (StandsAt L) (map (vector_line (codes "d") 3) (from_zero 16) ++ map (vector_line (codes "q") 19) (from_zero 16))
    (map (λ (k : ℕ). spot 2 k dir.Input (2 + k)) (from_zero 16) ++ map (λ (k : ℕ). spot 3 k dir.Output (18 + k)) (from_zero 16))
vectors_stand number L links =
    are_more (StandsAt L) (map (vector_line (codes "d") 3) (from_zero 16)) (map (vector_line (codes "q") 19) (from_zero 16)) (map (λ (k : ℕ). spot 2 k dir.Input (2 + k)) (from_zero 16))
    (map (λ (k : ℕ). spot 3 k dir.Output (18 + k)) (from_zero 16))
    (are_mapped (StandsAt L) (vector_line (codes "d") 3) (λ (k : ℕ). spot 2 k dir.Input (2 + k)) 0 16 (λ k low. vector_at number L links 2 100 2 3 dir.Input refl k low))
    (are_mapped (StandsAt L) (vector_line (codes "q") 19) (λ (k : ℕ). spot 3 k dir.Output (18 + k)) 0 16 (λ k low. vector_at number L links 3 113 18 19 dir.Output refl k low))

pub lines_stand : (number : ℕ) (L : LinkedView) → IsLinkOf (demo_module number) L → AreAll (StandsAt L) pin_lines chip_spots
lines_stand number L links = (scalar_at number L links 0 _ 0 refl refl refl _ refl, (scalar_at number L links 1 _ 1 refl refl refl _ refl, vectors_stand number L links))

-- Controls and drivers.

abbrev net_number : Option Feed → ℕ
net_number (Some (Net net)) = net.0
net_number feed = 0

net_below : (a b : ℕ) → b < 2 → ◌≡◌ {A = Option Feed} (Some (Net (net_id a))) (Some (Net (net_id b))) → a < 2
net_below a b low e = let same : a ≡ b = ap net_number e in omega (arith, same, low)

reads_low : (number : ℕ) (L : LinkedView) → IsLinkOf (demo_module number) L → (root : ℕ) → FlopReads L.arena.lists 1 root ⊎ FlopReads L.arena.lists 2 root → root < 2
reads_low number L links root (inl r) =
    let one = cell_is number L links r.number r.cell r.reads.live in
    let flop : is_flop L.arena.lists.library one.named.kind ≡ true = ap (is_flop L.arena.lists.library) (sym one.is.kind) ∙ ap is_some r.flop in
    net_below root 0 (omega arith) (sym r.reads.operand ∙ ap (λ (fs : List Feed). slice_get fs 1) one.is.feeds ∙ (one.demo.controls L.arena.lists.library flop).clock)
reads_low number L links root (inr r) =
    let one = cell_is number L links r.number r.cell r.reads.live in
    let flop : is_flop L.arena.lists.library one.named.kind ≡ true = ap (is_flop L.arena.lists.library) (sym one.is.kind) ∙ ap is_some r.flop in
    net_below root 1 (omega arith) (sym r.reads.operand ∙ ap (λ (fs : List Feed). slice_get fs 2) one.is.feeds ∙ (one.demo.controls L.arena.lists.library flop).clear)

driven_high : (number : ℕ) (L : LinkedView) → IsLinkOf (demo_module number) L → (i : ℕ) (cell : CellView) (net : ℕ) → Drives L.arena.lists i cell net → 2 ≤ net
driven_high number L links i cell net d =
    let one = cell_is number L links i cell d.live in
    let same : ◌≡◌ {A = Option NetId} (Some one.demo.net) (Some (net_id net)) = sym one.demo.output ∙ sym one.is.output ∙ d.output in
    let net_is : one.demo.net.0 ≡ net = ap (λ (n : NetId). n.0) (some_same one.demo.net (net_id net) same) in
    let inside = one.demo.inside in
    omega arith

cone_low : (number : ℕ) (L : LinkedView) → IsLinkOf (demo_module number) L → (root net : ℕ) → root < 2 → InCone L.arena.lists root net → net < 2
cone_low number L links root net low itself = low
cone_low number L links root other low (behind {net = net} cone gate) =
    let below = cone_low number L links root net low cone in
    let high = driven_high number L links gate.number gate.cell net gate.drives in
    absurd (omega arith)

no_control : (number : ℕ) (L : LinkedView) → IsLinkOf (demo_module number) L → (net : ℕ) → 2 ≤ net → IsControlPort L.arena.lists net → ⊥
no_control number L links net high is =
    let low = cone_low number L links is.1.root net (reads_low number L links is.1.root is.1.operand) is.1.cone in
    omega arith

no_driver : (number : ℕ) (L : LinkedView) → IsLinkOf (demo_module number) L → (net : ℕ) (found : Option CellView) → IsDriverOf L.arena.lists net found → three_state found ≡ None
no_driver number L links net None is = refl
no_driver number L links net (Some cell) is =
    let one = cell_is number L links is.0 cell is.1.live in
    plain_driver cell.kind cell.feeds (ap is_three_state one.is.kind ∙ one.demo.plain)

-- What is seen.

pub record IsSpot (one : PinSeen) (s : Spot) : Type 0 where
  pub pin : one.pin ≡ s.pin
  pub side : one.side ≡ s.side
  pub control : 2 ≤ s.net → one.control ≡ false
  pub driver : three_state one.driver ≡ None

not_control : (b : Bool) (P : Type 0) → (IsTrue b → P) → (P → ⊥) → b ≡ false
not_control true P given never = absurd (never (given refl))
not_control false P given never = refl

spot_is : DriverDrives → (number : ℕ) (L : LinkedView) → IsLinkOf (demo_module number) L → IsWellNamed L.names L.arena.lists → (line : PinLine) (one : PinSeen) (s : Spot) → StandsAt L line s → IsSeen L line.port one → IsSpot one s
spot_is law number L links well line one s stands seen =
    let pin : one.pin ≡ s.pin = pin_once L.names L.arena.lists line.port well one.pin s.pin seen.named.0 stands.named in
    let port : seen.port ≡ stands.port = ports_same L.arena.lists.ports s.pin.port.0 seen.port stands.port (subst (λ (p : PinBit). slice_get L.arena.lists.ports p.port.0 ≡ Some seen.port) pin seen.there) stands.there in
    let net : ◌≡◌ {A = Option NetId} (Some one.net) (Some (net_id s.net)) =
    sym seen.net ∙ ap (λ (p : PinBit). slice_get seen.port.nets p.bit) pin ∙ ap (λ (q : PortView). slice_get q.nets s.pin.bit) port ∙ stands.net in
    let number_is : one.net.0 ≡ s.net = ap (λ (n : NetId). n.0) (some_same one.net (net_id s.net) net) in
    record {
      pin = pin;
      side = seen.side ∙ ap (λ (p : PortView). p.dir) port ∙ stands.side;
      control = λ high. not_control one.control (IsControlPort L.arena.lists one.net.0) seen.control.0 (no_control number L links one.net.0 (omega (arith, high, number_is)));
      driver = ap three_state seen.driver ∙ no_driver number L links one.net.0 (driver_of L.arena.lists.cells one.net.0) (law L.arena.lists one.net.0);
    }

spots_are : DriverDrives → (number : ℕ) (L : LinkedView) → IsLinkOf (demo_module number) L → IsWellNamed L.names L.arena.lists → (lines : List PinLine) (seen : List PinSeen) (spots : List Spot) → AreAll (StandsAt L) lines spots
    → AreSeen L lines seen → AreAll IsSpot seen spots
spots_are law number L links well [] [] [] stand are = tt
spots_are law number L links well [] (one ∷ seen) [] stand are = let many = are.count in absurd (omega arith)
spots_are law number L links well [] seen (s ∷ spots) stand are = absurd stand
spots_are law number L links well (line ∷ lines) seen [] stand are = absurd stand
spots_are law number L links well (line ∷ lines) [] (s ∷ spots) stand are = let many = are.count in absurd (omega arith)
spots_are law number L links well (line ∷ lines) (one ∷ seen) (s ∷ spots) stand are = (
  spot_is law number L links well line one s stand.0 (are.each 0 line one refl refl),
  spots_are law number L links well lines seen spots stand.1 (record { count = (let many = are.count in omega arith); each = λ place l o at there. are.each (suc place) l o at there }),
)

pub seen_are : DriverDrives → (number : ℕ) (L : LinkedView) → IsLinkOf (demo_module number) L → IsWellNamed L.names L.arena.lists → (seen : List PinSeen) → AreSeen L pin_lines seen → AreAll IsSpot seen chip_spots
seen_are law number L links well seen are = spots_are law number L links well pin_lines seen chip_spots (lines_stand number L links) are
