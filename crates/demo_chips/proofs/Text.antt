-- No fault of the text stands in a demonstration netlist.
use Rattle.std.proofs.Common.{◌≡◌, ℕ, ◌+◌, ◌-◌, ◌^◌, ◌<◌, ◌≤◌, List, [], ◌∷◌, ◌++◌, length, map, refl, ap, ◌∙◌, Option, None, arith, length-append}
use Rattle.std.specs.Prelude.{codes}
use Rattle.std.specs.Fmt.{decimal}
use Rattle.std.proofs.lemmas.Bool.{le-ltb}
use Rattle.std.proofs.lemmas.List.FromFn.{length-map-range_with_len}
use Rattle.list_laws.proofs.Options.{none_along}
use Rattle.verilog_tree.specs.declared.tree.Bit.{Bit}
use Rattle.verilog_tree.specs.declared.tree.GateKind.{GateKind}
use Rattle.verilog_tree.specs.declared.tree.Item.{Item}
use Rattle.verilog_tree.specs.declared.tree.Link.{Link}
use Rattle.cell_library.specs.declared.Edge.TheVariants.{Rise}
use Rattle.cell_library.specs.declared.Kind.TheVariants as kind
use Rattle.cell_library.specs.declared.ResetTo.TheVariants.{Zero as ToZero}
use Rattle.cell_library.specs.declared.listed.ListedCell.{ListedCell}
use Rattle.netlist_model.specs.declared.What.{What}
use Rattle.netlist_model.specs.declared.What.TheVariants as what
use Rattle.link_model.specs.declared.fault.LinkFault.{LinkFault}
use Rattle.link_model.specs.Lists.{first_in, or_else}
use Rattle.link_model.specs.Nets.{Declared, bits_in, declared_names, declared_nets}
use Rattle.link_model.specs.Faults.{at_bit, at_instance, bit_faults, bit_outside, cell_unknown, gate_operands, instance_faults, item_bits, item_width, link_width, name_twice, name_unknown, port_missing, port_twice, port_unknown, text_fault, too_many, too_many_in, wrong_width}
use Rattle.demo_chips.specs.Netlists.{bit_of, demo_items, demo_module, flop_item, from_zero, gate_count, gate_item, link_to, output_item, pool_bit, scalar}
use Rattle.demo_chips.proofs.NetlistsPlaces.{EachAt, none_found}
use Rattle.demo_chips.proofs.Items.{flop_with, gate_with, items_at, output_with}
use Rattle.demo_chips.proofs.NetlistsBits.{IsBit, Knows, clear_bit, clock_bit, flop_bit, gate_bit, knows, output_bit, pool_bits}
use Rattle.demo_chips.proofs.NetlistsNames.{names_once}

-- no test of an item finds a fault
record IsClear (library : List ListedCell) (names : List (List ℕ × Declared)) (it : Item) : Type 0 where
  few : too_many what.Operands 256 (gate_operands it) ≡ None
  known : first_in (at_bit name_unknown names) (item_bits it) ≡ None
  inside : first_in (at_bit bit_outside names) (item_bits it) ≡ None
  cell : cell_unknown library it ≡ None
  ports : at_instance library (port_unknown library) it ≡ None
  linked : at_instance library (port_missing library) it ≡ None
  once : at_instance library port_twice it ≡ None
  width : item_width library names it ≡ None

gate_clear : (library : List ListedCell) (names : List (List ℕ × Declared)) (kind : GateKind) (output a b : Bit) (to one two : ℕ) → IsBit names output to → IsBit names a one → IsBit names b two → IsClear library names (gate_with kind output a b)
gate_clear library names kind output a b to one two o x y = record {
  few = refl;
  known = none_along (at_bit name_unknown names) (output ∷ a ∷ b ∷ []) (o.known, (x.known, (y.known, tt)));
  inside = none_along (at_bit bit_outside names) (output ∷ a ∷ b ∷ []) (o.inside, (x.inside, (y.inside, tt)));
  cell = refl;
  ports = refl;
  linked = refl;
  once = refl;
  width = none_along (at_bit wrong_width names) (output ∷ a ∷ b ∷ []) (o.width, (x.width, (y.width, tt)));
}

output_clear : (library : List ListedCell) (names : List (List ℕ × Declared)) (output a : Bit) (to one : ℕ) → IsBit names output to → IsBit names a one → IsClear library names (output_with output a)
output_clear library names output a to one o x = record {
  few = refl;
  known = none_along (at_bit name_unknown names) (output ∷ a ∷ []) (o.known, (x.known, tt));
  inside = none_along (at_bit bit_outside names) (output ∷ a ∷ []) (o.inside, (x.inside, tt));
  cell = refl;
  ports = refl;
  linked = refl;
  once = refl;
  width = none_along (at_bit wrong_width names) (output ∷ a ∷ []) (o.width, (x.width, tt));
}

abbrev links_with : Bit → Bit → Bit → Bit → List Link
links_with datum clock clear output = link_to (codes "D") datum ∷ link_to (codes "CK") clock ∷ link_to (codes "RN") clear ∷ link_to (codes "Q") output ∷ []

flop_clear : (library : List ListedCell) (names : List (List ℕ × Declared)) (name : List ℕ) (datum clock clear output : Bit) (one two three to : ℕ) → IsBit names datum one → IsBit names clock two → IsBit names clear three → IsBit names output to
    → IsClear library names (flop_with name datum clock clear output)
flop_clear library names name datum clock clear output one two three to x ck rn o = record {
  few = refl;
  known = none_along (at_bit name_unknown names) (datum ∷ clock ∷ clear ∷ output ∷ []) (x.known, (ck.known, (rn.known, (o.known, tt))));
  inside = none_along (at_bit bit_outside names) (datum ∷ clock ∷ clear ∷ output ∷ []) (x.inside, (ck.inside, (rn.inside, (o.inside, tt))));
  cell = refl;
  ports = refl;
  linked = refl;
  once = refl;
  width =
      none_along (link_width library names (record { cell = codes "DFFR"; name = name; links = links_with datum clock clear output }) (kind.Flop (record { edge = Rise; reset = ToZero }))) (links_with datum clock clear output)
      (x.width, (ck.width, (rn.width, (o.width, tt))));
}

-- of each item
items_clear : (library : List ListedCell) (n : ℕ) (names : List (List ℕ × Declared)) → Knows names (gate_count n) → gate_count n < 10 ^ 9 → EachAt (λ place it. IsClear library names it) (demo_items n)
items_clear library n names w small =
    items_at (λ place it. IsClear library names it) n
    (λ kind k a b plain less first second.
    let x = pool_bits names (gate_count n) k a w small (omega arith) first in
    let y = pool_bits names (gate_count n) k b w small (omega arith) second in
    gate_clear library names kind (bit_of (codes "g") k) (pool_bit a) (pool_bit b) (65 + gate_count n - k) x.net y.net (gate_bit names (gate_count n) k (65 + gate_count n - k) w small less (omega arith)) x.is y.is)
    (λ i a less inside.
    let x = pool_bits names (gate_count n) (gate_count n) a w small inside inside in
    flop_clear library names (codes "f_" ++ decimal i) (pool_bit a) (scalar (codes "clk")) (scalar (codes "rn")) (bit_of (codes "f") i) x.net 0 1 (65 - i) x.is (clock_bit names (gate_count n) w)
    (clear_bit names (gate_count n) w) (flop_bit names (gate_count n) i (65 - i) w less (omega arith)))
    (λ j a less inside.
    let x = pool_bits names (gate_count n) (gate_count n) a w small inside inside in
    output_clear library names (bit_of (codes "q") j) (pool_bit a) (33 - j) x.net (output_bit names (gate_count n) j (33 - j) w less (omega arith)) x.is)

-- Counts.

pub items_count : (n : ℕ) → length (demo_items n) ≡ gate_count n + 48
items_count n =
    let all = length-append (map (gate_item n) (from_zero (gate_count n))) (map (flop_item n) (from_zero 32) ++ map (output_item n) (from_zero 16)) in
    let gates = length-map-range_with_len (gate_item n) 0 (gate_count n) in
    all ∙ ap (λ (k : ℕ). k + 48) gates

few_enough : (things : What) (limit count real : ℕ) → count ≡ real → real ≤ limit → too_many things limit count ≡ None
few_enough things limit count real e less = rw (e, le-ltb limit real less) refl

bits_count : (n : ℕ) → bits_in (declared_nets (demo_module n)) ≡ 66 + gate_count n
bits_count n = one (gate_count n) (omega arith)
  where
    one : (count : ℕ) → 0 < count → 66 + ((count - 1 - 0) + (0 - (count - 1)) + 1) ≡ 66 + count
    one count some = omega arith

none_or : (a b : Option LinkFault) → a ≡ None → b ≡ None → or_else a b ≡ None
none_or a b one two = rw one two

few_of : (items : List Item) (cells nets ports : ℕ) → cells ≤ 262144 → nets ≤ 524288 → ports ≤ 4096 → length items ≡ cells → first_in (λ (i : Item). too_many what.Operands 256 (gate_operands i)) items ≡ None
    → or_else (too_many what.Cells 262144 (length items)) (or_else (too_many what.Nets 524288 nets) (or_else (too_many what.Ports 4096 ports) (first_in (λ (i : Item). too_many what.Operands 256 (gate_operands i)) items))) ≡ None
few_of items cells nets ports c n p count rest = rw (few_enough what.Cells 262144 (length items) cells count c, few_enough what.Nets 524288 nets nets refl n, few_enough what.Ports 4096 ports ports refl p) rest

-- the first fault of lists of items and of what is declared
none_of_five : (a b c d e : Option LinkFault) → a ≡ None → b ≡ None → c ≡ None → d ≡ None → e ≡ None → or_else a (or_else b (or_else c (or_else d e))) ≡ None
none_of_five a b c d e one two three four five = rw (one, two, three, four) five

none_of_four : (a b c d : Option LinkFault) → a ≡ None → b ≡ None → c ≡ None → d ≡ None → or_else a (or_else b (or_else c d)) ≡ None
none_of_four a b c d one two three four = rw (one, two, three) four

few : (library : List ListedCell) (n : ℕ) → n < 10000 → EachAt (λ place it. IsClear library (declared_names (demo_module n)) it) (demo_items n) → too_many_in (demo_module n) ≡ None
few library n low clear =
    few_of (demo_items n) (gate_count n + 48) (bits_in (declared_nets (demo_module n))) 34 (omega arith) (let bits = bits_count n in omega arith) (omega arith) (items_count n)
    (none_found (λ (i : Item). too_many what.Operands 256 (gate_operands i)) (demo_items n) (λ k it at. (clear k it at).few))

bits : (library : List ListedCell) (names : List (List ℕ × Declared)) (items : List Item) → EachAt (λ place it. IsClear library names it) items
    → or_else (first_in (λ (i : Item). first_in (at_bit name_unknown names) (item_bits i)) items) (first_in (λ (i : Item). first_in (at_bit bit_outside names) (item_bits i)) items) ≡ None
bits library names items clear =
    none_or (first_in (λ (i : Item). first_in (at_bit name_unknown names) (item_bits i)) items) (first_in (λ (i : Item). first_in (at_bit bit_outside names) (item_bits i)) items)
    (none_found (λ (i : Item). first_in (at_bit name_unknown names) (item_bits i)) items (λ k it at. (clear k it at).known))
    (none_found (λ (i : Item). first_in (at_bit bit_outside names) (item_bits i)) items (λ k it at. (clear k it at).inside))

instances : (library : List ListedCell) (names : List (List ℕ × Declared)) (items : List Item) → EachAt (λ place it. IsClear library names it) items
    → or_else (first_in (cell_unknown library) items) (or_else (first_in (at_instance library (port_unknown library)) items) (or_else (first_in (at_instance library (port_missing library)) items) (first_in (at_instance library port_twice) items))) ≡ None
instances library names items clear =
    none_of_four (first_in (cell_unknown library) items) (first_in (at_instance library (port_unknown library)) items) (first_in (at_instance library (port_missing library)) items) (first_in (at_instance library port_twice) items)
    (none_found (cell_unknown library) items (λ k it at. (clear k it at).cell)) (none_found (at_instance library (port_unknown library)) items (λ k it at. (clear k it at).ports))
    (none_found (at_instance library (port_missing library)) items (λ k it at. (clear k it at).linked)) (none_found (at_instance library port_twice) items (λ k it at. (clear k it at).once))

pub text_clear : (library : List ListedCell) (n : ℕ) → n < 10000 → text_fault library (demo_module n) ≡ None
text_clear library n low =
    let clear = items_clear library n (declared_names (demo_module n)) (knows n) (omega arith) in
    none_of_five (too_many_in (demo_module n)) (name_twice (demo_module n)) (bit_faults (demo_module n)) (instance_faults library (demo_module n)) (first_in (item_width library (declared_names (demo_module n))) (demo_items n))
    (few library n low clear) (names_once n) (bits library (declared_names (demo_module n)) (demo_items n) clear) (instances library (declared_names (demo_module n)) (demo_items n) clear)
    (none_found (item_width library (declared_names (demo_module n))) (demo_items n) (λ k it at. (clear k it at).width))
