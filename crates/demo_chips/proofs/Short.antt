-- The canonical text of a demonstration netlist is short: no line of an item has more than 160 bytes.
use Rattle.std.proofs.Common.{◌≡◌, ℕ, ◌+◌, ◌-◌, ◌*◌, ◌%◌, ◌^◌, ◌<◌, ◌≤◌, Bool, true, false, List, [], ◌∷◌, ◌++◌, map, length, codes, decimal, flat_map, Some, refl, ap, ◌∙◌, arith, length-append, leb-true}
use Rattle.std.specs.Prelude.{nat_lt, if◌then◌else◌}
use Rattle.std.specs.Fmt.{digits}
use Rattle.std.specs.List.{AllByRecursion}
use Rattle.std.proofs.lemmas.Fmt.{length-decimal-le}
use Rattle.std.proofs.lemmas.List.FromFn.{length-map-range_with_len}
use Rattle.list_laws.proofs.Lists.{all_append, all_mapped}
use Rattle.verilog_tree.specs.declared.tree.Bit.{Bit}
use Rattle.verilog_tree.specs.declared.tree.GateKind.{GateKind}
use Rattle.verilog_tree.specs.declared.tree.GateKind.TheVariants as gate
use Rattle.verilog_tree.specs.declared.tree.Item.{Item}
use Rattle.verilog_tree.specs.WrittenWords.{key_of_gate}
use Rattle.verilog_lexicon.specs.Keywords.{reserved_of, spelling_of}
use Rattle.verilog_tree.specs.Canonical.{is_plain, name_text, index_text, bit_text, item_text, wire_text, ports_text, link_text}
use Rattle.bsdl_device.specs.Canonical.{bits_text}
use Rattle.plan_texts.specs.Canonical.{canonical_plan}
use Rattle.demo_chips.specs.Draws.{draw}
use Rattle.demo_chips.specs.Netlists.{bit_of, pool_bit, drawn_bit, gate_count, gate_kind, gate_item, scalar, link_to, flop_item, output_item, from_zero, wires_of, demo_ports, demo_items}
use Rattle.demo_chips.specs.Plans.{demo_plan}
use Rattle.demo_chips.specs.PlansLaws.{ChipsAreShort, PlanIsShort}
use Rattle.demo_chips.proofs.PlansLists.{all_below}

joined_short : (xs ys : List ℕ) (m n : ℕ) → length xs ≤ m → length ys ≤ n → length (xs ++ ys) ≤ m + n
joined_short xs ys m n one two = omega (arith, length-append xs ys)

flat_short : {X : Type 0} (text : X → List ℕ) (most : ℕ) (xs : List X) → AllByRecursion (λ x. length (text x) ≤ most) xs → length (flat_map text xs) ≤ most * length xs
flat_short text most [] all = omega arith
flat_short text most (x ∷ xs) all =
    let more = flat_short text most xs all.1 in
    let joined = length-append (text x) (flat_map text xs) in
    let here = all.0 in
    let times : most * length (x ∷ xs) ≡ most + most * length xs = omega arith in
    omega arith

-- Bits.

name_short : (name : List ℕ) (most : ℕ) → length name ≤ most → length (name_text name) ≤ most + 2
name_short name most short = by (is_plain name)
  where
    by : (b : Bool) → length (if b then name else codes "\\" ++ name ++ codes " ") ≤ most + 2
    by true = omega arith
    by false = omega (arith, short, length-append name (codes " "), length-append (codes "\\" ++ name) (codes " "))

index_short : (index : ℕ) → index < 10 ^ 6 → length (index_text (Some index)) ≤ 8
index_short index low =
    let few = length-decimal-le 6 index (omega arith) low (omega arith) in
    joined_short (codes "[" ++ decimal index) (codes "]") 7 1 (joined_short (codes "[") (decimal index) 1 6 (omega arith) few) (omega arith)

bit_short : (name : List ℕ) (index : ℕ) → length name ≤ 1 → index < 10 ^ 6 → length (bit_text (bit_of name index)) ≤ 11
bit_short name index short low = joined_short (name_text name) (index_text (Some index)) 3 8 (name_short name 1 short) (index_short index low)

pool_short : (place : ℕ) → place < 10 ^ 6 → length (bit_text (pool_bit place)) ≤ 11
pool_short place low = by (nat_lt place 16) (nat_lt place 48)
  where
    by : (a b : Bool) → length (bit_text (if a then bit_of (codes "d") place else if b then bit_of (codes "f") (place - 16) else bit_of (codes "g") (place - 48))) ≤ 11
    by true b = bit_short (codes "d") place (omega arith) low
    by false true = bit_short (codes "f") (place - 16) (omega arith) (omega arith)
    by false false = bit_short (codes "g") (place - 48) (omega arith) (omega arith)

drawn_short : (number before size : ℕ) → 0 < size → size < 10 ^ 6 → length (bit_text (drawn_bit number before size)) ≤ 11
drawn_short number before size some few = pool_short (draw number before % size) (omega arith)

-- Items.

kind_short : (kind : GateKind) → length (spelling_of (key_of_gate kind)) ≤ 6
unfolding spelling_of
kind_short gate.And = omega arith
kind_short gate.Or = omega arith
kind_short gate.Nand = omega arith
kind_short gate.Nor = omega arith
kind_short gate.Xor = omega arith
kind_short gate.Xnor = omega arith
kind_short gate.Buf = omega arith
kind_short gate.Not = omega arith
kind_short gate.Bufif0 = omega arith
kind_short gate.Bufif1 = omega arith

-- `  kind (output` and inputs, each behind a comma
gate_line : (word output inputs : List ℕ) → length word ≤ 6 → length output ≤ 11 → length inputs ≤ 26 → length (codes "  " ++ word ++ codes " " ++ [] ++ codes "(" ++ output ++ inputs ++ codes ");\n") ≤ 160
gate_line word output inputs a b g =
    let first = codes "  " ++ word in
    let second = first ++ codes " " ++ [] ++ codes "(" in
    let h = joined_short (codes "  ") word 2 6 (omega arith) a in
    let i = joined_short first (codes " ") 8 1 h (omega arith) in
    let j = joined_short (first ++ codes " ") [] 9 0 i (omega arith) in
    let k = joined_short (first ++ codes " " ++ []) (codes "(") 9 1 j (omega arith) in
    let l = joined_short second output 10 11 k b in
    let m = joined_short (second ++ output) inputs 21 26 l g in
    let n = joined_short (second ++ output ++ inputs) (codes ");\n") 47 3 m (omega arith) in
    omega arith

one_input : (one : List ℕ) → length one ≤ 11 → length ((codes ", " ++ one) ++ []) ≤ 13
one_input one short = joined_short (codes ", " ++ one) [] 13 0 (joined_short (codes ", ") one 2 11 (omega arith) short) (omega arith)

gate_short : (number k : ℕ) → number < 10000 → k < gate_count number → length (item_text (gate_item number k)) ≤ 160
gate_short number k low there =
    let kind = gate_kind (draw number (3 * k) % 6) in
    let one = bit_text (drawn_bit number (3 * k + 1) (48 + k)) in
    let two = bit_text (drawn_bit number (3 * k + 2) (48 + k)) in
    let a = joined_short (codes ", ") one 2 11 (omega arith) (drawn_short number (3 * k + 1) (48 + k) (omega arith) (omega arith)) in
    let b = one_input two (drawn_short number (3 * k + 2) (48 + k) (omega arith) (omega arith)) in
    gate_line (spelling_of (key_of_gate kind)) (bit_text (bit_of (codes "g") k)) ((codes ", " ++ one) ++ ((codes ", " ++ two) ++ [])) (kind_short kind)
    (bit_short (codes "g") k (omega arith) (omega arith)) (joined_short (codes ", " ++ one) ((codes ", " ++ two) ++ []) 13 13 a b)

output_short : (number j : ℕ) → number < 10000 → j < 16 → length (item_text (output_item number j)) ≤ 160
output_short number j low there =
    let one = bit_text (drawn_bit number (3 * gate_count number + 32 + j) (48 + gate_count number)) in
    let a = one_input one (drawn_short number (3 * gate_count number + 32 + j) (48 + gate_count number) (omega arith) (omega arith)) in
    gate_line (spelling_of (key_of_gate gate.Buf)) (bit_text (bit_of (codes "q") j)) ((codes ", " ++ one) ++ []) (kind_short gate.Buf) (bit_short (codes "q") j (omega arith) (omega arith)) (omega (arith, a))

-- `.port(operand)`
link_short : (port : List ℕ) (bit : Bit) → length port ≤ 2 → length (bit_text bit) ≤ 11 → length (link_text (link_to port bit)) ≤ 18
link_short port bit a b =
    let p = name_text port in
    let o = bit_text bit in
    let c = joined_short (codes ".") p 1 4 (omega arith) (name_short port 2 a) in
    let d = joined_short (codes "." ++ p) (codes "(") 5 1 c (omega arith) in
    let e = joined_short (codes "." ++ p ++ codes "(") o 6 11 d b in
    joined_short (codes "." ++ p ++ codes "(" ++ o) (codes ")") 17 1 e (omega arith)

scalar_short : (name : List ℕ) → length name ≤ 3 → length (bit_text (scalar name)) ≤ 11
scalar_short name short = let a = joined_short (name_text name) [] 5 0 (name_short name 3 short) (omega arith) in omega arith

-- `  cell name (one, two, three, four);`
flop_line : (cell name one two three four : List ℕ) → length cell ≤ 6 → length name ≤ 10 → length one ≤ 18 → length two ≤ 18 → length three ≤ 18 → length four ≤ 18
    → length (codes "  " ++ cell ++ codes " " ++ name ++ codes " (" ++ (one ++ ((codes ", " ++ two) ++ ((codes ", " ++ three) ++ ((codes ", " ++ four) ++ [])))) ++ codes ");\n") ≤ 160
flop_line cell name one two three four a b c d e f =
    let last = (codes ", " ++ four) ++ [] in
    let third = (codes ", " ++ three) ++ last in
    let second = (codes ", " ++ two) ++ third in
    let links = one ++ second in
    let g = joined_short (codes ", " ++ four) [] 20 0 (joined_short (codes ", ") four 2 18 (omega arith) f) (omega arith) in
    let h = joined_short (codes ", " ++ three) last 20 20 (joined_short (codes ", ") three 2 18 (omega arith) e) g in
    let i = joined_short (codes ", " ++ two) third 20 40 (joined_short (codes ", ") two 2 18 (omega arith) d) h in
    let j = joined_short one second 18 60 c i in
    let k = joined_short (codes "  ") cell 2 6 (omega arith) a in
    let l = joined_short (codes "  " ++ cell) (codes " ") 8 1 k (omega arith) in
    let m = joined_short (codes "  " ++ cell ++ codes " ") name 9 10 l b in
    let n = joined_short (codes "  " ++ cell ++ codes " " ++ name) (codes " (") 19 2 m (omega arith) in
    let o = joined_short (codes "  " ++ cell ++ codes " " ++ name ++ codes " (") links 21 78 n j in
    let p = joined_short (codes "  " ++ cell ++ codes " " ++ name ++ codes " (" ++ links) (codes ");\n") 99 3 o (omega arith) in
    omega arith

flop_short : (number i : ℕ) → number < 10000 → i < 32 → length (item_text (flop_item number i)) ≤ 160
flop_short number i low there =
    let few = length-decimal-le 6 i (omega arith) (omega arith) (omega arith) in
    let datum = drawn_bit number (3 * gate_count number + i) (48 + gate_count number) in
    flop_line (name_text (codes "DFFR")) (name_text (codes "f_" ++ decimal i)) (link_text (link_to (codes "D") datum)) (link_text (link_to (codes "CK") (scalar (codes "clk"))))
    (link_text (link_to (codes "RN") (scalar (codes "rn")))) (link_text (link_to (codes "Q") (bit_of (codes "f") i)))
    (name_short (codes "DFFR") 4 (omega arith)) (name_short (codes "f_" ++ decimal i) 8 (joined_short (codes "f_") (decimal i) 2 6 (omega arith) few))
    (link_short (codes "D") datum (omega arith) (drawn_short number (3 * gate_count number + i) (48 + gate_count number) (omega arith) (omega arith)))
    (link_short (codes "CK") (scalar (codes "clk")) (omega arith) (scalar_short (codes "clk") (omega arith))) (link_short (codes "RN") (scalar (codes "rn")) (omega arith) (scalar_short (codes "rn") (omega arith)))
    (link_short (codes "Q") (bit_of (codes "f") i) (omega arith) (bit_short (codes "f") i (omega arith) (omega arith)))

items_short : (f : ℕ → Item) (n : ℕ) → ((k : ℕ) → k < n → length (item_text (f k)) ≤ 160) → AllByRecursion (λ (i : Item). length (item_text i) ≤ 160) (map f (from_zero n))
items_short f n each = all_mapped (λ (i : Item). length (item_text i) ≤ 160) f (from_zero n) (all_below (λ k. length (item_text (f k)) ≤ 160) 0 n (λ k less. each k (omega arith)))

all_short : (number : ℕ) → number < 10000 → AllByRecursion (λ (i : Item). length (item_text i) ≤ 160) (demo_items number)
all_short number low =
    let P : Item → Type 0 = λ i. length (item_text i) ≤ 160 in
    all_append P (map (gate_item number) (from_zero (gate_count number))) (map (flop_item number) (from_zero 32) ++ map (output_item number) (from_zero 16))
    (items_short (gate_item number) (gate_count number) (λ k less. gate_short number k low less))
    (all_append P (map (flop_item number) (from_zero 32)) (map (output_item number) (from_zero 16))
    (items_short (flop_item number) 32 (λ i less. flop_short number i low less)) (items_short (output_item number) 16 (λ j less. output_short number j low less)))

-- The module.

-- `  wire [left:right] name;`
wire_line : (left right name : List ℕ) → length left ≤ 6 → length right ≤ 6 → length name ≤ 3
    → length (codes "  wire " ++ (codes "[" ++ left ++ codes ":" ++ right ++ codes "]" ++ codes " ") ++ name ++ codes ";\n") ≤ 40
wire_line left right name x y z =
    let a = joined_short (codes "[") left 1 6 (omega arith) x in
    let b = joined_short (codes "[" ++ left) (codes ":") 7 1 a (omega arith) in
    let c = joined_short (codes "[" ++ left ++ codes ":") right 8 6 b y in
    let d = joined_short (codes "[" ++ left ++ codes ":" ++ right) (codes "]") 14 1 c (omega arith) in
    let range = codes "[" ++ left ++ codes ":" ++ right ++ codes "]" in
    let e = joined_short range (codes " ") 15 1 d (omega arith) in
    let f = joined_short (codes "  wire ") (range ++ codes " ") 7 16 (omega arith) e in
    let g = joined_short (codes "  wire " ++ (range ++ codes " ")) name 23 3 f z in
    let h = joined_short (codes "  wire " ++ (range ++ codes " ") ++ name) (codes ";\n") 26 2 g (omega arith) in
    omega arith

wire_short : (name : List ℕ) (left : ℕ) → length name ≤ 1 → left < 10 ^ 6 → length (wire_text (wires_of name left)) ≤ 40
wire_short name left short low =
    wire_line (decimal left) (decimal 0) (name_text name) (length-decimal-le 6 left (omega arith) low (omega arith)) (length-decimal-le 6 0 (omega arith) (omega arith) (omega arith)) (name_short name 1 short)

abbrev front : List ℕ
front = codes "module " ++ name_text (codes "demo") ++ codes " " ++ ports_text demo_ports

front_short : length front ≤ 1000
unfolding reserved_of spelling_of digits
front_short = leb-true (length front) 1000 refl

whole_short : (first wires items : List ℕ) → length first ≤ 1000 → length wires ≤ 80 → length items ≤ 16022080 → length (first ++ wires ++ items ++ codes "endmodule\n") ≤ 2 ^ 24
whole_short first wires items a b c =
    let d = joined_short first wires 1000 80 a b in
    let e = joined_short (first ++ wires) items 1080 16022080 d c in
    let f = joined_short (first ++ wires ++ items) (codes "endmodule\n") 16023160 10 e (omega arith) in
    omega arith

pub chips_are_short : ChipsAreShort
chips_are_short number low =
    let f = wire_text (wires_of (codes "f") 31) in
    let g = wire_text (wires_of (codes "g") (gate_count number - 1)) in
    let wires : length (f ++ (g ++ [])) ≤ 80 = joined_short f (g ++ []) 40 40 (wire_short (codes "f") 31 (omega arith) (omega arith))
    (joined_short g [] 40 0 (wire_short (codes "g") (gate_count number - 1) (omega arith) (omega arith)) (omega arith)) in
    let c = flat_short item_text 160 (demo_items number) (all_short number low) in
    let gates : length (map (gate_item number) (from_zero (gate_count number))) ≡ gate_count number = length-map-range_with_len (gate_item number) 0 (gate_count number) in
    let count : length (demo_items number) ≡ gate_count number + 48 = length-append (map (gate_item number) (from_zero (gate_count number))) (map (flop_item number) (from_zero 32) ++ map (output_item number) (from_zero 16)) ∙ ap (λ (k : ℕ). k + 48) gates in
    let d : length (flat_map item_text (demo_items number)) ≤ 16022080 = omega (arith, c, count, low) in
    whole_short front (f ++ (g ++ [])) (flat_map item_text (demo_items number)) front_short wires d

pub plan_is_short : PlanIsShort
unfolding digits bits_text
plan_is_short = leb-true (length (canonical_plan demo_plan)) 16777216 refl
