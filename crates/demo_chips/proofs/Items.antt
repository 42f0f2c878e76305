-- The items of a demonstration netlist, place by place.
use Rattle.std.proofs.Common.{◌≡◌, ℕ, ◌+◌, ◌*◌, ◌%◌, ◌<◌, ◌==◌, Bool, true, false, List, [], ◌∷◌, ◌++◌, map, refl, None, arith}
use Rattle.std.specs.Prelude.{codes, if◌then◌else◌}
use Rattle.std.specs.Fmt.{decimal}
use Rattle.std.proofs.Math.Nat.{mod-lt}
use Rattle.std.proofs.lemmas.List.FromFn.{length-map-range_with_len}
use Rattle.verilog_tree.specs.declared.tree.Bit.{Bit}
use Rattle.verilog_tree.specs.declared.tree.GateKind.{GateKind}
use Rattle.verilog_tree.specs.declared.tree.GateKind.TheVariants as gate
use Rattle.verilog_tree.specs.declared.tree.Item.{Item}
use Rattle.verilog_tree.specs.declared.tree.Item.TheVariants as item
use Rattle.verilog_tree.specs.declared.tree.Operand.TheVariants as operand
use Rattle.verilog_tree.specs.Trees.{takes_inputs}
use Rattle.cell_library.specs.Gates.{is_three_state}
use Rattle.link_model.specs.Cells.{kind_of_gate}
use Rattle.demo_chips.specs.Draws.{draw}
use Rattle.demo_chips.specs.Netlists.{bit_of, demo_items, flop_item, from_zero, gate_count, gate_item, gate_kind, link_to, output_item, pool_bit, scalar}
use Rattle.demo_chips.proofs.NetlistsPlaces.{EachAt, from_zero_at, joined_at}

-- a gate of two inputs that always drives
pub record IsPlain (kind : GateKind) : Type 0 where
  pub takes : takes_inputs kind 2 ≡ true
  pub steady : is_three_state (kind_of_gate kind) ≡ false

plain_by : (a b c d e : Bool) → IsPlain (if a then gate.And else if b then gate.Or else if c then gate.Nand else if d then gate.Nor else if e then gate.Xor else gate.Xnor)
plain_by true b c d e = record { takes = refl; steady = refl }
plain_by false true c d e = record { takes = refl; steady = refl }
plain_by false false true d e = record { takes = refl; steady = refl }
plain_by false false false true e = record { takes = refl; steady = refl }
plain_by false false false false true = record { takes = refl; steady = refl }
plain_by false false false false false = record { takes = refl; steady = refl }

plain : (place : ℕ) → IsPlain (gate_kind place)
plain place = plain_by (place == 0) (place == 1) (place == 2) (place == 3) (place == 4)

-- The three forms of items, with what they read.

abbrev pub gate_with : GateKind → Bit → Bit → Bit → Item
gate_with kind output a b = item.Gate (record { kind = kind; name = None; output = output; inputs = operand.Bit a ∷ operand.Bit b ∷ [] })

abbrev pub flop_with : List ℕ → Bit → Bit → Bit → Bit → Item
flop_with name datum clock clear output = item.Instance (record {
  cell = codes "DFFR";
  name = name;
  links = link_to (codes "D") datum ∷ link_to (codes "CK") clock ∷ link_to (codes "RN") clear ∷ link_to (codes "Q") output ∷ [];
})

abbrev pub output_with : Bit → Bit → Item
output_with output a = item.Gate (record { kind = gate.Buf; name = None; output = output; inputs = operand.Bit a ∷ [] })

-- what holds of all items, by their places
pub items_at : (P : ℕ → Item → Type 0) (n : ℕ)
    → ((kind : GateKind) (k a b : ℕ) → IsPlain kind → k < gate_count n → a < 48 + k → b < 48 + k → P k (gate_with kind (bit_of (codes "g") k) (pool_bit a) (pool_bit b)))
    → ((i a : ℕ) → i < 32 → a < 48 + gate_count n → P (gate_count n + i) (flop_with (codes "f_" ++ decimal i) (pool_bit a) (scalar (codes "clk")) (scalar (codes "rn")) (bit_of (codes "f") i)))
    → ((j a : ℕ) → j < 16 → a < 48 + gate_count n → P (gate_count n + (32 + j)) (output_with (bit_of (codes "q") j) (pool_bit a)))
    → EachAt P (demo_items n)
items_at P n gates flops outputs =
    joined_at P (map (gate_item n) (from_zero (gate_count n))) (map (flop_item n) (from_zero 32) ++ map (output_item n) (from_zero 16)) (gate_count n) (length-map-range_with_len (gate_item n) 0 (gate_count n))
    (from_zero_at P (gate_item n) (gate_count n) (λ k less.
    gates (gate_kind (draw n (3 * k) % 6)) k (draw n (3 * k + 1) % (48 + k)) (draw n (3 * k + 2) % (48 + k)) (plain (draw n (3 * k) % 6)) less
    (mod-lt (draw n (3 * k + 1)) {m = 48 + k} (omega arith)) (mod-lt (draw n (3 * k + 2)) {m = 48 + k} (omega arith))))
    (joined_at (λ place. P (gate_count n + place)) (map (flop_item n) (from_zero 32)) (map (output_item n) (from_zero 16)) 32 (length-map-range_with_len (flop_item n) 0 32)
    (from_zero_at (λ place. P (gate_count n + place)) (flop_item n) 32 (λ i less.
    flops i (draw n (3 * gate_count n + i) % (48 + gate_count n)) less (mod-lt (draw n (3 * gate_count n + i)) {m = 48 + gate_count n} (omega arith))))
    (from_zero_at (λ place. P (gate_count n + (32 + place))) (output_item n) 16 (λ j less.
    outputs j (draw n (3 * gate_count n + 32 + j) % (48 + gate_count n)) less (mod-lt (draw n (3 * gate_count n + 32 + j)) {m = 48 + gate_count n} (omega arith)))))
