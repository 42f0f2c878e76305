-- Each demonstration netlist is a tree that some text spells.
use Rattle.std.proofs.Common.{ℕ, ◌+◌, ◌-◌, ◌%◌, ◌^◌, ◌<◌, ◌≤◌, List, [], ◌∷◌, ◌++◌, length, refl, arith, lit<, lit≤}
use Rattle.std.specs.Prelude.{codes}
use Rattle.std.specs.Fmt.{decimal}
use Rattle.std.specs.List.{AllByRecursion}
use Rattle.std.proofs.lemmas.Fmt.{decimal_by_steps, length-decimal-le}
use Rattle.list_laws.proofs.Lists.{all_append}
use Rattle.verilog_tree.specs.declared.tree.Bit.{Bit}
use Rattle.verilog_tree.specs.declared.tree.GateKind.{GateKind}
use Rattle.verilog_tree.specs.IsTree.{IsTree, IsTreeBit, IsTreeItem, IsTreeName, IsVisible}
use Rattle.link_model.specs.Nets.{Declared, declared_names}
use Rattle.demo_chips.specs.Netlists.{bit_of, demo_items, demo_module, gate_count, pool_bit, scalar}
use Rattle.demo_chips.proofs.NetlistsPlaces.{all_at}
use Rattle.demo_chips.proofs.Items.{IsPlain, flop_with, gate_with, items_at, output_with}
use Rattle.demo_chips.proofs.NetlistsBits.{Knows, clear_bit, clock_bit, flop_bit, gate_bit, knows, output_bit, pool_bits, tree_name}

visible_digit : (digit : ℕ) → digit < 10 → IsVisible (48 + digit)
visible_digit digit low = record { low = omega arith; high = omega arith }

decimal_visible : (n : ℕ) → n < 2 ^ 64 → AllByRecursion IsVisible (decimal n)
decimal_visible n low =
    decimal_by_steps (λ (number : ℕ) (digits : List ℕ). AllByRecursion IsVisible digits) (λ number small. (visible_digit number small, tt))
    (λ number digits large before. all_append IsVisible digits ((48 + number % 10) ∷ []) before (visible_digit (number % 10) (omega arith), tt)) n low

-- the name of a flip-flop
pub flop_name : (i : ℕ) → i < 32 → IsTreeName (codes "f_" ++ decimal i)
flop_name i less =
    let few : length (decimal i) ≤ 2 = length-decimal-le 2 i (lit< tt) (omega arith) (omega arith) in
    record { filled = omega arith; short = omega arith; visible = (record { low = lit≤ tt; high = lit≤ tt }, (record { low = lit≤ tt; high = lit≤ tt }, decimal_visible i (omega arith))) }

gate_tree : (kind : GateKind) (output a b : Bit) → IsPlain kind → IsTreeBit output → IsTreeBit a → IsTreeBit b → IsTreeItem (gate_with kind output a b)
gate_tree kind output a b plain to one two = record { name = tt; output = to; inputs = (one, (two, tt)); reads = lit< tt; takes = plain.takes }

output_tree : (output a : Bit) → IsTreeBit output → IsTreeBit a → IsTreeItem (output_with output a)
output_tree output a to one = record { name = tt; output = to; inputs = (one, tt); reads = lit< tt; takes = refl }

flop_tree : (name : List ℕ) (datum clock clear output : Bit) → IsTreeName name → IsTreeBit datum → IsTreeBit clock → IsTreeBit clear → IsTreeBit output → IsTreeItem (flop_with name datum clock clear output)
flop_tree name datum clock clear output named d ck rn q = record {
  cell = tree_name (codes "DFFR") refl;
  name = named;
  links = (
    record { port = tree_name (codes "D") refl; operand = d },
    (
      record { port = tree_name (codes "CK") refl; operand = ck },
      (record { port = tree_name (codes "RN") refl; operand = rn }, (record { port = tree_name (codes "Q") refl; operand = q }, tt)),
    ),
  );
}

items_tree : (n : ℕ) (names : List (List ℕ × Declared)) → Knows names (gate_count n) → gate_count n < 10 ^ 9 → AllByRecursion IsTreeItem (demo_items n)
items_tree n names w small =
    all_at IsTreeItem (demo_items n) (items_at (λ place it. IsTreeItem it) n
    (λ kind k a b plain less first second.
    gate_tree kind (bit_of (codes "g") k) (pool_bit a) (pool_bit b) plain (gate_bit names (gate_count n) k (65 + gate_count n - k) w small less (omega arith)).tree
    (pool_bits names (gate_count n) k a w small (omega arith) first).is.tree (pool_bits names (gate_count n) k b w small (omega arith) second).is.tree)
    (λ i a less inside.
    flop_tree (codes "f_" ++ decimal i) (pool_bit a) (scalar (codes "clk")) (scalar (codes "rn")) (bit_of (codes "f") i) (flop_name i less) (pool_bits names (gate_count n) (gate_count n) a w small inside inside).is.tree
    (clock_bit names (gate_count n) w).tree (clear_bit names (gate_count n) w).tree (flop_bit names (gate_count n) i (65 - i) w less (omega arith)).tree)
    (λ j a less inside.
    output_tree (bit_of (codes "q") j) (pool_bit a) (output_bit names (gate_count n) j (33 - j) w less (omega arith)).tree (pool_bits names (gate_count n) (gate_count n) a w small inside inside).is.tree))

pub demo_is_a_tree : (n : ℕ) → n < 10000 → IsTree (demo_module n)
demo_is_a_tree n low = record {
  name = tree_name (codes "demo") refl;
  ports = (
    record { name = tree_name (codes "clk") refl; range = tt },
    (
      record { name = tree_name (codes "rn") refl; range = tt },
      (
        record { name = tree_name (codes "d") refl; range = record { left = lit< tt; right = lit< tt } },
        (record { name = tree_name (codes "q") refl; range = record { left = lit< tt; right = lit< tt } }, tt),
      ),
    ),
  );
  wires = (
    record { name = tree_name (codes "f") refl; range = record { left = lit< tt; right = lit< tt } },
    (record { name = tree_name (codes "g") refl; range = record { left = omega arith; right = lit< tt } }, tt),
  );
  items = items_tree n (declared_names (demo_module n)) (knows n) (omega arith);
  own_nets = (refl, (refl, tt));
}
