-- The cells of a demonstration netlist: no three-state gates, flip-flops on the clock and the clear, and what drives no input.
use Rattle.std.proofs.Common.{◌≡◌, ℕ, ◌+◌, ◌*◌, ◌%◌, ◌≤◌, Bool, true, false, List, [], ◌∷◌, ◌++◌, map, codes, slice_get, Option, Some, None, refl, arith}
use Rattle.std.specs.Prelude.{nat_eq, not, ◌&&◌, ◌==◌, if◌then◌else◌}
use Rattle.std.specs.List.{AllByRecursion}
use Rattle.list_laws.proofs.Lists.{all_append, all_mapped}
use Rattle.verilog_tree.specs.declared.tree.Item.{Item}
use Rattle.verilog_tree.specs.declared.tree.GateKind.{GateKind}
use Rattle.verilog_tree.specs.declared.tree.GateKind.TheVariants as gate
use Rattle.cell_library.specs.declared.listed.ListedCell.{ListedCell}
use Rattle.cell_library.specs.Gates.{is_flop, is_three_state}
use Rattle.netlist_model.specs.declared.NetId.{NetId}
use Rattle.netlist_model.specs.declared.Feed.TheVariants.{Net}
use Rattle.link_model.specs.Nets.{Declared, declared_names, net_of}
use Rattle.link_model.specs.Cells.{NamedCell, kind_of_gate, cell_of}
use Rattle.link_model.specs.Denoted.{net_id, denoted}
use Rattle.demo_chips.specs.Draws.{draw}
use Rattle.demo_chips.specs.Netlists.{bit_of, gate_count, gate_kind, gate_item, flop_item, output_item, from_zero, demo_items, demo_module}
use Rattle.demo_chips.proofs.PlansLists.{all_range}

-- a name that begins as none of the test access port, and not with the prefix
abbrev pub is_apart : List ℕ → Bool
is_apart [] = false
is_apart (b ∷ bytes) = not (nat_eq 84 b) && not (nat_eq 98 b)

abbrev pub named_apart : Option (List ℕ) → Bool
named_apart None = true
named_apart (Some name) = is_apart name

-- the clock and the clear are nets 0 and 1
pub record ReadsControls (c : NamedCell) : Type 0 where
  pub clock : slice_get c.feeds 1 ≡ Some (Net (net_id 0))
  pub clear : slice_get c.feeds 2 ≡ Some (Net (net_id 1))

pub record IsDemoCell (c : NamedCell) : Type 0 where
  pub name : named_apart c.name ≡ true
  pub plain : is_three_state c.kind ≡ false
  pub controls : (library : List ListedCell) → is_flop library c.kind ≡ true → ReadsControls c
  pub net : NetId
  pub output : c.output ≡ Some net
  pub inside : 2 ≤ net.0

abbrev names_of : ℕ → List (List ℕ × Declared)
names_of number = declared_names (demo_module number)

-- Gates.

not_flop : (library : List ListedCell) (c : GateKind) → is_flop library (kind_of_gate c) ≡ false
not_flop library gate.And = refl
not_flop library gate.Or = refl
not_flop library gate.Nand = refl
not_flop library gate.Nor = refl
not_flop library gate.Xor = refl
not_flop library gate.Xnor = refl
not_flop library gate.Buf = refl
not_flop library gate.Not = refl
not_flop library gate.Bufif0 = refl
not_flop library gate.Bufif1 = refl

kinds_plain : (place : ℕ) → is_three_state (kind_of_gate (gate_kind place)) ≡ false
kinds_plain place = by (place == 0) (place == 1) (place == 2) (place == 3) (place == 4)
  where
    by : (a b c d e : Bool) → is_three_state (kind_of_gate (if a then gate_kind 0 else if b then gate_kind 1 else if c then gate_kind 2 else if d then gate_kind 3 else if e then gate_kind 4 else gate_kind 5)) ≡ false
    by true b c d e = refl
    by false true c d e = refl
    by false false true d e = refl
    by false false false true e = refl
    by false false false false true = refl
    by false false false false false = refl

gate_is : (library : List ListedCell) (number k : ℕ) → IsDemoCell (cell_of library (names_of number) (gate_item number k))
gate_is library number k = record {
  name = refl;
  plain = kinds_plain (draw number (3 * k) % 6);
  controls = λ library flop. absurd (let no = not_flop library (gate_kind (draw number (3 * k) % 6)) in cc);
  net = net_of (names_of number) (bit_of (codes "g") k);
  output = refl;
  inside = omega arith;
}

flop_is : (library : List ListedCell) (number i : ℕ) → IsDemoCell (cell_of library (names_of number) (flop_item number i))
flop_is library number i = record {
  name = refl;
  plain = refl;
  controls = λ library flop. record { clock = refl; clear = refl };
  net = net_of (names_of number) (bit_of (codes "f") i);
  output = refl;
  inside = omega arith;
}

output_is : (library : List ListedCell) (number j : ℕ) → IsDemoCell (cell_of library (names_of number) (output_item number j))
output_is library number j = record {
  name = refl;
  plain = refl;
  controls = λ library flop. absurd (cc);
  net = net_of (names_of number) (bit_of (codes "q") j);
  output = refl;
  inside = omega arith;
}

items_are : (library : List ListedCell) (number : ℕ) (f : ℕ → Item) (n : ℕ) → ((k : ℕ) → IsDemoCell (cell_of library (names_of number) (f k)))
    → AllByRecursion (λ (i : Item). IsDemoCell (cell_of library (names_of number) i)) (map f (from_zero n))
items_are library number f n each = all_mapped (λ (i : Item). IsDemoCell (cell_of library (names_of number) i)) f (from_zero n) (all_range (λ k. IsDemoCell (cell_of library (names_of number) (f k))) 0 n each)

pub cells_are : (library : List ListedCell) (number : ℕ) → AllByRecursion IsDemoCell (denoted library (demo_module number)).cells
cells_are library number =
    all_mapped IsDemoCell (cell_of library (names_of number)) (demo_items number)
    (all_append (λ (i : Item). IsDemoCell (cell_of library (names_of number) i)) (map (gate_item number) (from_zero (gate_count number))) (map (flop_item number) (from_zero 32) ++ map (output_item number) (from_zero 16))
    (items_are library number (gate_item number) (gate_count number) (gate_is library number))
    (all_append (λ (i : Item). IsDemoCell (cell_of library (names_of number) i)) (map (flop_item number) (from_zero 32)) (map (output_item number) (from_zero 16))
    (items_are library number (flop_item number) 32 (flop_is library number)) (items_are library number (output_item number) 16 (output_is library number))))
