-- The cells of a demonstration netlist, place by place: the cell with number t drives the net t places before the last.
use Rattle.std.proofs.Common.{◌≡◌, ◌⊎◌, inl, inr, ℕ, zero, suc, ◌+◌, ◌-◌, ◌^◌, ◌<◌, ◌≤◌, true, false, List, [], ◌∷◌, ◌++◌, length, map, refl, ap, sym, ◌∙◌, subst, Some, arith}
use Rattle.std.specs.Prelude.{codes, slice_get}
use Rattle.std.specs.Fmt.{decimal}
use Rattle.std.specs.List.{AllByRecursion}
use Rattle.std.proofs.lemmas.List.{length-map}
use Rattle.std.proofs.lemmas.Option.{same_Some}
use Rattle.verilog_tree.specs.declared.tree.Bit.{Bit}
use Rattle.verilog_tree.specs.declared.tree.GateKind.{GateKind}
use Rattle.cell_library.specs.declared.listed.ListedCell.{ListedCell}
use Rattle.cell_library.specs.Gates.{is_three_state}
use Rattle.netlist_model.specs.declared.Feed.{Feed}
use Rattle.netlist_model.specs.declared.Feed.TheVariants.{Net, Const}
use Rattle.netlist_model.specs.declared.NetId.{NetId}
use Rattle.link_model.specs.Nets.{Declared, declared_names, net_of}
use Rattle.link_model.specs.Cells.{NamedCell, cell_of}
use Rattle.link_model.specs.Faults.{cells_in}
use Rattle.demo_chips.specs.Netlists.{bit_of, demo_items, demo_module, gate_count, pool_bit, scalar}
use Rattle.demo_chips.proofs.NetlistsPlaces.{EachAt, all_there}
use Rattle.demo_chips.proofs.Items.{IsPlain, flop_with, gate_with, items_at, output_with}
use Rattle.demo_chips.proofs.NetlistsBits.{IsBit, IsRead, Knows, clear_bit, clock_bit, flop_bit, gate_bit, knows, output_bit, pool_bits}
use Rattle.demo_chips.proofs.Text.{items_count}

-- an operand is such a net
abbrev pub IsReadFeed : ℕ → ℕ → Feed → Type 0
IsReadFeed count item (Net net) = IsRead count item net.0
IsReadFeed count item (Const value) = Unit {0}

-- what is known of the cell with this number, behind so many gates
pub record IsDemoCell (count number : ℕ) (cell : NamedCell) : Type 0 where
  pub output : ℕ
  pub drives : cell.output ≡ Some (record { 0 = output })
  pub place : output + number ≡ 65 + count
  pub last : number < count + 48
  pub steady : is_three_state cell.kind ≡ false
  -- flip-flops stand between the gates and the outputs
  pub gate : cell.keeps ≡ false → (number < count) ⊎ (count + 32 ≤ number)
  pub reads : AllByRecursion (IsReadFeed count number) cell.feeds

-- a net that is read, by its bit
read_bit : (names : List (List ℕ × Declared)) (count item : ℕ) (bit : Bit) (net : ℕ) → IsBit names bit net → IsRead count item net → IsReadFeed count item (Net (net_of names bit))
read_bit names count item bit net is read = let P : NetId → Type 0 = λ x. IsRead count item x.0 in subst P (sym is.net_is) read

driven_bit : (names : List (List ℕ × Declared)) (bit : Bit) (net : ℕ) → IsBit names bit net → Some (net_of names bit) ≡ Some (record { 0 = net })
driven_bit names bit net is = ap (λ (x : NetId). Some x) is.net_is

gate_cell : (library : List ListedCell) (names : List (List ℕ × Declared)) (count k : ℕ) (kind : GateKind) (output a b : Bit) (to one two : ℕ) → IsPlain kind → k < count → IsBit names output to → to + k ≡ 65 + count
    → IsBit names a one → IsRead count k one → IsBit names b two → IsRead count k two → IsDemoCell count k (cell_of library names (gate_with kind output a b))
gate_cell library names count k kind output a b to one two plain less o place x first y second = record {
  output = to;
  drives = driven_bit names output to o;
  place = place;
  last = omega arith;
  steady = plain.steady;
  gate = λ h. inl less;
  reads = (read_bit names count k a one x first, (read_bit names count k b two y second, tt));
}

output_cell : (library : List ListedCell) (names : List (List ℕ × Declared)) (count number : ℕ) (output a : Bit) (to one : ℕ) → count + 32 ≤ number → number < count + 48 → IsBit names output to → to + number ≡ 65 + count
    → IsBit names a one → IsRead count number one → IsDemoCell count number (cell_of library names (output_with output a))
output_cell library names count number output a to one low high o place x first = record {
  output = to;
  drives = driven_bit names output to o;
  place = place;
  last = high;
  steady = refl;
  gate = λ h. inr low;
  reads = (read_bit names count number a one x first, tt);
}

flop_cell : (library : List ListedCell) (names : List (List ℕ × Declared)) (count number : ℕ) (name : List ℕ) (datum clock clear output : Bit) (one two three to : ℕ) → number < count + 32
    → IsBit names datum one → IsRead count number one → IsBit names clock two → IsRead count number two → IsBit names clear three → IsRead count number three → IsBit names output to → to + number ≡ 65 + count
    → IsDemoCell count number (cell_of library names (flop_with name datum clock clear output))
flop_cell library names count number name datum clock clear output one two three to high x first ck second rn third o place = record {
  output = to;
  drives = driven_bit names output to o;
  place = place;
  last = omega arith;
  steady = refl;
  gate = λ h. absurd (let bad : true ≡ false = h in cc);
  reads = (read_bit names count number datum one x first, (read_bit names count number clock two ck second, (read_bit names count number clear three rn third, tt)));
}

-- an item behind the gates comes after each net that is read
later : (count number item net : ℕ) → count ≤ number → IsRead count item net → IsRead count number net
later count number item net low r = record { below = r.below; inner = r.inner; before = λ h. omega arith }

-- an input comes before each item
low_net : (count number net : ℕ) → net < 18 → IsRead count number net
low_net count number net less = record { below = omega arith; inner = λ h. absurd (omega arith); before = λ h. absurd (omega arith) }

-- of each item
items_cells : (library : List ListedCell) (n : ℕ) (names : List (List ℕ × Declared)) → Knows names (gate_count n) → gate_count n < 10 ^ 9 → EachAt (λ place it. IsDemoCell (gate_count n) place (cell_of library names it)) (demo_items n)
items_cells library n names w small =
    items_at (λ place it. IsDemoCell (gate_count n) place (cell_of library names it)) n
    (λ kind k a b plain less first second.
    let x = pool_bits names (gate_count n) k a w small (omega arith) first in
    let y = pool_bits names (gate_count n) k b w small (omega arith) second in
    gate_cell library names (gate_count n) k kind (bit_of (codes "g") k) (pool_bit a) (pool_bit b) (65 + gate_count n - k) x.net y.net plain less
    (gate_bit names (gate_count n) k (65 + gate_count n - k) w small less (omega arith)) (omega arith) x.is x.read y.is y.read)
    (λ i a less inside.
    let x = pool_bits names (gate_count n) (gate_count n) a w small inside inside in
    flop_cell library names (gate_count n) (gate_count n + i) (codes "f_" ++ decimal i) (pool_bit a) (scalar (codes "clk")) (scalar (codes "rn")) (bit_of (codes "f") i) x.net 0 1 (65 - i) (omega arith)
    x.is (later (gate_count n) (gate_count n + i) (gate_count n) x.net (omega arith) x.read)
    (clock_bit names (gate_count n) w) (low_net (gate_count n) (gate_count n + i) 0 (omega arith)) (clear_bit names (gate_count n) w) (low_net (gate_count n) (gate_count n + i) 1 (omega arith))
    (flop_bit names (gate_count n) i (65 - i) w less (omega arith)) (omega arith))
    (λ j a less inside.
    let x = pool_bits names (gate_count n) (gate_count n) a w small inside inside in
    output_cell library names (gate_count n) (gate_count n + (32 + j)) (bit_of (codes "q") j) (pool_bit a) (33 - j) x.net (omega arith) (omega arith)
    (output_bit names (gate_count n) j (33 - j) w less (omega arith)) (omega arith) x.is (later (gate_count n) (gate_count n + (32 + j)) (gate_count n) x.net (omega arith) x.read))

-- a place of a mapped list
mapped_at : {X Y : Type 0} (P : ℕ → Y → Type 0) (f : X → Y) (xs : List X) → EachAt (λ place x. P place (f x)) xs → (place : ℕ) (y : Y) → slice_get (map f xs) place ≡ Some y → P place y
mapped_at P f [] each place y at = absurd (cc)
mapped_at {Y = Y} P f (x ∷ xs) each zero y at = let Q : Y → Type 0 = P zero in subst Q (same_Some (f x) y at) (each 0 x refl)
mapped_at P f (x ∷ xs) each (suc place) y at = mapped_at (λ k. P (suc k)) f xs (λ k z there. each (suc k) z there) place y at

pub demo_cells : (library : List ListedCell) (n : ℕ) → n < 10000 → EachAt (IsDemoCell (gate_count n)) (cells_in library (demo_module n))
demo_cells library n low = mapped_at (IsDemoCell (gate_count n)) (cell_of library (declared_names (demo_module n))) (demo_items n) (items_cells library n (declared_names (demo_module n)) (knows n) (omega arith))

pub cells_count : (library : List ListedCell) (n : ℕ) → length (cells_in library (demo_module n)) ≡ gate_count n + 48
cells_count library n = length-map (demo_items n) (cell_of library (declared_names (demo_module n))) ∙ items_count n

-- what a cell reads
pub read_at : (count number : ℕ) (cell : NamedCell) (place net : ℕ) → IsDemoCell count number cell → slice_get cell.feeds place ≡ Some (Net (record { 0 = net })) → IsRead count number net
read_at count number cell place net is at = all_there (IsReadFeed count number) cell.feeds is.reads place (Net (record { 0 = net })) at
