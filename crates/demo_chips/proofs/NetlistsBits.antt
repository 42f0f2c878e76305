-- The bits that the items of a demonstration netlist name: each is declared, and has its net.
use Rattle.std.proofs.Common.{◌≡◌, ◌⊎◌, ℕ, ◌+◌, ◌-◌, ◌^◌, ◌<◌, ◌≤◌, ◌&&◌, true, List, [], ◌∷◌, length, refl, ap, inl, inr, Some, None, arith, lit<}
use Rattle.std.specs.Prelude.{Bool, codes, nat_le, nat_lt}
use Rattle.std.specs.List.{AllByRecursion, list_all}
use Rattle.std.proofs.lemmas.Bool.{and_from, and_parts, cases_lt, le-leb, le-ltb, leb-true, lt-ltb, ltb-true, or_right}
use Rattle.verilog_tree.specs.declared.tree.Bit.{Bit}
use Rattle.verilog_tree.specs.IsTree.{IsTreeBit, IsTreeName, IsVisible}
use Rattle.link_model.specs.Nets.{Declared, declared_as, declared_names, net_of, is_within}
use Rattle.link_model.specs.Denoted.{net_id}
use Rattle.link_model.specs.Faults.{at_bit, bit_outside, name_unknown, wrong_width}
use Rattle.demo_chips.specs.Netlists.{bit_of, demo_module, gate_count, pool_bit, scalar}

-- Names that can be written.

abbrev is_visible : ℕ → Bool
is_visible byte = nat_le 33 byte && nat_le byte 126

all_visible : (bytes : List ℕ) → list_all is_visible bytes ≡ true → AllByRecursion IsVisible bytes
all_visible [] h = tt
all_visible (byte ∷ bytes) h =
    let both = and_parts (is_visible byte) (list_all is_visible bytes) h in
    let ends = and_parts (nat_le 33 byte) (nat_le byte 126) both.0 in
    (record { low = leb-true 33 byte ends.0; high = leb-true byte 126 ends.1 }, all_visible bytes both.1)

abbrev is_tree_name : List ℕ → Bool
is_tree_name name = nat_lt 0 (length name) && (nat_le (length name) 255 && list_all is_visible name)

pub tree_name : (name : List ℕ) → is_tree_name name ≡ true → IsTreeName name
tree_name name h =
    let filled = and_parts (nat_lt 0 (length name)) (nat_le (length name) 255 && list_all is_visible name) h in
    let short = and_parts (nat_le (length name) 255) (list_all is_visible name) filled.1 in
    record { filled = ltb-true 0 (length name) filled.0; short = leb-true (length name) 255 short.0; visible = all_visible name short.1 }

-- What is declared.

pub record Knows (names : List (List ℕ × Declared)) (count : ℕ) : Type 0 where
  pub clock : declared_as names (codes "clk") ≡ Some (record { first = 0; range = None })
  pub clear : declared_as names (codes "rn") ≡ Some (record { first = 1; range = None })
  pub inputs : declared_as names (codes "d") ≡ Some (record { first = 2; range = Some (record { left = 15; right = 0 }) })
  pub outputs : declared_as names (codes "q") ≡ Some (record { first = 18; range = Some (record { left = 15; right = 0 }) })
  pub flops : declared_as names (codes "f") ≡ Some (record { first = 34; range = Some (record { left = 31; right = 0 }) })
  pub gates : declared_as names (codes "g") ≡ Some (record { first = 66; range = Some (record { left = count - 1; right = 0 }) })

pub knows : (n : ℕ) → Knows (declared_names (demo_module n)) (gate_count n)
knows n = record { clock = refl; clear = refl; inputs = refl; outputs = refl; flops = refl; gates = refl }

-- the bit can be written, no test finds a fault at it, and it is this net
pub record IsBit (names : List (List ℕ × Declared)) (bit : Bit) (net : ℕ) : Type 0 where
  pub tree : IsTreeBit bit
  pub known : at_bit name_unknown names bit ≡ None
  pub inside : at_bit bit_outside names bit ≡ None
  pub width : at_bit wrong_width names bit ≡ None
  pub net_is : net_of names bit ≡ record { 0 = net }

scalar_bit : (names : List (List ℕ × Declared)) (name : List ℕ) (first : ℕ) → IsTreeName name → declared_as names name ≡ Some (record { first = first; range = None }) → IsBit names (scalar name) first
scalar_bit names name first written e = record { tree = record { net = written; index = tt }; known = rw e refl; inside = rw e refl; width = rw e refl; net_is = rw e refl }

within : (left index : ℕ) → index ≤ left → is_within (record { left = left; right = 0 }) index ≡ true
within left index less = or_right (nat_le left index && nat_le index 0) (nat_le 0 index && nat_le index left) (and_from (nat_le 0 index) (nat_le index left) (le-leb 0 index (omega arith)) (le-leb index left less))

vector_bit : (names : List (List ℕ × Declared)) (name : List ℕ) (first left index net : ℕ) → IsTreeName name → declared_as names name ≡ Some (record { first = first; range = Some (record { left = left; right = 0 }) })
    → index ≤ left → left < 10 ^ 9 → net + index ≡ first + left → IsBit names (bit_of name index) net
vector_bit names name first left index net written e less small place = record {
  tree = record { net = written; index = let low : index < 10 ^ 9 = omega arith in low };
  known = rw e refl;
  inside = rw (e, within left index less) refl;
  width = rw e refl;
  net_is = rw e (let number : first + ((left - index) + (index - left)) ≡ net = omega arith in ap (λ (k : ℕ). net_id k) number);
}

-- The bits by their names.

pub clock_bit : (names : List (List ℕ × Declared)) (count : ℕ) → Knows names count → IsBit names (scalar (codes "clk")) 0
clock_bit names count w = scalar_bit names (codes "clk") 0 (tree_name (codes "clk") refl) w.clock

pub clear_bit : (names : List (List ℕ × Declared)) (count : ℕ) → Knows names count → IsBit names (scalar (codes "rn")) 1
clear_bit names count w = scalar_bit names (codes "rn") 1 (tree_name (codes "rn") refl) w.clear

input_bit : (names : List (List ℕ × Declared)) (count k net : ℕ) → Knows names count → k < 16 → net + k ≡ 17 → IsBit names (bit_of (codes "d") k) net
input_bit names count k net w less e = vector_bit names (codes "d") 2 15 k net (tree_name (codes "d") refl) w.inputs (omega arith) (lit< tt) (omega arith)

pub output_bit : (names : List (List ℕ × Declared)) (count j net : ℕ) → Knows names count → j < 16 → net + j ≡ 33 → IsBit names (bit_of (codes "q") j) net
output_bit names count j net w less e = vector_bit names (codes "q") 18 15 j net (tree_name (codes "q") refl) w.outputs (omega arith) (lit< tt) (omega arith)

pub flop_bit : (names : List (List ℕ × Declared)) (count i net : ℕ) → Knows names count → i < 32 → net + i ≡ 65 → IsBit names (bit_of (codes "f") i) net
flop_bit names count i net w less e = vector_bit names (codes "f") 34 31 i net (tree_name (codes "f") refl) w.flops (omega arith) (lit< tt) (omega arith)

pub gate_bit : (names : List (List ℕ × Declared)) (count k net : ℕ) → Knows names count → count < 10 ^ 9 → k < count → net + k ≡ 65 + count → IsBit names (bit_of (codes "g") k) net
gate_bit names count k net w small less e = vector_bit names (codes "g") 66 (count - 1) k net (tree_name (codes "g") refl) w.gates (omega arith) (omega arith) (omega arith)

-- The pool: what stands below a place of it.

-- the net is an input of the netlist, or a flip-flop's or a gate's, which then comes before this item
pub record IsRead (count item net : ℕ) : Type 0 where
  pub below : net < 66 + count
  pub inner : 18 ≤ net → 34 ≤ net
  pub before : 66 ≤ net → 65 + count < net + item

-- a bit of the pool, with its net
pub record IsPooled (names : List (List ℕ × Declared)) (count item : ℕ) (bit : Bit) : Type 0 where
  pub net : ℕ
  pub is : IsBit names bit net
  pub read : IsRead count item net

pub pool_bits : (names : List (List ℕ × Declared)) (count item a : ℕ) → Knows names count → count < 10 ^ 9 → a < 48 + count → a < 48 + item → IsPooled names count item (pool_bit a)
pool_bits names count item a w small inside before = by (cases_lt a 16) (cases_lt a 48)
  where
    by : (a < 16) ⊎ (16 ≤ a) → (a < 48) ⊎ (48 ≤ a) → IsPooled names count item (pool_bit a)
    by (inl low) other = rw (lt-ltb a 16 low) (record { net = 17 - a; is = input_bit names count a (17 - a) w low (omega arith); read = record { below = omega arith; inner = λ h. omega arith; before = λ h. omega arith } })
    by (inr high) (inl low) =
        rw (le-ltb a 16 high, lt-ltb a 48 low) (record {
          net = 65 - (a - 16);
          is = flop_bit names count (a - 16) (65 - (a - 16)) w (omega arith) (omega arith);
          read = record { below = omega arith; inner = λ h. omega arith; before = λ h. omega arith };
        })
    by (inr high) (inr higher) =
        rw (le-ltb a 16 high, le-ltb a 48 higher) (record {
          net = 65 + count - (a - 48);
          is = gate_bit names count (a - 48) (65 + count - (a - 48)) w small (omega arith) (omega arith);
          read = record { below = omega arith; inner = λ h. omega arith; before = λ h. omega arith };
        })
