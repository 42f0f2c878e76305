-- Limits, by counts that saturate.
use Rattle.std.proofs.Common.{◌≡◌, ◌⊎◌, inl, inr, ℕ, ◌+◌, ◌-◌, ◌^◌, ◌<◌, ◌≤◌, min, get_or, take, Bool, true, if◌then◌else◌, List, map, length, sum_by, Option, Some, None, sym, ap, ◌∙◌, arith}
use Rattle.std.specs.Prelude.{nat_lt}
use Rattle.std.proofs.lemmas.Bool.Decides.{nat_tests}
use Rattle.std.proofs.lemmas.List.Sums.{sum_by_more}
use Rattle.list_laws.specs.Options.{or_else, first_in}
use Rattle.list_laws.proofs.Numbers.{below_or_not}
use Rattle.verilog_tree.specs.declared.tree.Item.{Item}
use Rattle.verilog_tree.specs.declared.tree.Module.{Module}
use Rattle.netlist_model.specs.declared.What.{What}
use Rattle.netlist_model.specs.declared.What.TheVariants as what
use Rattle.link_model.specs.declared.fault.LinkFault.{LinkFault}
use Rattle.link_model.specs.declared.fault.LinkFault.TheVariants.{TooMany}
use Rattle.link_model.specs.Nets.{bits_in, port_nets, declared_nets}
use Rattle.link_model.specs.Faults.{counted, too_many, gate_operands}
use Rattle.box_model.specs.declared.boxes.BoxLibrary.{BoxLibrary}
use Rattle.box_model.specs.Counts.{parted_bits, added_bits, opened_excess}
use Rattle.box_trees.specs.Limits.{excess_with}

-- one more, added to a count that saturates
pub saturated_next : {X : Type 0} (f : X → ℕ) (xs : List X) (i : ℕ) (x : X) (old added new : ℕ) → i < length xs → x ≡ get_or xs i x → old ≡ counted (sum_by f (take i xs)) → added ≡ f x → new ≡ min (old + added) (2 ^ 64 - 1) → new ≡ counted (sum_by f (take (i + 1) xs))
saturated_next f xs i x old added new low is so_far here made =
    let more = sum_by_more f xs i x low in
    let same : f x ≡ f (get_or xs i x) = ap f is in
    omega (arith, so_far, here, made, more, same)

pub saturated_more : {X : Type 0} (f : X → ℕ) (xs : List X) (i : ℕ) (x : X) (old added new : ℕ) → i < length xs → x ≡ get_or xs i x → old ≡ counted (sum_by f (take i xs)) → added ≡ counted (f x) → new ≡ min (old + added) (2 ^ 64 - 1) → new ≡ counted (sum_by f (take (i + 1) xs))
saturated_more f xs i x old added new low is so_far here made =
    let more = sum_by_more f xs i x low in
    let same : f x ≡ f (get_or xs i x) = ap f is in
    omega (arith, so_far, here, made, more, same)

past_all : (things : What) (limit n : ℕ) → limit < 2 ^ 64 - 1 → 2 ^ 64 - 1 ≤ n → too_many things limit n ≡ Some (TooMany things (2 ^ 64 - 1) limit)
past_all things limit n low high =
    let passes : nat_lt limit n ≡ true = grind (arith, nat_tests) in
    let most : counted n ≡ 2 ^ 64 - 1 = omega (arith, high) in
    ap (λ (b : Bool). if b then Some (TooMany things (counted n) limit) else None) passes ∙ ap (λ (k : ℕ). Some (TooMany things k limit)) most

many_told : (things : What) (limit a k : ℕ) → limit < 2 ^ 64 - 1 → too_many things limit (counted a + k) ≡ too_many things limit (a + k)
many_told things limit a k low = by (below_or_not a (2 ^ 64 - 1))
  where
    by : (a < 2 ^ 64 - 1) ⊎ (2 ^ 64 - 1 ≤ a) → too_many things limit (counted a + k) ≡ too_many things limit (a + k)
    by (inl few) = let same : counted a ≡ a = omega (arith, few) in ap (λ (n : ℕ). too_many things limit (n + k)) same
    by (inr many) = past_all things limit (counted a + k) low (omega (arith, many)) ∙ sym (past_all things limit (a + k) low (omega (arith, many)))

-- counts that saturate tell the same
excess_told : (a : ℕ) (m : Module) → excess_with (counted a) m ≡ excess_with a m
excess_told a m =
    ap (λ (o : Option LinkFault). or_else o (or_else (too_many what.Nets 524288 (counted a + bits_in (declared_nets m))) (or_else (too_many what.Ports 4096 (bits_in (map port_nets m.ports))) (first_in (λ i. too_many what.Operands 256 (gate_operands i)) m.items))))
    (many_told what.Cells 262144 a (length m.items) (omega arith))
    ∙ ap (λ (o : Option LinkFault). or_else (too_many what.Cells 262144 (a + length m.items)) (or_else o (or_else (too_many what.Ports 4096 (bits_in (map port_nets m.ports))) (first_in (λ i. too_many what.Operands 256 (gate_operands i)) m.items))))
    (many_told what.Nets 524288 a (bits_in (declared_nets m)) (omega arith))

-- what is told of the widths of cut ports
pub excess_is : (B : BoxLibrary) (m nets : Module) (items : List Item) (added : ℕ) → nets ≡ m → items ≡ m.items → added ≡ counted (sum_by (parted_bits B nets) items) → excess_with added m ≡ opened_excess B m
excess_is B m nets items added is same many =
    ap (λ (n : ℕ). excess_with n m)
    (many ∙ ap (λ (k : Module). counted (sum_by (parted_bits B k) items)) is ∙ ap (λ (l : List Item). counted (sum_by (parted_bits B m) l)) same)
    ∙ excess_told (added_bits B m) m
