use Rattle.std.proofs.Common.{◌≡◌, ℕ, take, nat_eq}
use Rattle.std.specs.List.{list_any}
use Rattle.bsdl_row_rules.proofs.numbers.number_set.Given as goal

abbrev pub invariant-loop-number : goal.invariant-loop-number
invariant-loop-number l = (n : ℕ) → list_any (nat_eq n) l.set.keys ≡ list_any (nat_eq n) (take l.number-index l.numbers)
