use Rattle.std.proofs.Common.{◌≡◌, ◌-◌, ℕ, not, nat_eq}
use Rattle.std.specs.List.{list_any}
use Rattle.bsdl_device.specs.Ports.{counted_from}
use Rattle.bsdl_row_rules.proofs.boundary.lacks_number.Given as goal

abbrev pub invariant-loop-number : goal.invariant-loop-number
invariant-loop-number l = list_any (λ (n : ℕ). not (list_any (nat_eq n) l.set.keys)) (counted_from l.number (l.count - l.number)) ≡ list_any (λ (n : ℕ). not (list_any (nat_eq n) l.set.keys)) (counted_from 0 l.count)
