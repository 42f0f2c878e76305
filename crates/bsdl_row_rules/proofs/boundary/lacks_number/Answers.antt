use Rattle.std.proofs.Common.{ℕ, not, nat_eq, rules, arith}
use Rattle.std.specs.List.{list_any}
use Rattle.bsdl_row_rules.proofs.Bits.{passed, met, none_left}
use Rattle.bsdl_row_rules.proofs.boundary.lacks_number.Goals as goal

pub loop-number-preserved : goal.loop-number-preserved
loop-number-preserved c = passed (λ (n : ℕ). not (list_any (nat_eq n) c.args.set.now.keys)) c.loop-number.number c.args.count _ c.loop-number-test.true (search rules) c.loop-number.invariant

pub returns-then-not-has_number : goal.returns-then-not-has_number
returns-then-not-has_number c = met (λ (n : ℕ). not (list_any (nat_eq n) c.args.set.now.keys)) c.loop-number.number c.args.count _ c.loop-number-test.true (search rules) c.loop-number.invariant

pub returns : goal.returns
returns c = none_left (λ (n : ℕ). not (list_any (nat_eq n) c.args.set.now.keys)) c.loop-number.number c.args.count _ (omega arith) c.loop-number.invariant
