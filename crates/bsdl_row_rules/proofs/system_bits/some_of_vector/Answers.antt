use Rattle.std.proofs.Common.{ℕ, Some, rules}
use Rattle.bsdl_device.specs.Ports as declared
use Rattle.bsdl_device.specs.RowRules as row_rule
use Rattle.bsdl_row_rules.proofs.Bits.{passed, met}
use Rattle.bsdl_row_rules.proofs.system_bits.some_of_vector.Goals as goal

pub loop-place-preserved : goal.loop-place-preserved
loop-place-preserved c =
    passed (λ (place : ℕ). row_rule.bit_not_in_one_row c.args.rows.now (declared.bit_of_port c.args.name.now (Some (declared.index_at c.args.range place)))) c.loop-place.place c.width-count.result _
    c.loop-place-test.true (search rules) c.loop-place.invariant

pub returns-then-not_in_one_row : goal.returns-then-not_in_one_row
returns-then-not_in_one_row c =
    met (λ (place : ℕ). row_rule.bit_not_in_one_row c.args.rows.now (declared.bit_of_port c.args.name.now (Some (declared.index_at c.args.range place)))) c.loop-place.place c.width-count.result _
    c.loop-place-test.true (search rules) c.loop-place.invariant
