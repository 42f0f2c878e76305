use Rattle.std.proofs.Common.{◌≡◌, ◌-◌, ℕ, Some}
use Rattle.std.specs.List.{list_any}
use Rattle.bsdl_device.specs.Ports as declared
use Rattle.bsdl_device.specs.RowRules as row_rule
use Rattle.bsdl_row_rules.proofs.system_bits.some_of_vector.Given as goal

abbrev pub invariant-loop-place : goal.invariant-loop-place
invariant-loop-place l =
    list_any (λ (place : ℕ). row_rule.bit_not_in_one_row l.rows (declared.bit_of_port l.name (Some (declared.index_at l.range place)))) (declared.counted_from l.place (l.count - l.place))
    ≡ list_any (λ (place : ℕ). row_rule.bit_not_in_one_row l.rows (declared.bit_of_port l.name (Some (declared.index_at l.range place)))) (declared.counted_from 0 (declared.width (Some l.range)))
