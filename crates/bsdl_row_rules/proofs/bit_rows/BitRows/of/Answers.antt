use Rattle.std.proofs.Common.{List, count_by, ◌∙◌, ap}
use Rattle.bsdl_port_rules.specs.Keys.{uses_for}
use Rattle.bsdl_row_rules.specs.declared.bit_rows.BitKey.{BitKey}
use Rattle.bsdl_row_rules.proofs.BitCounts.{same_key, counts_bits}
use Rattle.bsdl_row_rules.proofs.bit_rows.BitRows.of.Goals as goal

pub invariant_of-result : goal.invariant_of-result
invariant_of-result c =
    counts_bits c.args.rows.now c.in_ok-keys.keys.items c.in_ok-uses.uses.entries c.in_ok-keys.ensures
    (λ k. c.in_ok-uses.ensures k ∙ ap (λ (keys : List BitKey). uses_for (count_by (same_key k) keys)) c.deref.ensures.value)
