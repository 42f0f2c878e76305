use Rattle.std.proofs.Common.{ℕ, ◌∙◌}
use Rattle.bsdl_row_rules.proofs.Disagreements.{disagree_by_sets}
use Rattle.bsdl_row_rules.proofs.disables.some_disagree.Goals as goal

pub returns : goal.returns
returns c =
    c.has_some.ensures
    ∙ disagree_by_sets c.args.rows.now c.in_ok-set.set.keys c.deref.result.now c.deref-2.result.now
    (c.deref.ensures.value ∙ c.in_ok-zeros.ensures) (c.deref-2.ensures.value ∙ c.in_ok-ones.ensures) c.in_ok-set.ensures
