use Rattle.std.proofs.Common.{◌∙◌}
use Rattle.event_parts.proofs.Tables.{looked_up}
use Rattle.event_parts.proofs.counted_cells.eval_pair_step.Goals as goal

pub returns-clause-value : goal.returns-clause-value
returns-clause-value g c = λ library kind are is. c.value.ensures ∙ looked_up library kind c.args.pair c.args.a c.args.b c.args.tables.now are is
