use Rattle.command_line.proofs.NameLaws.{not_same, none_more}
use Rattle.command_line.proofs.names.+is_one_of.Goals as goal

pub returns-else-eq-clause-none : goal.returns-else-eq-clause-none
returns-else-eq-clause-none t c = λ is. none_more c.args.name.now c.args.names.now _ c.in-len1-up.len_at_least (not_same _ _ _ c.eq.ensures c.if-eq.false) (c.is_one_of.ensures.none is)
