use Rattle.std.proofs.Common.{arith}
use Rattle.hier_flatten.proofs.EnterLaws.{taken_is}
use Rattle.hier_flatten.proofs.name_checks.is_taken.Goals as goal

pub returns-else-name-gt-NAME_LIMIT : goal.returns-else-name-gt-NAME_LIMIT
returns-else-name-gt-NAME_LIMIT c = taken_is c.args.seen.now c.args.name.now c.find.result c.is_some.result (omega arith) c.find.ensures.number c.find.ensures.stands c.is_some.ensures
