use Rattle.netlist_recovery.proofs.Ends.{ends_told, ends_not}
use Rattle.netlist_recovery.proofs.prefix.before_end.Goals as goal

pub returns-then-eq : goal.returns-then-eq
returns-then-eq c = ends_told c.args.end.now c.args.name.now c.saturating_sub-count.result c.eq.result c.saturating_sub-count.ensures c.eq.ensures c.if-eq.true

pub returns-else-eq : goal.returns-else-eq
returns-else-eq c = ends_not c.args.end.now c.args.name.now c.saturating_sub-count.result c.eq.result c.saturating_sub-count.ensures c.eq.ensures c.if-eq.false
