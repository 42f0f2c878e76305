use Rattle.std.proofs.Common.{◌≡◌, ◌++◌, drop}
use Rattle.hier_flatten.proofs.nets.tables_of.Given as goal

abbrev pub invariant-loop-module : goal.invariant-loop-module
invariant-loop-module l = l.tables.items ++ drop l.module-index l.modules ≡ l.modules
