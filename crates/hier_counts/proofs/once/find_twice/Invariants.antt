use Rattle.std.proofs.Common.{◌≡◌, [], drop}
use Rattle.texts.specs.Repeated.{seen}
use Rattle.hier_model.specs.Faults.{twice_name}
use Rattle.hier_counts.proofs.once.find_twice.Given as goal

abbrev pub invariant-loop-module : goal.invariant-loop-module
invariant-loop-module l = twice_name l.cells (seen l.names) (drop l.module-index l.modules) ≡ twice_name l.cells [] l.modules
