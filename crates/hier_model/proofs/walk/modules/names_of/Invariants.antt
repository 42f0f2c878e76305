use Rattle.std.proofs.Common.{◌≡◌, take}
use Rattle.hier_model.specs.WalkNames.{texts, module_names}
use Rattle.hier_model.proofs.walk.modules.names_of.Given as goal

abbrev pub invariant-loop-module : goal.invariant-loop-module
invariant-loop-module l = texts l.names.items ≡ module_names (take l.module-index l.modules)
