use Rattle.std.proofs.Common.{◌≡◌, ◌++◌, map, drop}
use Rattle.verilog_tree.specs.declared.tree.Module.{Module}
use Rattle.hier_counts.proofs.sizes.widths_of.Given as goal

abbrev pub invariant-loop-module : goal.invariant-loop-module
invariant-loop-module l = l.widths.items ++ map (λ (m : Module). m.ports) (drop l.module-index l.modules) ≡ map (λ (m : Module). m.ports) l.modules
