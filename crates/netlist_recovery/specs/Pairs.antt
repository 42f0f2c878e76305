-- own: a module and a plan as a pair.
use Rattle.verilog_tree.specs.declared.tree.Module.{Module}
use Rattle.plan_texts.specs.declared.plan.Plan.{Plan}
use Rattle.netlist_recovery.specs.declared.recovery.Recovered.{Recovered}

abbrev pub pair_of : Recovered → Module × Plan
pair_of found = (found.module, found.plan)
