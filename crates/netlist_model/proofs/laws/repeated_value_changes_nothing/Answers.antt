use Rattle.netlist_model.proofs.Repeats.{repeats_change_nothing}
use Rattle.netlist_model.proofs.laws.repeated_value_changes_nothing.Goals as goal

pub returns : goal.returns
returns c = repeats_change_nothing
