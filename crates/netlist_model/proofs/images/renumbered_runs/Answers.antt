use Rattle.netlist_model.proofs.Renumbered.{renumbered_runs}
use Rattle.netlist_model.proofs.images.renumbered_runs.Goals as goal

pub returns : goal.returns
returns c = renumbered_runs c.driver_is_found.ensures
