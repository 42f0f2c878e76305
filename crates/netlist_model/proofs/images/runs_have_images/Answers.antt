use Rattle.netlist_model.proofs.Renumbered.{runs_have_images}
use Rattle.netlist_model.proofs.images.runs_have_images.Goals as goal

pub returns : goal.returns
returns c = runs_have_images c.driver_is_found.ensures
