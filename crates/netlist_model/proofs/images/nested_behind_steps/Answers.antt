use Rattle.netlist_model.proofs.Behind.{behind_steps as lemma}
use Rattle.netlist_model.proofs.images.nested_behind_steps.Goals as goal

pub returns : goal.returns
returns c = lemma c.found_driver_drives.ensures
