use Rattle.netlist_model.proofs.Behind.{operands_are_given as lemma}
use Rattle.netlist_model.proofs.images.operands_are_given.Goals as goal

pub returns : goal.returns
returns c = lemma c.found_driver_drives.ensures
