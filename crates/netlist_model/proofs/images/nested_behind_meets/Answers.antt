use Rattle.netlist_model.proofs.Behind.{behind_meets as lemma}
use Rattle.netlist_model.proofs.images.nested_behind_meets.Goals as goal

pub returns : goal.returns
returns c = lemma c.found_driver_drives.ensures c.driver_is_found.ensures
