use Rattle.netlist_model.proofs.Inside.{driver_drives as lemma}
use Rattle.netlist_model.proofs.laws.found_driver_drives.Goals as goal

pub returns : goal.returns
returns c = lemma
