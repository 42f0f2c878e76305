use Rattle.netlist_model.proofs.Inside.{driver_found as lemma}
use Rattle.netlist_model.proofs.laws.driver_is_found.Goals as goal

pub returns : goal.returns
returns c = lemma
