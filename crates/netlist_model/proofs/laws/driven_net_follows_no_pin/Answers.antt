use Rattle.netlist_model.proofs.Inside.{driven_is_inside as lemma}
use Rattle.netlist_model.proofs.laws.driven_net_follows_no_pin.Goals as goal

pub returns : goal.returns
returns c = lemma
