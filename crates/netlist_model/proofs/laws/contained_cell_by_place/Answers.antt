use Rattle.netlist_model.proofs.Contained.{contained_by_place as lemma}
use Rattle.netlist_model.proofs.laws.contained_cell_by_place.Goals as goal

pub returns : goal.returns
returns c = lemma
