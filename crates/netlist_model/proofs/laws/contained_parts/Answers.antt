use Rattle.netlist_model.proofs.Contained.{contained_parts as lemma}
use Rattle.netlist_model.proofs.laws.contained_parts.Goals as goal

pub returns : goal.returns
returns c = lemma
