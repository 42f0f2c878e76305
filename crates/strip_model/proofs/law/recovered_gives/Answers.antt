use Rattle.strip_model.proofs.law.recovered_gives.Goals as goal
use Rattle.strip_model.proofs.Answer.{gives}

pub returns : goal.returns
returns c = gives c.law_of_stripping.ensures c.recovered_is_the_netlist.ensures c.same_is_linked.ensures c.core_is_tree.ensures
