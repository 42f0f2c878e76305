use Rattle.strip_model.proofs.law.one_netlist_gives.Goals as goal
use Rattle.strip_model.proofs.RecoveryLaw.{one_netlist}

pub returns : goal.returns
returns c = one_netlist c.law_of_stripping.ensures
