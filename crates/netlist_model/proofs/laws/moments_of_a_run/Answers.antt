use Rattle.netlist_model.proofs.Moments.{run_has_moments as lemma}
use Rattle.netlist_model.proofs.laws.moments_of_a_run.Goals as goal

pub returns : goal.returns
returns c = lemma
