use Rattle.netlist_model.proofs.LawsRuns.{run_exists}
use Rattle.netlist_model.proofs.laws.some_run.Goals as goal

pub returns : goal.returns
returns c = run_exists
