use Rattle.netlist_model.proofs.LawsRuns.{run_once}
use Rattle.netlist_model.proofs.laws.one_run.Goals as goal

pub returns : goal.returns
returns c = run_once
