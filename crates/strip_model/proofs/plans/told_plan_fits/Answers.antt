use Rattle.plan_fitting.proofs.DevicesFacts.{no_fault, facts_of}
use Rattle.strip_model.proofs.plans.told_plan_fits.Goals as goal
use Rattle.strip_model.proofs.SameFaults.{still_faultless}
use Rattle.strip_model.proofs.SameWords.{told_seen}

pub returns : goal.returns
returns c L p seen fits open_names = record {
  are_seen = told_seen L p seen fits open_names (facts_of c.direction_of_a_bit.ensures c.driver_is_found.ensures L p seen fits);
  faultless = still_faultless L p seen (no_fault L p seen fits);
}
