use Rattle.scan_stitch.proofs.Fit.{can_be_stitched as lemma}
use Rattle.scan_stitch.proofs.laws.fitted_can_be_stitched.Goals as goal

pub returns : goal.returns
returns c = lemma c.fitted_can_stand_behind.ensures
