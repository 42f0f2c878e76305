use Rattle.strip_model.proofs.gives.link_view_is_laid_out.Goals as goal
use Rattle.strip_model.proofs.Laid.{laid_out}

pub returns : goal.returns
returns c = laid_out
