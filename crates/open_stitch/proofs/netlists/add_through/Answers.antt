use Rattle.open_stitch.proofs.netlists.add_through.Goals as goal

pub returns-clause-laid_out : goal.returns-clause-laid_out
returns-clause-laid_out c = c.is_laid_out.ensures.laid_out

pub returns-clause-driven_once : goal.returns-clause-driven_once
returns-clause-driven_once c = c.is_laid_out-2.ensures.driven_once
