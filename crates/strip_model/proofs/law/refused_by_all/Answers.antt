use Rattle.strip_model.proofs.law.refused_by_all.Goals as goal
use Rattle.strip_model.proofs.Answer.{refused}

pub returns : goal.returns
returns c = refused c.recovered_gives.ensures
