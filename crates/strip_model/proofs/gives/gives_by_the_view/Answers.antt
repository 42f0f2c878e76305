use Rattle.strip_model.proofs.gives.gives_by_the_view.Goals as goal
use Rattle.strip_model.proofs.Views.{gives_same}

pub returns : goal.returns
returns c = gives_same
