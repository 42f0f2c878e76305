use Rattle.strip_model.proofs.netlists.chain_is_read.Goals as goal
use Rattle.strip_model.proofs.Walk.{chain_read}

pub returns : goal.returns
returns c = chain_read
