use Rattle.strip_model.proofs.SeenOnce.{seen_once}
use Rattle.strip_model.proofs.law.pins_are_seen_once.Goals as goal

pub returns : goal.returns
returns c = seen_once
