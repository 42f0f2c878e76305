use Rattle.std.proofs.Common.{refl}
use Rattle.hier_model.proofs.Steps.{begins}
use Rattle.hier_model.proofs.walk.walk.Walk.new.Goals as goal

pub returns : goal.returns
returns c = begins _ _ _ _ _ refl c.new.ensures.items c.in_ok-push.ensures.items c.new-frames.ensures.items refl refl c.as_slice.ensures
