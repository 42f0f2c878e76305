use Rattle.demo_chips.proofs.Linked.{demo_can_be_linked}
use Rattle.demo_chips.proofs.netlists.demo_can_be_linked.Goals as goal

pub returns : goal.returns
returns c = demo_can_be_linked
