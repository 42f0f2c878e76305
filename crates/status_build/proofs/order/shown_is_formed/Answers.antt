use Rattle.status_build.proofs.Shown.{shown_formed}
use Rattle.status_build.proofs.order.shown_is_formed.Goals as goal

pub returns : goal.returns
returns c = shown_formed c.contained_parts.ensures c.constants_are_bits.ensures c.reconnected_to_low.ensures
