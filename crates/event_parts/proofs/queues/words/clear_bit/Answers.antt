use Rattle.event_parts.proofs.QueuesBits.{clears}
use Rattle.event_parts.proofs.queues.words.clear_bit.Goals as goal

pub returns : goal.returns
returns c = clears c.args.words.now c.args.number c.requires
