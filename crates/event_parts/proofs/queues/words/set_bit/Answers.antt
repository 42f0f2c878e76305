use Rattle.event_parts.proofs.QueuesBits.{sets}
use Rattle.event_parts.proofs.queues.words.set_bit.Goals as goal

pub returns : goal.returns
returns c = sets c.args.words.now c.args.number c.requires
