use Rattle.play_command.proofs.VectorsMade.{program_made}
use Rattle.play_command.proofs.vectors.program_texts.program_text.Goals as goal

pub returns-in-Ok-clause-made : goal.returns-in-Ok-clause-made
returns-in-Ok-clause-made c =
    program_made c.texts_of_events_are_spelled_or_at_fault.ensures.once c.args.text c.in-Ok.printed c.in_ok-device.device c.in_ok-device.ensures.read c.in-Ok.ensures.canonical c.in-Ok.ensures.spells
