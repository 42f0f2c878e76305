use Rattle.bsdl_device.proofs.Spelled.{extended_spelled}
use Rattle.bsdl_device.proofs.registers_round_trip.laws.canonical_extended_texts_spell.Goals as goal

pub returns : goal.returns
returns c = extended_spelled
