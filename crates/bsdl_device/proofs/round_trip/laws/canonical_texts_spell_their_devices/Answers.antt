use Rattle.bsdl_device.proofs.DeviceKept.{device_spelled}
use Rattle.bsdl_device.proofs.round_trip.laws.canonical_texts_spell_their_devices.Goals as goal

pub returns : goal.returns
returns c = device_spelled
