use Rattle.bsdl_device.proofs.DeviceIs.{spelled_device}
use Rattle.bsdl_device.proofs.round_trip.laws.spelled_devices_keep_the_conditions.Goals as goal

pub returns : goal.returns
returns c = spelled_device
