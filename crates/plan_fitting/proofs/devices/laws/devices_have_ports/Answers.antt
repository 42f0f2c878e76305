use Rattle.plan_fitting.proofs.DevicesPlaces.{devices_have_ports}
use Rattle.plan_fitting.proofs.devices.laws.devices_have_ports.Goals as goal

pub returns : goal.returns
returns c = devices_have_ports
