use Rattle.std.proofs.Common.{◌≡◌, ◌++◌, map, take}
use Rattle.plan_fitting.specs.Devices.{dev_port}
use Rattle.scan_stitch.proofs.device.push_ports.Given as goal

abbrev pub invariant-loop-port : goal.invariant-loop-port
invariant-loop-port l = l.into ≡ l.fn.into ++ map dev_port (take l.port-index l.ports)
