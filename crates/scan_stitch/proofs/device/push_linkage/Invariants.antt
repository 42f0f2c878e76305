use Rattle.std.proofs.Common.{◌≡◌, ◌++◌, map, take}
use Rattle.bsdl_device.specs.declared.values.PortMode.TheVariants.{Linkage}
use Rattle.plan_fitting.specs.Devices.{scalar_port}
use Rattle.scan_stitch.proofs.device.push_linkage.Given as goal

abbrev pub invariant-loop-line : goal.invariant-loop-line
invariant-loop-line l = l.into ≡ l.fn.into ++ map (scalar_port Linkage) (take l.line-index l.lines)
