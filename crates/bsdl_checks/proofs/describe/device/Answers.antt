use Rattle.std.proofs.Common.{◌≤◌, length, arith}
use Rattle.std.proofs.lemmas.Grind.{common_steps}
use Rattle.bsdl_device.specs.Ports.{declared_ports}
use Rattle.bsdl_checks.proofs.Few.{few_ports}
use Rattle.bsdl_checks.proofs.describe.device.Goals as goal

pub device_at-requires-clause-few : goal.device_at-requires-clause-few
device_at-requires-clause-few c =
    let few : length (declared_ports c.args.file.now) ≤ 4096 = few_ports c.args.file.now c.args.contents.now c.requires in
    grind (arith, common_steps, few)
