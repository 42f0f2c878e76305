use Rattle.bsdl_values.proofs.RegistersFaults.{extended_spelled}
use Rattle.bsdl_values.proofs.registers.parse.meant.Goals as goal

pub returns-clause-spelled : goal.returns-clause-spelled
returns-clause-spelled c =
    extended_spelled c.args.words.now.list c.args.parts.now c.args.found.now (record { device = c.in_ok-device.field-0; registers = c.in_ok-registers_in.field-0 }) c.requires.parted c.requires.found
    c.in_ok-check_base.ensures.kept c.in_ok-check_registers.ensures.right c.in_ok-device.ensures c.in_ok-registers_in.ensures
