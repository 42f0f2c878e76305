use Rattle.bsdl_device.specs.RowRules as row_rule
use Rattle.bsdl_row_rules.proofs.Bits.{at_scalar, at_vector}
use Rattle.bsdl_row_rules.proofs.system_bits.some_of_port.Goals as goal

pub returns-in-None : goal.returns-in-None
returns-in-None c = at_scalar (row_rule.bit_not_in_one_row c.args.rows.now) c.args.port.now c.as_bytes-name.result.now c.not_in_one_row.result c.in-None.is c.as_bytes-name.ensures c.not_in_one_row.ensures

pub returns-in-Some : goal.returns-in-Some
returns-in-Some c = at_vector (row_rule.bit_not_in_one_row c.args.rows.now) c.args.port.now c.as_bytes-name.result.now c.in-Some.range c.some_of_vector.result c.in-Some.is c.as_bytes-name.ensures c.some_of_vector.ensures
