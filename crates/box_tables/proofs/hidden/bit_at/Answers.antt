use Rattle.box_tables.proofs.Bits.{bit_made}
use Rattle.box_tables.proofs.hidden.bit_at.Goals as goal

pub returns : goal.returns
returns c = bit_made c.args.name.now c.args.range c.args.place c.in_ok-from_bytes.field-0 c.index_at.result c.requires c.in_ok-from_bytes.ensures c.index_at.ensures
