use Rattle.hier_model.specs.Walks.{texts}
use Rattle.hier_flatten.proofs.Joined.{bit_made}
use Rattle.hier_flatten.proofs.joins.bit_at.Goals as goal

pub returns : goal.returns
returns c = bit_made (texts c.args.at.now) c.args.name.now c.args.range c.args.place c.in_ok-flat_name.field-0 c.index_at.result c.requires c.in_ok-flat_name.ensures c.index_at.ensures
