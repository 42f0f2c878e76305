use Rattle.cell_order.proofs.Loopless.{loopless_has_order}
use Rattle.cell_order.proofs.laws.some_cell_order.Goals as goal

pub returns : goal.returns
returns c = loopless_has_order
