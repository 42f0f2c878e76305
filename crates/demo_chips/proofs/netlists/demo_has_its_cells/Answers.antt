use Rattle.demo_chips.proofs.Counted.{demo_has_its_cells}
use Rattle.demo_chips.proofs.netlists.demo_has_its_cells.Goals as goal

pub returns : goal.returns
returns c = demo_has_its_cells c.numbers_of_a_dense_netlist.ensures
