use Rattle.scan_programs.proofs.Goes.{programs_are_met}
use Rattle.scan_programs.proofs.laws.programs_are_met.Goals as goal

pub returns : goal.returns
returns c = programs_are_met (record { cells = c.cells_keep_order.ensures; steps = c.steps_keep_order.ensures })
