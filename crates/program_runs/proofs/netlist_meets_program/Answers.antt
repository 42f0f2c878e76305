use Rattle.program_runs.proofs.There.{netlist_meets_program}
use Rattle.program_runs.proofs.netlist_meets_program.Goals as goal

pub returns : goal.returns
returns c = netlist_meets_program c.realising_meets_program.ensures c.some_chip_run.ensures c.bit_of_a_direction.ensures
