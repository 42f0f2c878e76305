use Rattle.program_runs.proofs.Plays.{chip_meets_program}
use Rattle.program_runs.proofs.chip_meets_program.Goals as goal

pub returns : goal.returns
returns c = chip_meets_program c.programs_are_met.ensures c.direction_of_a_bit.ensures
