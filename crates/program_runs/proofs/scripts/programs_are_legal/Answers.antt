use Rattle.program_runs.proofs.Legal.{programs_are_legal}
use Rattle.program_runs.proofs.scripts.programs_are_legal.Goals as goal

pub returns : goal.returns
returns c = programs_are_legal c.words_name_bits.ensures c.direction_of_a_bit.ensures
