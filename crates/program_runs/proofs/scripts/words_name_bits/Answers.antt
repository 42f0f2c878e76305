use Rattle.program_runs.proofs.ScriptsWords.{words_name_bits}
use Rattle.program_runs.proofs.scripts.words_name_bits.Goals as goal

pub returns : goal.returns
returns c = words_name_bits
