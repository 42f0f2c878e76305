use Rattle.program_runs.proofs.Lines.{program_names_pins}
use Rattle.program_runs.proofs.program_names_pins.Goals as goal

pub returns : goal.returns
returns c = program_names_pins
