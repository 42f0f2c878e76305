use Rattle.status_build.proofs.CellsLaws.{clocked}
use Rattle.status_build.proofs.cells.registers_are_clocked.Goals as goal

pub returns : goal.returns
returns c = clocked
