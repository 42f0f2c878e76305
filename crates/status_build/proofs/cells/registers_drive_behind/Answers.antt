use Rattle.status_build.proofs.CellsLaws.{behind}
use Rattle.status_build.proofs.cells.registers_drive_behind.Goals as goal

pub returns : goal.returns
returns c = behind
