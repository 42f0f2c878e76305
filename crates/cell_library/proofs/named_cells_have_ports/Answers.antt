use Rattle.cell_library.proofs.PortLaws.{named_cells_have_ports}
use Rattle.cell_library.proofs.named_cells_have_ports.Goals as goal

pub returns : goal.returns
returns c = named_cells_have_ports
