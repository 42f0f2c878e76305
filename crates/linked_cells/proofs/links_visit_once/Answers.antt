use Rattle.linked_cells.proofs.Threads.{visits_once}
use Rattle.linked_cells.proofs.links_visit_once.Goals as goal

pub returns : goal.returns
returns c = visits_once
