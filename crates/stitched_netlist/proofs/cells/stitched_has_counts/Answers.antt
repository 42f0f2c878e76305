use Rattle.stitched_netlist.proofs.Counts.{counts as lemma}
use Rattle.stitched_netlist.proofs.cells.stitched_has_counts.Goals as goal

pub returns : goal.returns
returns c = lemma
