use Rattle.stitched_netlist.proofs.Once.{once as lemma}
use Rattle.stitched_netlist.proofs.rows.rows_stand_once.Goals as goal

pub returns : goal.returns
returns c = lemma c.rows_stand_at_bits.ensures
