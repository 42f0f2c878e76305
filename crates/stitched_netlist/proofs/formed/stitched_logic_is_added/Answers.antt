use Rattle.stitched_netlist.proofs.Added.{logic_added as lemma}
use Rattle.stitched_netlist.proofs.formed.stitched_logic_is_added.Goals as goal

pub returns : goal.returns
returns c =
    lemma c.rows_stand_somewhere.ensures c.rows_stand_once.ensures c.nets_have_rows.ensures c.bit_of_a_direction.ensures c.numbers_of_a_dense_netlist.ensures
