use Rattle.stitched_netlist.proofs.Once.{each_has as lemma}
use Rattle.stitched_netlist.proofs.rows.nets_have_rows.Goals as goal

pub returns : goal.returns
returns c =
    lemma c.bit_of_a_direction.ensures c.driver_is_found.ensures c.rows_stand_at_bits.ensures c.bits_have_rows.ensures c.hidden_bits_have_none.ensures
