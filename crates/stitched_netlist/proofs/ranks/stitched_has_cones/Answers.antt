use Rattle.stitched_netlist.proofs.Controls.{cones as lemma}
use Rattle.stitched_netlist.proofs.ranks.stitched_has_cones.Goals as goal

pub returns : goal.returns
returns c = lemma
    (record {
      bits = c.direction_of_a_bit.ensures;
      found = c.driver_is_found.ensures;
      drives = c.found_driver_drives.ensures;
      named = c.control_cells_are_there.ensures;
      takes = c.rows_take_the_core.ensures;
      suits = c.plans_suit_netlists.ensures;
      stands = c.rows_stand_at_bits.ensures;
      core = c.stitched_holds_the_core.ensures;
      ways = c.stitched_directions.ensures;
    })
