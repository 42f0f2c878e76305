use Rattle.stitched_netlist.proofs.Controls.{controls as lemma}
use Rattle.stitched_netlist.proofs.ranks.stitched_has_controls.Goals as goal

pub returns : goal.returns
returns c = lemma c.bit_of_a_direction.ensures c.stitched_holds_its_parts.ensures
    (record {
      bits = c.direction_of_a_bit.ensures;
      found = c.driver_is_found.ensures;
      drives = c.found_driver_drives.ensures;
      named = c.control_cells_are_there.ensures;
      takes = c.rows_take_the_core.ensures;
      suits = c.plans_suit_netlists.ensures;
      stands = c.rows_stand_at_bits.ensures;
      core = c.stitched_holds_the_core.ensures;
      ways = c.stitched_directions.ensures;
    })
