use Rattle.stitched_netlist.proofs.Nests.{nests}
use Rattle.stitched_netlist.proofs.inside.built_in_nests.Goals as goal

pub returns : goal.returns
returns c =
    nests (record {
      has = c.direction_of_a_bit.ensures;
      back = c.bit_of_a_direction.ensures;
      found = c.driver_is_found.ensures;
      drives = c.found_driver_drives.ensures;
      there = c.control_cells_are_there.ensures;
    })
