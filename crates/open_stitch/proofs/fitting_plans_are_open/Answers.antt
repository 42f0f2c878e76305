use Rattle.open_stitch.proofs.Open.{plans_are_open}
use Rattle.open_stitch.proofs.fitting_plans_are_open.Goals as goal

pub returns : goal.returns
returns c = plans_are_open (record {
  follow = c.open_netlists_follow.ensures;
  stay = c.driven_wires_stay.ensures;
  by_ports = c.pins_are_by_ports.ensures;
  pins = c.stitched_has_pins.ensures;
  meets = c.contained_part_meets.ensures;
  moments = c.moments_of_a_run.ensures;
  drivers = c.found_driver_drives.ensures;
  stand = c.rows_stand_somewhere.ensures;
  once = c.rows_stand_once.ensures;
  has = c.nets_have_rows.ensures;
  bits = c.bit_of_a_direction.ensures;
  directions = c.stitched_directions.ensures;
})
