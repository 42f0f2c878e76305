use Rattle.plan_fitting.proofs.CoreSides.{rows_take_the_core}
use Rattle.plan_fitting.proofs.devices.laws.rows_take_the_core.Goals as goal

pub returns : goal.returns
returns c = rows_take_the_core c.direction_of_a_bit.ensures c.driver_is_found.ensures c.found_driver_drives.ensures
