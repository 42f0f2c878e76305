use Rattle.plan_fitting.proofs.CoreSides.{controls_follow_their_rows}
use Rattle.plan_fitting.proofs.devices.laws.controls_follow_their_rows.Goals as goal

pub returns : goal.returns
returns c = controls_follow_their_rows c.direction_of_a_bit.ensures c.driver_is_found.ensures
