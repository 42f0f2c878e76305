use Rattle.plan_fitting.proofs.DeviceIs.{plans_make_devices}
use Rattle.plan_fitting.proofs.devices.laws.plans_make_devices.Goals as goal

pub returns : goal.returns
returns c =
    plans_make_devices c.opcodes_keep_the_rules.ensures c.control_cells_are_there.ensures c.drivers_agree.ensures c.highz_disables_all.ensures
    c.direction_of_a_bit.ensures c.driver_is_found.ensures
