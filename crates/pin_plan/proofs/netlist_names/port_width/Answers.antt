use Rattle.std.proofs.Common.{◌<◌, ◌^◌, arith}
use Rattle.pin_plan.proofs.Collected.{width_small}
use Rattle.pin_plan.proofs.netlist_names.port_width.Goals as goal

pub overflow_cast-result : goal.overflow_cast-result
overflow_cast-result c =
    let small : c.width_of-width.result < 2 ^ 32 =
    width_small c.args.netlist.now.lists c.args.port.0 c.port_range.result c.width_of-width.result c.pin_count-pins.result c.is_laid_out.ensures.laid_out c.port_range.ensures
    c.width_of-width.ensures.value c.pin_count-pins.ensures c.pin_count-pins.type_inv in
    omega (arith, small)
