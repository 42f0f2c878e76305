use Rattle.std.proofs.Common.{arith, length}
use Rattle.register_gates.proofs.Added.{clock_below, steps_below, cells_left, bypass_added}
use Rattle.register_gates.proofs.add_bypass.Goals as goal

pub add_shift_bit-requires-clause-cells : goal.add_shift_bit-requires-clause-cells
add_shift_bit-requires-clause-cells c =
    cells_left c.args.netlist.now c.add_selection-steering.new.netlist c.args.tap.now c.args.instruction.now.bypass_on 3 c.add_selection-steering.ensures.added (omega (arith, c.requires.cells))

pub add_shift_bit-requires-clause-steering : goal.add_shift_bit-requires-clause-steering
add_shift_bit-requires-clause-steering c = clock_below (length c.args.netlist.now.lists.nets) _ c.add_selection-steering.result c.args.tap.now c.add_selection-steering.ensures.steering
    (c.appended_count.ensures c.args.netlist.now c.add_selection-steering.new.netlist 2 _ c.add_selection-steering.ensures.added) c.requires.clock

pub add_shift_bit-requires-clause-steps : goal.add_shift_bit-requires-clause-steps
add_shift_bit-requires-clause-steps c = steps_below (length c.args.netlist.now.lists.nets) _ c.add_selection-steering.result c.args.tap.now c.add_selection-steering.ensures.steering
    (c.appended_count.ensures c.args.netlist.now c.add_selection-steering.new.netlist 2 _ c.add_selection-steering.ensures.added)

pub add_shift_bit-requires-clause-next : goal.add_shift_bit-requires-clause-next
add_shift_bit-requires-clause-next c =
    let more = c.appended_count.ensures c.args.netlist.now c.add_selection-steering.new.netlist 2 _ c.add_selection-steering.ensures.added in omega (arith, c.requires.tdi)

pub returns-clause-bit : goal.returns-clause-bit
returns-clause-bit c =
    let more = c.appended_count.ensures c.args.netlist.now c.add_selection-steering.new.netlist 2 _ c.add_selection-steering.ensures.added in omega (arith, c.add_shift_bit.ensures.first)

pub returns-clause-added : goal.returns-clause-added
returns-clause-added c = bypass_added c.appended_count.ensures c.appended_more.ensures c.args.netlist.now c.add_selection-steering.new.netlist c.add_shift_bit.new.netlist
    c.add_selection-steering.result c.args.tap.now c.args.instruction.now.bypass_on c.args.tdi c.add_selection-steering.ensures.steering
    c.add_selection-steering.ensures.added c.add_shift_bit.ensures.added
