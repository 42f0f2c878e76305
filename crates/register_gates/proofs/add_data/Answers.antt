use Rattle.std.proofs.Common.{◌+◌, ◌*◌, ◌∙◌, arith, length}
use Rattle.register_gates.proofs.Added.{clock_below, steps_below, cells_left, more_below, chain_last_at, data_added}
use Rattle.register_gates.proofs.add_data.Goals as goal

pub add_shift_chain-requires-clause-cells : goal.add_shift_chain-requires-clause-cells
add_shift_chain-requires-clause-cells c =
    cells_left c.args.netlist.now c.add_selection-steering.new.netlist c.args.tap.now c.args.on (3 * length c.args.captured.now) c.add_selection-steering.ensures.added (omega (arith, c.requires.cells))

pub add_shift_chain-requires-clause-steering : goal.add_shift_chain-requires-clause-steering
add_shift_chain-requires-clause-steering c = clock_below (length c.args.netlist.now.lists.nets) _ c.add_selection-steering.result c.args.tap.now c.add_selection-steering.ensures.steering
    (c.appended_count.ensures c.args.netlist.now c.add_selection-steering.new.netlist 2 _ c.add_selection-steering.ensures.added) c.requires.clock

pub add_shift_chain-requires-clause-steps : goal.add_shift_chain-requires-clause-steps
add_shift_chain-requires-clause-steps c = steps_below (length c.args.netlist.now.lists.nets) _ c.add_selection-steering.result c.args.tap.now c.add_selection-steering.ensures.steering
    (c.appended_count.ensures c.args.netlist.now c.add_selection-steering.new.netlist 2 _ c.add_selection-steering.ensures.added)

pub add_shift_chain-requires-clause-tdi : goal.add_shift_chain-requires-clause-tdi
add_shift_chain-requires-clause-tdi c =
    let more = c.appended_count.ensures c.args.netlist.now c.add_selection-steering.new.netlist 2 _ c.add_selection-steering.ensures.added in omega (arith, c.requires.tdi)

pub add_shift_chain-requires-clause-captured : goal.add_shift_chain-requires-clause-captured
add_shift_chain-requires-clause-captured c =
    let more = c.appended_count.ensures c.args.netlist.now c.add_selection-steering.new.netlist 2 _ c.add_selection-steering.ensures.added in
    more_below (length c.args.netlist.now.lists.nets) _ c.args.captured.now (omega arith) c.requires.captured

pub returns-clause-last : goal.returns-clause-last
returns-clause-last c = c.add_shift_chain.ensures.last
    ∙ chain_last_at (length c.args.netlist.now.lists.nets + 2) _ c.args.tdi c.args.captured.now
    (c.appended_count.ensures c.args.netlist.now c.add_selection-steering.new.netlist 2 _ c.add_selection-steering.ensures.added)

pub returns-clause-added : goal.returns-clause-added
returns-clause-added c = data_added c.appended_count.ensures c.appended_more.ensures c.args.netlist.now c.add_selection-steering.new.netlist c.add_shift_chain.new.netlist
    c.add_selection-steering.result c.args.tap.now c.args.on c.args.tdi c.args.captured.now c.add_selection-steering.ensures.steering
    c.add_selection-steering.ensures.added c.add_shift_chain.ensures.added
