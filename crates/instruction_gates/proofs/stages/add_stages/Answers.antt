use Rattle.std.proofs.Common.{◌∙◌, ap, ℕ, length, arith}
use Rattle.instruction_gates.proofs.StagesAdded.{one_left, rest_left, stages_added}
use Rattle.instruction_gates.specs.Stages.{ir_steering}
use Rattle.register_gates.specs.Chains.{chain_last}
use Rattle.instruction_gates.proofs.stages.add_stages.Goals as goal

pub add_shift_chain-last-requires-clause-nets : goal.add_shift_chain-last-requires-clause-nets
add_shift_chain-last-requires-clause-nets c =
    let one = c.appended_count.ensures c.args.netlist.now c.add_part-load.new.netlist 1 _ c.add_part-load.ensures.added in
    let room = c.add_part-load.ensures.added.net_room in omega (arith, c.requires.nets)

pub add_shift_chain-last-requires-clause-cells : goal.add_shift_chain-last-requires-clause-cells
add_shift_chain-last-requires-clause-cells c =
    let room = one_left c.args.netlist.now c.add_part-load.new.netlist c.args.tap.now (length c.args.captured.now) c.add_part-load.ensures.added c.requires.cells in omega arith

pub add_shift_chain-last-requires-clause-steering : goal.add_shift_chain-last-requires-clause-steering
add_shift_chain-last-requires-clause-steering c =
    let one = c.appended_count.ensures c.args.netlist.now c.add_part-load.new.netlist 1 _ c.add_part-load.ensures.added in
    let a = c.requires.clock.0 in let b = c.requires.clock.1 in (omega arith, omega arith)

pub add_shift_chain-last-requires-clause-steps : goal.add_shift_chain-last-requires-clause-steps
add_shift_chain-last-requires-clause-steps c =
    let one = c.appended_count.ensures c.args.netlist.now c.add_part-load.new.netlist 1 _ c.add_part-load.ensures.added in
    let a = c.requires.steps.0 in let b = c.requires.steps.1 in (omega arith, omega arith)

pub add_shift_chain-last-requires-clause-tdi : goal.add_shift_chain-last-requires-clause-tdi
add_shift_chain-last-requires-clause-tdi c =
    let one = c.appended_count.ensures c.args.netlist.now c.add_part-load.new.netlist 1 _ c.add_part-load.ensures.added in
    omega (arith, c.requires.tdi)

pub add_shift_chain-last-requires-clause-captured : goal.add_shift_chain-last-requires-clause-captured
add_shift_chain-last-requires-clause-captured c =
    let one = c.appended_count.ensures c.args.netlist.now c.add_part-load.new.netlist 1 _ c.add_part-load.ensures.added in
    c.requires.captured (length c.add_part-load.new.netlist.lists.nets) (omega arith)

pub add_latches-latches-requires-clause-nets : goal.add_latches-latches-requires-clause-nets
add_latches-latches-requires-clause-nets c =
    let one = c.appended_count.ensures c.args.netlist.now c.add_part-load.new.netlist 1 _ c.add_part-load.ensures.added in
    let two = c.appended_count.ensures c.add_part-load.new.netlist c.add_shift_chain-last.new.netlist _ _ c.add_shift_chain-last.ensures.added in
    let x = c.add_part-load.ensures.added.net_room in let y = c.add_shift_chain-last.ensures.added.net_room in omega (arith, c.requires.nets, c.requires.as_many)

pub add_latches-latches-requires-clause-cells : goal.add_latches-latches-requires-clause-cells
add_latches-latches-requires-clause-cells c =
    let room = rest_left c.add_part-load.new.netlist c.add_shift_chain-last.new.netlist (ir_steering c.args.tap.now) c.args.tdi c.args.captured.now c.add_shift_chain-last.ensures.added
    (one_left c.args.netlist.now c.add_part-load.new.netlist c.args.tap.now (length c.args.captured.now) c.add_part-load.ensures.added c.requires.cells) in omega (arith, c.requires.as_many)

pub add_latches-latches-requires-clause-clock : goal.add_latches-latches-requires-clause-clock
add_latches-latches-requires-clause-clock c =
    let one = c.appended_count.ensures c.args.netlist.now c.add_part-load.new.netlist 1 _ c.add_part-load.ensures.added in
    let two = c.appended_count.ensures c.add_part-load.new.netlist c.add_shift_chain-last.new.netlist _ _ c.add_shift_chain-last.ensures.added in
    let a = c.requires.clock.0 in let b = c.requires.clock.1 in (omega arith, omega arith)

pub add_latches-latches-requires-clause-steps : goal.add_latches-latches-requires-clause-steps
add_latches-latches-requires-clause-steps c =
    let one = c.appended_count.ensures c.args.netlist.now c.add_part-load.new.netlist 1 _ c.add_part-load.ensures.added in
    let two = c.appended_count.ensures c.add_part-load.new.netlist c.add_shift_chain-last.new.netlist _ _ c.add_shift_chain-last.ensures.added in
    let a = c.add_part-load.ensures.first in let b = c.requires.loads.1 in (omega arith, omega arith)

pub add_latches-latches-requires-clause-shifts : goal.add_latches-latches-requires-clause-shifts
add_latches-latches-requires-clause-shifts c =
    let one = c.appended_count.ensures c.args.netlist.now c.add_part-load.new.netlist 1 _ c.add_part-load.ensures.added in
    let two = c.appended_count.ensures c.add_part-load.new.netlist c.add_shift_chain-last.new.netlist _ _ c.add_shift_chain-last.ensures.added in
    let a = c.net_count.ensures in omega (arith, c.requires.as_many)

pub returns-clause-last : goal.returns-clause-last
returns-clause-last c =
    let one = c.appended_count.ensures c.args.netlist.now c.add_part-load.new.netlist 1 _ c.add_part-load.ensures.added in
    c.add_shift_chain-last.ensures.last ∙ ap (λ (n : ℕ). chain_last n c.args.tdi c.args.captured.now) one

pub returns-clause-latches : goal.returns-clause-latches
returns-clause-latches c =
    let one = c.appended_count.ensures c.args.netlist.now c.add_part-load.new.netlist 1 _ c.add_part-load.ensures.added in
    let two = c.appended_count.ensures c.add_part-load.new.netlist c.add_shift_chain-last.new.netlist _ _ c.add_shift_chain-last.ensures.added in
    let a = c.add_latches-latches.ensures.first in omega arith

pub returns-clause-added : goal.returns-clause-added
returns-clause-added c =
    let one = c.appended_count.ensures c.args.netlist.now c.add_part-load.new.netlist 1 _ c.add_part-load.ensures.added in
    let a = c.net_count.ensures in
    stages_added c.added_in_turn.ensures c.args.netlist.now c.add_part-load.new.netlist c.add_shift_chain-last.new.netlist c.add_latches-latches.new.netlist c.args.tap.now c.args.tdi
    c.args.captured.now c.args.presets.now c.add_part-load.result (record { 0 = c.net_count.result }) c.add_part-load.ensures.first (omega arith)
    c.add_part-load.ensures.added c.add_shift_chain-last.ensures.added c.add_latches-latches.ensures.added
