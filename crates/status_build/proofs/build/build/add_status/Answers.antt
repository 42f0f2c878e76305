use Rattle.std.proofs.Common.{ℕ, ◌+◌, length, ap, ◌∙◌, arith}
use Rattle.netlist_model.specs.Lists.{cell_count}
use Rattle.status_gates.specs.Registers.{shown_of}
use Rattle.status_build.proofs.Built.{inverses_length, all_stand, status_added}
use Rattle.status_build.proofs.build.build.add_status.Goals as goal

pub add_registers-shown-requires-clause-nets : goal.add_registers-shown-requires-clause-nets
add_registers-shown-requires-clause-nets c =
    let room = c.add_inverses.ensures.added.net_room in
    let nets = c.requires.nets in
    omega (arith, room, nets)

pub add_registers-shown-requires-clause-cells : goal.add_registers-shown-requires-clause-cells
add_registers-shown-requires-clause-cells c =
    let room = c.add_inverses.ensures.added.cell_room in
    let long = inverses_length (length c.args.netlist.now.lists.nets) (cell_count c.args.netlist.now.lists) c.args.shared.now.opcode.0 c.args.bits in
    let cells = c.requires.cells in
    omega (arith, room, long, cells)

pub add_registers-shown-requires-clause-stand : goal.add_registers-shown-requires-clause-stand
add_registers-shown-requires-clause-stand c =
    let many = c.appended_count.ensures c.args.netlist.now c.add_inverses.new.netlist _ _ c.add_inverses.ensures.added in
    all_stand (length c.args.netlist.now.lists.nets) (length c.add_inverses.new.netlist.lists.nets) c.args.shared.now c.args.bypass c.args.bits c.args.registers.now c.requires.can many

pub add_registers-shown-requires-clause-bypass : goal.add_registers-shown-requires-clause-bypass
add_registers-shown-requires-clause-bypass c =
    let many = c.appended_count.ensures c.args.netlist.now c.add_inverses.new.netlist _ _ c.add_inverses.ensures.added in
    let bit = c.requires.can.bit in
    omega (arith, many, bit)

pub returns-clause-shown : goal.returns-clause-shown
returns-clause-shown c =
    let many = c.appended_count.ensures c.args.netlist.now c.add_inverses.new.netlist _ _ c.add_inverses.ensures.added in
    c.add_registers-shown.ensures.shown ∙ ap (λ (n : ℕ). shown_of n c.args.bypass c.args.registers.now) many

pub returns-clause-added : goal.returns-clause-added
returns-clause-added c =
    status_added c.added_in_turn.ensures c.args.netlist.now c.add_inverses.new.netlist c.add_registers-shown.new.netlist c.args.shared.now c.args.bypass c.args.bits c.args.registers.now
    c.add_inverses.ensures.added c.add_registers-shown.ensures.added
