use Rattle.std.proofs.Common.{◌≡◌, ℕ, ◌+◌, length, ◌∙◌, arith}
use Rattle.test_logic_parts.proofs.LogicAdded.{tap_below, instruction_below, tap_room, instruction_room, bypass_room, logic_is, logic_added, logic_leaves_free, handed_on}
use Rattle.test_logic_parts.proofs.logic.add_logic.Goals as goal

pub add_bypass-bypass-requires-clause-cells : goal.add_bypass-bypass-requires-clause-cells
add_bypass-bypass-requires-clause-cells c =
    let a = tap_room c.args.netlist.now c.add_tap-tap.new.netlist c.args.port.now.tck c.args.port.now.tms c.args.port.now.trst c.add_tap-tap.ensures.added in
    let b = instruction_room c.constants_are_bits.ensures c.add_tap-tap.new.netlist c.add_instruction-instruction.new.netlist c.add_tap-tap.result c.args.port.now.tdi
    c.args.fitted.now.codes c.add_instruction-instruction.ensures.added in
    let d = c.add_instruction-instruction.ensures.size in
    let e = c.requires.room.cells in
    omega arith

pub add_bypass-bypass-requires-clause-on : goal.add_bypass-bypass-requires-clause-on
add_bypass-bypass-requires-clause-on c =
    let a = c.appended_count.ensures c.args.netlist.now c.add_tap-tap.new.netlist 49 _ c.add_tap-tap.ensures.added in
    let b = c.appended_count.ensures c.add_tap-tap.new.netlist c.add_instruction-instruction.new.netlist _ _ c.add_instruction-instruction.ensures.added in
    let d = c.requires.port.tdi in
    (instruction_below c.constants_are_bits.ensures (length c.add_tap-tap.new.netlist.lists.nets) (length c.add_instruction-instruction.new.netlist.lists.nets) c.add_tap-tap.result
    c.args.port.now.tdi c.args.fitted.now.codes c.add_instruction-instruction.result
    (tap_below (length c.args.netlist.now.lists.nets) (length c.add_tap-tap.new.netlist.lists.nets) c.args.port.now c.add_tap-tap.result c.requires.port c.add_tap-tap.ensures.nets (omega arith))
    (omega arith) c.add_instruction-instruction.ensures.nets (omega arith)).bypass_on

pub add_code-ident-requires-clause-cells : goal.add_code-ident-requires-clause-cells
add_code-ident-requires-clause-cells c =
    let a = tap_room c.args.netlist.now c.add_tap-tap.new.netlist c.args.port.now.tck c.args.port.now.tms c.args.port.now.trst c.add_tap-tap.ensures.added in
    let b = instruction_room c.constants_are_bits.ensures c.add_tap-tap.new.netlist c.add_instruction-instruction.new.netlist c.add_tap-tap.result c.args.port.now.tdi
    c.args.fitted.now.codes c.add_instruction-instruction.ensures.added in
    let d = bypass_room c.add_instruction-instruction.new.netlist c.add_bypass-bypass.new.netlist c.add_tap-tap.result c.add_instruction-instruction.result.bypass_on c.args.port.now.tdi
    c.add_bypass-bypass.ensures.added in
    let e = c.add_instruction-instruction.ensures.size in
    let f = c.requires.room.cells in
    omega arith

pub add_code-ident-requires-clause-selections : goal.add_code-ident-requires-clause-selections
add_code-ident-requires-clause-selections c =
    let a = c.appended_count.ensures c.args.netlist.now c.add_tap-tap.new.netlist 49 _ c.add_tap-tap.ensures.added in
    let b = c.appended_count.ensures c.add_tap-tap.new.netlist c.add_instruction-instruction.new.netlist _ _ c.add_instruction-instruction.ensures.added in
    let d = c.appended_count.ensures c.add_instruction-instruction.new.netlist c.add_bypass-bypass.new.netlist 5 _ c.add_bypass-bypass.ensures.added in
    let e = c.requires.port.tdi in
    let below = instruction_below c.constants_are_bits.ensures (length c.add_tap-tap.new.netlist.lists.nets) (length c.add_bypass-bypass.new.netlist.lists.nets) c.add_tap-tap.result
    c.args.port.now.tdi c.args.fitted.now.codes c.add_instruction-instruction.result
    (tap_below (length c.args.netlist.now.lists.nets) (length c.add_tap-tap.new.netlist.lists.nets) c.args.port.now c.add_tap-tap.result c.requires.port c.add_tap-tap.ensures.nets (omega arith))
    (omega arith) c.add_instruction-instruction.ensures.nets (omega arith) in
    (below.ident_on, below.user_on)

pub returns-clause-logic : goal.returns-clause-logic
returns-clause-logic c =
    logic_is c.appended_count.ensures c.args.netlist.now c.add_tap-tap.new.netlist c.add_instruction-instruction.new.netlist c.add_bypass-bypass.new.netlist c.args.port.now c.args.fitted.now
    c.add_tap-tap.result c.add_instruction-instruction.result c.add_bypass-bypass.result c.add_code-ident.result _ _ _ c.add_tap-tap.ensures.nets c.add_instruction-instruction.ensures.nets
    c.add_bypass-bypass.ensures.bit c.add_code-ident.ensures.ident c.add_tap-tap.ensures.added c.add_instruction-instruction.ensures.added c.add_bypass-bypass.ensures.added

pub returns-clause-below : goal.returns-clause-below
returns-clause-below c =
    let a = c.appended_count.ensures c.args.netlist.now c.add_tap-tap.new.netlist 49 _ c.add_tap-tap.ensures.added in
    let b = c.appended_count.ensures c.add_tap-tap.new.netlist c.add_instruction-instruction.new.netlist _ _ c.add_instruction-instruction.ensures.added in
    let d = c.appended_count.ensures c.add_instruction-instruction.new.netlist c.add_bypass-bypass.new.netlist 5 _ c.add_bypass-bypass.ensures.added in
    let e = c.appended_count.ensures c.add_bypass-bypass.new.netlist c.add_code-ident.new.netlist _ _ c.add_code-ident.ensures.added in
    let f = c.requires.port.tdi in
    let g = c.add_bypass-bypass.ensures.bit in
    handed_on (length c.add_instruction-instruction.new.netlist.lists.nets) (length c.add_code-ident.new.netlist.lists.nets) c.add_tap-tap.result c.add_instruction-instruction.result
    c.add_bypass-bypass.result c.add_code-ident.result (omega arith)
    (tap_below (length c.args.netlist.now.lists.nets) (length c.add_instruction-instruction.new.netlist.lists.nets) c.args.port.now c.add_tap-tap.result c.requires.port
    c.add_tap-tap.ensures.nets (omega arith))
    (instruction_below c.constants_are_bits.ensures (length c.add_tap-tap.new.netlist.lists.nets) (length c.add_instruction-instruction.new.netlist.lists.nets) c.add_tap-tap.result
    c.args.port.now.tdi c.args.fitted.now.codes c.add_instruction-instruction.result
    (tap_below (length c.args.netlist.now.lists.nets) (length c.add_tap-tap.new.netlist.lists.nets) c.args.port.now c.add_tap-tap.result c.requires.port c.add_tap-tap.ensures.nets (omega arith))
    (omega arith) c.add_instruction-instruction.ensures.nets (omega arith))
    (omega arith) c.add_code-ident.ensures.below

pub returns-clause-added : goal.returns-clause-added
returns-clause-added c =
    logic_added c.appended_count.ensures c.appended_more.ensures c.args.netlist.now c.add_tap-tap.new.netlist c.add_instruction-instruction.new.netlist c.add_bypass-bypass.new.netlist
    c.add_code-ident.new.netlist c.args.port.now c.args.fitted.now c.add_tap-tap.result c.add_instruction-instruction.result c.add_tap-tap.ensures.nets
    c.add_instruction-instruction.ensures.nets c.add_tap-tap.ensures.added c.add_instruction-instruction.ensures.added c.add_bypass-bypass.ensures.added c.add_code-ident.ensures.added

pub returns-clause-cells_left : goal.returns-clause-cells_left
returns-clause-cells_left c =
    let a = tap_room c.args.netlist.now c.add_tap-tap.new.netlist c.args.port.now.tck c.args.port.now.tms c.args.port.now.trst c.add_tap-tap.ensures.added in
    let b = instruction_room c.constants_are_bits.ensures c.add_tap-tap.new.netlist c.add_instruction-instruction.new.netlist c.add_tap-tap.result c.args.port.now.tdi
    c.args.fitted.now.codes c.add_instruction-instruction.ensures.added in
    let d = bypass_room c.add_instruction-instruction.new.netlist c.add_bypass-bypass.new.netlist c.add_tap-tap.result c.add_instruction-instruction.result.bypass_on c.args.port.now.tdi
    c.add_bypass-bypass.ensures.added in
    let e = c.add_code-ident.ensures.cells_left in
    let f = c.add_instruction-instruction.ensures.size in
    omega arith

pub returns-clause-free : goal.returns-clause-free
returns-clause-free c =
    logic_leaves_free c.free_net_stays.ensures c.args.netlist.now c.add_code-ident.new.netlist c.args.port.now c.args.fitted.now
    (logic_added c.appended_count.ensures c.appended_more.ensures c.args.netlist.now c.add_tap-tap.new.netlist c.add_instruction-instruction.new.netlist c.add_bypass-bypass.new.netlist
    c.add_code-ident.new.netlist c.args.port.now c.args.fitted.now c.add_tap-tap.result c.add_instruction-instruction.result c.add_tap-tap.ensures.nets
    c.add_instruction-instruction.ensures.nets c.add_tap-tap.ensures.added c.add_instruction-instruction.ensures.added c.add_bypass-bypass.ensures.added c.add_code-ident.ensures.added)
