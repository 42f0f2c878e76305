use Rattle.std.proofs.Common.{◌+◌, ◌*◌, List, take, length, ap, subst, ◌∙◌, arith}
use Rattle.netlist_model.specs.declared.NetId.{NetId}
use Rattle.netlist_model.specs.declared.Feed.{Feed}
use Rattle.netlist_model.specs.Lists.{cell_count}
use Rattle.gate_parts.specs.Appended.{Appended}
use Rattle.register_gates.specs.Registers.{data_cells, data_last}
use Rattle.status_gates.specs.Wires.{net_feeds}
use Rattle.status_gates.proofs.Added.{opcode_length}
use Rattle.status_gates.proofs.Feeds.{net_feeds_length}
use Rattle.status_gates.specs.Registers.{bits_size}
use Rattle.status_gates.proofs.PartsAdded.{data_length, register_added, near_below, on_below, same_net, wanted_is, wanted_count}
use Rattle.status_gates.proofs.parts.register.add_register.Goals as goal

pub add_wires-near-requires-clause-cell_room : goal.add_wires-near-requires-clause-cell_room
add_wires-near-requires-clause-cell_room c =
    let bits = c.args.register.now.register.bits in
    let wanted : List Feed = take bits.len c.constants_of-wanted.result in
    let room = c.add_opcode-told.ensures.added.cell_room in
    let long = opcode_length (length c.args.netlist.now.lists.nets) (cell_count c.args.netlist.now.lists) c.args.shared.now.opcode.0 c.args.shared.now.inverses.0 wanted in
    let count = wanted_count c.constants_are_bits.ensures bits c.constants_of-wanted.result c.constants_of-wanted.ensures c.requires.stands.few in
    let cells = c.requires.cells in
    let same = ap (λ (nets : List NetId). length nets) c.as_slice.ensures in
    omega (arith, room, long, count, cells, same)

pub add_shown-requires-clause-cells : goal.add_shown-requires-clause-cells
add_shown-requires-clause-cells c =
    let bits = c.args.register.now.register.bits in
    let wanted : List Feed = take bits.len c.constants_of-wanted.result in
    let room = c.add_opcode-told.ensures.added.cell_room in
    let long = opcode_length (length c.args.netlist.now.lists.nets) (cell_count c.args.netlist.now.lists) c.args.shared.now.opcode.0 c.args.shared.now.inverses.0 wanted in
    let count = wanted_count c.constants_are_bits.ensures bits c.constants_of-wanted.result c.constants_of-wanted.ensures c.requires.stands.few in
    let left = c.add_wires-near.ensures.added.cell_room in
    let data_cells_long = data_length (length c.add_opcode-told.new.netlist.lists.nets) (cell_count c.add_opcode-told.new.netlist.lists) c.args.shared.now.tap c.net_of-on.result c.args.shared.now.tdi (net_feeds c.as_slice.result.now) in
    let wires = net_feeds_length c.as_slice.result.now in
    let same = ap (λ (nets : List NetId). length nets) c.as_slice.ensures in
    let cells = c.requires.cells in
    omega (arith, room, long, count, left, data_cells_long, wires, same, cells)

pub add_shown-requires-clause-near : goal.add_shown-requires-clause-near
add_shown-requires-clause-near c =
    let bits = c.args.register.now.register.bits in
    let one = c.appended_count.ensures c.args.netlist.now c.add_opcode-told.new.netlist _ _ c.add_opcode-told.ensures.added in
    let two = c.appended_count.ensures c.add_opcode-told.new.netlist c.add_wires-near.new.netlist _ _ c.add_wires-near.ensures.added in
    let tdi = c.requires.stands.tdi in
    near_below (length c.add_opcode-told.new.netlist.lists.nets) (length c.add_wires-near.new.netlist.lists.nets) c.args.shared.now c.as_slice.result.now c.add_wires-near.result c.add_wires-near.ensures.last
    (omega (arith, one, two, tdi)) (omega (arith, two))

pub add_shown-requires-clause-on : goal.add_shown-requires-clause-on
add_shown-requires-clause-on c =
    let bits = c.args.register.now.register.bits in
    let wanted : List Feed = take bits.len c.constants_of-wanted.result in
    let count = wanted_count c.constants_are_bits.ensures bits c.constants_of-wanted.result c.constants_of-wanted.ensures c.requires.stands.few in
    let one = c.appended_count.ensures c.args.netlist.now c.add_opcode-told.new.netlist _ _ c.add_opcode-told.ensures.added in
    let two = c.appended_count.ensures c.add_opcode-told.new.netlist c.add_wires-near.new.netlist _ _ c.add_wires-near.ensures.added in
    let some = c.requires.stands.some in
    on_below (length c.args.netlist.now.lists.nets) (length c.add_wires-near.new.netlist.lists.nets) wanted c.add_opcode-told.result c.net_of-on.result c.add_opcode-told.ensures.told c.net_of-on.ensures
    (omega (arith, count, some)) (omega (arith, one, two))

pub returns-clause-shown : goal.returns-clause-shown
returns-clause-shown c =
    let bits = c.args.register.now.register.bits in
    let count = wanted_count c.constants_are_bits.ensures bits c.constants_of-wanted.result c.constants_of-wanted.ensures c.requires.stands.few in
    let one = c.appended_count.ensures c.args.netlist.now c.add_opcode-told.new.netlist _ _ c.add_opcode-told.ensures.added in
    let two = c.appended_count.ensures c.add_opcode-told.new.netlist c.add_wires-near.new.netlist _ _ c.add_wires-near.ensures.added in
    let net = c.add_shown.ensures.net in
    let same = ap (λ (nets : List NetId). length nets) c.as_slice.ensures in
    same_net c.add_shown.result (length c.args.netlist.now.lists.nets + (bits.len + bits_size c.args.register.now)) (omega (arith, count, one, two, net, same))

pub returns-clause-added : goal.returns-clause-added
returns-clause-added c =
    let bits = c.args.register.now.register.bits in
    let wanted : List Feed = take bits.len c.constants_of-wanted.result in
    let is = wanted_is c.constants_are_bits.ensures bits c.constants_of-wanted.result c.constants_of-wanted.ensures c.requires.stands.few in
    let count = wanted_count c.constants_are_bits.ensures bits c.constants_of-wanted.result c.constants_of-wanted.ensures c.requires.stands.few in
    let one = c.appended_count.ensures c.args.netlist.now c.add_opcode-told.new.netlist _ _ c.add_opcode-told.ensures.added in
    let last = c.add_wires-near.ensures.last
    ∙ ap (λ (nets : List NetId). data_last (length c.add_opcode-told.new.netlist.lists.nets) c.args.shared.now.tdi (net_feeds nets)) c.as_slice.ensures in
    let P : List NetId → Type 0 = λ nets. Appended c.add_opcode-told.new.netlist c.add_wires-near.new.netlist (2 + 3 * length nets)
    (data_cells (length c.add_opcode-told.new.netlist.lists.nets) (cell_count c.add_opcode-told.new.netlist.lists) c.args.shared.now.tap c.net_of-on.result c.args.shared.now.tdi (net_feeds nets)) in
    let bits_added : P c.args.register.now.nets = subst P c.as_slice.ensures c.add_wires-near.ensures.added in
    register_added c.added_in_turn.ensures c.constants_are_bits.ensures c.args.netlist.now c.add_opcode-told.new.netlist c.add_wires-near.new.netlist c.add_shown.new.netlist c.args.shared.now c.args.register.now
    c.args.behind c.net_of-on.result c.add_wires-near.result wanted c.add_opcode-told.result is c.add_opcode-told.ensures.told c.net_of-on.ensures last (omega (arith, one, count))
    c.add_opcode-told.ensures.added bits_added c.add_shown.ensures.added
