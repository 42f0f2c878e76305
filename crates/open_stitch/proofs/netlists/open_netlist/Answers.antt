use Rattle.std.proofs.Common.{◌≡◌, ℕ, ◌+◌, ◌<◌, length, ◌∙◌, ap, arith}
use Rattle.netlist_model.specs.Lists.{NetlistView, cell_count}
use Rattle.netlist_arena.specs.Arena.{SpareView}
use Rattle.stitched_netlist.specs.declared.model.Logic.{Logic}
use Rattle.stitched_netlist.specs.declared.model.TapPort.{TapPort}
use Rattle.stitched_netlist.specs.ModelLogic.{logic_at}
use Rattle.stitched_netlist.specs.Stitched.{tap_port, first_net}
use Rattle.open_stitch.specs.declared.Parts.{Parts}
use Rattle.open_stitch.proofs.Places.{opened_count, buffer_count, opened_dense, steps_of, bypass_low, operand_there}
use Rattle.open_stitch.proofs.Formed.{opened_formed}
use Rattle.open_stitch.proofs.Named.{opened_named}
use Rattle.open_stitch.proofs.Same.{opened_same}
use Rattle.open_stitch.proofs.netlists.open_netlist.Goals as goal

pub add_through-net-requires-clause-nets : goal.add_through-net-requires-clause-nets
add_through-net-requires-clause-nets c =
    let left = c.stitch_netlist-built.ensures.nets_left in
    let sum = c.stitch_netlist-built.ensures.net_room in
    let room = c.requires.room.nets in
    omega (arith, left, sum, room)

pub add_through-net-requires-clause-cells : goal.add_through-net-requires-clause-cells
add_through-net-requires-clause-cells c =
    let left = c.stitch_netlist-built.ensures.cells_left in
    let sum = c.stitch_netlist-built.ensures.cell_room in
    let room = c.requires.room.cells in
    omega (arith, left, sum, room)

pub add_through-net-requires-clause-bypass : goal.add_through-net-requires-clause-bypass
add_through-net-requires-clause-bypass c =
    bypass_low c.args.netlist.now.lists c.args.names.now c.args.fitted.now c.stitch_netlist-built.new.netlist c.stitch_netlist-built.result.logic c.stitch_netlist-built.ensures.stitched c.stitch_netlist-built.ensures.logic

pub connect-requires-clause-operand : goal.connect-requires-clause-operand
connect-requires-clause-operand c =
    operand_there c.args.netlist.now.lists c.args.names.now c.args.fitted.now c.stitch_netlist-built.new.netlist c.add_through-net.new.netlist c.stitch_netlist-built.result.gate.0 _ c.stitch_netlist-built.ensures.stitched
    c.stitch_netlist-built.ensures.count c.stitch_netlist-built.ensures.gate c.add_through-net.ensures.added

pub connect-requires-clause-feed : goal.connect-requires-clause-feed
connect-requires-clause-feed c =
    let more = c.appended_count.ensures c.stitch_netlist-built.new.netlist c.add_through-net.new.netlist _ _ c.add_through-net.ensures.added in
    let is : c.add_through-net.result.0 ≡ length c.stitch_netlist-built.new.netlist.lists.nets = c.add_through-net.ensures.net in
    omega (arith, more, is)

pub returns-clause-parts : goal.returns-clause-parts
returns-clause-parts c =
    let P : Logic → TapPort → ℕ → Parts = λ l p k. record { tap = l.tap; instr = l.instruction; tdi = p.tdi; bypass = l.bypass; through = record { 0 = k } } in
    let number : c.cell_count-through.result ≡ cell_count c.stitch_netlist-built.new.netlist.lists = c.cell_count-through.ensures in
    let port : TapPort = tap_port (length c.args.netlist.now.lists.nets) in
    let logic : Logic = logic_at (first_net c.args.netlist.now.lists c.args.fitted.now) port c.args.fitted.now in
    ap (λ (l : Logic). P l c.stitch_netlist-built.result.port c.cell_count-through.result) c.stitch_netlist-built.ensures.logic
    ∙ ap (λ (p : TapPort). P logic p c.cell_count-through.result) c.stitch_netlist-built.ensures.port
    ∙ ap (λ (k : ℕ). P logic port k) (number ∙ c.stitch_netlist-built.ensures.count)

pub returns-clause-opened : goal.returns-clause-opened
returns-clause-opened c =
    let s = steps_of c.args.netlist.now.lists c.args.names.now c.args.fitted.now c.stitch_netlist-built.new.netlist c.add_through-net.new.netlist c.connect.new.self.lists c.stitch_netlist-built.result.gate.0
    c.stitch_netlist-built.result.logic c.add_through-net.result c.requires.can.dense c.stitch_netlist-built.ensures.stitched c.stitch_netlist-built.ensures.dense c.stitch_netlist-built.ensures.count
    c.stitch_netlist-built.ensures.gate c.stitch_netlist-built.ensures.logic c.add_through-net.ensures.added c.add_through-net.ensures.laid_out c.add_through-net.ensures.driven_once c.add_through-net.ensures.net
    c.connect.ensures.lists in
    opened_same c.connected_extends.ensures c.args.netlist.now.lists c.args.names.now c.args.fitted.now c.stitch_netlist-built.new.netlist c.add_through-net.new.netlist c.connect.new.self.lists c.stitch_netlist-built.result.gate.0 s

pub returns-clause-formed : goal.returns-clause-formed
returns-clause-formed c =
    let s = steps_of c.args.netlist.now.lists c.args.names.now c.args.fitted.now c.stitch_netlist-built.new.netlist c.add_through-net.new.netlist c.connect.new.self.lists c.stitch_netlist-built.result.gate.0
    c.stitch_netlist-built.result.logic c.add_through-net.result c.requires.can.dense c.stitch_netlist-built.ensures.stitched c.stitch_netlist-built.ensures.dense c.stitch_netlist-built.ensures.count
    c.stitch_netlist-built.ensures.gate c.stitch_netlist-built.ensures.logic c.add_through-net.ensures.added c.add_through-net.ensures.laid_out c.add_through-net.ensures.driven_once c.add_through-net.ensures.net
    c.connect.ensures.lists in
    opened_formed (record {
      grown = c.grown_is_formed.ensures;
      part_formed = c.part_is_formed.ensures;
      part_readable = c.part_is_readable.ensures;
      holds = c.stitched_holds_its_parts.ensures;
      contained = c.contained_parts.ensures;
      flops = c.contained_part_has_flops.ensures;
      low = c.reconnected_to_low.ensures;
    }) c.args.netlist.now.lists c.args.names.now c.args.fitted.now c.stitch_netlist-built.new.netlist c.add_through-net.new.netlist c.connect.new.self.lists c.stitch_netlist-built.result.gate.0 s

pub returns-clause-named : goal.returns-clause-named
returns-clause-named c =
    let s = steps_of c.args.netlist.now.lists c.args.names.now c.args.fitted.now c.stitch_netlist-built.new.netlist c.add_through-net.new.netlist c.connect.new.self.lists c.stitch_netlist-built.result.gate.0
    c.stitch_netlist-built.result.logic c.add_through-net.result c.requires.can.dense c.stitch_netlist-built.ensures.stitched c.stitch_netlist-built.ensures.dense c.stitch_netlist-built.ensures.count
    c.stitch_netlist-built.ensures.gate c.stitch_netlist-built.ensures.logic c.add_through-net.ensures.added c.add_through-net.ensures.laid_out c.add_through-net.ensures.driven_once c.add_through-net.ensures.net
    c.connect.ensures.lists in
    opened_named c.same_is_named.ensures c.appended_is_named.ensures c.part_is_named.ensures c.args.netlist.now.lists c.args.names.now c.args.fitted.now c.stitch_netlist-built.new.netlist c.add_through-net.new.netlist c.connect.new.self.lists c.stitch_netlist-built.result.gate.0 s

pub returns-clause-nets : goal.returns-clause-nets
returns-clause-nets c =
    let more = c.appended_count.ensures c.stitch_netlist-built.new.netlist c.add_through-net.new.netlist _ _ c.add_through-net.ensures.added in
    let same = ap (λ (L : NetlistView). length L.nets) c.connect.ensures.lists in
    let left = c.stitch_netlist-built.ensures.nets_left in
    omega (arith, more, same, left)

pub returns-clause-cells : goal.returns-clause-cells
returns-clause-cells c =
    let s = steps_of c.args.netlist.now.lists c.args.names.now c.args.fitted.now c.stitch_netlist-built.new.netlist c.add_through-net.new.netlist c.connect.new.self.lists c.stitch_netlist-built.result.gate.0
    c.stitch_netlist-built.result.logic c.add_through-net.result c.requires.can.dense c.stitch_netlist-built.ensures.stitched c.stitch_netlist-built.ensures.dense c.stitch_netlist-built.ensures.count
    c.stitch_netlist-built.ensures.gate c.stitch_netlist-built.ensures.logic c.add_through-net.ensures.added c.add_through-net.ensures.laid_out c.add_through-net.ensures.driven_once c.add_through-net.ensures.net
    c.connect.ensures.lists in
    let more = buffer_count c.args.netlist.now.lists c.args.names.now c.args.fitted.now c.stitch_netlist-built.new.netlist c.add_through-net.new.netlist c.connect.new.self.lists c.stitch_netlist-built.result.gate.0 s in
    let same = opened_count c.args.netlist.now.lists c.args.names.now c.args.fitted.now c.stitch_netlist-built.new.netlist c.add_through-net.new.netlist c.connect.new.self.lists c.stitch_netlist-built.result.gate.0 s in
    let left = c.stitch_netlist-built.ensures.cells_left in
    omega (arith, more, same, left)

pub returns-clause-dense : goal.returns-clause-dense
returns-clause-dense c =
    let s = steps_of c.args.netlist.now.lists c.args.names.now c.args.fitted.now c.stitch_netlist-built.new.netlist c.add_through-net.new.netlist c.connect.new.self.lists c.stitch_netlist-built.result.gate.0
    c.stitch_netlist-built.result.logic c.add_through-net.result c.requires.can.dense c.stitch_netlist-built.ensures.stitched c.stitch_netlist-built.ensures.dense c.stitch_netlist-built.ensures.count
    c.stitch_netlist-built.ensures.gate c.stitch_netlist-built.ensures.logic c.add_through-net.ensures.added c.add_through-net.ensures.laid_out c.add_through-net.ensures.driven_once c.add_through-net.ensures.net
    c.connect.ensures.lists in
    opened_dense c.args.netlist.now.lists c.args.names.now c.args.fitted.now c.stitch_netlist-built.new.netlist c.add_through-net.new.netlist c.connect.new.self.lists c.stitch_netlist-built.result.gate.0 s c.add_through-net.ensures.dense

pub returns-clause-net_room : goal.returns-clause-net_room
returns-clause-net_room c =
    let more = c.appended_count.ensures c.stitch_netlist-built.new.netlist c.add_through-net.new.netlist _ _ c.add_through-net.ensures.added in
    let used = c.add_through-net.ensures.added.net_room in
    let sum = c.stitch_netlist-built.ensures.net_room in
    let same = ap (λ (L : NetlistView). length L.nets) c.connect.ensures.lists in
    let spare = ap (λ (S : SpareView). S.nets) c.connect.ensures.spare in
    omega (arith, more, used, sum, same, spare)

pub returns-clause-cell_room : goal.returns-clause-cell_room
returns-clause-cell_room c =
    let s = steps_of c.args.netlist.now.lists c.args.names.now c.args.fitted.now c.stitch_netlist-built.new.netlist c.add_through-net.new.netlist c.connect.new.self.lists c.stitch_netlist-built.result.gate.0
    c.stitch_netlist-built.result.logic c.add_through-net.result c.requires.can.dense c.stitch_netlist-built.ensures.stitched c.stitch_netlist-built.ensures.dense c.stitch_netlist-built.ensures.count
    c.stitch_netlist-built.ensures.gate c.stitch_netlist-built.ensures.logic c.add_through-net.ensures.added c.add_through-net.ensures.laid_out c.add_through-net.ensures.driven_once c.add_through-net.ensures.net
    c.connect.ensures.lists in
    let more = buffer_count c.args.netlist.now.lists c.args.names.now c.args.fitted.now c.stitch_netlist-built.new.netlist c.add_through-net.new.netlist c.connect.new.self.lists c.stitch_netlist-built.result.gate.0 s in
    let counted = c.add_through-net.ensures.added.counted in
    let used = c.add_through-net.ensures.added.cell_room in
    let sum = c.stitch_netlist-built.ensures.cell_room in
    let same = opened_count c.args.netlist.now.lists c.args.names.now c.args.fitted.now c.stitch_netlist-built.new.netlist c.add_through-net.new.netlist c.connect.new.self.lists c.stitch_netlist-built.result.gate.0 s in
    let spare = ap (λ (S : SpareView). S.cells) c.connect.ensures.spare in
    omega (arith, more, counted, used, sum, same, spare)
