use Rattle.std.proofs.Common.{◌≡◌, ℕ, ◌+◌, List, length, refl, sym, ◌∙◌, ap, subst, arith}
use Rattle.netlist_model.specs.Lists.{PortView, NetlistView, cell_count}
use Rattle.netlist_arena.specs.Arena.{SpareView}
use Rattle.gate_parts.specs.Appended.{Appended}
use Rattle.stitched_netlist.specs.declared.model.TapPort.{TapPort}
use Rattle.stitched_netlist.specs.Sites.{Boundary, boundary_of, sides_of}
use Rattle.stitched_netlist.specs.Stitched.{tap_port, tap_ports, test_logic_nets, test_logic_cells}
use Rattle.written_netlists.specs.core_sides.Pins.{between}
use Rattle.test_logic_parts.specs.Ports.{with_ports}
use Rattle.scan_stitch.proofs.Joined.{same_netlist}
use Rattle.scan_stitch.proofs.StitchSteps.{same_boundary, logic_can, LogicThere, ports_can, few_nets, few_cells, net_sum, cell_sum, logic_built, built_dense, built_count}
use Rattle.scan_stitch.proofs.parts.stitch_netlist.Goals as goal

pub add_test_logic-requires-clause-can : goal.add_test_logic-requires-clause-can
add_test_logic-requires-clause-can c =
    let bound : between c.surround.new.netlist.lists.ports c.args.fitted.now.rows c.surround.result.first ≡ boundary_of c.args.netlist.now.lists c.args.fitted.now.rows
    = same_boundary c.args.netlist.now.lists c.surround.new.netlist.lists c.args.fitted.now.rows c.args.fitted.now.rows c.surround.result.first (ap (λ (L : NetlistView). L.ports) c.surround.ensures.lists) refl c.surround.ensures.first in
    logic_can c.args.netlist.now.lists c.args.names.now c.args.fitted.now c.surround.new.netlist (between c.surround.new.netlist.lists.ports c.args.fitted.now.rows c.surround.result.first) c.surround.result.port c.args.netlist.now.spare.nets c.args.netlist.now.spare.cells c.surround.ensures.lists
    c.is_laid_out.ensures.laid_out c.requires.can bound c.surround.ensures.port c.surround.ensures.nets c.surround.ensures.cells c.requires.room.nets c.requires.room.cells

pub add_test_logic-requires-clause-end : goal.add_test_logic-requires-clause-end
add_test_logic-requires-clause-end c =
    c.surround.ensures.end ∙ ap (λ (ps : List PortView). c.surround.result.first.0 + sides_of ps c.args.fitted.now.rows) (sym (ap (λ (L : NetlistView). L.ports) c.surround.ensures.lists))

pub add_ports-requires-clause-room : goal.add_ports-requires-clause-room
add_ports-requires-clause-room c =
    let bits = c.add_test_logic.ensures.added.bit_room in
    let same = c.surround.ensures.port_bits in
    let room = c.requires.room.port_bits in
    omega arith

pub add_ports-requires-clause-port : goal.add_ports-requires-clause-port
add_ports-requires-clause-port c =
    let bound : between c.surround.new.netlist.lists.ports c.args.fitted.now.rows c.surround.result.first ≡ boundary_of c.args.netlist.now.lists c.args.fitted.now.rows
    = same_boundary c.args.netlist.now.lists c.surround.new.netlist.lists c.args.fitted.now.rows c.args.fitted.now.rows c.surround.result.first (ap (λ (L : NetlistView). L.ports) c.surround.ensures.lists) refl c.surround.ensures.first in
    let more = c.appended_count.ensures c.surround.new.netlist c.add_test_logic.new.netlist _ _ c.add_test_logic.ensures.added in
    let there : LogicThere c.surround.new.netlist c.add_test_logic.new.netlist (between c.surround.new.netlist.lists.ports c.args.fitted.now.rows c.surround.result.first) c.surround.result.port
    = record { ports = c.add_test_logic.ensures.added.ports; more = omega arith; free = c.add_test_logic.ensures.free } in
    ports_can c.args.netlist.now.lists c.args.names.now c.args.fitted.now c.surround.new.netlist c.add_test_logic.new.netlist (between c.surround.new.netlist.lists.ports c.args.fitted.now.rows c.surround.result.first) c.surround.result.port c.surround.ensures.lists c.is_laid_out.ensures.laid_out c.requires.can bound c.surround.ensures.port there

pub returns-clause-stitched : goal.returns-clause-stitched
returns-clause-stitched c =
    let bound : between c.surround.new.netlist.lists.ports c.args.fitted.now.rows c.surround.result.first ≡ boundary_of c.args.netlist.now.lists c.args.fitted.now.rows
    = same_boundary c.args.netlist.now.lists c.surround.new.netlist.lists c.args.fitted.now.rows c.args.fitted.now.rows c.surround.result.first (ap (λ (L : NetlistView). L.ports) c.surround.ensures.lists) refl c.surround.ensures.first in
    let P : Boundary → TapPort → Type 0 = λ b p. Appended c.surround.new.netlist c.add_test_logic.new.netlist (test_logic_nets b c.args.fitted.now) (test_logic_cells b (length c.surround.new.netlist.lists.nets) (cell_count c.surround.new.netlist.lists) p c.args.fitted.now) in
    let added = subst (λ (b : Boundary). P b (tap_port (length c.args.netlist.now.lists.nets))) bound
    (subst (λ (p : TapPort). P (between c.surround.new.netlist.lists.ports c.args.fitted.now.rows c.surround.result.first) p) c.surround.ensures.port c.add_test_logic.ensures.added) in
    let Q : TapPort → Type 0 = λ p. c.add_ports.new.netlist.lists ≡ with_ports (tap_ports c.args.names.now p) c.add_test_logic.new.netlist.lists in
    let grown = subst Q c.surround.ensures.port c.add_ports.ensures.lists in
    same_netlist c.stitched_holds_the_core.ensures c.args.netlist.now.lists c.args.names.now c.args.fitted.now c.surround.new.netlist c.add_test_logic.new.netlist c.add_ports.new.netlist.lists c.requires.can.dense c.surround.ensures.lists added grown

pub returns-clause-port : goal.returns-clause-port
returns-clause-port c = c.surround.ensures.port

pub returns-clause-logic : goal.returns-clause-logic
returns-clause-logic c =
    logic_built c.args.netlist.now.lists c.args.names.now c.args.fitted.now c.surround.new.netlist c.surround.result.port c.add_test_logic.result.0 c.surround.ensures.lists c.surround.ensures.port c.add_test_logic.ensures.logic

pub returns-clause-gate : goal.returns-clause-gate
returns-clause-gate c =
    c.add_test_logic.ensures.gate ∙ sym (ap (λ (L : NetlistView). cell_count L) c.add_ports.ensures.lists)

pub returns-clause-nets_left : goal.returns-clause-nets_left
returns-clause-nets_left c =
    few_nets c.appended_count.ensures c.args.netlist.now.lists c.args.names.now c.args.fitted.now c.surround.new.netlist c.add_test_logic.new.netlist c.add_ports.new.netlist.lists _ _ _ c.surround.ensures.lists c.add_test_logic.ensures.added c.add_ports.ensures.lists c.add_test_logic.ensures.nets_left

pub returns-clause-cells_left : goal.returns-clause-cells_left
returns-clause-cells_left c =
    few_cells c.args.netlist.now.lists c.args.names.now c.args.fitted.now c.surround.new.netlist c.add_test_logic.new.netlist c.add_ports.new.netlist.lists _ _ _ c.surround.ensures.lists c.add_test_logic.ensures.added c.add_ports.ensures.lists c.add_test_logic.ensures.cells_left

pub returns-clause-nets : goal.returns-clause-nets
returns-clause-nets c =
    let few = few_nets c.appended_count.ensures c.args.netlist.now.lists c.args.names.now c.args.fitted.now c.surround.new.netlist c.add_test_logic.new.netlist c.add_ports.new.netlist.lists _ _ _ c.surround.ensures.lists c.add_test_logic.ensures.added c.add_ports.ensures.lists c.add_test_logic.ensures.nets_left in
    omega arith

pub returns-clause-cells : goal.returns-clause-cells
returns-clause-cells c =
    let few = few_cells c.args.netlist.now.lists c.args.names.now c.args.fitted.now c.surround.new.netlist c.add_test_logic.new.netlist c.add_ports.new.netlist.lists _ _ _ c.surround.ensures.lists c.add_test_logic.ensures.added c.add_ports.ensures.lists c.add_test_logic.ensures.cells_left in
    omega arith

pub returns-clause-net_room : goal.returns-clause-net_room
returns-clause-net_room c =
    net_sum c.appended_count.ensures c.args.netlist.now.lists c.args.names.now c.args.fitted.now c.surround.new.netlist c.add_test_logic.new.netlist c.add_ports.new.netlist.lists _ _ _ c.args.netlist.now.spare.nets c.add_ports.new.netlist.spare.nets c.surround.ensures.lists c.add_test_logic.ensures.added c.add_ports.ensures.lists c.surround.ensures.nets (ap (λ (s : SpareView). s.nets) c.add_ports.ensures.spare)

pub returns-clause-cell_room : goal.returns-clause-cell_room
returns-clause-cell_room c =
    cell_sum c.args.netlist.now.lists c.args.names.now c.args.fitted.now c.surround.new.netlist c.add_test_logic.new.netlist c.add_ports.new.netlist.lists _ _ _ c.args.netlist.now.spare.cells c.add_ports.new.netlist.spare.cells c.surround.ensures.lists c.add_test_logic.ensures.added c.add_ports.ensures.lists c.surround.ensures.cells (ap (λ (s : SpareView). s.cells) c.add_ports.ensures.spare)

pub returns-clause-dense : goal.returns-clause-dense
returns-clause-dense c =
    built_dense c.surround.new.netlist c.add_test_logic.new.netlist c.add_ports.new.netlist.lists _ _ _ c.add_test_logic.ensures.added c.add_ports.ensures.lists

pub returns-clause-count : goal.returns-clause-count
returns-clause-count c =
    let bound : between c.surround.new.netlist.lists.ports c.args.fitted.now.rows c.surround.result.first ≡ boundary_of c.args.netlist.now.lists c.args.fitted.now.rows
    = same_boundary c.args.netlist.now.lists c.surround.new.netlist.lists c.args.fitted.now.rows c.args.fitted.now.rows c.surround.result.first (ap (λ (L : NetlistView). L.ports) c.surround.ensures.lists) refl c.surround.ensures.first in
    built_count c.args.netlist.now.lists c.args.names.now c.args.fitted.now c.surround.new.netlist c.add_test_logic.new.netlist _ c.surround.result.port c.add_ports.new.netlist.lists _ c.surround.ensures.lists bound c.surround.ensures.port
    c.add_test_logic.ensures.added c.add_ports.ensures.lists
