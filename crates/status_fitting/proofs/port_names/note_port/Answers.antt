use Rattle.std.proofs.Common.{◌≡◌, ◌<◌, length, Some, arith}
use Rattle.netlist_model.specs.declared.Name.TheVariants.{Original, Added}
use Rattle.status_fitting.proofs.PortNames.{port_known, port_name_at, port_not_added, port_noted}
use Rattle.status_fitting.proofs.port_names.note_port.Goals as goal

pub returns-in-Original : goal.returns-in-Original
returns-in-Original c =
    let N = c.args.linked.now.arena.lists in
    let at : port_name_at N c.args.port.0 ≡ Some (Original c.in-Original.number) = rw c.netlist.ensures.netlist at c.in-Original.ensures in
    port_noted c.args.linked.now.names N c.args.flags.now c.args.port.0 c.in-Original.number c.netlist.ensures.linked.named c.requires.there at c.requires.before

pub bounds-flags-number : goal.bounds-flags-number
bounds-flags-number c =
    let N = c.args.linked.now.arena.lists in
    let at : port_name_at N c.args.port.0 ≡ Some (Original c.in-Original.number) = rw c.netlist.ensures.netlist at c.in-Original.ensures in
    let less : c.in-Original.number < length c.args.linked.now.names = port_known c.args.linked.now.names N c.args.port.0 c.in-Original.number c.netlist.ensures.linked.named c.requires.there at in
    let long = c.requires.before.long in
    omega arith

pub returns-in-Added : goal.returns-in-Added
returns-in-Added c =
    let N = c.args.linked.now.arena.lists in
    let at : port_name_at N c.args.port.0 ≡ Some (Added c.in-Added.field-0) = rw c.netlist.ensures.netlist at c.in-Added.ensures in
    absurd (port_not_added c.args.linked.now.names N c.args.port.0 c.in-Added.field-0 c.netlist.ensures.linked.named at)
