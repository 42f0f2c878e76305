use Rattle.std.proofs.Common.{arith}
use Rattle.netlist_model.specs.declared.Name.TheVariants.{Original, Added}
use Rattle.netlist_unlink.proofs.Flagged.{flags_noted}
use Rattle.netlist_unlink.proofs.Facts.{port_known, port_name_there, port_not_added}
use Rattle.netlist_unlink.proofs.rows.note_port.Goals as goal

pub returns-in-Original : goal.returns-in-Original
returns-in-Original c =
    let arena = c.args.linked.now.arena in
    let at = port_name_there c.netlist.result.now arena c.args.port.0 (Original c.in-Original.number) c.netlist.ensures.netlist c.in-Original.ensures in
    flags_noted c.args.linked.now.names arena.lists.ports c.args.flags.now c.args.port.0 c.in-Original.number
    (port_known c.args.linked.now.names arena.lists c.args.port.0 c.in-Original.number c.netlist.ensures.linked.named at) at c.requires.before

pub bounds-flags-number : goal.bounds-flags-number
bounds-flags-number c =
    let arena = c.args.linked.now.arena in
    let at = port_name_there c.netlist.result.now arena c.args.port.0 (Original c.in-Original.number) c.netlist.ensures.netlist c.in-Original.ensures in
    let less = port_known c.args.linked.now.names arena.lists c.args.port.0 c.in-Original.number c.netlist.ensures.linked.named at in
    let count = c.requires.before.count in
    omega arith

pub returns-in-Added : goal.returns-in-Added
returns-in-Added c =
    let arena = c.args.linked.now.arena in
    let at = port_name_there c.netlist.result.now arena c.args.port.0 (Added c.in-Added.field-0) c.netlist.ensures.netlist c.in-Added.ensures in
    absurd (port_not_added c.args.linked.now.names arena.lists c.args.port.0 c.in-Added.field-0 c.netlist.ensures.linked.named at)
