use Rattle.std.proofs.Common.{◌≡◌, ◌∙◌, ap, sym, Some, arith}
use Rattle.verilog_tree.specs.declared.tree.Link.{Link}
use Rattle.std.specs.Prelude.{slice_get}
use Rattle.list_laws.proofs.Lists.{taken_more}
use Rattle.cell_library.specs.Library.{operand_ports}
use Rattle.netlist_model.specs.Lists.{cell_at}
use Rattle.netlist_unlink.specs.Parts.{feeds_of}
use Rattle.netlist_unlink.specs.Trees.{naming_of, operand_links, operand_of}
use Rattle.netlist_unlink.proofs.Facts.{count_there, feed_there, links_all, links_at, port_there}
use Rattle.netlist_unlink.proofs.links.links_to_operands.Goals as goal

pub loop-place-preserved : goal.loop-place-preserved
loop-place-preserved c =
    let naming = naming_of c.args.linked.now c.args.prefix.now in
    let cell = cell_at c.args.linked.now.arena.lists c.args.cell.0 in
    let ports = operand_ports c.args.linked.now.arena.lists.library c.args.kind in
    let port : slice_get ports c.loop-place.place ≡ Some c.operand_port.result.now = port_there c.library.result.now c.netlist-netlist.result.now c.args.linked.now.arena c.args.kind c.loop-place.place c.operand_port.result.now c.library.ensures c.netlist-netlist.ensures.netlist c.operand_port.ensures in
    let at : slice_get (feeds_of cell) c.loop-place.place ≡ Some c.feed-feed.result = feed_there c.netlist-netlist.result.now c.args.linked.now.arena c.args.cell.0 c.loop-place.place c.feed-feed.result c.netlist-netlist.ensures.netlist c.feed-feed.ensures.value in
    let link : Link = record { port = c.in_ok-port.port; operand = Some c.in_ok-operand.operand } in
    let same : record { port = c.operand_port.result.now; operand = Some (operand_of naming c.feed-feed.result) } ≡ link = let one = c.in_ok-port.ensures in let two = c.in_ok-operand.ensures in cc in
    taken_more (operand_links naming ports (feeds_of cell)) c.loop-place.place link c.loop-place.links c.push.new.self
    (links_at naming ports (feeds_of cell) c.loop-place.place c.operand_port.result.now c.feed-feed.result port at ∙ ap Some same)
    c.loop-place.invariant c.in_ok-push.ensures.ok

pub returns : goal.returns
returns c =
    let naming = naming_of c.args.linked.now c.args.prefix.now in
    let cell = cell_at c.args.linked.now.arena.lists c.args.cell.0 in
    let count = count_there c.netlist-netlist.result.now c.args.linked.now.arena c.args.cell.0 c.feed_count-place-end.result c.netlist-netlist.ensures.netlist c.feed_count-place-end.ensures.count in
    let end : c.loop-place.place ≡ c.feed_count-place-end.result = omega arith in
    c.loop-place.invariant ∙ links_all naming (operand_ports c.args.linked.now.arena.lists.library c.args.kind) (feeds_of cell) c.loop-place.place c.requires.ports (end ∙ sym count)
