use Rattle.std.proofs.Common.{◌++◌, ◌∷◌, [], ap, ◌∙◌}
use Rattle.cell_library.specs.Library.{operand_ports}
use Rattle.netlist_model.specs.declared.Feed.{Feed}
use Rattle.link_model.specs.Cells.{port_feed}
use Rattle.link_names.specs.Views.{entries_of}
use Rattle.link_names.proofs.PortPlaces.{fed_more}
use Rattle.link_names.proofs.cells.port_feeds.Goals as goal

pub loop-place-preserved : goal.loop-place-preserved
loop-place-preserved c =
    fed_more (port_feed (entries_of c.args.table.now) c.args.links.now) (operand_ports c.args.library.now c.args.kind) c.loop-place.place c.operand_port.result.now
    c.loop-place.feeds.items c.push.new.self.items c.operand_port.ensures c.loop-place.invariant
    (c.in_ok-push.ensures.ok ∙ ap (λ (feed : Feed). c.loop-place.feeds.items ++ feed ∷ []) c.port_feed.ensures)
