use Rattle.std.proofs.Common.{◌∙◌, ap, sym, Option, Some}
use Rattle.std.specs.Option.{option_map}
use Rattle.netlist_model.specs.declared.Feed.{Feed}
use Rattle.netlist_model.specs.Lists.{cell_at}
use Rattle.netlist_unlink.specs.Parts.{feeds_of}
use Rattle.netlist_unlink.specs.Trees.{naming_of, operand_of}
use Rattle.netlist_unlink.proofs.Lists.{mapped_more}
use Rattle.netlist_unlink.proofs.Facts.{feed_there}
use Rattle.netlist_unlink.proofs.parts.cell_inputs.Goals as goal

pub loop-place-preserved : goal.loop-place-preserved
loop-place-preserved c =
    let naming = naming_of c.args.linked.now c.args.prefix.now in
    let cell = cell_at c.args.linked.now.arena.lists c.args.cell.0 in
    mapped_more (operand_of naming) (feeds_of cell) c.loop-place.place c.in_ok-operand.field-0 c.loop-place.inputs c.push.new.self
    (ap (λ (o : Option Feed). option_map (operand_of naming) o) (feed_there c.netlist-netlist.result.now c.args.linked.now.arena c.args.cell.0 c.loop-place.place c.feed-feed.result c.netlist-netlist.ensures.netlist c.feed-feed.ensures.value) ∙ ap Some (sym c.in_ok-operand.ensures))
    c.loop-place.invariant c.in_ok-push.ensures.ok
