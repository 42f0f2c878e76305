use Rattle.std.proofs.Common.{◌∙◌, ◌++◌, [], ◌∷◌, refl}
use Rattle.std.specs.List.{flat_map, filter_map}
use Rattle.box_model.specs.declared.boxes.BoxPort.{BoxPort}
use Rattle.box_model.specs.Opened.{port_items, hidden_at}
use Rattle.box_trees.specs.Opening.{port_joined}
use Rattle.box_tables.proofs.Steps.{gathered_next, gathered_end, flat_step, filter_map_step}
use Rattle.box_trees.proofs.item_opening.push_ports.Goals as goal

pub push_cut-requires : goal.push_cut-requires
push_cut-requires c = c.in_ok-links.ensures ∙ c.as_slice.ensures

pub loop-port-preserved : goal.loop-port-preserved
loop-port-preserved c =
    let items = port_items c.args.nets.now c.args.instance.now in
    let hidden = hidden_at c.args.instance.now in
    let joined = port_joined c.args.nets.now c.args.instance.now in
    let ports = c.args.ports.now in
    let old = c.loop-port.made in
    let new = c.push_cut.new.made in
    let k = c.loop-port.port-index in
    let p = c.port-item.result in
    record {
      items = gathered_next (flat_map items) items (flat_step items) ports k p old.items new.items (c.args.made.now.items ++ flat_map items ports) c.loop-port-test.true c.port-item.is c.loop-port.invariant.items c.in_ok-push_cut.ensures.items;
      hidden = gathered_next (filter_map hidden) (λ (q : BoxPort). filter_map hidden (q ∷ [])) (filter_map_step hidden) ports k p old.hidden new.hidden (c.args.made.now.hidden ++ filter_map hidden ports) c.loop-port-test.true c.port-item.is
          c.loop-port.invariant.hidden c.in_ok-push_cut.ensures.hidden;
      joined = gathered_next (flat_map joined) joined (flat_step joined) ports k p old.joined new.joined (c.args.made.now.joined ++ flat_map joined ports) c.loop-port-test.true c.port-item.is c.loop-port.invariant.joined c.in_ok-push_cut.ensures.joined;
    }

pub returns-clause-items : goal.returns-clause-items
returns-clause-items c =
    let items = port_items c.args.nets.now c.args.instance.now in
    gathered_end (flat_map items) items (flat_step items) refl c.args.ports.now c.loop-port.port-index c.loop-port.made.items (c.args.made.now.items ++ flat_map items c.args.ports.now) c.loop-port-test.false c.loop-port.invariant.items

pub returns-clause-hidden : goal.returns-clause-hidden
returns-clause-hidden c =
    let hidden = hidden_at c.args.instance.now in
    gathered_end (filter_map hidden) (λ (q : BoxPort). filter_map hidden (q ∷ [])) (filter_map_step hidden) refl c.args.ports.now c.loop-port.port-index c.loop-port.made.hidden (c.args.made.now.hidden ++ filter_map hidden c.args.ports.now)
    c.loop-port-test.false c.loop-port.invariant.hidden

pub returns-clause-joined : goal.returns-clause-joined
returns-clause-joined c =
    let joined = port_joined c.args.nets.now c.args.instance.now in
    gathered_end (flat_map joined) joined (flat_step joined) refl c.args.ports.now c.loop-port.port-index c.loop-port.made.joined (c.args.made.now.joined ++ flat_map joined c.args.ports.now) c.loop-port-test.false c.loop-port.invariant.joined
