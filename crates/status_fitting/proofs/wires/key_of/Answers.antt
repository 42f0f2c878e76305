use Rattle.std.proofs.Common.{◌≡◌, Some}
use Rattle.std.specs.Prelude.{slice_get}
use Rattle.std.specs.Option.{option_map}
use Rattle.netlist_model.specs.declared.Name.TheVariants.{Original, Added}
use Rattle.netlist_model.specs.Lists.{NetView}
use Rattle.status_fitting.proofs.WireWords.{key_unless, net_name_at, no_key_added}
use Rattle.status_fitting.proofs.wires.key_of.Goals as goal

pub returns-in-Original : goal.returns-in-Original
returns-in-Original c =
    let N = c.args.linked.now.arena.lists in
    let at : net_name_at N c.args.net.0 ≡ Some (Original c.in-Original.number) = rw c.netlist-netlist.ensures.netlist at c.in-Original.ensures in
    let indexed : option_map (λ (found : NetView). found.index) (slice_get N.nets c.args.net.0) ≡ Some c.net_index-index.result = rw c.netlist-netlist.ensures.netlist at c.net_index-index.ensures in
    key_unless c.args.linked.now.names N c.args.ports.now c.args.net.0 c.in-Original.number c.net_index-index.result c.is_flagged.result c.then_some.result
    c.netlist-netlist.ensures.linked.named c.requires.ports at indexed c.is_flagged.ensures c.then_some.ensures

pub returns-in-Added : goal.returns-in-Added
returns-in-Added c =
    let N = c.args.linked.now.arena.lists in
    let at : net_name_at N c.args.net.0 ≡ Some (Added c.in-Added.field-0) = rw c.netlist-netlist.ensures.netlist at c.in-Added.ensures in
    no_key_added N c.args.net.0 c.in-Added.field-0 at
