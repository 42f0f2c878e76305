use Rattle.std.proofs.Common.{◌≡◌, ◌<◌, length, sym, subst, Some}
use Rattle.std.specs.Prelude.{slice_get}
use Rattle.std.specs.Option.{option_map}
use Rattle.netlist_model.specs.Lists.{NetView}
use Rattle.netlist_arena.specs.Arena.{ArenaView}
use Rattle.box_links.proofs.OutputBits.{name_known, net_there}
use Rattle.box_links.proofs.three_state.name_of_net.Goals as goal

pub net_name-requires : goal.net_name-requires
net_name-requires c =
    subst (λ (a : ArenaView). c.args.net.0 < length a.lists.nets) (sym c.netlist-netlist.ensures.netlist) (net_there c.args.linked.now c.args.net.0 c.netlist-netlist.ensures.linked.named c.requires)

pub name_text-name-requires : goal.name_text-name-requires
name_text-name-requires c =
    name_known c.args.linked.now c.args.net.0 c.net_name.result c.netlist-netlist.ensures.linked.named c.requires
    (subst (λ (a : ArenaView). option_map (λ (n : NetView). n.name) (slice_get a.lists.nets c.args.net.0) ≡ Some c.net_name.result) c.netlist-netlist.ensures.netlist c.net_name.ensures)

pub net_index-requires : goal.net_index-requires
net_index-requires c =
    subst (λ (a : ArenaView). c.args.net.0 < length a.lists.nets) (sym c.netlist-netlist.ensures.netlist) (net_there c.args.linked.now c.args.net.0 c.netlist-netlist.ensures.linked.named c.requires)
