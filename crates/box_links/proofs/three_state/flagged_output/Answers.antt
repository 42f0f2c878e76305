use Rattle.std.proofs.Common.{◌≡◌, ◌<◌, List, length, ap, sym, ◌∙◌, subst, Some}
use Rattle.std.specs.Prelude.{slice_get}
use Rattle.std.specs.List.{position}
use Rattle.std.specs.Option.{option_map}
use Rattle.netlist_model.specs.declared.NetId.{NetId}
use Rattle.netlist_model.specs.Lists.{PortView}
use Rattle.netlist_arena.specs.Arena.{ArenaView}
use Rattle.box_links.specs.ThreeState.{flag_at}
use Rattle.box_links.proofs.OutputBits.{bit_there, none_there, slice_get_at}
use Rattle.box_links.proofs.three_state.flagged_output.Goals as goal

pub returns-in-Some : goal.returns-in-Some
returns-in-Some c =
    bit_there c.args.linked.now (flag_at c.args.flags.now) c.args.port.0 c.in-Some.bit c.in_ok-nets.nets.items c.index.result.now c.in_ok-name_of_net-in-Some.field-0 c.netlist.ensures.linked.named c.requires
    (subst (λ (a : ArenaView). option_map (λ (p : PortView). p.nets) (slice_get a.lists.ports c.args.port.0) ≡ Some c.in_ok-nets.nets.items) c.netlist.ensures.netlist c.in_ok-nets.ensures)
    (ap (position (λ (n : NetId). flag_at c.args.flags.now n.0)) (sym c.deref.ensures.value) ∙ sym c.in-Some.ensures.found)
    (slice_get_at c.in_ok-nets.nets.items c.in-Some.bit c.index.result.now (subst (λ (ns : List NetId). c.in-Some.bit < length ns) c.deref.ensures.value c.in-Some.ensures.within) c.index.ensures)
    c.in_ok-name_of_net-in-Some.ensures

pub returns : goal.returns
returns c =
    none_there c.args.linked.now (flag_at c.args.flags.now) c.args.port.0 c.in_ok-nets.nets.items
    (subst (λ (a : ArenaView). option_map (λ (p : PortView). p.nets) (slice_get a.lists.ports c.args.port.0) ≡ Some c.in_ok-nets.nets.items) c.netlist.ensures.netlist c.in_ok-nets.ensures)
    (ap (position (λ (n : NetId). flag_at c.args.flags.now n.0)) (sym c.deref.ensures.value) ∙ sym c.in-None.ensures.found)
