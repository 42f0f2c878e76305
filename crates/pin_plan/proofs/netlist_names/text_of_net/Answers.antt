use Rattle.std.proofs.Common.{◌≡◌, ◌∙◌, Some, sym}
use Rattle.std.specs.Prelude.{slice_get}
use Rattle.std.specs.Option.{option_map}
use Rattle.netlist_model.specs.Lists.{NetView}
use Rattle.pin_plan.proofs.Marks.{net_is_told, net_is_passed, differ, agree}
use Rattle.pin_plan.proofs.netlist_names.text_of_net.Goals as goal

pub returns-then-marks-net : goal.returns-then-marks-net
returns-then-marks-net c =
    sym (net_is_passed c.args.linked.now c.args.marks.now c.args.are_hidden c.args.net.0 c.requires.marks c.requires.there (differ _ _ c.if-marks-net.true))

pub returns : goal.returns
returns c =
    let L = c.args.linked.now in
    let named : option_map (λ (found : NetView). found.name) (slice_get L.arena.lists.nets c.args.net.0) ≡ Some c.net_name.result = rw c.netlist.ensures.netlist at c.net_name.ensures in
    c.text_of.ensures ∙ sym (net_is_told L c.args.marks.now c.args.are_hidden c.args.net.0 c.net_name.result c.requires.marks c.requires.there named (agree _ _ c.if-marks-net.false))
