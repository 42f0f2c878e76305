use Rattle.std.proofs.Common.{◌≡◌, ◌∙◌, ◌++◌, ℕ, List, ap, sym, arith, length}
use Rattle.std.specs.List.{enumerate_from, filter_map}
use Rattle.netlist_model.specs.Lists.{NetView}
use Rattle.texts.specs.Repeated.{texts, bytes_of}
use Rattle.pin_plan.specs.Names.{net_name_if}
use Rattle.pin_plan.proofs.Collected.{name_collected}
use Rattle.pin_plan.proofs.PortLists.{take_all}
use Rattle.pin_plan.proofs.netlist_names.add_net_names.Goals as goal

pub loop-number-preserved : goal.loop-number-preserved
loop-number-preserved c =
    let L = c.args.linked.now in
    name_collected (net_name_if L c.args.are_hidden) (enumerate_from 0 L.arena.lists.nets) c.loop-number.number (bytes_of c.text_of_net.result) (texts c.args.names.now.items) (texts c.loop-number.names.items)
    (texts c.add_name.new.names.items) (sym c.text_of_net.ensures) c.loop-number.invariant c.in_ok-add_name.ensures

pub returns : goal.returns
returns c =
    let L = c.args.linked.now in
    let count : c.net_count-number-end.result ≡ length L.arena.lists.nets = rw c.netlist.ensures.netlist at c.net_count-number-end.ensures in
    c.loop-number.invariant
    ∙ ap (λ (l : List (ℕ × NetView)). texts c.args.names.now.items ++ filter_map (net_name_if L c.args.are_hidden) l)
    (take_all c.loop-number.number 0 L.arena.lists.nets (omega (arith, count, c.loop-number-test.false)))
