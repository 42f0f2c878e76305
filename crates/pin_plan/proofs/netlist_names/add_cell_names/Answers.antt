use Rattle.std.proofs.Common.{◌∙◌, ◌++◌, List, ℕ, ap, sym, arith}
use Rattle.texts.specs.Repeated.{texts, bytes_of}
use Rattle.plan_fitting.specs.Names.{name_of_cell}
use Rattle.pin_plan.proofs.Collected.{name_collected, cell_there, dead_behind}
use Rattle.pin_plan.proofs.netlist_names.add_cell_names.Goals as goal

pub loop-number-preserved : goal.loop-number-preserved
loop-number-preserved c =
    let N = c.args.linked.now.arena.lists in
    name_collected (name_of_cell c.args.linked.now.names) N.cells c.loop-number.number (bytes_of c.text_of_cell.result) (texts c.args.names.now.items) (texts c.loop-number.names.items) (texts c.add_name.new.names.items)
    (cell_there c.args.linked.now.names N.cells c.loop-number.number ∙ sym c.text_of_cell.ensures) c.loop-number.invariant c.in_ok-add_name.ensures

pub returns : goal.returns
returns c =
    let N = c.args.linked.now.arena.lists in
    c.loop-number.invariant
    ∙ ap (λ (l : List (List ℕ)). texts c.args.names.now.items ++ l)
    (dead_behind c.args.linked.now.names N.cells c.loop-number.number (λ i live. let low = c.cell_bound-number-end.ensures i (rw c.netlist.ensures.netlist live) in omega (arith, low, c.loop-number-test.false)))
