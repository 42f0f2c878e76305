use Rattle.std.proofs.Common.{◌++◌, ◌∙◌, ap, Option, arith}
use Rattle.std.proofs.lemmas.Option.{slice_get-get_or}
use Rattle.list_laws.proofs.Options.{some_there}
use Rattle.netlist_model.specs.Lists.{CellView, cell_at}
use Rattle.netlist_settling.specs.Values.{feeds_of}
use Rattle.event_turns.proofs.CellPlaces.{gate_added, no_gates_in}
use Rattle.event_turns.proofs.gates.gates_of.Goals as goal

pub loop-cell-init : goal.loop-cell-init
loop-cell-init c = record { placed = no_gates_in _ _ _ _ c.new-gates.ensures.items; upto = omega arith }

pub loop-cell-preserved : goal.loop-cell-preserved
loop-cell-preserved c =
    let N = c.args.netlist.now.lists in
    let stands = slice_get-get_or c.args.order.now c.loop-cell.cell-index _ c.loop-cell-test.true in
    let live = some_there (cell_at N _) (c.requires.only c.loop-cell.cell-index _ stands) in
    record {
      placed = gate_added N c.args.order.now c.loop-cell.cell-index _ _ _ _ _ live.0 stands live.1 (c.add_gate.ensures.few live.0 live.1)
          (c.in_ok-add_gate.ensures.feeds ∙ ap (λ (o : Option CellView). c.loop-cell.feeds.items ++ feeds_of o) live.1) (c.in_ok-add_gate.ensures.gates live.0 live.1) c.loop-cell.invariant.placed;
      upto = omega (arith, c.loop-cell-test.true);
    }

pub returns : goal.returns
returns c =
    let placed = c.loop-cell.invariant.placed in
    let upto = c.loop-cell.invariant.upto in
    record {
      long = (let long = placed.long in omega (arith, c.loop-cell-test.false));
      each = λ place number cell below stands live. placed.each place number cell (omega (arith, c.loop-cell-test.false)) stands live;
    }
