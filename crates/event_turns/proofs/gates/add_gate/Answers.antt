use Rattle.std.proofs.Common.{◌∷◌, ◌++◌, [], ◌∙◌, ap, refl, length, arith}
use Rattle.netlist_model.specs.Lists.{cell_at}
use Rattle.event_turns.specs.declared.circuit.Gate.{Gate}
use Rattle.event_turns.proofs.CellPlaces.{few_looked, gate_looked}
use Rattle.event_turns.proofs.gates.add_gate.Goals as goal

pub returns-clause-few : goal.returns-clause-few
returns-clause-few c = λ found live. few_looked (cell_at c.args.netlist.now.lists c.args.cell.0) found c.feed_count.result live c.feed_count.ensures.count c.feed_count.ensures.few

pub returns-clause-gates : goal.returns-clause-gates
returns-clause-gates c = λ found live.
    c.in_ok-push.ensures.items ∙ ap (λ (g : Gate). c.args.gates.now.items ++ g ∷ [])
    (gate_looked c.args.cell (length c.args.feeds.now.items) (cell_at c.args.netlist.now.lists c.args.cell.0) found _ live refl (omega (arith, c.len.ensures)) c.kind.ensures c.feed_count.ensures.count c.output.ensures.value)
