use Rattle.event_turns.proofs.pairs.take_pair.Goals as goal

pub returns-clause-taken : goal.returns-clause-taken
returns-clause-taken g c = λ kind is.
    let pair = rw (← c.circuit.view_is) at is in
    let taken = rw (← c.circuit.view_is) at c.give.ensures.taken in
    let given = c.eval_pair_step-value.ensures.value c.circuit.inside.netlist.now.lists.library kind c.circuit.invariant.tables pair in
    rw (← c.circuit.view_is, ← c.value_at-a.ensures, ← c.value_at-b.ensures) (rw given at taken)
