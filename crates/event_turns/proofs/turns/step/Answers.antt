use Rattle.std.proofs.Common.{◌∙◌}
use Rattle.event_turns.proofs.Kept.{first_is}
use Rattle.event_turns.proofs.EventSteps.{given_is, frontier_is}
use Rattle.event_turns.proofs.turns.step.Goals as goal

pub step_from-requires-clause-given : goal.step_from-requires-clause-given
step_from-requires-clause-given g c =
    c.given_at-given.ensures ∙ given_is _ (record { net = c.args.net.0; value = c.args.value }) c.args.pins.now c.args.drives.now c.args.values.now c.args.state.now c.are_tables.ensures.formed c.requires.legal c.requires.awaits.rest

pub step_from-requires-clause-frontier : goal.step_from-requires-clause-frontier
step_from-requires-clause-frontier g c =
    let there = rw (← c.circuit.view_is) at c.requires.there in
    let first = first_is _ c.args.net.0 c.index.result.now c.circuit.invariant there c.index.ensures in
    rw (← c.circuit.view_is) (rw first at (frontier_is _ c.args.net.0 c.circuit.invariant))
