use Rattle.std.proofs.Common.{◌≡◌, ◌∙◌}
use Rattle.std.proofs.lemmas.Option.{get_or_from_slice_get}
use Rattle.event_turns.proofs.TurnPairs.{pair_net, pair_turn}
use Rattle.event_turns.proofs.pairs.take_place.Goals as goal

pub take_pair-requires-clause-there : goal.take_pair-requires-clause-there
take_pair-requires-clause-there g c =
    let there = rw (← c.circuit.view_is) at c.requires.there in
    rw (← c.circuit.view_is) (pair_net _ c.args.place c.index-row.result.now c.in-Some.pair c.circuit.invariant there c.index-row.ensures c.in-Some.is)

pub returns-in-Some-clause-turn : goal.returns-in-Some-clause-turn
returns-in-Some-clause-turn g c = λ gate cell there live.
    let stands = rw (← c.circuit.view_is) at there in
    let here = rw (← c.circuit.view_is) at live in
    let fits = rw (← c.circuit.view_is) at c.requires.fits in
    let taken = rw (← c.circuit.view_is) at c.take_pair.ensures.taken in
    rw (← c.circuit.view_is) (pair_turn _ c.args.place gate c.index-row.result.now c.in-Some.pair cell c.args.pins.now c.args.drives.now c.args.before.now _ _ _ _ _ _ _ c.circuit.invariant stands c.index-row.ensures c.in-Some.is here fits taken c.take_pair.ensures.step)

pub returns-in-Some-clause-logs : goal.returns-in-Some-clause-logs
returns-in-Some-clause-logs g c = c.take_pair.ensures.logs c.args.drives.now

pub returns-in-None-clause-turn : goal.returns-in-None-clause-turn
returns-in-None-clause-turn g c = λ gate cell there live.
    let stands = rw (← c.circuit.view_is) at there in
    let same : c.index-gate.result.now ≡ gate = c.index-gate.ensures ∙ get_or_from_slice_get _ c.args.place gate c.index-gate.result.now stands in
    rw same at (c.take_turn.ensures.turn cell (rw same live))
