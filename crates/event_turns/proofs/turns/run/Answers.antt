use Rattle.std.proofs.Common.{◌≡◌, ◌≤◌, ◌*◌, ◌∙◌, ap, refl, Some, length, arith}
use Rattle.std.specs.Prelude.{slice_get}
use Rattle.std.proofs.lemmas.Option.{slice_get_within}
use Rattle.event_turns.proofs.TurnRuns.{found, turn_passed, not_before, run_ends, past_all}
use Rattle.event_turns.specs.Circuits.{place_of}
use Rattle.event_turns.proofs.Logs.{logs_then}
use Rattle.event_turns.proofs.turns.run.Goals as goal

pub returns-in_default : goal.returns-in_default
returns-in_default g c = record { logs = c.loop-passed.invariant.logs; state = c.loop-passed.invariant.state; done = run_ends _ _ _ _ _ _ _ _ _ _ c.loop-passed.invariant.under c.in_default.ensures.long c.in_default.ensures.none c.in_default.ensures.before }

pub take_place-requires-clause-there : goal.take_place-requires-clause-there
take_place-requires-clause-there g c =
    let under = rw (← c.circuit.view_is) at c.loop-passed.invariant.under in
    let f = found _ _ _ _ _ _ _ _ c.in-Some.turn c.circuit.invariant under c.in-Some.ensures.least.set in
    let within = slice_get_within c.circuit.inside.gates.items (place_of (length c.circuit.inside.gates.items) c.in-Some.turn) f.gate f.at in
    let count : c.len-count.result ≡ length c.circuit.inside.gates.items = omega (arith, c.len-count.ensures) in
    let place : c.place_of-place.result ≡ place_of (length c.circuit.inside.gates.items) c.in-Some.turn = c.place_of-place.ensures ∙ ap (λ n. place_of n c.in-Some.turn) count in
    rw (← c.circuit.view_is, place) (omega (arith, within))

pub overflow_add-from : goal.overflow_add-from
overflow_add-from g c =
    let under = rw (← c.circuit.view_is) at c.loop-passed.invariant.under in
    let f = found _ _ _ _ _ _ _ _ c.in-Some.turn c.circuit.invariant under c.in-Some.ensures.least.set in
    let small = rw (← c.circuit.view_is) at c.requires.small in
    let early = f.early in
    omega arith

pub loop-passed-preserved : goal.loop-passed-preserved
loop-passed-preserved g c =
    let under = rw (← c.circuit.view_is) at c.loop-passed.invariant.under in
    let f = found _ _ _ _ _ _ _ _ c.in-Some.turn c.circuit.invariant under c.in-Some.ensures.least.set in
    let count : c.len-count.result ≡ length c.circuit.inside.gates.items = omega (arith, c.len-count.ensures) in
    let place : c.place_of-place.result ≡ place_of (length c.circuit.inside.gates.items) c.in-Some.turn = c.place_of-place.ensures ∙ ap (λ n. place_of n c.in-Some.turn) count in
    let at : slice_get c.circuit.inside.gates.items c.place_of-place.result ≡ Some f.gate = ap (slice_get c.circuit.inside.gates.items) place ∙ f.at in
    let turned = rw (← c.circuit.view_is) at c.take_place.ensures.turn in
    record {
      under = rw (← c.circuit.view_is) (turn_passed _ _ _ _ _ _ _ _ _ _ _ _ _ _ _ c.in-Some.turn f f.gate c.circuit.invariant refl under c.in-Some.ensures (λ cell live. turned f.gate cell at live));
      logs = logs_then _ _ _ _ _ _ _ _ _ _ c.loop-passed.invariant.logs c.take_place.ensures.logs;
      state = c.take_place.ensures.state ∙ c.loop-passed.invariant.state;
      passed = (let early = not_before _ _ _ _ _ _ _ _ c.in-Some.turn c.loop-passed.invariant.under c.in-Some.ensures.least.set in let p = c.loop-passed.invariant.passed in omega arith);
    }

pub returns : goal.returns
returns g c =
    let under = rw (← c.circuit.view_is) at c.loop-passed.invariant.under in
    let past : 3 * length c.circuit.inside.gates.items ≤ c.loop-passed.from = (let p = c.loop-passed.invariant.passed in let t = c.loop-passed-test.false in omega (arith, c.len-count.ensures)) in
    let none = past_all _ _ _ _ _ _ _ _ c.circuit.invariant under past in
    record { logs = c.loop-passed.invariant.logs; state = c.loop-passed.invariant.state; done = run_ends _ _ _ _ _ _ _ _ _ _ c.loop-passed.invariant.under refl none none }
