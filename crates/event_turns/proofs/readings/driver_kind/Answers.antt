use Rattle.std.proofs.Common.{◌≡◌, ◌≢◌, ◌-◌, ◌∙◌, ap, sym, length, arith, slice_index}
use Rattle.std.proofs.lemmas.Option.{slice_get_within}
use Rattle.event_turns.specs.Circuits.{place_of}
use Rattle.event_turns.proofs.Kept.{undriven_kind, driver_gate, first_is, kind_found}
use Rattle.event_turns.proofs.readings.driver_kind.Goals as goal

pub returns-then-first-eq0 : goal.returns-then-first-eq0
returns-then-first-eq0 c =
    let there = rw (← c.circuit.view_is) at c.requires in
    let first : slice_index c.circuit.inside.firsts.items c.args.net.0 ≡ 0 = first_is _ c.args.net.0 c.index-first.result.now c.circuit.invariant there c.index-first.ensures ∙ c.if-first-eq0.true in
    rw (← c.circuit.view_is) (undriven_kind _ c.args.net.0 c.circuit.invariant first)

pub index-requires : goal.index-requires
index-requires c =
    let there = rw (← c.circuit.view_is) at c.requires in
    let first : c.index-first.result.now ≡ slice_index c.circuit.inside.firsts.items c.args.net.0 = sym (first_is _ c.args.net.0 c.index-first.result.now c.circuit.invariant there c.index-first.ensures) in
    let some : slice_index c.circuit.inside.firsts.items c.args.net.0 ≢ 0 = (λ none. c.if-first-eq0.false (first ∙ none)) in
    let driver = driver_gate _ c.args.net.0 c.circuit.invariant some in
    let within = slice_get_within c.circuit.inside.gates.items _ driver.gate driver.there in
    let count : c.len.result ≡ length c.circuit.inside.gates.items = omega (arith, c.len.ensures) in
    let place : c.place_of-place.result ≡ place_of (length c.circuit.inside.gates.items) (slice_index c.circuit.inside.firsts.items c.args.net.0 - 1)
    = c.place_of-place.ensures ∙ ap (λ n. place_of n (c.index-first.result.now - 1)) count ∙ ap (λ f. place_of (length c.circuit.inside.gates.items) (f - 1)) first in
    rw place (omega (arith, within))

pub returns : goal.returns
returns c =
    let there = rw (← c.circuit.view_is) at c.requires in
    let first : c.index-first.result.now ≡ slice_index c.circuit.inside.firsts.items c.args.net.0 = sym (first_is _ c.args.net.0 c.index-first.result.now c.circuit.invariant there c.index-first.ensures) in
    let some : slice_index c.circuit.inside.firsts.items c.args.net.0 ≢ 0 = (λ none. c.if-first-eq0.false (first ∙ none)) in
    let driver = driver_gate _ c.args.net.0 c.circuit.invariant some in
    let count : c.len.result ≡ length c.circuit.inside.gates.items = omega (arith, c.len.ensures) in
    let place : c.place_of-place.result ≡ place_of (length c.circuit.inside.gates.items) (slice_index c.circuit.inside.firsts.items c.args.net.0 - 1)
    = c.place_of-place.ensures ∙ ap (λ n. place_of n (c.index-first.result.now - 1)) count ∙ ap (λ f. place_of (length c.circuit.inside.gates.items) (f - 1)) first in
    rw (← c.circuit.view_is) (kind_found _ c.args.net.0 driver c.place_of-place.result c.index.result.now place c.index.ensures)
