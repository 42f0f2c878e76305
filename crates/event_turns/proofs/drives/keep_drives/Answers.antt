use Rattle.std.proofs.Common.{◌<◌, ◌≤◌, length, arith}
use Rattle.event_turns.proofs.Drivers.{none_driven, one_driven, all_driven, gate_at, gate_below}
use Rattle.event_turns.proofs.drives.keep_drives.Goals as goal

pub loop-place-init : goal.loop-place-init
loop-place-init c = none_driven _ _ _ c.requires

pub keep_own-requires-clause-feeds : goal.keep_own-requires-clause-feeds
keep_own-requires-clause-feeds c =
    let below : c.loop-place.place < length c.circuit.inside.gates.items = (let t = c.loop-place-test.true in omega (arith, c.len-place-end.ensures)) in
    let live = c.circuit.invariant.live c.loop-place.place _ (gate_at c.circuit.inside.gates.items c.loop-place.place c.index.result.now c.index.ensures below) in
    rw c.as_slice.ensures.value live.is_of.room

pub keep_own-requires-clause-drives : goal.keep_own-requires-clause-drives
keep_own-requires-clause-drives c =
    let below : c.loop-place.place < length c.circuit.inside.gates.items = (let t = c.loop-place-test.true in omega (arith, c.len-place-end.ensures)) in
    let live = c.circuit.invariant.live c.loop-place.place _ (gate_at c.circuit.inside.gates.items c.loop-place.place c.index.result.now c.index.ensures below) in
    let so_far = rw (← c.circuit.view_is) at c.loop-place.invariant in
    gate_below _ (length c.loop-place.drives) c.index.result.now c.circuit.invariant live so_far.long

pub loop-place-preserved : goal.loop-place-preserved
loop-place-preserved c =
    let below : c.loop-place.place < length c.circuit.inside.gates.items = (let t = c.loop-place-test.true in omega (arith, c.len-place-end.ensures)) in
    let at = gate_at c.circuit.inside.gates.items c.loop-place.place c.index.result.now c.index.ensures below in
    let so_far = rw (← c.circuit.view_is) at c.loop-place.invariant in
    let made = rw c.as_slice.ensures.value at c.keep_own.ensures in
    rw (← c.circuit.view_is) (one_driven _ c.args.values.now c.loop-place.place c.index.result.now c.loop-place.drives _ c.circuit.invariant at made so_far)

pub returns-clause-driven : goal.returns-clause-driven
returns-clause-driven c =
    let past : length c.circuit.inside.gates.items ≤ c.loop-place.place = (let t = c.loop-place-test.false in omega (arith, c.len-place-end.ensures)) in
    let all = rw (← c.circuit.view_is) at c.loop-place.invariant in
    rw (← c.circuit.view_is) (all_driven _ c.args.values.now c.loop-place.place c.loop-place.drives c.circuit.invariant past all)
