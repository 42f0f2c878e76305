use Rattle.std.proofs.Common.{arith}
use Rattle.list_laws.proofs.Options.{some_there}
use Rattle.netlist_model.specs.Lists.{cell_at}
use Rattle.event_turns.proofs.Made.{is_circuit, live_gate}
use Rattle.event_turns.proofs.circuit.Circuit.new.Goals as goal

pub turns_of-requires-clause-gates : goal.turns_of-requires-clause-gates
turns_of-requires-clause-gates c = rw (c.as_slice.ensures.value, c.as_slice-2.ensures.value) c.in_ok-placed.ensures

pub rows_of-requires : goal.rows_of-requires
rows_of-requires c = rw (c.as_slice-3.ensures.value, c.as_slice-4.ensures.value) (λ place gate there.
    (live_gate c.args.netlist.now.lists c.args.order.now c.in_ok-placed.placed.gates.items c.in_ok-placed.placed.feeds.items c.requires.order c.in_ok-placed.ensures place gate there).is_of.room)

pub readers_of-requires-clause-turns : goal.readers_of-requires-clause-turns
readers_of-requires-clause-turns c = λ number live.
    let cell = some_there (cell_at c.args.netlist.now.lists number) live in
    rw c.as_slice-6.ensures.value (c.in_ok-turned.ensures.long number cell.0 cell.1)

pub invariant_of-result : goal.invariant_of-result
invariant_of-result c =
    let paired = rw (c.as_slice-3.ensures.value, c.as_slice-4.ensures.value, c.as_slice-5.ensures.value, c.library.ensures) at c.in_ok-rows.ensures in
    let tabled = rw c.library-2.ensures at c.in_ok-tables.ensures in
    let waiting = rw c.as_slice-6.ensures.value at c.in_ok-waiting.ensures in
    is_circuit _ c.args.order.now _ _ _ _ _ _ _ _ _ c.requires.formed c.is_laid_out.ensures.laid_out c.requires.order c.requires.sides (omega (arith, c.if-order-ge-MOST_CELLS.false)) c.in_ok-placed.ensures paired tabled c.in_ok-turned.ensures waiting
