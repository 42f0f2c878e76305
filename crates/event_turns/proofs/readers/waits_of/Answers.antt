use Rattle.std.proofs.Common.{ap, arith}
use Rattle.list_laws.proofs.Options.{some_same}
use Rattle.std.proofs.lemmas.Option.{slice_get-get_or}
use Rattle.netlist_model.specs.declared.CellId.{CellId}
use Rattle.event_turns.specs.Circuits.{turn_at}
use Rattle.event_turns.proofs.Waits.{no_waits_in, all_waits}
use Rattle.event_turns.proofs.readers.waits_of.Goals as goal

pub loop-place-init : goal.loop-place-init
loop-place-init c = no_waits_in _ _ _ _ _ c.new-keys.ensures.items c.new-owners.ensures.items

pub bounds-turns-order : goal.bounds-turns-order
bounds-turns-order c =
    let at = slice_get-get_or c.args.order.now c.loop-place.place _ c.loop-place-test.true in
    c.requires.turns _ (c.requires.order.only c.loop-place.place _ at)

pub add_waits-requires-clause-turn : goal.add_waits-requires-clause-turn
add_waits-requires-clause-turn c = λ cell there.
    let at = slice_get-get_or c.args.order.now c.loop-place.place _ c.loop-place-test.true in
    ap (λ (id : CellId). turn_at c.args.turns.now id.0) (some_same _ cell _ at there)

pub returns : goal.returns
returns c = all_waits _ _ _ _ _ c.loop-place.place (omega (arith, c.loop-place-test.false)) c.loop-place.invariant
