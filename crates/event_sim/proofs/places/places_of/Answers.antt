use Rattle.std.proofs.Common.{◌≡◌, ◌≤◌, arith}
use Rattle.std.proofs.lemmas.Option.{slice_get-get_or}
use Rattle.event_sim.proofs.NetPlaces.{one_placed, all_placed}
use Rattle.event_sim.proofs.places.places_of.Goals as goal

pub loop-place-preserved : goal.loop-place-preserved
loop-place-preserved c =
    let at = slice_get-get_or c.args.nets.now c.loop-place.place _ c.loop-place-test.true in
    record {
      placed = one_placed c.args.nets.now c.args.count c.loop-place.place _ c.loop-place.places.items at (c.requires.below c.loop-place.place _ at) c.requires.once c.loop-place.invariant.placed;
      upto = omega (arith, c.loop-place-test.true);
    }

pub returns : goal.returns
returns c = all_placed c.args.nets.now c.args.count c.loop-place.place _ (omega (arith, c.loop-place-test.false)) c.loop-place.invariant.upto c.loop-place.invariant.placed
