use Rattle.std.proofs.Common.{arith}
use Rattle.event_turns.proofs.Waits.{owner_more}
use Rattle.event_turns.proofs.readers.owners_at.Goals as goal

pub loop-place-preserved : goal.loop-place-preserved
loop-place-preserved c =
    let i = c.loop-place.invariant in
    record {
      long = (let long = i.long in let pushed = c.in_ok-push.ensures.len in omega arith);
      upto = omega (arith, c.loop-place-test.true);
      each = owner_more c.args.places.now c.args.owners.now c.loop-place.readers.items c.push.new.self.items c.loop-place.place-index c.owner_at.result i.long c.owner_at.ensures c.in_ok-push.ensures.items i.each;
    }

pub returns : goal.returns
returns c =
    let i = c.loop-place.invariant in
    record {
      long = (let long = i.long in let upto = i.upto in omega (arith, c.loop-place-test.false));
      each = λ k below. i.each k (omega (arith, c.loop-place-test.false));
    }
