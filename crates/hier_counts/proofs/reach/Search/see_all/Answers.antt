use Rattle.std.proofs.Common.{get_or}
use Rattle.std.proofs.lemmas.Option.{slice_get-get_or}
use Rattle.hier_counts.specs.Search.{seen_in, with_places}
use Rattle.hier_counts.proofs.Loops.{in_rest, see_next, low_next}
use Rattle.hier_counts.proofs.reach.Search.see_all.Goals as goal

pub see-requires : goal.see-requires
see-requires c =
    let k = c.loop-place.place-index in
    let at = slice_get-get_or c.args.places.now k 0 c.loop-place-test.true in
    c.loop-place.invariant.low (get_or c.args.places.now k 0) (in_rest c.args.places.now k (get_or c.args.places.now k 0) at)

pub loop-place-preserved : goal.loop-place-preserved
loop-place-preserved c =
    let k = c.loop-place.place-index in
    let x = get_or c.args.places.now k 0 in
    let at = slice_get-get_or c.args.places.now k 0 c.loop-place-test.true in record {
      rest = see_next c.args.places.now k x (seen_in c.loop-place.self) (seen_in c.see.new.self) (with_places c.args.places.now (seen_in c.args.self.now)) at c.loop-place.invariant.rest c.in_ok-see.ensures;
      low = low_next c.args.places.now k x (seen_in c.loop-place.self) (seen_in c.see.new.self) at c.loop-place.invariant.low c.in_ok-see.ensures;
    }
