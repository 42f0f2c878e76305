use Rattle.std.proofs.Common.{[]}
use Rattle.box_tables.proofs.Places.{lent}
use Rattle.box_tables.proofs.Tallies.{counted_next}
use Rattle.box_tables.proofs.name_places.count_names.Goals as goal

pub loop-name-preserved : goal.loop-name-preserved
loop-name-preserved c = λ name.
    counted_next c.args.names.now c.loop-name.name-index (lent []) c.loop-name.counts.entries c.set_count.new.counts.entries c.count_in-count.result name c.loop-name-test.true c.count_in-count.ensures (c.in_ok-set_count.ensures name) (c.loop-name.invariant name)
