use Rattle.std.proofs.Common.{◌-◌, arith}
use Rattle.std.proofs.lemmas.Option.{slice_get-get_or}
use Rattle.register_gates.proofs.ChainSteps.{chained_none, chained_step, cells_left}
use Rattle.register_gates.proofs.bits.chain.add_shift_chain.Goals as goal

pub loop-place-init : goal.loop-place-init
loop-place-init c = chained_none c.appended_none.ensures c.args.netlist.now c.args.steering.now c.args.tdi c.args.captured.now c.requires.dense

pub add_shift_bit-last-requires-clause-cells : goal.add_shift_bit-last-requires-clause-cells
add_shift_bit-last-requires-clause-cells c = cells_left c.args.netlist.now c.loop-place.netlist c.args.steering.now c.args.tdi c.loop-place.last c.args.captured.now c.loop-place.place
    c.loop-place.invariant (omega (arith, c.loop-place-test.true)) (omega (arith, c.loop-place.auto.place)) c.requires.cells

pub loop-place-preserved : goal.loop-place-preserved
loop-place-preserved c = chained_step c.appended_count.ensures c.appended_more.ensures c.args.netlist.now c.loop-place.netlist c.add_shift_bit-last.new.netlist c.args.steering.now c.args.tdi
    c.loop-place.last c.add_shift_bit-last.result c.args.captured.now c.loop-place.place _ (omega (arith, c.loop-place-test.true))
    (slice_get-get_or c.args.captured.now (c.loop-place.place - 1) _ (omega (arith, c.loop-place-test.true, c.loop-place.auto.place))) c.loop-place.invariant
    c.add_shift_bit-last.ensures.first c.add_shift_bit-last.ensures.added c.add_shift_bit-last.ensures.dense
