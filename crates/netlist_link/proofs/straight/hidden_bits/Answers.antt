use Rattle.std.proofs.Common.{◌+◌, ap, ◌∙◌, arith}
use Rattle.netlist_arena.specs.Arena.{bit_count}
use Rattle.netlist_link.proofs.HiddenBits.{hidden_all, hidden_few, hidden_step}
use Rattle.netlist_link.proofs.straight.hidden_bits.Goals as goal

pub overflow_cast-bits : goal.overflow_cast-bits
overflow_cast-bits c =
    let N = c.args.netlist.now.lists in
    let s = c.args.straight in
    let more = hidden_step N s.first s.count c.min-first.result c.min-count.result c.loop-place.place c.port_range.result c.is_laid_out.ensures.laid_out (rw (← c.port_count-ports.ensures) c.min-first.ensures)
    (rw (← c.port_count-ports.ensures) c.min-count.ensures) c.loop-place-test.true c.port_range.ensures in
    let few = hidden_few N.ports s.first (c.loop-place.place + 1) in
    let wide = c.width_of.ensures.value in
    let all = c.pin_count-pins.ensures in
    omega (arith, more, few, wide, all)

pub overflow_add-bits : goal.overflow_add-bits
overflow_add-bits c =
    let N = c.args.netlist.now.lists in
    let s = c.args.straight in
    let more = hidden_step N s.first s.count c.min-first.result c.min-count.result c.loop-place.place c.port_range.result c.is_laid_out.ensures.laid_out (rw (← c.port_count-ports.ensures) c.min-first.ensures)
    (rw (← c.port_count-ports.ensures) c.min-count.ensures) c.loop-place-test.true c.port_range.ensures in
    let few = hidden_few N.ports s.first (c.loop-place.place + 1) in
    let sofar = c.loop-place.invariant in
    let wide = c.width_of.ensures.value in
    let all = c.pin_count-pins.ensures in
    omega (arith, more, few, sofar, wide, all)

pub loop-place-preserved : goal.loop-place-preserved
loop-place-preserved c =
    let N = c.args.netlist.now.lists in
    let s = c.args.straight in
    let more = hidden_step N s.first s.count c.min-first.result c.min-count.result c.loop-place.place c.port_range.result c.is_laid_out.ensures.laid_out (rw (← c.port_count-ports.ensures) c.min-first.ensures)
    (rw (← c.port_count-ports.ensures) c.min-count.ensures) c.loop-place-test.true c.port_range.ensures in
    let sofar = c.loop-place.invariant in
    let wide = c.width_of.ensures.value in
    omega (arith, more, sofar, wide)

pub returns-clause-bits : goal.returns-clause-bits
returns-clause-bits c =
    let N = c.args.netlist.now.lists in
    let s = c.args.straight in
    let all = hidden_all N.ports s.first s.count c.min-first.result c.min-count.result c.loop-place.place (rw (← c.port_count-ports.ensures) c.min-first.ensures) (rw (← c.port_count-ports.ensures) c.min-count.ensures)
    (omega arith) in
    c.loop-place.invariant ∙ ap bit_count all

pub returns-clause-few : goal.returns-clause-few
returns-clause-few c =
    let few = hidden_few c.args.netlist.now.lists.ports c.args.straight.first c.loop-place.place in
    let sofar = c.loop-place.invariant in
    omega (arith, few, sofar)
