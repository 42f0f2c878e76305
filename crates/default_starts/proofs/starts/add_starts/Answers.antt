use Rattle.std.proofs.Common.{arith}
use Rattle.scan_vectors.proofs.Marked.{has_range, bit_there}
use Rattle.default_starts.proofs.Adds.{port_all, port_next}
use Rattle.default_starts.proofs.starts.add_starts.Goals as goal

pub loop-bit-preserved : goal.loop-bit-preserved
loop-bit-preserved c =
    let L = c.args.linked.now in
    let number = c.args.port.0 in
    let bit = c.loop-bit.bit in
    let range = c.port_range.result in
    let has = has_range L.arena.lists number range (rw c.netlist-netlist.ensures.netlist at c.port_range.ensures) in
    let wide = c.width_of-bit-end.ensures.value in
    let found = bit_there L.arena.lists number range bit (rw c.netlist-netlist.ensures.netlist at c.is_laid_out.ensures.laid_out) has (let less = c.loop-bit-test.true in omega (arith, wide, less)) in
    port_next L c.args.flags.now number bit has.port found.0 c.args.starts.now c.loop-bit.starts c.add_start.new.starts has.there found.1 c.loop-bit.invariant c.in_ok-add_start.ensures

pub returns : goal.returns
returns c =
    let L = c.args.linked.now in
    let wide = c.width_of-bit-end.ensures.value in
    port_all L c.args.flags.now c.args.port.0 c.loop-bit.bit c.port_range.result c.args.starts.now c.loop-bit.starts (rw c.netlist-netlist.ensures.netlist at c.is_laid_out.ensures.laid_out)
    (rw c.netlist-netlist.ensures.netlist at c.port_range.ensures) (let done = c.loop-bit-test.false in omega (arith, wide, done)) c.loop-bit.invariant
