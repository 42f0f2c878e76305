use Rattle.std.proofs.Common.{◌≡◌, ◌+◌, ℕ, subst, arith}
use Rattle.netlist_model.specs.Formed.{width_of}
use Rattle.scan_vectors.specs.Starts.{AreMarked, IsBitBefore}
use Rattle.scan_vectors.proofs.Marked.{bit_takes, has_range, marked_next, marked_port, next_bit}
use Rattle.scan_vectors.proofs.scripts.tables.mark_bits.Goals as goal

pub loop-bit-preserved : goal.loop-bit-preserved
loop-bit-preserved c =
    let N = c.args.linked.now.arena.lists in
    let port = c.args.port.0 in
    let net = c.pin_net-net.result in
    marked_next N (IsBitBefore port c.loop-bit.bit) (IsBitBefore port (c.loop-bit.bit + 1)) c.loop-bit.flags (record { port = record { 0 = port }; bit = c.loop-bit.bit }) net
    (next_bit port c.loop-bit.bit) (bit_takes N port c.loop-bit.bit net c.requires.side (rw c.netlist-netlist.ensures.netlist at c.pin_net-net.ensures.value))
    (rw c.netlist-netlist.ensures.netlist at c.pin_net-net.ensures.value) (rw c.netlist-netlist.ensures.netlist at c.pin_net-net.ensures.below) c.loop-bit.invariant

pub returns : goal.returns
returns c =
    let N = c.args.linked.now.arena.lists in
    let port = c.args.port.0 in
    let range = c.port_range.result in
    let all : c.loop-bit.bit ≡ width_of range = omega (arith, c.width_of-width.ensures.value) in
    let P : ℕ → Type 0 = λ bits. AreMarked N (IsBitBefore port bits) c.loop-bit.flags in
    marked_port N port range c.loop-bit.flags (rw c.netlist-netlist.ensures.netlist at c.is_laid_out.ensures.laid_out)
    (has_range N port range (rw c.netlist-netlist.ensures.netlist at c.port_range.ensures)) (subst P all c.loop-bit.invariant)
