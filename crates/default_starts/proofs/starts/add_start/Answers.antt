use Rattle.std.proofs.Common.{◌<◌, true, false, List, length, sym, subst, arith}
use Rattle.std.proofs.lemmas.Result.{on_ok_weaker}
use Rattle.scan_vectors.specs.declared.lines.Line.{Line}
use Rattle.default_starts.specs.Found.{AddsBit}
use Rattle.default_starts.proofs.Adds.{bit_added, bit_had, flag_at}
use Rattle.default_starts.proofs.starts.add_start.Goals as goal

pub returns-then-flags-net : goal.returns-then-flags-net
returns-then-flags-net c =
    let net = c.pin_net-net.result in
    let below : net.0 < length c.args.linked.now.arena.lists.nets = rw c.netlist.ensures.netlist at c.pin_net-net.ensures.below in
    bit_had c.args.linked.now c.args.flags.now c.args.pin net c.args.starts.now (rw c.netlist.ensures.netlist at c.pin_net-net.ensures.value)
    (flag_at c.args.flags.now net.0 true (let count = c.requires.count in omega (arith, below, count)) c.if-flags-net.true)

pub returns : goal.returns
returns c =
    let L = c.args.linked.now in
    let flags = c.args.flags.now in
    let net = c.pin_net-net.result in
    let below : net.0 < length L.arena.lists.nets = rw c.netlist.ensures.netlist at c.pin_net-net.ensures.below in
    on_ok_weaker c.push.result (λ e. subst (λ (s : List Line). AddsBit L flags c.args.pin c.args.starts.now s) (sym e)
    (bit_added L flags c.args.pin net c.in_ok-word_of.field-0 c.first_value.result c.args.starts.now (rw c.netlist.ensures.netlist at c.pin_net-net.ensures.value)
    (flag_at flags net.0 false (let count = c.requires.count in omega (arith, below, count)) c.if-flags-net.false) c.in_ok-word_of.ensures c.first_value.ensures)) c.push.ensures.ok
