use Rattle.std.proofs.Common.{◌≡◌, ℕ, length, subst, arith}
use Rattle.status_fitting.specs.Tables.{FindsWires}
use Rattle.status_fitting.proofs.wires.wires_of.Goals as goal

pub returns : goal.returns
returns c =
    let N = c.args.linked.now.arena.lists in
    let F : ℕ → Type 0 = λ k. FindsWires N k c.loop-number.nets.entries in
    let count : c.net_count-number-end.result ≡ length N.nets = rw c.netlist.ensures.netlist at c.net_count-number-end.ensures in
    let within = c.loop-number.auto.number-end in
    let done = c.loop-number-test.false in
    subst F (omega (arith, count, within, done)) c.loop-number.invariant
