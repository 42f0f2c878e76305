use Rattle.std.proofs.Common.{arith}
use Rattle.box_links.proofs.Gates.{flagged_all, flagged_more}
use Rattle.box_links.proofs.three_state.flag_gates.Goals as goal

pub loop-number-preserved : goal.loop-number-preserved
loop-number-preserved c =
    flagged_more c.args.netlist.now.lists c.loop-number.number c.loop-number.flags c.flag_gate.new.flags c.is_laid_out.ensures.laid_out c.loop-number.invariant c.flag_gate.ensures

pub returns : goal.returns
returns c =
    let done = c.loop-number-test.false in
    flagged_all c.args.netlist.now.lists c.loop-number.number c.loop-number.flags
    (λ i live. let less = c.cell_bound-number-end.ensures i live in omega (arith, less, done))
    c.loop-number.invariant
