use Rattle.std.proofs.Common.{◌+◌, ◌*◌, arith}
use Rattle.instruction_gates.proofs.Copied.{none_copied, one_copied}
use Rattle.instruction_gates.proofs.copies.+add_copies.Goals as goal

pub returns-then-count-eq0-clause-added : goal.returns-then-count-eq0-clause-added
returns-then-count-eq0-clause-added t c = none_copied c.args.netlist.now c.args.latches.0 c.args.count c.if-count-eq0.true (c.appended_none.ensures c.args.netlist.now c.requires.dense)

pub returns-clause-added : goal.returns-clause-added
returns-clause-added t c = one_copied c.added_in_turn.ensures c.args.netlist.now c.add_part-copy.new.netlist c.add_copies.new.netlist c.args.latches.0 c.args.count (omega (arith, c.if-count-eq0.false))
    c.add_part-copy.ensures.added c.add_copies.ensures.added
