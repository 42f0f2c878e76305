use Rattle.std.proofs.Common.{arith, not, ◌==◌}
use Rattle.std.proofs.lemmas.List.Sums.{prefix_len-le-length}
use Rattle.verilog_words.proofs.Taken.{line_same}
use Rattle.verilog_words.proofs.machine.WordMachine.take_in_line.Goals as goal

pub returns : goal.returns
returns c = (
  omega arith,
  omega (arith, c.run_len-count.ensures, prefix_len-le-length (λ b. not (b == 10)) c.args.piece.now),
  line_same c.args.self.now c.args.piece.now c.args.at c.run_len-count.result c.requires.line (omega (arith, c.run_len-count.ensures)),
)
