use Rattle.std.proofs.Common.{arith, not, ◌==◌}
use Rattle.std.proofs.lemmas.List.Sums.{prefix_len-le-length}
use Rattle.verilog_words.proofs.Taken.{enclosed_same}
use Rattle.verilog_words.proofs.machine.WordMachine.take_in_enclosure.Goals as goal

pub returns : goal.returns
returns c = (
  omega arith,
  omega (arith, c.run_len-count.ensures, prefix_len-le-length (λ b. not (b == 42)) c.args.piece.now),
  enclosed_same c.args.self.now c.args.enclosure c.args.piece.now c.args.at c.run_len-count.result c.requires.enclosed (omega (arith, c.run_len-count.ensures)),
)
