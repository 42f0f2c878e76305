use Rattle.std.proofs.Common.{arith, not, ◌==◌}
use Rattle.std.proofs.lemmas.List.Sums.{prefix_len-le-length}
use Rattle.bsdl_words.proofs.Runs.{comment_stays}
use Rattle.bsdl_words.proofs.machine.BsdlMachine.take_in_comment.Goals as goal

pub returns : goal.returns
returns c = (
  omega arith,
  omega (arith, c.run_len-count.ensures, prefix_len-le-length (λ b. not (b == 10)) c.args.piece.now),
  comment_stays c.args.self.now c.args.piece.now c.run_len-count.result c.args.at c.requires.comment (omega (arith, c.run_len-count.ensures)),
)
