use Rattle.std.proofs.Common.{arith}
use Rattle.std.proofs.lemmas.List.Sums.{prefix_len-le-length}
use Rattle.bsdl_lexicon.specs.Bytes.{is_blank}
use Rattle.bsdl_words.proofs.Runs.{blanks_stay}
use Rattle.bsdl_words.proofs.machine.BsdlMachine.take_between.Goals as goal

pub returns : goal.returns
returns c = (
  omega arith,
  omega (arith, c.run_len-count.ensures, prefix_len-le-length (is_blank) c.args.piece.now),
  blanks_stay c.args.self.now c.args.piece.now c.run_len-count.result c.args.at c.requires.between (omega (arith, c.run_len-count.ensures)),
)
