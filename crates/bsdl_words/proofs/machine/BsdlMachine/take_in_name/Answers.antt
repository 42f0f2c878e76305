use Rattle.std.proofs.Common.{◌-◌, arith, length}
use Rattle.std.proofs.lemmas.List.Sums.{prefix_len-le-length}
use Rattle.bsdl_lexicon.specs.Bytes.{is_letter_or_digit}
use Rattle.bsdl_words.proofs.Runs.{name_refused}
use Rattle.bsdl_words.proofs.machine.BsdlMachine.take_in_name.Goals as goal

pub returns : goal.returns
returns c = (255 - length c.args.self.now.pending, omega arith, name_refused c.args.self.now c.args.piece.now c.args.at (255 - length c.args.self.now.pending) c.requires.name (omega arith) (omega (arith, c.run_len-count.ensures)))

pub overflow_add-result : goal.overflow_add-result
overflow_add-result c = omega (arith, c.run_len-count.ensures, c.requires.room, prefix_len-le-length is_letter_or_digit c.args.piece.now)
