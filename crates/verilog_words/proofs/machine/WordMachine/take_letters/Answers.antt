use Rattle.std.proofs.Common.{arith, refl}
use Rattle.std.proofs.lemmas.List.Sums.{prefix_len-le-length}
use Rattle.verilog_lexicon.specs.Bytes.{is_name_byte}
use Rattle.verilog_words.proofs.Taken.{begun_refused}
use Rattle.verilog_words.proofs.machine.WordMachine.take_letters.Goals as goal

pub take_short_name-requires-clause-within : goal.take_short_name-requires-clause-within
take_short_name-requires-clause-within c = omega (arith, c.run_len-count.ensures, prefix_len-le-length is_name_byte c.args.piece.now)

pub overflow_add-result : goal.overflow_add-result
overflow_add-result c = omega (arith, c.run_len-count.ensures, c.requires.room, c.if-count-le255.false, prefix_len-le-length is_name_byte c.args.piece.now)

pub returns : goal.returns
returns c = (255, refl, begun_refused c.args.self.now c.args.piece.now c.args.at c.requires.between c.requires.letter (omega (arith, c.run_len-count.ensures, c.if-count-le255.false)))
