use Rattle.std.proofs.Common.{get_or}
use Rattle.std.proofs.lemmas.Bool.{ne_eqb}
use Rattle.verilog_words.specs.Steps.{state_of}
use Rattle.verilog_words.proofs.Taken.{takes_alike, open_alike}
use Rattle.verilog_words.proofs.machine.WordMachine.take_after_parenthesis.Goals as goal

pub returns : goal.returns
returns c =
    let old = c.args.self.now in
    let mid = c.parenthesis_ends.new.self in
    let b = get_or c.args.piece.now 0 0 in
    takes_alike c.take_between.new.self (state_of old) (state_of mid) c.args.at c.args.piece.now c.take_between.result
    (open_alike old mid c.args.at b c.requires.open c.in-Ok.ensures.1 c.in-Ok.ensures.0 (ne_eqb b 42 c.if-piece-eq42.false))
    c.take_between.ensures
