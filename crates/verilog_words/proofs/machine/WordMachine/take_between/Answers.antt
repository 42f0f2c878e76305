use Rattle.std.proofs.Common.{◌+◌, arith, refl}
use Rattle.word_cutter.proofs.Runs.{loop_goes, loop_stops}
use Rattle.verilog_words.specs.Machine.{step}
use Rattle.verilog_words.specs.Steps.{state_of}
use Rattle.verilog_words.proofs.machine.WordMachine.take_between.Goals as goal

pub loop-done-preserved : goal.loop-done-preserved
loop-done-preserved c =
    let piece = c.args.piece.now in
    let at = c.args.at in
    let was = c.loop-done.invariant in
    let done = c.loop-done.done in
    let more = c.with_blanks-done.ensures in record {
      within = more.most;
      ran = more.stays (state_of c.args.self.now) at
          (loop_goes step piece done c.in-Ok.count at (at + done) (state_of c.args.self.now) (state_of c.loop-done.self) (state_of c.take_piece.new.self) was.within refl was.ran c.in-Ok.ensures.2);
      begun = λ none. absurd (omega (arith, none, more.least, c.in-Ok.ensures.0));
    }

pub returns-in-Err : goal.returns-in-Err
returns-in-Err c =
    let was = c.loop-done.invariant in
    loop_stops step c.args.piece.now c.loop-done.done c.args.at (c.args.at + c.loop-done.done) (state_of c.args.self.now) (state_of c.loop-done.self) c.in-Err.e was.within refl was.ran c.in-Err.ensures
