use Rattle.std.proofs.Common.{length, ap, ◌∙◌, arith, length-drop, ◌≡◌, ℕ, ◌+◌, sym}
use Rattle.std.proofs.lemmas.List.{take_rest, take_all}
use Rattle.word_cutter.specs.Run.{run}
use Rattle.word_cutter.proofs.Runs.{loop_goes, loop_stops, fed_on, refusal_on}
use Rattle.word_cutter.proofs.cutter.Cutter.take_all.Goals as goal

pub loop-done-preserved : goal.loop-done-preserved
loop-done-preserved g c =
    let at = c.loop-done.invariant in
    let M = g.M.Machine in
    let piece = c.args.piece.now in record {
      within = omega (arith, c.in-Ok.ensures.1, ap length (take_rest piece c.loop-done.done), length-drop c.loop-done.done piece, at.within);
      at = omega (arith, at.at);
      ran = loop_goes M.step piece c.loop-done.done c.in-Ok.count c.args.self.now.at c.loop-done.self.at (M.state c.args.self.now.machine) (M.state c.loop-done.self.machine) (M.state c.take_run.new.self) at.within at.at at.ran c.in-Ok.ensures.2;
      fault = at.fault;
    }

pub returns-in-Err-clause-fault : goal.returns-in-Err-clause-fault
returns-in-Err-clause-fault g c = λ bytes fed.
    let at = c.loop-done.invariant in
    let M = g.M.Machine in
    let piece = c.args.piece.now in
    refusal_on M.step M.start (M.state c.args.self.now.machine) c.args.self.now.fault c.args.self.now.at bytes piece c.in-Err.e fed
    (loop_stops M.step piece c.loop-done.done c.args.self.now.at c.loop-done.self.at (M.state c.args.self.now.machine) (M.state c.loop-done.self.machine) c.in-Err.e at.within at.at at.ran c.in-Err.ensures)

pub returns-clause-fed : goal.returns-clause-fed
returns-clause-fed g c = λ bytes fed.
    let at = c.loop-done.invariant in
    let M = g.M.Machine in
    let piece = c.args.piece.now in
    let whole : c.loop-done.done ≡ length piece = omega (arith, at.within, c.loop-done-test.false) in
    fed_on M.step M.start (M.state c.args.self.now.machine) (M.state c.loop-done.self.machine) c.args.self.now.fault c.loop-done.self.fault c.args.self.now.at c.loop-done.self.at bytes piece fed at.fault
    (at.at ∙ ap (λ (k : ℕ). c.args.self.now.at + k) whole)
    (ap (run M.step c.args.self.now.at (M.state c.args.self.now.machine)) (sym (take_all c.loop-done.done piece c.loop-done-test.false)) ∙ at.ran)
