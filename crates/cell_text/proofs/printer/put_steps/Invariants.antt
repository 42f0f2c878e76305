use Rattle.std.proofs.Common.{◌≡◌, ◌++◌, map, take, flat_map}
use Rattle.word_cutter.specs.Rows.{behind_blank}
use Rattle.cell_text.specs.Words.{step_word}
use Rattle.cell_text.proofs.printer.put_steps.Given as goal

abbrev pub invariant-loop-step : goal.invariant-loop-step
invariant-loop-step l = l.text ≡ l.fn.text ++ flat_map behind_blank (map (step_word l.inputs) (take l.step-index l.steps))
