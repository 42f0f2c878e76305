use Rattle.std.proofs.Common.{◌≡◌, drop}
use Rattle.texts.specs.Repeated.{texts}
use Rattle.cell_text.specs.Cells.{steps_of}
use Rattle.cell_text.specs.Reader.{behind_those}
use Rattle.cell_text.proofs.cells.steps_of.Given as goal

abbrev pub invariant-loop-word : goal.invariant-loop-word
invariant-loop-word l = behind_those l.steps (steps_of (texts l.inputs) (drop l.word-index (texts l.words))) ≡ steps_of (texts l.inputs) (texts l.words)
