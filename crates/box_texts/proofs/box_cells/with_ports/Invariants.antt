use Rattle.std.proofs.Common.{◌≡◌, drop}
use Rattle.texts.specs.Repeated.{texts}
use Rattle.box_texts.specs.Boxes.{ports_in, behind_those}
use Rattle.box_texts.proofs.box_cells.with_ports.Given as goal

abbrev pub invariant-loop-word : goal.invariant-loop-word
invariant-loop-word l = behind_those l.ports (ports_in l.dir (drop l.word-index (texts l.words))) ≡ behind_those l.fn.before (ports_in l.dir (texts l.words))
