use Rattle.std.proofs.Common.{◌≡◌, [], take, drop}
use Rattle.texts.specs.Repeated.{texts}
use Rattle.cell_text.specs.Lines.{parted}
use Rattle.cell_text.proofs.lines.colon_place.Given as goal

abbrev pub invariant-loop-place : goal.invariant-loop-place
invariant-loop-place l = parted (take l.place (texts l.words)) (drop l.place (texts l.words)) ≡ parted [] (texts l.words)
