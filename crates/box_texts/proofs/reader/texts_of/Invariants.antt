use Rattle.std.proofs.Common.{◌≡◌, take}
use Rattle.texts.specs.Repeated.{texts}
use Rattle.box_texts.proofs.reader.texts_of.Given as goal

abbrev pub invariant-loop-name : goal.invariant-loop-name
invariant-loop-name l = l.row ≡ texts (take l.name-index l.names)
