use Rattle.std.proofs.Common.{◌≡◌, map, take}
use Rattle.texts.specs.Repeated.{texts}
use Rattle.cell_text.specs.Rules.{name_in}
use Rattle.cell_text.specs.Reader.{rows_of}
use Rattle.cell_text.proofs.names.gather_names.Given as goal

abbrev pub invariant-loop-line : goal.invariant-loop-line
invariant-loop-line l = texts l.names.items ≡ map name_in (rows_of (take l.line-index l.lines))
