use Rattle.std.proofs.Common.{◌≡◌, take}
use Rattle.link_names.specs.CellNumbers.{numbers_in, numbered_from}
use Rattle.link_names.proofs.cell_numbers.numbers_of.Given as goal

abbrev pub invariant-loop-number : goal.invariant-loop-number
invariant-loop-number l = numbers_in l.numbers ≡ numbered_from 0 (take l.number l.library)
