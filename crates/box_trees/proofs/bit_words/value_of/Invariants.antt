use Rattle.std.proofs.Common.{◌≡◌, min, take}
use Rattle.list_laws.specs.Digits.{value_after}
use Rattle.box_trees.proofs.bit_words.value_of.Given as goal

abbrev pub invariant-loop-digit : goal.invariant-loop-digit
invariant-loop-digit l = l.value ≡ min (value_after 10 0 (take l.digit-index l.digits)) 4294967295
