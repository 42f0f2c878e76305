use Rattle.std.proofs.Common.{◌≡◌, ◌^◌, ◌<◌, take}
use Rattle.bsdl_lexicon.specs.Pieces.{value_from}
use Rattle.bsdl_words.proofs.integers.value_of.Given as goal

abbrev pub invariant-loop-i : goal.invariant-loop-i
invariant-loop-i l = record {
  value : l.value ≡ value_from 0 (take l.i l.digits);
  fits : l.value < 10 ^ l.i;
}
