use Rattle.std.proofs.Common.{◌≡◌, map, take}
use Rattle.bsdl_lexicon.specs.Names as names
use Rattle.bsdl_lexicon.proofs.names.same_name.Given as goal

abbrev pub invariant-loop-i : goal.invariant-loop-i
invariant-loop-i l = map names.lower (take l.i l.a) ≡ map names.lower (take l.i l.b)
