use Rattle.std.proofs.Common.{take}
use Rattle.list_laws.specs.Lists.{AreAll}
use Rattle.status_fitting.specs.Fitted.{IsNetOf}
use Rattle.status_fitting.proofs.nets.nets_of.Given as goal

abbrev pub invariant-loop-word : goal.invariant-loop-word
invariant-loop-word l = AreAll (IsNetOf l.wires) (take l.word-index l.words) l.nets
