use Rattle.std.proofs.Common.{◌≡◌, ◌++◌, take, drop}
use Rattle.texts.specs.Repeated.{texts}
use Rattle.bsdl_lexicon.specs.NameKeys.{names_in}
use Rattle.plan_fitting.specs.Fits.{barred_after}
use Rattle.pin_plan.proofs.names.find_barred.Given as goal

abbrev pub invariant-loop-name : goal.invariant-loop-name
invariant-loop-name l =
    (names_in l.before.keys ≡ names_in l.initial.before.keys ++ texts (take l.name-index l.names))
    × (barred_after (texts l.others) (names_in l.before.keys) (texts (drop l.name-index l.names)) ≡ barred_after (texts l.others) (names_in l.initial.before.keys) (texts l.names))
