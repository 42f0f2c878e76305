use Rattle.std.proofs.Common.{◌≡◌, [], drop}
use Rattle.status_fitting.specs.Keys.{given_in}
use Rattle.status_fitting.specs.Names.{is_barred}
use Rattle.status_fitting.specs.Steps.{fault_behind, name_fault}
use Rattle.status_fitting.proofs.names.find_barred.Given as goal

abbrev pub invariant-loop-given : goal.invariant-loop-given
invariant-loop-given l =
    fault_behind is_barred name_fault (given_in l.before.keys) (given_in (drop l.given-index l.keys)) ≡ fault_behind is_barred name_fault [] (given_in l.keys)
