use Rattle.event_turns.proofs.Drivers.{AreDrivenUpTo}
use Rattle.event_turns.proofs.drives.keep_drives.Given as goal

abbrev pub invariant-loop-place : goal.invariant-loop-place
invariant-loop-place l = AreDrivenUpTo l.circuit l.values l.place l.drives
