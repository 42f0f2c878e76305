-- The status with which a command comes to its end. Own.
use Rattle.std.specs.Prelude.{◌≡◌, ℕ, ◌==◌, ◌⊎◌, if◌then◌else◌}
use Rattle.command_faults.specs.declared.status.Status.{Status}
use Rattle.command_faults.specs.declared.status.Status.TheVariants as status

-- at the end of a run in which so many expectations aren't met
abbrev pub run_status : ℕ → Status
run_status missed = if missed == 0 then status.Done else status.Missed

-- the command came to its end
abbrev pub IsEnd : Status → Type 0
IsEnd s = (s ≡ status.Done) ⊎ (s ≡ status.Missed)
