-- What holds of the steps of listed gates.
use Rattle.std.specs.Prelude.{◌≡◌, ◌≤◌, ℕ, List, All, length, take, IsTrue}
use Rattle.signal_values.specs.declared.Sig.{Sig}
use Rattle.signal_values.specs.Knowledge.{IsBelow}
use Rattle.cell_library.specs.declared.listed.Step.{Step}
use Rattle.cell_library.specs.Laws.{AllBelow, IsKnown}
use Rattle.cell_library.specs.Listed.{left_by, steps_output}
use Rattle.cell_library.specs.Sound.{leaves_one}

-- own: better known operands give a better known output, or the same
abbrev pub StepsKeepOrder : Type 0
StepsKeepOrder = (steps : List Step) (xs ys : List Sig) → AllBelow xs ys → IsBelow (steps_output steps xs) (steps_output steps ys)

-- own: known operands give a known output
abbrev pub KnownOperandsKnownSteps : Type 0
KnownOperandsKnownSteps = (steps : List Step) (inputs : List Sig) → All IsKnown inputs → IsKnown (steps_output steps inputs)

-- own: the steps of a sound body leave one value, and at most 16 stand behind each of them
pub record LeaveOne (steps : List Step) (inputs : List Sig) : Type 0 where
  pub one : length (left_by inputs steps) ≡ 1
  pub few : (place : ℕ) → length (left_by inputs (take place steps)) ≤ 16

abbrev pub SoundStepsLeaveOne : Type 0
SoundStepsLeaveOne = (count : ℕ) (steps : List Step) (inputs : List Sig) → IsTrue (leaves_one count 0 steps) → LeaveOne steps inputs
