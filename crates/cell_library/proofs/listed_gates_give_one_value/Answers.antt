use Rattle.cell_library.proofs.ListedLaws.{steps_keep_order, known_steps, sound_steps_leave_one}
use Rattle.cell_library.proofs.listed_gates_give_one_value.Goals as goal

pub returns-clause-order : goal.returns-clause-order
returns-clause-order c = steps_keep_order

pub returns-clause-known : goal.returns-clause-known
returns-clause-known c = known_steps

pub returns-clause-one : goal.returns-clause-one
returns-clause-one c = sound_steps_leave_one
