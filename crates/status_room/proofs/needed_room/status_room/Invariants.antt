use Rattle.std.proofs.Common.{◌≡◌, ◌+◌, ◌*◌, ◌≤◌, take, length, sum_by}
use Rattle.status_fitting.specs.declared.fitted.FittedRegister.{FittedRegister}
use Rattle.status_room.proofs.needed_room.status_room.Given as goal

abbrev pub invariant-loop-register : goal.invariant-loop-register
invariant-loop-register l =
    (l.count ≡ 64 + 48 * l.register-index + 4 * sum_by (λ (r : FittedRegister). length r.nets) (take l.register-index l.registers)) × (l.count ≤ 64 + 1072 * l.register-index)
