use Rattle.std.proofs.Common.{take}
use Rattle.list_laws.specs.Lists.{AreAll}
use Rattle.status_fitting.specs.Fitted.{IsRegister}
use Rattle.status_fitting.proofs.nets.fit_rows.Given as goal

abbrev pub invariant-loop-row : goal.invariant-loop-row
invariant-loop-row l = AreAll (IsRegister l.wires) (take l.row-index l.rows) l.registers
