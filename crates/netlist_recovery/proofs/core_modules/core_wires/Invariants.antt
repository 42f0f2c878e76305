use Rattle.std.proofs.Common.{◌≡◌, filter, take}
use Rattle.strip_model.specs.Core.{is_own_wire}
use Rattle.netlist_recovery.proofs.core_modules.core_wires.Given as goal

abbrev pub invariant-loop-wire : goal.invariant-loop-wire
invariant-loop-wire l = l.core ≡ filter (is_own_wire l.prefix) (take l.wire-index l.wires)
