use Rattle.std.proofs.Common.{◌≡◌, map, take}
use Rattle.texts.specs.Repeated.{texts}
use Rattle.strip_model.specs.declared.Side.{Side}
use Rattle.netlist_recovery.proofs.side_table.side_names.Given as goal

abbrev pub invariant-loop-side : goal.invariant-loop-side
invariant-loop-side l = texts l.names.items ≡ map (λ (side : Side). side.net) (take l.side-index l.sides)
