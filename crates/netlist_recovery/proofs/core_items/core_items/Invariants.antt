use Rattle.std.proofs.Common.{◌≡◌, ◌++◌, map, drop}
use Rattle.strip_model.specs.Core.{before_added, core_item}
use Rattle.netlist_recovery.proofs.core_items.core_items.Given as goal

abbrev pub invariant-loop-item : goal.invariant-loop-item
invariant-loop-item l =
    map (core_item l.table) (before_added l.prefix l.items) ≡ l.core ++ map (core_item l.table) (before_added l.prefix (drop l.item-index l.items))
