use Rattle.std.proofs.Common.{◌≡◌, ◌++◌, drop, map}
use Rattle.hier_model.specs.WalkNames.{texts}
use Rattle.hier_model.specs.Entries.{place, bits_of, spread, inwards, entry_item}
use Rattle.hier_flatten.specs.Joins.{inward_items}
use Rattle.hier_flatten.proofs.joins.push_inwards.Given as goal

abbrev pub invariant-loop-place : goal.invariant-loop-place
invariant-loop-place l =
    l.items ++ map entry_item (inwards (place (texts l.sides.outer.now) l.sides.nets.now) (place (texts l.sides.inner.now) l.sides.child.now) (drop l.place (bits_of l.port.name l.port.range)) (drop l.place (spread l.sides.nets.now l.operand)))
    ≡ l.fn.items ++ inward_items (place (texts l.sides.outer.now) l.sides.nets.now) (place (texts l.sides.inner.now) l.sides.child.now) l.port l.operand
