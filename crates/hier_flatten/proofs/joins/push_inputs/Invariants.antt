use Rattle.std.proofs.Common.{◌≡◌, ◌++◌, drop, map}
use Rattle.hier_model.specs.WalkNames.{texts}
use Rattle.hier_model.specs.Entries.{place, inwards, links_in, is_in, entry_item}
use Rattle.hier_flatten.specs.Joins.{input_items}
use Rattle.hier_flatten.proofs.joins.push_inputs.Given as goal

abbrev pub invariant-loop-port : goal.invariant-loop-port
invariant-loop-port l =
    l.items ++ map entry_item (links_in is_in (inwards (place (texts l.sides.outer.now) l.sides.nets.now) (place (texts l.sides.inner.now) l.sides.child.now)) l.sides.nets.now l.instance (drop l.port-index l.sides.child.now.ports))
    ≡ l.fn.items ++ input_items (place (texts l.sides.outer.now) l.sides.nets.now) (place (texts l.sides.inner.now) l.sides.child.now) l.instance
