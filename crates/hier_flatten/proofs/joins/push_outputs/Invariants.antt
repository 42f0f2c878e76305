use Rattle.std.proofs.Common.{◌≡◌, ◌++◌, drop, map}
use Rattle.hier_model.specs.WalkNames.{texts}
use Rattle.hier_model.specs.Entries.{place, outwards, links_in, is_out, entry_item}
use Rattle.hier_flatten.specs.Joins.{output_items}
use Rattle.hier_flatten.proofs.joins.push_outputs.Given as goal

abbrev pub invariant-loop-port : goal.invariant-loop-port
invariant-loop-port l =
    l.items ++ map entry_item (links_in is_out (outwards (place (texts l.sides.outer.now) l.sides.nets.now) (place (texts l.sides.inner.now) l.sides.child.now)) l.sides.nets.now l.instance (drop l.port-index l.sides.child.now.ports))
    ≡ l.fn.items ++ output_items (place (texts l.sides.outer.now) l.sides.nets.now) (place (texts l.sides.inner.now) l.sides.child.now) l.instance
