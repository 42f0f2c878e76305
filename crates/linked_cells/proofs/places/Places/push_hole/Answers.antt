use Rattle.std.proofs.Common.{arith, vec_len, vec_capacity}
use Rattle.linked_cells.proofs.Keys.{holed}
use Rattle.linked_cells.proofs.places.Places.push_hole.Goals as goal

pub invariant_of-self : goal.invariant_of-self
invariant_of-self g c =
    let some = rw (← c.self.view_is) at c.requires in
    rw (c.push_reserved.ensures.items, c.none.ensures) (holed c.self.inside.keys.items _ _ c.self.inside.values c.self.inside.spare c.self.invariant (vec_len c.push_reserved.new.self) (vec_capacity c.push_reserved.new.self) some c.push_reserved.ensures.len (omega arith)).0

pub returns-clause-items : goal.returns-clause-items
returns-clause-items g c =
    let some = rw (← c.self.view_is) at c.requires in
    rw (← c.self.view_is, c.push_reserved.ensures.items, c.none.ensures) (holed c.self.inside.keys.items _ _ c.self.inside.values c.self.inside.spare c.self.invariant (vec_len c.push_reserved.new.self) (vec_capacity c.push_reserved.new.self) some c.push_reserved.ensures.len (omega arith)).1
