use Rattle.std.proofs.Common.{arith, vec_len, vec_capacity}
use Rattle.linked_cells.proofs.Keys.{appended}
use Rattle.linked_cells.proofs.places.Places.push.Goals as goal

pub invariant_of-self : goal.invariant_of-self
invariant_of-self g c =
    let some = rw (← c.self.view_is) at c.requires in
    rw (c.push_reserved.ensures.items, c.key_for-key.ensures) (appended c.self.inside.keys.items _ _ c.self.inside.values c.self.inside.spare c.self.invariant c.insert_reserved-number.new.self c.insert_reserved-number.result (vec_len c.push_reserved.new.self) (vec_capacity c.push_reserved.new.self) c.args.value some
    c.insert_reserved-number.ensures.was_vacant c.insert_reserved-number.ensures.updates c.insert_reserved-number.ensures.len c.insert_reserved-number.ensures.capacity c.push_reserved.ensures.len (omega arith)).0

pub returns-clause-items : goal.returns-clause-items
returns-clause-items g c =
    let some = rw (← c.self.view_is) at c.requires in
    rw (← c.self.view_is, c.push_reserved.ensures.items, c.key_for-key.ensures) (appended c.self.inside.keys.items _ _ c.self.inside.values c.self.inside.spare c.self.invariant c.insert_reserved-number.new.self c.insert_reserved-number.result (vec_len c.push_reserved.new.self) (vec_capacity c.push_reserved.new.self) c.args.value some
    c.insert_reserved-number.ensures.was_vacant c.insert_reserved-number.ensures.updates c.insert_reserved-number.ensures.len c.insert_reserved-number.ensures.capacity c.push_reserved.ensures.len (omega arith)).1
