use Rattle.std.proofs.Common.{◌∙◌}
use Rattle.linked_cells.proofs.Keys.{added}
use Rattle.linked_cells.proofs.places.Places.put.Goals as goal

pub invariant_of-self : goal.invariant_of-self
invariant_of-self g c =
    let some = rw (← c.self.view_is) at c.requires in
    (added c.self.inside.keys.items _ _ c.self.inside.values c.self.inside.spare c.self.invariant c.insert_reserved-number.new.self c.put_key.new.keys.items _ _ _ _ _ c.args.value some (rw c.key_for-key.ensures at c.put_key.ensures.puts)
    c.insert_reserved-number.ensures.was_vacant c.insert_reserved-number.ensures.updates c.insert_reserved-number.ensures.len c.insert_reserved-number.ensures.capacity c.put_key.ensures.len c.put_key.ensures.capacity).0

pub returns-clause-puts : goal.returns-clause-puts
returns-clause-puts g c =
    let some = rw (← c.self.view_is) at c.requires in
    let free = c.len-free.ensures ∙ c.self.invariant.counted in
    rw (← c.self.view_is) (rw free at (added c.self.inside.keys.items _ _ c.self.inside.values c.self.inside.spare c.self.invariant c.insert_reserved-number.new.self c.put_key.new.keys.items _ _ _ _ _ c.args.value some (rw c.key_for-key.ensures at c.put_key.ensures.puts)
    c.insert_reserved-number.ensures.was_vacant c.insert_reserved-number.ensures.updates c.insert_reserved-number.ensures.len c.insert_reserved-number.ensures.capacity c.put_key.ensures.len c.put_key.ensures.capacity).1)
