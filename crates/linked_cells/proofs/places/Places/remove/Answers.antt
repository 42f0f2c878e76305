use Rattle.linked_cells.proofs.Keys.{emptied}
use Rattle.linked_cells.proofs.places.Places.remove.Goals as goal

pub invariant_of-self : goal.invariant_of-self
invariant_of-self g c =
    let at = rw c.deref.ensures.value at c.key_of-key.ensures in
    rw c.none.ensures ((emptied c.self.inside.keys.items _ _ c.self.inside.values c.self.inside.spare c.self.invariant c.remove.new.self c.args.number c.key_of-key.result at c.remove.ensures.updates c.remove.ensures.len c.remove.ensures.capacity).0)

pub returns-clause-items : goal.returns-clause-items
returns-clause-items g c =
    let at = rw c.deref.ensures.value at c.key_of-key.ensures in
    rw (← c.self.view_is, c.none.ensures) (emptied c.self.inside.keys.items _ _ c.self.inside.values c.self.inside.spare c.self.invariant c.remove.new.self c.args.number c.key_of-key.result at c.remove.ensures.updates c.remove.ensures.len c.remove.ensures.capacity).1
