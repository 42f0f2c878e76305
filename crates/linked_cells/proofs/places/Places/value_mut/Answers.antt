use Rattle.std.proofs.Common.{refl, ap, ◌∙◌}
use Rattle.linked_cells.proofs.Keys.{mutated, place_is}
use Rattle.linked_cells.proofs.places.Places.value_mut.Goals as goal

pub invariant_of-self-lent : goal.invariant_of-self-lent
invariant_of-self-lent g c w = (mutated c.self.inside.keys.items _ _ c.self.inside.values c.self.inside.spare c.self.invariant c.args.number c.key_of-key.result w (rw c.deref.ensures.value at c.key_of-key.ensures)).0

pub returns : goal.returns
returns g c =
    let at = rw c.deref.ensures.value at c.key_of-key.ensures in
    let found = place_is c.self.inside.keys.items _ _ c.self.inside.values c.self.inside.spare c.self.invariant c.args.number c.key_of-key.result at in (
      (
        refl,
        λ w. rw (← c.self.view_is) (ap (λ items. record { items = items; spare = c.self.inside.spare })
            (mutated c.self.inside.keys.items _ _ c.self.inside.values c.self.inside.spare c.self.invariant c.args.number c.key_of-key.result w at).1),
      ),
      record { writes_back = tt; value = rw (← c.self.view_is) (found ∙ c.index_mut.ensures.value) },
    )
