use Rattle.std.proofs.Common.{Option, Some, ◌∙◌, take, count_by, if◌then◌else◌, ap, sym}
use Rattle.bsdl_port_rules.specs.declared.keys.Uses.{Uses}
use Rattle.bsdl_port_rules.specs.Keys.{once_more, uses_for}
use Rattle.bsdl_port_rules.proofs.KeyLists.{uses_next}
use Rattle.bsdl_port_rules.proofs.keys.uses_of.Goals as goal

pub loop-key-preserved : goal.loop-key-preserved
loop-key-preserved g c = λ k.
    c.in_ok-note_use.ensures k
    ∙ ap (λ (u : Option Uses). if g.K.PartialEq.eq k c.key-item.result then Some (once_more u) else u) (c.loop-key.invariant k)
    ∙ ap (λ (x : g.row.K.Denot). if g.K.PartialEq.eq k x then Some (once_more (uses_for (count_by (g.K.PartialEq.eq k) (take c.loop-key.key-index c.args.keys.now)))) else uses_for (count_by (g.K.PartialEq.eq k) (take c.loop-key.key-index c.args.keys.now))) c.key-item.is
    ∙ sym (uses_next (g.K.PartialEq.eq k) c.args.keys.now c.loop-key.key-index c.key-item.result c.loop-key-test.true)
