use Rattle.std.proofs.Common.{◌≡◌, ◌<◌, ◌∙◌, ap, subst, arith, true, false, Option, inl, inr}
use Rattle.std.specs.Prelude.{IsSome}
use Rattle.std.proofs.lemmas.Bool.{cases_lt}
use Rattle.netlist_model.specs.Lists.{CellView, cell_count}
use Rattle.netlist_arena.specs.Arena.{ArenaView}
use Rattle.netlist_unlink.specs.Trees.{naming_of}
use Rattle.netlist_unlink.proofs.ItemLaws.{items_all, items_more, items_same, past_all}
use Rattle.netlist_unlink.proofs.Facts.{not_live}
use Rattle.netlist_unlink.proofs.cells.tree_items.Goals as goal
use Rattle.netlist_unlink.proofs.cells.tree_items.Goals.{then-is_live+in_ok-item+in_ok-push, else-is_live}

pub returns-then-seen-live-clause-items : goal.returns-then-seen-live-clause-items
returns-then-seen-live-clause-items c =
    items_all (naming_of c.args.linked.now c.args.prefix.now) c.args.linked.now.arena.lists.cells c.loop-number.number c.loop-number.seen c.loop-number.items c.loop-number.invariant
    (c.if-seen-live.true ∙ c.cell_count-live.ensures ∙ ap (λ (a : ArenaView). cell_count a.lists) c.netlist.ensures.netlist)

pub returns-then-seen-live-clause-numbers : goal.returns-then-seen-live-clause-numbers
returns-then-seen-live-clause-numbers c = λ i live. elim (cases_lt i 4294967296) [
  | inl less ↦ less
  | inr high ↦
      let test : c.loop-number.number < 4294967295 = c.loop-number-test.true in
      let none = past_all (naming_of c.args.linked.now c.args.prefix.now) c.args.linked.now.arena.lists.cells c.loop-number.number c.loop-number.seen c.loop-number.items c.loop-number.invariant
      (c.if-seen-live.true ∙ c.cell_count-live.ensures ∙ ap (λ (a : ArenaView). cell_count a.lists) c.netlist.ensures.netlist) i (omega arith) in
      let P : Option CellView → Type 0 = λ o. IsSome o in
      let bad : false ≡ true = subst P none live in
      absurd (cc)
]

pub loop-number-preserved : goal.loop-number-preserved
loop-number-preserved c =
    let naming = naming_of c.args.linked.now c.args.prefix.now in
    let cells = c.args.linked.now.arena.lists.cells in
    elim c.if-is_live.branch [
      | then-is_live+in_ok-item+in_ok-push w ↦
          items_more naming cells c.loop-number.number c.loop-number.seen c.if-is_live.seen c.loop-number.items c.if-is_live.items w.in_ok-item.field-0 c.loop-number.invariant
          w.in_ok-item.ensures w.seen-is (w.items-is ∙ w.in_ok-push.ensures.ok)
      | else-is_live w ↦
          items_same naming cells c.loop-number.number c.loop-number.seen c.if-is_live.seen c.loop-number.items c.if-is_live.items c.loop-number.invariant
          (not_live c.netlist-in-loop-number.result.now c.args.linked.now.arena c.loop-number.number c.is_live.result c.netlist-in-loop-number.ensures.netlist c.is_live.ensures w.if-is_live.false)
          w.seen-is w.items-is
    ]
