use Rattle.std.proofs.Common.{◌≡◌, ◌++◌, List, Some, None, refl, ap, sym, ◌∙◌}
use Rattle.std.proofs.lemmas.Result.{IfOk-weaker}
use Rattle.verilog_tree.specs.declared.tree.Port.{Port}
use Rattle.verilog_tree.specs.declared.tree.Item.{Item}
use Rattle.box_model.specs.Ports.{cut_ports}
use Rattle.box_trees.proofs.Parts.{nothing_more, whole_item, whole_hidden, whole_joined, cut_item, cut_hidden, cut_joined}
use Rattle.box_trees.proofs.item_opening.push_cell.Goals as goal

pub returns-in-Some-clause-items : goal.returns-in-Some-clause-items
returns-in-Some-clause-items c =
    let B = c.args.table.now in
    let some : cut_ports B c.args.instance ≡ Some c.in-Some.ports.now = sym c.in-Some.ensures in
    IfOk-weaker c.push_instance.result _ _ (λ x is. is ∙ ap (λ (l : List Item). c.args.made.now.items ++ l) (sym (cut_item B c.args.nets.now c.args.instance c.in-Some.ports.now some))) c.push_instance.ensures.items

pub returns-in-Some-clause-hidden : goal.returns-in-Some-clause-hidden
returns-in-Some-clause-hidden c =
    let B = c.args.table.now in
    let some : cut_ports B c.args.instance ≡ Some c.in-Some.ports.now = sym c.in-Some.ensures in
    IfOk-weaker c.push_instance.result _ _ (λ x is. is ∙ ap (λ (l : List Port). c.args.made.now.hidden ++ l) (sym (cut_hidden B c.args.instance c.in-Some.ports.now some))) c.push_instance.ensures.hidden

pub returns-in-Some-clause-joined : goal.returns-in-Some-clause-joined
returns-in-Some-clause-joined c =
    let B = c.args.table.now in
    let some : cut_ports B c.args.instance ≡ Some c.in-Some.ports.now = sym c.in-Some.ensures in
    IfOk-weaker c.push_instance.result _ _ (λ x is. is ∙ ap (λ l. c.args.made.now.joined ++ l) (sym (cut_joined B c.args.nets.now c.args.instance c.in-Some.ports.now some))) c.push_instance.ensures.joined

pub returns-in-None-clause-items : goal.returns-in-None-clause-items
returns-in-None-clause-items c =
    let B = c.args.table.now in
    let none : cut_ports B c.args.instance ≡ None = sym c.in-None.ensures in
    IfOk-weaker c.push.result _ _ (λ x is. is ∙ ap (λ (l : List Item). c.args.made.now.items ++ l) (sym (whole_item B c.args.nets.now c.args.instance none))) c.push.ensures.ok

pub returns-in-None-clause-hidden : goal.returns-in-None-clause-hidden
returns-in-None-clause-hidden c =
    let B = c.args.table.now in
    let none : cut_ports B c.args.instance ≡ None = sym c.in-None.ensures in
    IfOk-weaker c.push.result _ _ (λ x is. nothing_more c.args.made.now.hidden c.args.made.now.hidden _ refl (whole_hidden B c.args.instance none)) c.push.ensures.ok

pub returns-in-None-clause-joined : goal.returns-in-None-clause-joined
returns-in-None-clause-joined c =
    let B = c.args.table.now in
    let none : cut_ports B c.args.instance ≡ None = sym c.in-None.ensures in
    IfOk-weaker c.push.result _ _ (λ x is. nothing_more c.args.made.now.joined c.args.made.now.joined _ refl (whole_joined B c.args.nets.now c.args.instance none)) c.push.ensures.ok
