use Rattle.std.proofs.Common.{◌≡◌, ◌++◌, List, Some, None, refl, ap, sym, ◌∙◌}
use Rattle.std.proofs.lemmas.Result.{IfOk-weaker}
use Rattle.verilog_tree.specs.declared.tree.Link.{Link}
use Rattle.verilog_tree.specs.declared.tree.Port.{Port}
use Rattle.verilog_tree.specs.declared.tree.Item.{Item}
use Rattle.box_model.specs.Ports.{linked_to}
use Rattle.box_trees.proofs.Parts.{nothing_more, no_items, no_hidden, no_joined, some_items, some_hidden, some_joined}
use Rattle.box_trees.proofs.item_opening.push_cut.Goals as goal

pub returns-in-None-clause-items : goal.returns-in-None-clause-items
returns-in-None-clause-items c =
    let i = c.args.instance.now in
    let p = c.args.port.now in
    let none : linked_to i.links p.name ≡ None = sym (c.in-None.ensures ∙ ap (linked_to c.args.links.now) c.as_bytes.ensures ∙ ap (λ (l : List Link). linked_to l p.name) c.requires) in
    nothing_more c.args.made.now.items c.args.made.now.items _ refl (no_items c.args.nets.now i p none)

pub returns-in-None-clause-hidden : goal.returns-in-None-clause-hidden
returns-in-None-clause-hidden c =
    let i = c.args.instance.now in
    let p = c.args.port.now in
    let none : linked_to i.links p.name ≡ None = sym (c.in-None.ensures ∙ ap (linked_to c.args.links.now) c.as_bytes.ensures ∙ ap (λ (l : List Link). linked_to l p.name) c.requires) in
    nothing_more c.args.made.now.hidden c.args.made.now.hidden _ refl (no_hidden i p none)

pub returns-in-None-clause-joined : goal.returns-in-None-clause-joined
returns-in-None-clause-joined c =
    let i = c.args.instance.now in
    let p = c.args.port.now in
    let none : linked_to i.links p.name ≡ None = sym (c.in-None.ensures ∙ ap (linked_to c.args.links.now) c.as_bytes.ensures ∙ ap (λ (l : List Link). linked_to l p.name) c.requires) in
    nothing_more c.args.made.now.joined c.args.made.now.joined _ refl (no_joined c.args.nets.now i p none)

pub returns-in-Some-clause-items : goal.returns-in-Some-clause-items
returns-in-Some-clause-items c =
    let i = c.args.instance.now in
    let p = c.args.port.now in
    let o = c.in-Some.operand.now in
    let some : linked_to i.links p.name ≡ Some o = sym (c.in-Some.ensures ∙ ap (linked_to c.args.links.now) c.as_bytes.ensures ∙ ap (λ (l : List Link). linked_to l p.name) c.requires) in
    IfOk-weaker c.push_port.result _ _ (λ x is. is ∙ ap (λ (l : List Item). c.args.made.now.items ++ l) (sym (some_items c.args.nets.now i p o some))) c.push_port.ensures.items

pub returns-in-Some-clause-hidden : goal.returns-in-Some-clause-hidden
returns-in-Some-clause-hidden c =
    let i = c.args.instance.now in
    let p = c.args.port.now in
    let o = c.in-Some.operand.now in
    let some : linked_to i.links p.name ≡ Some o = sym (c.in-Some.ensures ∙ ap (linked_to c.args.links.now) c.as_bytes.ensures ∙ ap (λ (l : List Link). linked_to l p.name) c.requires) in
    IfOk-weaker c.push_port.result _ _ (λ x is. is ∙ ap (λ (l : List Port). c.args.made.now.hidden ++ l) (sym (some_hidden i p o some))) c.push_port.ensures.hidden

pub returns-in-Some-clause-joined : goal.returns-in-Some-clause-joined
returns-in-Some-clause-joined c =
    let i = c.args.instance.now in
    let p = c.args.port.now in
    let o = c.in-Some.operand.now in
    let some : linked_to i.links p.name ≡ Some o = sym (c.in-Some.ensures ∙ ap (linked_to c.args.links.now) c.as_bytes.ensures ∙ ap (λ (l : List Link). linked_to l p.name) c.requires) in
    IfOk-weaker c.push_port.result _ _ (λ x is. is ∙ ap (λ l. c.args.made.now.joined ++ l) (sym (some_joined c.args.nets.now i p o some))) c.push_port.ensures.joined
