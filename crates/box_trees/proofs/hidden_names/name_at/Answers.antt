use Rattle.std.proofs.Common.{◌≡◌, ℕ, List, Some, ap, sym, ◌∙◌}
use Rattle.verilog_tree.specs.declared.tree.Link.{Link}
use Rattle.box_model.specs.Ports.{hidden_name, linked_to}
use Rattle.box_tables.specs.Nets.{is_joined_as}
use Rattle.box_trees.proofs.HiddenParts.{linked_name_at}
use Rattle.box_trees.proofs.hidden_names.name_at.Goals as goal

pub returns-in-Some : goal.returns-in-Some
returns-in-Some c =
    let m = c.args.nets.now in
    let i = c.args.instance.now in
    let p = c.args.port.now in
    let o = c.in-Some.operand.now in
    let some : linked_to i.links p.name ≡ Some o = sym (c.in-Some.ensures ∙ ap (linked_to c.args.links.now) c.as_bytes-3.ensures ∙ ap (λ (l : List Link). linked_to l p.name) c.requires) in
    linked_name_at m i p o c.in_ok-name.name c.joins-joined.result some
    (c.in_ok-name.ensures ∙ ap (λ (n : List ℕ). hidden_name n c.as_bytes-2.result.now) c.as_bytes.ensures ∙ ap (hidden_name i.name) c.as_bytes-2.ensures)
    (c.joins-joined.ensures ∙ ap (λ (n : List ℕ). is_joined_as m n p.range o) c.as_bytes-in-Some.ensures)
