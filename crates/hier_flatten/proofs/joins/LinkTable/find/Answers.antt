use Rattle.std.proofs.Common.{◌≡◌, List, Some, position, ◌∙◌, ap, sym}
use Rattle.std.specs.Str.{bytes_eq}
use Rattle.verilog_tree.specs.declared.tree.Link.{Link}
use Rattle.link_model.specs.Cells.{linked_operand}
use Rattle.hier_flatten.proofs.Joined.{link_nowhere, link_there}
use Rattle.hier_flatten.proofs.joins.LinkTable.find.Goals as goal

pub returns-in-None : goal.returns-in-None
returns-in-None c = link_nowhere c.args.self.now c.args.port.now c.in-None.ensures

pub returns-in-Some : goal.returns-in-Some
returns-in-Some c =
    let links = c.self.inside.links.now in
    let port = c.args.port.now in
    let place : Some c.in-Some.place ≡ position (λ (l : Link). bytes_eq port l.port) links =
    c.in-Some.ensures ∙ ap (λ (ls : List Link). position (λ (l : Link). bytes_eq port l.port) ls) (sym c.self.view_is) in
    c.as_ref.ensures.value ∙ ap (λ (l : Link). l.operand) (sym c.index-self-place.is)
    ∙ link_there links port c.in-Some.place c.index-self-place.result place c.index-self-place.is
    ∙ ap (λ (ls : List Link). linked_operand ls port) c.self.view_is
