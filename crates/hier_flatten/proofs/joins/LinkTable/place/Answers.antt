use Rattle.std.proofs.Common.{List, position, ◌∙◌, ap}
use Rattle.std.specs.Str.{bytes_eq}
use Rattle.verilog_tree.specs.declared.tree.Link.{Link}
use Rattle.hier_flatten.proofs.joins.LinkTable.place.Goals as goal

pub returns : goal.returns
returns c =
    c.copied.ensures ∙ c.get.ensures.value ∙ c.self.invariant.places c.args.port.now
    ∙ ap (λ (links : List Link). position (λ (l : Link). bytes_eq c.args.port.now l.port) links) c.self.view_is
