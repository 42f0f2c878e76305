use Rattle.std.proofs.Common.{List, position, ◌∙◌, ap}
use Rattle.std.specs.Str.{bytes_eq}
use Rattle.strip_model.specs.declared.Side.{Side}
use Rattle.netlist_recovery.proofs.side_table.SideTable.position.Goals as goal

pub returns : goal.returns
returns c =
    c.copied.ensures ∙ c.get.ensures.value ∙ c.self.invariant.places c.args.name.now
    ∙ ap (λ (list : List Side). position (λ (side : Side). bytes_eq c.args.name.now side.net) list) c.self.view_is
