use Rattle.std.proofs.Common.{List, position, ◌∙◌, ap}
use Rattle.std.specs.Str.{bytes_eq}
use Rattle.cell_library.specs.declared.listed.ListedCell.{ListedCell}
use Rattle.hier_counts.proofs.cell_names.CellNames.place.Goals as goal

pub returns : goal.returns
returns c =
    c.copied.ensures ∙ c.get.ensures.value ∙ c.self.invariant.places c.args.name.now
    ∙ ap (λ (cells : List ListedCell). position (λ (cell : ListedCell). bytes_eq c.args.name.now cell.name) cells) c.self.view_is
