use Rattle.std.proofs.Common.{ℕ, Option, is_some, position, ◌∙◌, ap}
use Rattle.std.specs.Str.{bytes_eq}
use Rattle.cell_library.specs.declared.Kind.{Kind}
use Rattle.cell_library.specs.declared.listed.ListedCell.{ListedCell}
use Rattle.cell_library.specs.Library.{own_or_listed}
use Rattle.hier_counts.proofs.CellTables.{listed_alone}
use Rattle.hier_counts.proofs.cell_names.CellNames.has.Goals as goal

pub returns-in-Some : goal.returns-in-Some
returns-in-Some c =
    ap (λ (o : Option Kind). is_some (own_or_listed o (position (λ (cell : ListedCell). bytes_eq c.args.name.now cell.name) c.args.self.now))) c.in-Some.ensures

pub returns-in-None : goal.returns-in-None
returns-in-None c =
    c.is_some.ensures ∙ ap (λ (p : Option ℕ). is_some p) c.place.ensures
    ∙ listed_alone (position (λ (cell : ListedCell). bytes_eq c.args.name.now cell.name) c.args.self.now)
    ∙ ap (λ (o : Option Kind). is_some (own_or_listed o (position (λ (cell : ListedCell). bytes_eq c.args.name.now cell.name) c.args.self.now))) c.in-None.ensures
