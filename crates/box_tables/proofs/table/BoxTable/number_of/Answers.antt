use Rattle.std.proofs.Common.{ℕ, List, length, position, ◌∙◌, ap, arith}
use Rattle.std.specs.Str.{bytes_eq}
use Rattle.std.proofs.lemmas.List.{length-map}
use Rattle.cell_library.specs.declared.listed.ListedCell.{ListedCell}
use Rattle.box_model.specs.declared.boxes.BoxLibrary.{BoxLibrary}
use Rattle.box_tables.proofs.Places.{position-map, position_low}
use Rattle.box_tables.proofs.table.BoxTable.number_of.Goals as goal

pub returns-in-None : goal.returns-in-None
returns-in-None c =
    c.in-None.ensures ∙ ap (position (bytes_eq c.args.cell.now)) c.self.invariant.cells_are
    ∙ position-map (bytes_eq c.args.cell.now) (λ (x : ListedCell). x.name) c.self.inside.library.now.cells
    ∙ ap (λ (b : BoxLibrary). position (λ (x : ListedCell). bytes_eq c.args.cell.now x.name) b.cells) c.self.view_is

pub overflow_cast-number : goal.overflow_cast-number
overflow_cast-number c =
    let low = position_low (bytes_eq c.args.cell.now) c.self.inside.cells c.in-Some.place c.in-Some.ensures in
    let same = ap (λ (l : List (List ℕ)). length l) c.self.invariant.cells_are in
    let long = length-map c.self.inside.library.now.cells (λ (x : ListedCell). x.name) in
    omega (arith, low, same, long)

pub returns-in-Some : goal.returns-in-Some
returns-in-Some c =
    c.in-Some.ensures ∙ ap (position (bytes_eq c.args.cell.now)) c.self.invariant.cells_are
    ∙ position-map (bytes_eq c.args.cell.now) (λ (x : ListedCell). x.name) c.self.inside.library.now.cells
    ∙ ap (λ (b : BoxLibrary). position (λ (x : ListedCell). bytes_eq c.args.cell.now x.name) b.cells) c.self.view_is
