use Rattle.std.proofs.Common.{◌<◌, List, length, sym, subst}
use Rattle.cell_library.specs.declared.listed.ListedCell.{ListedCell}
use Rattle.cell_library.specs.Sound.{IsNewTo}
use Rattle.cell_library.proofs.Libraries.{grown, added}
use Rattle.cell_library.proofs.listed.Library.add.Goals as goal

pub invariant_of-self : goal.invariant_of-self
invariant_of-self c =
    let old : List ListedCell = c.self.inside.cells in
    let room : length old < 4096 = subst (λ (l : List ListedCell). length l < 4096) (sym c.self.view_is) c.requires.room in
    let new : IsNewTo old c.args.cell.name = subst (λ (l : List ListedCell). IsNewTo l c.args.cell.name) (sym c.self.view_is) c.requires.name in
    added c.push.result old c.push.new.self c.args.cell c.push.ensures.ok c.push.ensures.err c.self.invariant (grown old c.args.cell c.self.invariant room c.requires.sound new)
