use Rattle.cell_library.proofs.NameLaws.{names_are_exact}
use Rattle.cell_library.proofs.library_names_are_exact.Goals as goal

pub returns : goal.returns
returns c = names_are_exact c.own_names_are_exact.ensures
