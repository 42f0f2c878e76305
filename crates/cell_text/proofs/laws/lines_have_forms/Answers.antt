use Rattle.cell_text.proofs.Spelled.{lines_have_forms}
use Rattle.cell_text.proofs.laws.lines_have_forms.Goals as goal

pub returns : goal.returns
returns c = lines_have_forms c.own_names_are_exact.ensures
