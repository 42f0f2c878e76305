use Rattle.std.proofs.Common.{◌∙◌}
use Rattle.link_names.proofs.CellNumbers.{number_found}
use Rattle.link_names.proofs.cell_numbers.place_of.Goals as goal

pub returns : goal.returns
returns c = c.copied.ensures ∙ c.get.ensures.value ∙ number_found c.args.name.now c.args.numbers.now.entries c.args.library.now c.requires
