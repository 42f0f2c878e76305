use Rattle.std.proofs.Common.{◌∙◌, [], ◌∷◌, ap, map}
use Rattle.indexmap.proofs.CallerLemmas.{insert_entry-new}
use Rattle.link_names.specs.CellNumbers.{number_entry}
use Rattle.link_names.proofs.CellNumbers.{no_entry, numbers-append}
use Rattle.link_names.proofs.cell_numbers.enter.Goals as goal

pub returns : goal.returns
returns c =
    let none = no_entry c.args.name.now c.args.numbers.now.entries c.requires in
    ap (map number_entry) (c.in_ok-insert.ensures.entries ∙ insert_entry-new _ c.args.numbers.now c.args.name c.args.number none)
    ∙ numbers-append c.args.numbers.now.entries ((c.args.name, c.args.number) ∷ [])
