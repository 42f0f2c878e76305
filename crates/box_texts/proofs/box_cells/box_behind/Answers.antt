use Rattle.std.proofs.Common.{◌+◌, refl, sym, ◌∙◌}
use Rattle.cell_text.proofs.Parts.{rest_all}
use Rattle.box_texts.proofs.PortLoops.{sides_read}
use Rattle.box_texts.proofs.box_cells.box_behind.Goals as goal

pub returns-in-Some : goal.returns-in-Some
returns-in-Some c =
    let words = c.args.words.now in
    let place = c.in-Some.place in
    sides_read c.args.name.now words _ _ place c.box_of.result (sym c.colon_place.ensures ∙ c.in-Some.is) c.box_of.ensures refl (rest_all (place + 1) words)
