use Rattle.status_insertions.proofs.Made.{extended_told}
use Rattle.status_insertions.proofs.written_texts.extended_text.Goals as goal

pub returns : goal.returns
returns c = extended_told c.canonical_extended_texts_spell.ensures c.spells_one_extended.ensures c.print_extended.result c.args.extended.now c.requires c.print_extended.ensures
