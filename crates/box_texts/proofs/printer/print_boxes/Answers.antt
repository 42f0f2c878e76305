use Rattle.box_texts.proofs.ReadsBack.{text_spells}
use Rattle.box_texts.proofs.printer.print_boxes.Goals as goal

pub returns-clause-reads_back : goal.returns-clause-reads_back
returns-clause-reads_back c = text_spells c.texts_of_rows_read_back.ensures c.args.library.now c.canonical_text.result c.canonical_text.ensures
