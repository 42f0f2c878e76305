use Rattle.cell_text.proofs.Parts.{rest_all}
use Rattle.box_texts.proofs.Keyed.{is_box_by}
use Rattle.box_texts.proofs.forms.is_box.Goals as goal

pub returns-then-ports : goal.returns-then-ports
returns-then-ports c = is_box_by c.args.words.now _ c.has_colon.result c.has_colon.ensures (rest_all 1 c.args.words.now) c.in-len1-up.len_at_least c.if-ports.true
