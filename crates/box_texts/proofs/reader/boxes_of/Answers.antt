use Rattle.std.proofs.Common.{ℕ, List, Bor, sym, ap, ◌∙◌}
use Rattle.texts.specs.Repeated.{texts}
use Rattle.cell_text.proofs.Borrowed.{item_at}
use Rattle.box_texts.specs.Boxes.{box_in}
use Rattle.box_texts.proofs.KeptRows.{bad_box}
use Rattle.box_texts.proofs.reader.boxes_of.Goals as goal

pub returns-in-None-clause-fault : goal.returns-in-None-clause-fault
returns-in-None-clause-fault c =
    let lines = c.args.lines.now in
    let k = c.loop-line.line-index in
    bad_box lines k _ (texts c.gather_words.new.words.items) c.loop-line.found c.in_ok-from_bytes-in-None.field-0 (item_at lines k _ c.loop-line-test.true) c.in_ok-gather_words.ensures c.loop-line.invariant
    (sym c.in-None.is ∙ c.in_ok-cell.ensures ∙ ap (λ (l : List (Bor (List ℕ))). box_in (texts l)) c.as_slice.ensures.value) (c.in_ok-from_bytes-in-None.ensures ∙ c.name_in.ensures)
