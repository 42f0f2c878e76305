use Rattle.std.proofs.Common.{Some, sym, ap, ◌∙◌}
use Rattle.cell_text.proofs.Borrowed.{item_at}
use Rattle.box_model.specs.declared.boxes.BoxCell.{BoxCell}
use Rattle.box_texts.proofs.Named.{bare_next}
use Rattle.box_texts.proofs.reader.with_bare_cells.Goals as goal

pub add-requires-clause-sound : goal.add-requires-clause-sound
add-requires-clause-sound c =
    let found = c.args.found.now in
    let k = c.loop-cell.cell-index in
    let item = c.cell-item.result in
    let can = bare_next c.args.cells found k item c.loop-cell.library c.in_ok-bare_cell.field-0 c.as_bytes.result.now c.requires
    (item_at found k item c.loop-cell-test.true ∙ ap (λ (b : BoxCell). Some b) (sym c.cell-item.is)) c.loop-cell.invariant c.in_ok-bare_cell.ensures c.as_bytes.ensures in
    can.sound

pub add-requires-clause-name : goal.add-requires-clause-name
add-requires-clause-name c =
    let found = c.args.found.now in
    let k = c.loop-cell.cell-index in
    let item = c.cell-item.result in
    let can = bare_next c.args.cells found k item c.loop-cell.library c.in_ok-bare_cell.field-0 c.as_bytes.result.now c.requires
    (item_at found k item c.loop-cell-test.true ∙ ap (λ (b : BoxCell). Some b) (sym c.cell-item.is)) c.loop-cell.invariant c.in_ok-bare_cell.ensures c.as_bytes.ensures in
    can.name
