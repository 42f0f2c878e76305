use Rattle.std.proofs.Common.{ℕ, List, Bor, sym, ap, ◌∙◌}
use Rattle.texts.specs.Repeated.{texts}
use Rattle.cell_text.specs.Cells.{cell_in}
use Rattle.cell_text.proofs.Borrowed.{item_at}
use Rattle.cell_text.proofs.Loop.{next_can, next_is, body_is}
use Rattle.cell_text.proofs.reader.add_cells.Goals as goal

pub add-requires-clause-room : goal.add-requires-clause-room
add-requires-clause-room c =
    let lines = c.args.lines.now in
    let k = c.loop-line.line-index in
    let can = next_can c.own_names_are_exact.ensures lines k _ (texts c.gather_words.new.words.items) c.loop-line.library c.in-Some.cell c.requires.can (item_at lines k _ c.loop-line-test.true)
    c.in_ok-gather_words.ensures c.loop-line.invariant (sym c.in-Some.is ∙ c.in_ok-cell.ensures ∙ ap (λ (l : List (Bor (List ℕ))). cell_in (texts l)) c.as_slice.ensures.value) in
    can.room

pub add-requires-clause-sound : goal.add-requires-clause-sound
add-requires-clause-sound c =
    let lines = c.args.lines.now in
    let k = c.loop-line.line-index in
    let can = next_can c.own_names_are_exact.ensures lines k _ (texts c.gather_words.new.words.items) c.loop-line.library c.in-Some.cell c.requires.can (item_at lines k _ c.loop-line-test.true)
    c.in_ok-gather_words.ensures c.loop-line.invariant (sym c.in-Some.is ∙ c.in_ok-cell.ensures ∙ ap (λ (l : List (Bor (List ℕ))). cell_in (texts l)) c.as_slice.ensures.value) in
    can.sound

pub add-requires-clause-name : goal.add-requires-clause-name
add-requires-clause-name c =
    let lines = c.args.lines.now in
    let k = c.loop-line.line-index in
    let can = next_can c.own_names_are_exact.ensures lines k _ (texts c.gather_words.new.words.items) c.loop-line.library c.in-Some.cell c.requires.can (item_at lines k _ c.loop-line-test.true)
    c.in_ok-gather_words.ensures c.loop-line.invariant (sym c.in-Some.is ∙ c.in_ok-cell.ensures ∙ ap (λ (l : List (Bor (List ℕ))). cell_in (texts l)) c.as_slice.ensures.value) in
    can.name

pub returns-in-None-clause-fault : goal.returns-in-None-clause-fault
returns-in-None-clause-fault c =
    let lines = c.args.lines.now in
    let k = c.loop-line.line-index in
    body_is lines k _ (texts c.gather_words.new.words.items) c.loop-line.library c.in_ok-from_bytes-in-None.field-0 c.requires.can (item_at lines k _ c.loop-line-test.true)
    c.in_ok-gather_words.ensures c.loop-line.invariant (sym c.in-None.is ∙ c.in_ok-cell.ensures ∙ ap (λ (l : List (Bor (List ℕ))). cell_in (texts l)) c.as_slice.ensures.value) (c.in_ok-from_bytes-in-None.ensures ∙ c.name_in.ensures)

pub loop-line-preserved : goal.loop-line-preserved
loop-line-preserved c =
    let lines = c.args.lines.now in
    let k = c.loop-line.line-index in
    next_is lines k _ (texts c.gather_words.new.words.items) c.loop-line.library c.add.new.self c.in-Some.cell c.requires.can (item_at lines k _ c.loop-line-test.true)
    c.in_ok-gather_words.ensures c.loop-line.invariant (sym c.in-Some.is ∙ c.in_ok-cell.ensures ∙ ap (λ (l : List (Bor (List ℕ))). cell_in (texts l)) c.as_slice.ensures.value) c.in_ok-add-in-Some.ensures.ok
