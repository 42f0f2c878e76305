use Rattle.std.proofs.Common.{◌≡◌, length, rules}
use Rattle.scan_vectors.proofs.Pins.{printable_at_end}
use Rattle.scan_vectors.proofs.event_text.read_events.Goals as goal

pub returns-clause-printable : goal.returns-clause-printable
returns-clause-printable c =
    let none : length c.loop-rest.rest.now ≡ 0 = search rules in
    printable_at_end c.rows_of_texts_are_rows.ensures c.args.bytes.now c.loop-rest.reader.lines c.loop-rest.reader.begun c.loop-rest.rest.now c.if-not-begun.false none c.loop-rest.invariant.reading
