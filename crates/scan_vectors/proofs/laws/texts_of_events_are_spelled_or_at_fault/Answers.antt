use Rattle.scan_vectors.proofs.Spelled.{spelled_once, spelled_is_faultless, faultless_is_spelled}
use Rattle.scan_vectors.proofs.Printed.{printable_iff}
use Rattle.scan_vectors.proofs.laws.texts_of_events_are_spelled_or_at_fault.Goals as goal

pub returns : goal.returns
returns c = record {
  once = spelled_once;
  faultless = spelled_is_faultless;
  spelled = faultless_is_spelled;
  printable = printable_iff c.rows_of_texts_are_rows.ensures c.texts_of_rows_read_back.ensures;
}
