use Rattle.scan_vectors.proofs.Printed.{canonical_spells}
use Rattle.scan_vectors.proofs.laws.canonical_texts_spell_their_lines.Goals as goal

pub returns : goal.returns
returns c = canonical_spells c.texts_of_rows_read_back.ensures
