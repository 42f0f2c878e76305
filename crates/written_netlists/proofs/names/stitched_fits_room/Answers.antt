use Rattle.written_netlists.proofs.NamesFew.{fits_room as lemma}
use Rattle.written_netlists.proofs.names.stitched_fits_room.Goals as goal

pub returns : goal.returns
returns c = lemma
