use Rattle.bsdl_device.proofs.ReadBack.{canonical_reads_back}
use Rattle.bsdl_device.proofs.round_trip.laws.canonical_reads_back.Goals as goal

pub returns : goal.returns
returns c = canonical_reads_back
