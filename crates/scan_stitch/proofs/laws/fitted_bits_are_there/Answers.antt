use Rattle.scan_stitch.proofs.FittedBits.{bits_are_there}
use Rattle.scan_stitch.proofs.laws.fitted_bits_are_there.Goals as goal

pub returns : goal.returns
returns c = bits_are_there
