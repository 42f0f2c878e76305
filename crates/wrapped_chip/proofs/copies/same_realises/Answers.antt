use Rattle.wrapped_chip.specs.Realises.{chip_tdo}
use Rattle.wrapped_chip.proofs.copies.same_realises.Goals as goal

pub returns : goal.returns
returns c = λ M M' N B library ports cells formed realises. c.same_realises_by.ensures M M' N B chip_tdo library ports cells formed realises
