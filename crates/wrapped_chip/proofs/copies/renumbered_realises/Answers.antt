use Rattle.wrapped_chip.specs.Realises.{chip_tdo}
use Rattle.wrapped_chip.proofs.copies.renumbered_realises.Goals as goal

pub returns : goal.returns
returns c = λ M M' N B to at r formed stay realises. c.renumbered_realises_by.ensures M M' N B chip_tdo to at r formed stay realises
