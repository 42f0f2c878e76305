use Rattle.std.proofs.Common.{[]}
use Rattle.wrapped_chip.specs.Home.{home_tdo}
use Rattle.wrapped_chip.proofs.copies.renumbered_finds_home.Goals as goal

pub returns : goal.returns
returns c = λ M M' N B to at r formed has stay finds. c.renumbered_finds_home_by.ensures M M' N B [] home_tdo to at r formed has stay finds
