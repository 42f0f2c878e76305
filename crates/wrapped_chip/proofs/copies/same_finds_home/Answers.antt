use Rattle.std.proofs.Common.{[]}
use Rattle.wrapped_chip.specs.Home.{home_tdo}
use Rattle.wrapped_chip.proofs.copies.same_finds_home.Goals as goal

pub returns : goal.returns
returns c = λ M M' N B library ports cells formed has finds. c.same_finds_home_by.ensures M M' N B [] home_tdo library ports cells formed has finds
