use Rattle.std.proofs.Common.{[]}
use Rattle.wrapped_chip.specs.Home.{home_tdo}
use Rattle.wrapped_chip.proofs.home_is_alone.Goals as goal

pub returns : goal.returns
returns c = λ M B N formed suits. c.home_is_alone_by.ensures M B N [] home_tdo formed suits
