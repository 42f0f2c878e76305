use Rattle.bsdl_contents.proofs.Held.{one_contents}
use Rattle.bsdl_contents.proofs.laws.strings_hold_one_contents.Goals as goal

pub returns : goal.returns
returns c = one_contents
