use Rattle.status_stitch.proofs.RealisedLaws.{bypasses}
use Rattle.status_stitch.proofs.realised.own_instructions_bypass.Goals as goal

pub returns : goal.returns
returns c = bypasses
