use Rattle.std.proofs.Common.{take, ◌∙◌}
use Rattle.output_lines.proofs.GatheredFronts.{grown_more}
use Rattle.output_lines.proofs.gathered.gathered.Gathered.hand_on.Goals as goal

pub invariant_of-self-clause-grown : goal.invariant_of-self-clause-grown
invariant_of-self-clause-grown g c =
    rw c.put_front-count.ensures.given (grown_more g.F.Origin.first (g.S.Named.given c.args.self.now.lent) (take c.put_front-count.result c.as_bytes-bytes.result.now) c.args.self.now.grown)
