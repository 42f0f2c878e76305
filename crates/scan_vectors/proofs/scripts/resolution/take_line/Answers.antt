use Rattle.std.proofs.Common.{sym}
use Rattle.scan_vectors.proofs.ScriptsSteps.{line_refused, line_taken}
use Rattle.scan_vectors.proofs.scripts.resolution.take_line.Goals as goal

pub returns-then-not-take : goal.returns-then-not-take
returns-then-not-take c = λ before after.
    let parts = c.parts_of-parts in
    line_refused c.args.linked.now before c.args.line.now parts.result.act parts.result.word.now parts.result.value c.in_ok-bit.bit c.args.starts.now c.take.new.self
    parts.ensures.act parts.ensures.word parts.ensures.value c.in_ok-bit.ensures (sym c.if-not-suits.ensures) c.if-not-take.ensures after

pub returns : goal.returns
returns c = λ before after.
    let parts = c.parts_of-parts in
    line_taken c.args.linked.now before c.args.line.now parts.result.act parts.result.word.now parts.result.value c.args.number c.in_ok-bit.bit c.args.starts.now c.take.new.self
    parts.ensures.act parts.ensures.word parts.ensures.value c.in_ok-bit.ensures (sym c.if-not-suits.ensures) c.if-not-take.ensures after
