use Rattle.std.proofs.Common.{◌∙◌}
use Rattle.status_fitting.proofs.Rows.{unnamed_word}
use Rattle.status_fitting.proofs.nets.net_of.Goals as goal

pub returns-in_ok-from_bytes-in-None-clause-fault : goal.returns-in_ok-from_bytes-in-None-clause-fault
returns-in_ok-from_bytes-in-None-clause-fault c =
    unnamed_word c.args.wires.now c.args.word.now c.as_bytes.result.now _ c.as_bytes.ensures (c.in_ok-from_bytes-in-None.ensures ∙ c.as_bytes-in-None.ensures) c.in-None.ensures
