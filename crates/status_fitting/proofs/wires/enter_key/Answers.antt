use Rattle.status_fitting.proofs.wires.enter_key.Goals as goal

pub returns : goal.returns
returns c = λ k. c.in_ok-insert.ensures.updates.0 k
