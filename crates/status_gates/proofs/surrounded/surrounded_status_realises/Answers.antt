use Rattle.status_gates.proofs.Realises.{realises_status}
use Rattle.status_gates.proofs.surrounded.surrounded_status_realises.Goals as goal

pub returns : goal.returns
returns c = realises_status
    (record {
      follows = c.surrounded_core_follows.ensures;
      reading = record {
        tdo = c.extended_tdo_follows.ensures;
        stand = record { inverses = c.inverses_tell.ensures; registers = c.registers_tell.ensures };
      };
      gates = c.data_registers_follow.ensures;
      legible = c.instructions_stay_legible.ensures;
      moments = c.moments_of_a_run.ensures;
      exists = c.some_run_beside.ensures;
    })
