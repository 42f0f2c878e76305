use Rattle.status_gates.proofs.Home.{finds_home}
use Rattle.status_gates.proofs.surrounded.surrounded_status_finds_home.Goals as goal

pub returns : goal.returns
returns c = finds_home
    (record {
      home = c.surrounded_core_follows_from_home.ensures;
      reading = record {
        tdo = c.extended_tdo_follows.ensures;
        stand = record { inverses = c.inverses_tell.ensures; registers = c.registers_tell.ensures };
      };
      legible = c.instructions_stay_legible.ensures;
      moments = c.moments_of_a_run.ensures;
    })
