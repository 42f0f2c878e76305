use Rattle.status_fitting.proofs.Ports.{no_port_named}
use Rattle.status_fitting.proofs.laws.words_name_no_ports.Goals as goal

pub returns : goal.returns
returns c = no_port_named c.direction_of_a_bit.ensures
