use Rattle.box_links.proofs.Excluded.{hidden_ports_end}
use Rattle.box_links.proofs.laws.hidden_ports_end.Goals as goal

pub returns : goal.returns
returns c = hidden_ports_end
