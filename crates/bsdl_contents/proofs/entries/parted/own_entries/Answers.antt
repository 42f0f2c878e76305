use Rattle.bsdl_contents.proofs.EntriesTold.{own_none}
use Rattle.bsdl_contents.proofs.entries.parted.own_entries.Goals as goal

pub returns-in-None-clause-own : goal.returns-in-None-clause-own
returns-in-None-clause-own c = own_none c.args.bytes.now c.in-None.ensures.place
