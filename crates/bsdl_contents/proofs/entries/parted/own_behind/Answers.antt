use Rattle.std.proofs.Common.{sym, ◌∙◌}
use Rattle.bsdl_contents.proofs.EntriesTold.{own_wrong, own_found}
use Rattle.bsdl_contents.proofs.entries.parted.own_behind.Goals as goal

pub returns-in-None-clause-own : goal.returns-in-None-clause-own
returns-in-None-clause-own c = own_wrong c.args.bytes.now c.args.place c.requires.there (sym c.in_ok-held.ensures ∙ c.in-None.is)

pub returns-in-Some-clause-own : goal.returns-in-Some-clause-own
returns-in-Some-clause-own c = own_found c.args.bytes.now c.args.place c.in-Some.entries c.requires.there (sym c.in_ok-held.ensures ∙ c.in-Some.is)
