use Rattle.verilog_lexicon.specs.Words.{reserved_in}
use Rattle.verilog_lexicon.proofs.Entries.{at_some, at_none}
use Rattle.verilog_lexicon.proofs.words.Words.reserved_at.Goals as goal

pub returns-in-Some : goal.returns-in-Some
returns-in-Some c =
    at_some reserved_in c.self.inside.names.items c.self.inside.entries.items _ c.self.inside.end c.args.number c.args.self.now c.in-Some.entry _ c.self.view_is c.as_slice.ensures.value c.in-Some.ensures (c.reserved.ensures c.self.inside.names.items)

pub returns-in-None : goal.returns-in-None
returns-in-None c =
    at_none reserved_in c.self.inside.names.items c.self.inside.entries.items _ c.self.inside.end c.args.number c.args.self.now c.self.view_is c.as_slice.ensures.value c.in-None.ensures
