use Rattle.std.proofs.Common.{◌∙◌, ℕ, List, ap}
use Rattle.verilog_lexicon.specs.Words.{name_in}
use Rattle.verilog_lexicon.specs.Entries.{word_of}
use Rattle.verilog_lexicon.proofs.Entries.{at_some, at_none, kept_found}
use Rattle.verilog_lexicon.proofs.words.Words.name_at.Goals as goal

pub name_of-requires : goal.name_of-requires
name_of-requires c =
    kept_found c.self.inside.names.items _ c.self.inside.entries.items _ c.args.number c.in-Some.entry c.self.invariant c.as_slice.ensures.value c.in-Some.ensures c.as_slice-in-Some.ensures.value

pub returns-in-Some : goal.returns-in-Some
returns-in-Some c =
    at_some name_in c.self.inside.names.items c.self.inside.entries.items _ c.self.inside.end c.args.number c.args.self.now c.in-Some.entry _ c.self.view_is c.as_slice.ensures.value c.in-Some.ensures (c.name_of.ensures ∙ ap (λ (l : List ℕ). name_in (word_of l c.in-Some.entry.mark)) c.as_slice-in-Some.ensures.value)

pub returns-in-None : goal.returns-in-None
returns-in-None c =
    at_none name_in c.self.inside.names.items c.self.inside.entries.items _ c.self.inside.end c.args.number c.args.self.now c.self.view_is c.as_slice.ensures.value c.in-None.ensures
