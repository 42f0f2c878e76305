use Rattle.std.proofs.Common.{sym, subst, ◌∙◌}
use Rattle.std.proofs.lemmas.Option.{same_Some}
use Rattle.verilog_words.specs.Fed.{IsEndFault}
use Rattle.verilog_words.specs.Steps.{state_of}
use Rattle.verilog_words.specs.declared.fault.WordFault.{WordFault}
use Rattle.verilog_words.proofs.Feeds.{text_ends, text_end, text_fault, unique}
use Rattle.verilog_words.proofs.cutter.Cutter.finish.Goals as goal

pub returns-in-Err-clause-fault : goal.returns-in-Err-clause-fault
returns-in-Err-clause-fault c = λ bytes fed.
    subst (λ (w : WordFault). IsEndFault w bytes) (sym c.from.ensures) (text_fault bytes c.args.self.cutter.at (state_of c.args.self.cutter.machine) c.in-Err.e fed.ran fed.at_is (c.in-Err.ensures.fault bytes fed))

pub returns-clause-words : goal.returns-clause-words
returns-clause-words c = λ bytes fed. text_ends bytes c.args.self.cutter.at (state_of c.args.self.cutter.machine) c.in-Ok.words fed.ran c.in-Ok.ensures.words

pub returns-clause-only : goal.returns-clause-only
returns-clause-only c = λ bytes fed words cut. same_Some _ _ (unique bytes words c.in-Ok.words.list cut (text_ends bytes c.args.self.cutter.at (state_of c.args.self.cutter.machine) c.in-Ok.words fed.ran c.in-Ok.ensures.words))

pub returns-clause-end : goal.returns-clause-end
returns-clause-end c = λ bytes fed. text_end c.args.self.cutter.at (state_of c.args.self.cutter.machine) c.in-Ok.words c.in-Ok.ensures.words ∙ fed.at_is
