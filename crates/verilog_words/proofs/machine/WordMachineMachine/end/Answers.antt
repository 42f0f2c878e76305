use Rattle.std.proofs.Common.{List, Some, ap, sym, ◌∙◌}
use Rattle.std.specs.Option.{option_map}
use Rattle.verilog_lexicon.specs.declared.word.Spanned.{Spanned}
use Rattle.verilog_lexicon.specs.Words.{WordText}
use Rattle.verilog_words.specs.Machine.{end}
use Rattle.verilog_words.specs.Steps.{state_of}
use Rattle.word_cutter.proofs.Cases.{map_fault}
use Rattle.verilog_words.proofs.machine.WordMachineMachine.end.Goals as goal

pub returns-in-Err-clause-fault : goal.returns-in-Err-clause-fault
returns-in-Err-clause-fault c = map_fault _ c.in-Err.e c.args.at (end (state_of c.args.self)) c.in-Err.ensures

pub returns-clause-words : goal.returns-clause-words
returns-clause-words c = ap (option_map (λ (words : List Spanned). record { list = words; end = c.args.at })) c.in_default.ensures ∙ ap (λ (t : WordText). Some t) (sym c.set_end.ensures)
