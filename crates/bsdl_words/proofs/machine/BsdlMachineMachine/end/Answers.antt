use Rattle.std.proofs.Common.{List, ap}
use Rattle.std.specs.Option.{option_map}
use Rattle.bsdl_lexicon.specs.declared.token.BsdlSpanned.{BsdlSpanned}
use Rattle.bsdl_words.specs.Machine.{end}
use Rattle.bsdl_words.specs.Steps.{state_of}
use Rattle.word_cutter.proofs.Cases.{map_fault}
use Rattle.bsdl_words.proofs.machine.BsdlMachineMachine.end.Goals as goal

pub returns-in-Err-clause-fault : goal.returns-in-Err-clause-fault
returns-in-Err-clause-fault c = map_fault _ c.in-Err.e c.args.at (end (state_of c.args.self)) c.in-Err.ensures

pub returns-clause-words : goal.returns-clause-words
returns-clause-words c = ap (option_map (λ (words : List BsdlSpanned). record { list = words; end = c.args.at })) c.in_default.ensures
