use Rattle.std.proofs.Common.{◌++◌, sym, subst}
use Rattle.bsdl_words.specs.Fed.{IsFault}
use Rattle.bsdl_words.specs.Steps.{state_of}
use Rattle.bsdl_words.specs.declared.fault.BsdlWordFault.{BsdlWordFault}
use Rattle.bsdl_words.proofs.Feeds.{stops_fault, runs}
use Rattle.bsdl_words.proofs.cutter.BsdlCutter.feed.Goals as goal

pub returns-in-Err-clause-fault : goal.returns-in-Err-clause-fault
returns-in-Err-clause-fault c = λ bytes fed.
    subst (λ (w : BsdlWordFault). IsFault w (bytes ++ c.args.piece.now)) (sym c.from.ensures) (stops_fault (bytes ++ c.args.piece.now) c.in-Err.e (c.in-Err.ensures.fault bytes fed))

pub returns-clause-begins : goal.returns-clause-begins
returns-clause-begins c = λ bytes fed. runs (bytes ++ c.args.piece.now) (state_of c.feed.new.self.machine) (c.in_default.ensures.fed bytes fed).ran
