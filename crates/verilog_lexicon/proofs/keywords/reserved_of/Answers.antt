use Rattle.std.proofs.Common.{List, ◌∙◌, sym, ap, arith}
use Rattle.verilog_lexicon.specs.declared.reserved.Reserved.{Reserved}
use Rattle.verilog_lexicon.specs.ByLetter.{spelled_by}
use Rattle.verilog_lexicon.proofs.ByLetter.{found_by_letter}
use Rattle.verilog_lexicon.proofs.KeyWordLaws.{none_too_short, none_without_letter}
use Rattle.verilog_lexicon.proofs.keywords.reserved_of.Goals as goal

pub returns-in_default : goal.returns-in_default
returns-in_default c = sym (none_too_short c.args.name.now (omega arith))

pub returns-then-second-lt97 : goal.returns-then-second-lt97
returns-then-second-lt97 c = sym (none_without_letter c.args.name.now c.if-second-lt97.true)

pub returns : goal.returns
returns c =
    c.spelled_by.ensures
    ∙ ap (λ (words : List Reserved). spelled_by c.args.name.now words) c.words_with.ensures
    ∙ found_by_letter c.args.name.now
