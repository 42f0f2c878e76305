use Rattle.std.proofs.Common.{◌∙◌}
use Rattle.bsdl_lexicon.specs.ByLetter.{reserved_with}
use Rattle.bsdl_lexicon.proofs.ReservedWords.{among_words}
use Rattle.bsdl_lexicon.proofs.reserved.is_reserved_with.Goals as goal

-- src/reserved.rt:123:1
pub returns : goal.returns
returns c = c.is_among.ensures ∙ among_words c.args.name.now c.words_with.result.now (reserved_with c.args.first) c.words_with.ensures
