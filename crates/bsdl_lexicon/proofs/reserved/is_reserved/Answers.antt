use Rattle.std.proofs.Common.{ℕ, sym, ap, ◌∙◌}
use Rattle.bsdl_lexicon.specs.ByLetter.{is_among, reserved_with}
use Rattle.bsdl_lexicon.proofs.ReservedWords.{empty_is_free, found_by_letter}
use Rattle.bsdl_lexicon.proofs.reserved.is_reserved.Goals as goal

-- src/reserved.rt:136:9
pub returns-in_default : goal.returns-in_default
returns-in_default c = sym (empty_is_free c.args.name.now c.in_default.len_below)

-- src/reserved.rt:131:1
pub returns : goal.returns
returns c =
    c.is_reserved_with.ensures
    ∙ ap (λ (b : ℕ). is_among (reserved_with b) c.args.name.now) c.lower.ensures
    ∙ found_by_letter c.args.name.now
