use Rattle.std.proofs.Common.{List, ℕ, Some, arith, ap, sym, ◌∙◌}
use Rattle.std.proofs.lemmas.List.Sums.{prefix_len-le-length}
use Rattle.bsdl_lexicon.specs.Bytes.{is_letter_or_digit}
use Rattle.bsdl_words.specs.declared.mode.Mode.TheVariants as in_
use Rattle.bsdl_words.specs.declared.mode.Mode.{Mode}
use Rattle.bsdl_words.specs.Machine.{state}
use Rattle.bsdl_words.specs.Steps.{from_in, pending_in}
use Rattle.bsdl_words.proofs.Runs.{name_goes}
use Rattle.bsdl_words.proofs.machine.BsdlMachine.keep_letters.Goals as goal

pub returns : goal.returns
returns c =
    let piece = c.args.piece.now in
    let n = c.args.count in
    let old = c.args.self.now in (
      omega arith,
      omega (arith, c.requires.all, prefix_len-le-length is_letter_or_digit piece),
      name_goes old piece c.args.at n c.requires.name (omega (arith, c.requires.all)) c.requires.short
          ∙ ap (λ (l : List ℕ). Some (state old.words in_.Name old.from l)) (sym c.in-Ok.ensures.ok)
          ∙ ap (λ (k : Mode). Some (state old.words k (from_in k old.from) (pending_in k c.append.new.self))) (sym c.requires.name),
    )
