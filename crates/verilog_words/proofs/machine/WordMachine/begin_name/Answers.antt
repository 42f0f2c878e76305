use Rattle.std.proofs.Common.{List, ℕ, ◌++◌, Some, arith, ap, sym, ◌∙◌, length}
use Rattle.std.proofs.Math.Seq.{take-length}
use Rattle.verilog_words.specs.declared.mode.Mode.TheVariants as in_
use Rattle.verilog_words.specs.Machine.{state}
use Rattle.verilog_words.proofs.Taken.{begun}
use Rattle.verilog_words.proofs.machine.WordMachine.begin_name.Goals as goal

pub returns : goal.returns
returns c =
    let piece = c.args.piece.now in
    let old = c.args.self.now in (
      c.requires.some,
      omega arith,
      begun old piece (length piece) c.args.at c.requires.between c.requires.letter c.requires.some (omega (arith, c.requires.all)) c.requires.short
          ∙ ap (λ (l : List ℕ). Some (state old.words.list in_.Name c.args.at l)) (take-length piece ∙ sym (c.in-Ok.ensures.ok ∙ ap (λ (l : List ℕ). l ++ piece) c.clear.ensures)),
    )
