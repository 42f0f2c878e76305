use Rattle.std.proofs.Common.{ℕ, List, ◌≡◌, ◌+◌, ◌-◌, ◌≤◌, arith, ap, refl, length, take, drop, length-drop}
use Rattle.std.proofs.lemmas.List.{take_rest}
use Rattle.std.proofs.lemmas.List.Sums.{prefix_len-le-length}
use Rattle.std.specs.List.{prefix_len}
use Rattle.verilog_lexicon.specs.Bytes.{is_blank}
use Rattle.word_cutter.proofs.Runs.{loop_goes}
use Rattle.verilog_words.specs.Machine.{step}
use Rattle.verilog_words.specs.Steps.{state_of}
use Rattle.verilog_words.proofs.Taken.{blanks_same}
use Rattle.verilog_words.proofs.machine.WordMachine.with_blanks.Goals as goal

-- how many bytes come after so many, at least as many as are blank
fits : (piece : List ℕ) (i n : ℕ) → i ≤ length piece → n ≡ prefix_len is_blank (take (length piece - i) (drop i piece)) → i + n ≤ length piece
fits piece i n within is = omega (arith, is, within, prefix_len-le-length is_blank (take (length piece - i) (drop i piece)), ap length (take_rest piece i), length-drop i piece)

pub overflow_add-result : goal.overflow_add-result
overflow_add-result c = omega (arith, c.requires.room, fits c.args.piece.now c.args.count c.run_len-blanks.result c.requires.within c.run_len-blanks.ensures)

pub returns-clause-most : goal.returns-clause-most
returns-clause-most c = fits c.args.piece.now c.args.count c.run_len-blanks.result c.requires.within c.run_len-blanks.ensures

pub returns-clause-stays : goal.returns-clause-stays
returns-clause-stays c = λ s at ran.
    let piece = c.args.piece.now in
    let i = c.args.count in
    let rest = take (length piece - i) (drop i piece) in
    loop_goes step piece i c.run_len-blanks.result at (at + i) s (state_of c.args.self.now) (state_of c.args.self.now) c.requires.within refl ran
    (blanks_same c.args.self.now rest (at + i) c.run_len-blanks.result c.in-Between.is (omega (arith, c.run_len-blanks.ensures)))
