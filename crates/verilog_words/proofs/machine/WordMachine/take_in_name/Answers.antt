use Rattle.std.proofs.Common.{◌≡◌, ◌≤◌, ◌++◌, Some, arith, ap, ◌∙◌, take, length}
use Rattle.std.proofs.lemmas.List.{length-take-le}
use Rattle.std.proofs.lemmas.List.Sums.{prefix_len-le-length}
use Rattle.verilog_lexicon.specs.Bytes.{is_name_byte}
use Rattle.verilog_lexicon.specs.Words.{WordText}
use Rattle.verilog_words.specs.declared.mode.Mode.TheVariants as in_
use Rattle.verilog_words.specs.Machine.{State}
use Rattle.verilog_words.proofs.Taken.{name_refused, name_goes, kept_more}
use Rattle.verilog_words.proofs.machine.WordMachine.take_in_name.Goals as goal

pub returns-in-Err : goal.returns-in-Err
returns-in-Err c =
    let piece = c.args.piece.now in
    let n = c.run_len-count.result in
    let fits : n ≤ length piece = omega (arith, c.run_len-count.ensures, prefix_len-le-length is_name_byte piece) in
    let len : length (take n piece) ≡ n = length-take-le n piece fits in
    name_refused c.args.self.now piece c.args.at (length (take n piece)) c.in-Err.e c.requires.name c.args.self.now.short (omega (arith, len, c.run_len-count.ensures)) c.in-Err.ensures.err

pub returns : goal.returns
returns c =
    let piece = c.args.piece.now in
    let n = c.run_len-count.result in
    let old = c.args.self.now in
    let new = c.keep_run.new.self in
    let got = c.in_default.ensures in
    let fits : n ≤ length piece = omega (arith, c.run_len-count.ensures, prefix_len-le-length is_name_byte piece) in
    let len : length (take n piece) ≡ n = length-take-le n piece fits in (
      omega arith,
      fits,
      name_goes old piece c.args.at n c.requires.name (omega (arith, c.run_len-count.ensures)) (omega (arith, len, got.short))
          ∙ ap (λ (s : State). Some s) (kept_more new old.words.list in_.Name old.from (old.pending ++ take n piece) (ap (λ (t : WordText). t.list) got.others.0) (got.others.1 ∙ c.requires.name) got.others.2 got.kept),
    )
