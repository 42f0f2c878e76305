use Rattle.std.proofs.Common.{◌≡◌, ◌+◌, ◌*◌, ◌-◌, take, drop, get_or, ap, sym, ◌∙◌, arith}
use Rattle.std.specs.List.{prefix_len}
use Rattle.std.proofs.lemmas.List.{take_more, drop_more}
use Rattle.std.proofs.lemmas.Bool.{cond-true}
use Rattle.verilog_lexicon.specs.Bytes.{is_digit}
use Rattle.verilog_lexicon.specs.Pieces.{value_from}
use Rattle.verilog_words.proofs.Values.{value_push}
use Rattle.verilog_words.proofs.machine.runs.digits_of.Goals as goal

pub loop-count-preserved : goal.loop-count-preserved
loop-count-preserved c =
    let piece = c.args.piece.now in
    let n = c.loop-count.count in
    let b = get_or piece n 0 in
    let was = c.loop-count.invariant in
    let within = c.loop-count-test.true in
    let rest : prefix_len is_digit (drop n piece) ≡ 1 + prefix_len is_digit (drop (n + 1) piece) = ap (prefix_len is_digit) (drop_more piece n 0 within) ∙ cond-true (is_digit b) _ _ (sym c.is_digit.ensures ∙ c.if-is_digit.true) in record {
      within = omega (arith, within);
      digits = omega (arith, was.digits, rest);
      value = c.with_digit-value.ensures.value ∙ ap (λ v. 10 * v + (b - 48)) was.value ∙ sym (value_push 0 (take n piece) b) ∙ ap (value_from 0) (sym (take_more piece n 0 within));
      fits = c.with_digit-value.ensures.fits;
      few = omega (arith, c.if-count-lt9.true);
    }
