use Rattle.std.proofs.Common.{◌≡◌, ℕ, ◌+◌, ◌*◌, ◌-◌, ◌^◌, ◌<◌, [], ◌∷◌, length, ap, sym, subst, ◌∙◌, arith, length-append}
use Rattle.verilog_lexicon.specs.Pieces.{value_from}
use Rattle.verilog_words.proofs.Values.{value_push}
use Rattle.verilog_words.proofs.machine.WordMachine.number_goes.Goals as goal

pub invariant_of-self-2-clause-number : goal.invariant_of-self-2-clause-number
invariant_of-self-2-clause-number c = λ _.
    let old = c.args.self.now in
    let was = old.number c.requires.number in
    let one : length c.push.new.self ≡ length old.pending + 1 = omega (arith, ap length c.in-Ok.ensures.ok, length-append old.pending (c.args.byte ∷ [])) in (
      c.with_digit-value.ensures.value ∙ ap (λ (n : ℕ). 10 * n + (c.args.byte - 48)) was.0 ∙ sym (value_push 0 old.pending c.args.byte) ∙ ap (value_from 0) (sym c.in-Ok.ensures.ok),
      subst (λ (k : ℕ). c.with_digit-value.result < 10 ^ k) (ap (λ (k : ℕ). k + 1) c.len-count.ensures ∙ sym one) c.with_digit-value.ensures.fits,
      omega arith,
    )
