use Rattle.std.proofs.Common.{ℕ, ◌∷◌, [], nat_eq, ◌||◌, take, get_or, ap, sym, ◌∙◌, arith, add-one}
use Rattle.std.proofs.Math.Seq.{take-suc}
use Rattle.std.specs.List.{list_any}
use Rattle.std.proofs.lemmas.List.Folds.{list_any-append}
use Rattle.bsdl_row_rules.proofs.Sets.{inserted}
use Rattle.bsdl_row_rules.proofs.numbers.number_set.Goals as goal

pub loop-number-preserved : goal.loop-number-preserved
loop-number-preserved c = λ n.
    ap (list_any (nat_eq n)) c.in_ok-insert.ensures.keys
    ∙ inserted c.loop-number.set.keys (get_or c.args.numbers.now c.loop-number.number-index 0) n
    ∙ ap (λ b. b || list_any (nat_eq n) (get_or c.args.numbers.now c.loop-number.number-index 0 ∷ [])) (c.loop-number.invariant n)
    ∙ sym (list_any-append (nat_eq n) (take c.loop-number.number-index c.args.numbers.now) (get_or c.args.numbers.now c.loop-number.number-index 0 ∷ []))
    ∙ ap (list_any (nat_eq n)) (sym (ap (λ (k : ℕ). take k c.args.numbers.now) (add-one c.loop-number.number-index) ∙ take-suc c.args.numbers.now c.loop-number.number-index 0 (omega arith)))
