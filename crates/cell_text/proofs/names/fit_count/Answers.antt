use Rattle.std.proofs.Common.{◌≤◌, ◌<◌, ℕ, List, Bor, [], arith, sym, ◌∙◌}
use Rattle.texts.specs.Repeated.{texts}
use Rattle.cell_text.specs.Reader.{fit_count}
use Rattle.cell_text.proofs.Barred.{fit_more, fit_until, fit_all}
use Rattle.cell_text.proofs.names.fit_count.Goals as goal

abbrev no_word : Bor (List ℕ)
no_word = record { ref_ptr = (0, 0); now = [] }

pub loop-count-preserved : goal.loop-count-preserved
loop-count-preserved c =
    let low = c.loop-count-test.true in
    record {
      so_far = fit_more c.args.names.now c.loop-count.count (fit_count (texts c.args.names.now)) no_word low (sym c.is_unfit.ensures ∙ c.if-not-is_unfit.true) c.loop-count.invariant.so_far;
      within = omega arith;
    }

pub returns-else-not-is_unfit-clause-count : goal.returns-else-not-is_unfit-clause-count
returns-else-not-is_unfit-clause-count c =
    fit_until c.args.names.now c.loop-count.count (fit_count (texts c.args.names.now)) no_word c.loop-count-test.true (sym c.is_unfit.ensures ∙ c.if-not-is_unfit.false) c.loop-count.invariant.so_far

pub returns-after-loop-count-clause-count : goal.returns-after-loop-count-clause-count
returns-after-loop-count-clause-count c =
    let out = c.loop-count-test.false in
    fit_all c.args.names.now c.loop-count.count (fit_count (texts c.args.names.now)) (omega arith) c.loop-count.invariant.so_far
