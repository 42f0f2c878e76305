use Rattle.std.proofs.Common.{ℕ, List, sym, subst}
use Rattle.plan_texts.specs.Grammar.{SpellsPlan}
use Rattle.plan_texts.proofs.Printed.{if_ok}
use Rattle.plan_texts.proofs.Again.{plan_reads_back}
use Rattle.plan_texts.proofs.printer.print_plan.Goals as goal

pub returns-clause-reads_back : goal.returns-clause-reads_back
returns-clause-reads_back c = if_ok c.write_plan.result c.write_plan.ensures
    (λ text e. subst (λ (t : List ℕ). SpellsPlan t c.args.plan.now) (sym e)
    (plan_reads_back c.rows_of_texts_are_rows.ensures c.texts_of_rows_read_back.ensures c.args.plan.now c.requires))
