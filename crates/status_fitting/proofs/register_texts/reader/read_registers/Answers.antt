use Rattle.status_fitting.specs.Reader.{few_at}
use Rattle.status_fitting.proofs.Few.{no_plan, plan_and_more, plan_alone, not_so}
use Rattle.status_fitting.proofs.register_texts.reader.read_registers.Goals as goal

pub returns-then-is_empty-clause-gives : goal.returns-then-is_empty-clause-gives
returns-then-is_empty-clause-gives c =
    no_plan (few_at 16 c.args.reader.now.rows) c.in_ok-registers.registers c.take_registers.new.reader.rows c.in_ok-registers.ensures.few (c.is_empty.ensures.0 c.if-is_empty.true)

pub returns-in-Some-clause-gives : goal.returns-in-Some-clause-gives
returns-in-Some-clause-gives c =
    plan_and_more (few_at 16 c.args.reader.now.rows) c.in_ok-registers.registers c.take_registers.new.reader.rows _ _ c.in_ok-registers.ensures.few c.in-Some.ensures

pub returns-in-None-clause-gives : goal.returns-in-None-clause-gives
returns-in-None-clause-gives c =
    plan_alone (few_at 16 c.args.reader.now.rows) c.in_ok-registers.registers c.take_registers.new.reader.rows c.in_ok-registers.ensures.few
    (not_so c.is_empty.result c.is_empty.ensures c.if-is_empty.false) c.in-None.ensures
