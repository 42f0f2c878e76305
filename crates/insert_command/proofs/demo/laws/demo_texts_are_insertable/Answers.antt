use Rattle.insert_command.proofs.Insertable.{texts_are_insertable}
use Rattle.insert_command.proofs.demo.laws.demo_texts_are_insertable.Goals as goal

pub returns : goal.returns
returns c = texts_are_insertable (record {
  printed = c.canonical_texts_spell_their_trees.ensures;
  spelled = c.demo_plan_is_spelled.ensures.spelled;
  fits = c.demo_plan_fits.ensures;
  cells = c.demo_has_its_cells.ensures;
  counted = c.demo_chips_are_counted.ensures;
  netlists = c.demo_texts_are_short.ensures.netlists;
  plan = c.demo_texts_are_short.ensures.plan;
})
