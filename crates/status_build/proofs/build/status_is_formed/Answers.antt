use Rattle.status_build.proofs.BuildFormed.{status_formed}
use Rattle.status_build.proofs.build.status_is_formed.Goals as goal

pub returns : goal.returns
returns c = status_formed (record {
  pure = c.input_is_pure.ensures;
  count = c.appended_count.ensures;
  grows = c.appended_grows.ensures;
  there = c.appended_is_there.ensures;
  formed = c.registers_are_formed.ensures;
  shown = c.shown_is_formed.ensures;
})
