use Rattle.std.proofs.Common.{ℕ, List, ap, sym, ◌∙◌}
use Rattle.box_trees.specs.HiddenNames.{is_word_in}
use Rattle.box_trees.proofs.FirstClash.{unparted}
use Rattle.box_trees.proofs.clashes.clash_of_word.Goals as goal

pub returns-in-None : goal.returns-in-None
returns-in-None c = unparted c.args.hidden.now c.args.word.now c.in-None.ensures
