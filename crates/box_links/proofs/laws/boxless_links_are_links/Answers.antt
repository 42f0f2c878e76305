use Rattle.box_links.proofs.Boxless.{boxless_is_linked, boxless_links_plain}
use Rattle.box_links.proofs.laws.boxless_links_are_links.Goals as goal

pub returns-clause-linked : goal.returns-clause-linked
returns-clause-linked c = boxless_is_linked c.boxless_changes_nothing.ensures.clear c.boxless_changes_nothing.ensures.opens

pub returns-clause-plain : goal.returns-clause-plain
returns-clause-plain c = boxless_links_plain c.boxless_changes_nothing.ensures.opens
