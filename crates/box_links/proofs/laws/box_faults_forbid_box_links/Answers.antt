use Rattle.box_links.proofs.Excluded.{box_faults_forbid_box_links}
use Rattle.box_links.proofs.laws.box_faults_forbid_box_links.Goals as goal

pub returns : goal.returns
returns c = box_faults_forbid_box_links c.faults_forbid_links.ensures c.link_view_is_formed.ensures c.trees_stay_trees.ensures.opened c.driver_is_found.ensures
