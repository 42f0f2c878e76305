use Rattle.box_links.proofs.Boxless.{boxless_fault_links, boxless_fault_stands}
use Rattle.box_links.proofs.laws.boxless_faults_are_faults_of_linking.Goals as goal

pub returns-clause-stands : goal.returns-clause-stands
returns-clause-stands c = boxless_fault_stands c.boxless_changes_nothing.ensures.clear c.boxless_changes_nothing.ensures.opens

pub returns-clause-links : goal.returns-clause-links
returns-clause-links c = boxless_fault_links c.boxless_changes_nothing.ensures.clear c.boxless_changes_nothing.ensures.opens
