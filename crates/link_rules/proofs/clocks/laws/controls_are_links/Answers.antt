use Rattle.link_rules.proofs.ControlLinks.{controls_not_derived}
use Rattle.link_rules.proofs.clocks.laws.controls_are_links.Goals as goal

pub returns : goal.returns
returns c = controls_not_derived
