use Rattle.plan_fitting.proofs.TapNames.{tap_names_are_new}
use Rattle.plan_fitting.proofs.devices.laws.tap_names_are_new.Goals as goal

pub returns : goal.returns
returns c = tap_names_are_new
