use Rattle.plan_fitting.proofs.Prefix.{prefixes_are_free}
use Rattle.plan_fitting.proofs.devices.laws.prefixes_are_free.Goals as goal

pub returns : goal.returns
returns c = prefixes_are_free
