use Rattle.std.proofs.Common.{ap, ◌∙◌}
use Rattle.plan_fitting.specs.Devices.{device_of_fitted}
use Rattle.insertion_inputs.proofs.plan.fit_text.Goals as goal

pub returns-clause-fitting : goal.returns-clause-fitting
returns-clause-fitting c = record {
  spells = c.in_ok-plan.ensures.spelled;
  prepares = c.in_ok-fitted.ensures.prepared;
  device_is = c.in_ok-device.ensures ∙ ap device_of_fitted c.in_ok-fitted.ensures.prepared.ready.fits.is;
}
