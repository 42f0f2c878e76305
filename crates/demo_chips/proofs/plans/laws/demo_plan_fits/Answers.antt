use Rattle.demo_chips.specs.Netlists.{demo_module}
use Rattle.demo_chips.proofs.PlansFits.{plan_fits}
use Rattle.demo_chips.proofs.plans.laws.demo_plan_fits.Goals as goal

pub returns : goal.returns
returns c = λ number linked tree listed links none. plan_fits c.found_driver_drives.ensures number linked links none (c.link_view_is_named.ensures (demo_module number) linked tree listed links)
