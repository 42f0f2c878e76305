use Rattle.plan_fitting.proofs.LinkViews.{fitted_is_fitting}
use Rattle.plan_fitting.proofs.devices.laws.fitted_is_fitting.Goals as goal

pub returns : goal.returns
returns c = fitted_is_fitting c.link_view_is_named.ensures c.link_view_is_formed.ensures
