use Rattle.strip_model.proofs.law.law_of_stripping.Goals as goal
use Rattle.strip_model.proofs.RecoveryLaw.{law}

pub returns : goal.returns
returns c =
    law c.fitted_is_fitting.ensures c.recovered_is_the_netlist.ensures c.told_plan_fits.ensures c.told_plan_is_spelled.ensures c.same_is_fitted.ensures c.prefixes_are_free.ensures
    c.link_view_is_formed.ensures c.link_view_is_named.ensures c.link_view_is_laid_out.ensures
