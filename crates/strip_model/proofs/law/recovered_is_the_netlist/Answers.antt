use Rattle.strip_model.proofs.law.recovered_is_the_netlist.Goals as goal
use Rattle.strip_model.proofs.Recovered.{recovered_is}

pub returns : goal.returns
returns c = recovered_is c.fitted_is_fitting.ensures c.fitted_can_be_told.ensures c.core_is_told.ensures c.plan_is_told.ensures c.stitched_fits_room.ensures c.link_view_is_laid_out.ensures
