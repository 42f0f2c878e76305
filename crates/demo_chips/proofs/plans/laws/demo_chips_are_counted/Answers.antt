use Rattle.demo_chips.specs.Netlists.{demo_module}
use Rattle.demo_chips.proofs.Views.{bit_count_is, nets_are_counted}
use Rattle.demo_chips.proofs.Rows.{rows_are_counted}
use Rattle.demo_chips.proofs.plans.laws.demo_chips_are_counted.Goals as goal

pub returns : goal.returns
returns c = λ number linked tree listed links. record {
  nets = nets_are_counted number linked links;
  bits = bit_count_is number linked links;
  boundary = rows_are_counted c.found_driver_drives.ensures number linked links (c.link_view_is_named.ensures (demo_module number) linked tree listed links);
}
