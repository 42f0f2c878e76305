-- A plan that fits has two rows at most for each bit of the netlist's own ports.
use Rattle.std.proofs.Common.{arith}
use Rattle.netlist_model.proofs.Ports.{bit_has_direction}
use Rattle.netlist_model.proofs.Inside.{driver_found}
use Rattle.core_sides.proofs.plan_fitting.DevicesFacts.{facts_of}
use Rattle.core_sides.proofs.plan_fitting.DeviceIs.{own_rows_within}
use Rattle.written_netlists.specs.ReadyLaws.{FittedAreFew}

pub fitted_are_few : FittedAreFew
fitted_are_few L p seen fits limit = let most = own_rows_within L p seen fits (facts_of bit_has_direction driver_found L p seen fits) in omega (arith, most, limit)
