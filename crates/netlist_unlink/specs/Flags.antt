-- Which original names are those of ports.
-- own: a table of flags by the number of a name
use Rattle.std.specs.Prelude.{◌≡◌, ℕ, ◌<◌, Bool, List, length, slice_get, Some}
use Rattle.netlist_model.specs.Lists.{PortView}
use Rattle.netlist_unlink.specs.Rows.{has_port_name}

-- own: the flag of each name of the table says whether a port has it
pub record ArePortFlags (table : List (List ℕ)) (ports : List PortView) (flags : List Bool) : Type 0 where
  pub count : length flags ≡ length table
  pub each : (number : ℕ) → number < length table → slice_get flags number ≡ Some (has_port_name ports number)
