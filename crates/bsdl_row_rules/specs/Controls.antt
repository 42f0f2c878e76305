-- own: control cells by numbers.
use Rattle.std.specs.Prelude.{◌≡◌, ℕ, ◌&&◌, Bool, List, Option, Some, None, nat_eq, if◌then◌else◌}
use Rattle.std.specs.List.{list_any}
use Rattle.std.specs.Option.{option_map, option_map_or}
use Rattle.bsdl_device.specs.declared.values.Disable.{Disable}
use Rattle.bsdl_device.specs.declared.entries.RowEntry.{RowEntry}
use Rattle.bsdl_device.specs.Checks.{is_numbered}
use Rattle.bsdl_device.specs.RowRules.{differ, is_control, is_disabled_by}

-- the control cell that a row names
abbrev pub control_in : RowEntry → Option ℕ
control_in r = option_map (λ (d : Disable). d.control) r.disable

-- the control cell that a row disables by this value
abbrev pub control_by : Bool → RowEntry → Option ℕ
control_by value r = option_map_or (λ (d : Disable). if differ d.value value then None else Some d.control) r.disable None

-- a control row's own number
abbrev pub own_number : RowEntry → Option ℕ
own_number r = if is_control r then Some r.number else None

-- The first numbers are those that rows name, and the second those of control rows.
pub record KnowsControls (rows : List RowEntry) (names numbers : List ℕ) : Type 0 where
  pub named : (n : ℕ) → list_any (nat_eq n) names ≡ list_any (is_disabled_by n) rows
  pub present : (n : ℕ) → list_any (nat_eq n) numbers ≡ list_any (λ (s : RowEntry). is_numbered n s && is_control s) rows
