-- What a net's drivers must be, by how the cells use it.
-- IEEE Std 1364-2001: data types, gate-level modelling; the rules are own.
use Rattle.std.specs.Prelude.{ℕ, ◌&&◌, not, nat_le, Bool, true, false, List, [], ◌∷◌, Option, Some, None, is_none, if◌then◌else◌}
use Rattle.netlist_model.specs.declared.Dir.{Dir}
use Rattle.netlist_model.specs.declared.Dir.TheVariants as dir
use Rattle.link_model.specs.declared.fault.BitName.{BitName}
use Rattle.link_model.specs.declared.fault.LinkFault.{LinkFault}
use Rattle.link_model.specs.declared.fault.LinkFault.TheVariants as fault
use Rattle.link_model.specs.Nets.{NamedNet}
use Rattle.link_model.specs.Cells.{NamedCell}
use Rattle.link_model.specs.Faults.{is_input, is_output, is_inout, bit_name, two_drivers, input_driven, not_driven, tristate_inside, tristate_read, inout_not_tristate}
use Rattle.link_rules.specs.declared.drivers.uses.NetUses.{NetUses}
use Rattle.link_rules.specs.declared.drivers.rule.Rule.{Rule}
use Rattle.link_rules.specs.declared.drivers.rule.Rule.TheVariants as rule

-- own: in the order in which faults are told
abbrev pub rules : List Rule
rules = rule.OneDriver ∷ rule.InputsFree ∷ rule.Driven ∷ rule.WiresTwoState ∷ rule.BufifUnread ∷ rule.InoutsByBufif ∷ []

-- own: an output must have a driver, and a wire that is read
abbrev pub wants_driver : Bool → Option Dir → Bool
wants_driver read (Some dir.Input) = false
wants_driver read (Some dir.Output) = true
wants_driver read (Some dir.Inout) = false
wants_driver read None = read

-- own: a net of this direction that is used so breaks the rule
abbrev pub is_broken : Rule → Option Dir → NetUses → Bool
is_broken rule.OneDriver dir uses = not (is_input dir) && nat_le 2 uses.drivers
is_broken rule.InputsFree dir uses = is_input dir && nat_le 1 uses.drivers
is_broken rule.Driven dir uses = wants_driver uses.read dir && not (nat_le 1 uses.drivers)
is_broken rule.WiresTwoState dir uses = is_none dir && uses.by_bufif
is_broken rule.BufifUnread dir uses = is_output dir && (uses.by_bufif && uses.read)
is_broken rule.InoutsByBufif dir uses = is_inout dir && not uses.by_bufif

abbrev pub fault_named : Rule → BitName → LinkFault
fault_named rule.OneDriver bit = fault.TwoDrivers bit
fault_named rule.InputsFree bit = fault.InputDriven bit
fault_named rule.Driven bit = fault.NotDriven bit
fault_named rule.WiresTwoState bit = fault.TristateInside bit
fault_named rule.BufifUnread bit = fault.TristateRead bit
fault_named rule.InoutsByBufif bit = fault.InoutNotTristate bit

-- own: what is told of a net
abbrev pub broken : Rule → NetUses × NamedNet → Option LinkFault
broken rule net = if is_broken rule net.1.dir net.0 then Some (fault_named rule (bit_name net.1)) else None

-- own: the fault of the link model that tells of the rule
abbrev pub test_of : Rule → List NamedCell → ℕ × NamedNet → Option LinkFault
test_of rule.OneDriver = two_drivers
test_of rule.InputsFree = input_driven
test_of rule.Driven = not_driven
test_of rule.WiresTwoState = tristate_inside
test_of rule.BufifUnread = tristate_read
test_of rule.InoutsByBufif = inout_not_tristate
