-- What data registers of a design's own stand on in a netlist into which a device's test logic is built.
-- IEEE Std 1149.1-2001: TAP controller, instruction register, bypass register; the statements are own.
use Rattle.std.specs.Prelude.{◌≡◌, ℕ, ◌+◌, ◌<◌}
use Rattle.netlist_model.specs.declared.NetId.{NetId}
use Rattle.netlist_model.specs.Lists.{NetlistView}
use Rattle.netlist_model.specs.Formed.{IsDriven}
use Rattle.plan_fitting.specs.declared.fitted.Fitted.{Fitted}
use Rattle.stitched_netlist.specs.declared.model.TapNames.{TapNames}
use Rattle.stitched_netlist.specs.Sides.{core_side}
use Rattle.stitched_netlist.specs.ModelLogic.{tap_at, instruction_at, bypass_at}
use Rattle.stitched_netlist.specs.Stitched.{boundary_at, first_net}
use Rattle.stitched_netlist.specs.PlacesLaws.{port_of}
use Rattle.stitched_netlist.specs.Places.{HoldsPartsBy, HasBuiltIn}
use Rattle.status_build.specs.OrderLaws.{IsHeld, IsCopy}

-- own: flip-flops drive the nets of Capture-DR and Shift-DR and that of the bypass bit, and copies of flip-flops those
-- of the latched opcode
pub record HasShared (M N : NetlistView) (f : Fitted) : Type 0 where
  pub capture : IsHeld M (tap_at (first_net N f) (port_of N)).capture_dr.0
  pub shift : IsHeld M (tap_at (first_net N f) (port_of N)).shift_dr.0
  pub bypass : IsHeld M (bypass_at (first_net N f) f).0
  pub opcode : (k : ℕ) → k < f.codes.length → IsCopy M ((instruction_at (first_net N f) (port_of N) f).opcode.0 + k)

abbrev pub SharedNetsStand : Type 0
SharedNetsStand = (M N : NetlistView) (f : Fitted) (shown : NetId) → HoldsPartsBy M N f shown → HasShared M N f

-- own: a net of the core that stays on its net is driven where it is driven in the core
abbrev pub WiresStand : Type 0
WiresStand = (M N : NetlistView) (names : TapNames) (f : Fitted) (shown : NetId) → HasBuiltIn M N names f shown → (net : ℕ) → core_side (boundary_at N f) net ≡ net
    → IsDriven N net → IsDriven M net
