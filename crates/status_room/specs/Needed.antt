-- What building in data registers needs of a netlist, of what was fitted to it and of the registers.
-- Own.
use Rattle.std.specs.Prelude.{◌≡◌, ℕ, ◌^◌, ◌<◌, ◌≤◌, false, List, length, All, None}
use Rattle.std.specs.List.{list_any}
use Rattle.cell_library.specs.declared.codes.Opcode.{Opcode}
use Rattle.netlist_model.specs.declared.NetId.{NetId}
use Rattle.netlist_model.specs.Lists.{NetlistView, direction}
use Rattle.netlist_model.specs.Formed.{IsDriven}
use Rattle.bsdl_device.specs.Instructions.{same_bits}
use Rattle.plan_fitting.specs.declared.fitted.Fitted.{Fitted}
use Rattle.stitched_netlist.specs.Sides.{core_side}
use Rattle.stitched_netlist.specs.Stitched.{boundary_at}
use Rattle.status_fitting.specs.declared.fitted.FittedRegister.{FittedRegister}

-- own: a wire's net that some cell of the core drives, and which no boundary cell moves
pub record IsCaptured (N : NetlistView) (f : Fitted) (net : ℕ) : Type 0 where
  pub low : net < length N.nets
  pub wire : direction N.ports net ≡ None
  pub driven : IsDriven N net
  pub stays : core_side (boundary_at N f) net ≡ net

-- own: the register's opcode is as long as the instruction register, and it captures 1 to 256 such nets
pub record CanBeBuilt (N : NetlistView) (f : Fitted) (r : FittedRegister) : Type 0 where
  pub bits : r.register.bits.len ≡ f.codes.length
  pub some : 0 < length r.nets
  pub few : length r.nets ≤ 256
  pub wires : All (λ (net : NetId). IsCaptured N f net.0) r.nets

-- own: there are 1 to 16 such registers, and an opcode has a bit
pub record AreBuildable (N : NetlistView) (f : Fitted) (rs : List FittedRegister) : Type 0 where
  pub bits : 0 < f.codes.length
  pub some : 0 < length rs
  pub few : length rs ≤ 16
  pub each : All (CanBeBuilt N f) rs

-- own: its opcode is none of the instruction register's, and its value has no more bits than it is long
pub record IsUntaken (f : Fitted) (r : FittedRegister) : Type 0 where
  pub free : list_any (λ (o : Opcode). same_bits r.register.bits o.bits) f.codes.opcodes ≡ false
  pub small : r.register.bits.value < 2 ^ r.register.bits.len
