-- Gates that read one another in a circle, and which cells have an order.
use Rattle.std.specs.Prelude.{◌≡◌, ℕ, ◌+◌, ◌-◌, ◌<◌, false, List, length, slice_index, ⊤}
use Rattle.cell_library.specs.Gates.{is_flop}
use Rattle.netlist_model.specs.declared.CellId.{CellId}
use Rattle.netlist_model.specs.Lists.{CellView, NetlistView, Drives, Reads, IsDrivenOnce}
use Rattle.netlist_model.specs.Orders.{IsCellOrder}
use Rattle.cell_order.specs.declared.fault.OrderFault.{OrderFault}
use Rattle.cell_order.specs.declared.fault.OrderFault.TheVariants as fault

-- own: a gate reads a net that the other gate drives; an inout net counts as the `bufif` that drives it
pub record ReadsGate (N : NetlistView) (reader driver : ℕ) : Type 0 where
  pub reading : CellView
  pub driving : CellView
  pub place : ℕ
  pub net : ℕ
  pub reader_gate : is_flop N.library reading.kind ≡ false
  pub driver_gate : is_flop N.library driving.kind ≡ false
  pub reads : Reads N reader reading place net
  pub drives : Drives N driver driving net

-- own: these gates each read the one before, the first reads the last, and none stands twice
pub record IsGateLoop (N : NetlistView) (numbers : List ℕ) : Type 0 where
  pub some : 0 < length numbers
  pub each : (i : ℕ) → i + 1 < length numbers → ReadsGate N (slice_index numbers (i + 1)) (slice_index numbers i)
  pub closes : ReadsGate N (slice_index numbers 0) (slice_index numbers (length numbers - 1))
  pub once : (i j : ℕ) → i < length numbers → j < length numbers → slice_index numbers i ≡ slice_index numbers j → i ≡ j

-- own: no gates read one another in a circle
abbrev pub HasNoGateLoop : NetlistView → Type 0
HasNoGateLoop N = (numbers : List ℕ) → IsGateLoop N numbers → ⊥

-- own: a loop that is told is one
abbrev pub IsOrderFault : NetlistView → OrderFault → Type 0
IsOrderFault N (fault.Loop numbers) = IsGateLoop N numbers
IsOrderFault N fault.OutOfMemory = ⊤

-- own: cells with single drivers, no gates of which read in a loop, have an order
abbrev pub LooplessHasOrder : Type 0
LooplessHasOrder = (N : NetlistView) → IsDrivenOnce N → HasNoGateLoop N → (order : List CellId) × IsCellOrder N order
