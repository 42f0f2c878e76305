-- What a log keeps of an event: the nets that may read anew; and what is kept of three-state gates.
use Rattle.std.specs.Prelude.{◌≡◌, ℕ, ◌<◌, ◌⊎◌, List, length, slice_set, Option, Some, None}
use Rattle.cell_library.specs.declared.Kind.{Kind}
use Rattle.cell_library.specs.declared.Kind.TheVariants.{Bufif0, Bufif1}
use Rattle.cell_library.specs.Gates.{bufif_output, operand}
use Rattle.netlist_model.specs.declared.NetId.{NetId}
use Rattle.signal_values.specs.declared.Sig.{Sig}
use Rattle.signal_values.specs.declared.PinSig.{PinSig}
use Rattle.netlist_settling.specs.Values.{value_at, pin_at}
use Rattle.event_parts.specs.QueuesLaws.{IsIn}

-- own: a net that isn't logged has what it had, and so has what is kept of its driver; only numbers of nets are logged,
-- and what was logged stays
pub record Logs (count : ℕ) (values values' : List Sig) (drives drives' : List PinSig) (words words' : List ℕ) : Type 0 where
  pub long : length words' ≡ length words
  pub kept : (net : ℕ) → IsIn words net → IsIn words' net
  pub nets : (net : ℕ) → IsIn words' net → IsIn words net ⊎ (net < count)
  pub values_stay : (net : ℕ) → (IsIn words' net → ⊥) → value_at values' net ≡ value_at values net
  pub drives_stay : (net : ℕ) → (IsIn words' net → ⊥) → pin_at drives' net ≡ pin_at drives net

-- own: what is kept of the driver of a net, where there is something new
abbrev pub drives_with : ℕ → Option PinSig → List PinSig → List PinSig
drives_with net None drives = drives
drives_with net (Some drive) drives = slice_set drives net drive

-- own: the same, where the cell has an output
abbrev pub drives_by : Option NetId → Option PinSig → List PinSig → List PinSig
drives_by None drive drives = drives
drives_by (Some net) drive drives = drives_with net.0 drive drives

-- gate level modelling: what a three-state gate drives; other cells have nothing new
abbrev pub own_drive : Kind → List Sig → Option PinSig
own_drive Bufif0 inputs = Some (bufif_output Bufif0 (operand inputs 0) (operand inputs 1))
own_drive Bufif1 inputs = Some (bufif_output Bufif1 (operand inputs 0) (operand inputs 1))
own_drive kind inputs = None
