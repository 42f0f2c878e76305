-- What a cell takes and gives, from the values of nets.
use Rattle.std.specs.Prelude.{◌≡◌, ◌≢◌, ℕ, List, length, Option, Some, None}
use Rattle.signal_values.specs.declared.Sig.{Sig}
use Rattle.signal_values.specs.declared.PinSig.{PinSig}
use Rattle.signal_values.specs.Values.{see, join}
use Rattle.netlist_model.specs.declared.Dir.{Dir}
use Rattle.netlist_model.specs.declared.Dir.TheVariants.{Input, Output, Inout}
use Rattle.netlist_settling.specs.Values.{value_at}

-- own: what is held under this number is this, and the others stay
pub record Sets (number : ℕ) (value : Sig) (old new : List Sig) : Type 0 where
  pub long : length new ≡ length old
  pub same : value_at new number ≡ value
  pub others : (other : ℕ) → other ≢ number → value_at new other ≡ value_at old other

-- own: what is seen of a net of this direction, from what its driver gives inside and outside
abbrev pub seen : Option Dir → Sig → PinSig → PinSig → Sig
seen (Some Input) inside drive outside = see outside
seen (Some Inout) inside drive outside = see (join drive outside)
seen (Some Output) inside drive outside = inside
seen None inside drive outside = inside
