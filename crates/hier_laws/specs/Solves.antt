-- The valuations of a hierarchy that solve it: one value for each net's bit at each occurrence.
-- IEEE Std 1364-2001: hierarchical structures, ports and port connections; values are those of one flat netlist.
use Rattle.std.specs.Prelude.{◌≡◌, ℕ, ◌+◌, ◌<◌, false, List, [], ◌∷◌, Option, Some, None, slice_get, MatchOption, ⊤}
use Rattle.std.specs.Option.{option_and_then}
use Rattle.signal_values.specs.declared.Sig.{Sig}
use Rattle.signal_values.specs.declared.Sig.TheVariants.{Unknown}
use Rattle.signal_values.specs.declared.PinSig.{PinSig}
use Rattle.signal_values.specs.Values.{see, join}
use Rattle.cell_library.specs.declared.listed.ListedCell.{ListedCell}
use Rattle.cell_library.specs.declared.Kind.{Kind}
use Rattle.verilog_tree.specs.declared.tree.Bit.{Bit}
use Rattle.verilog_tree.specs.declared.tree.Module.{Module}
use Rattle.netlist_model.specs.declared.Dir.{Dir}
use Rattle.netlist_model.specs.declared.Dir.TheVariants.{Input, Inout}
use Rattle.netlist_model.specs.declared.NetId.{NetId}
use Rattle.netlist_model.specs.Settled.{feed_value, feed_values, cell_value, cell_drive, follows_pin}
use Rattle.link_model.specs.Nets.{Declared, NamedNet, width, declared_nets, declared_names, declared_as, nets_in, bits_in, net_of}
use Rattle.link_model.specs.Cells.{NamedCell, cell_of, feed_of}
use Rattle.hier_model.specs.Names.{flat_bit}
use Rattle.hier_model.specs.Entries.{Place, places, Entry, stays, carries, entries}
use Rattle.hier_model.specs.Flat.{flat}

-- own: a value for each bit of a net at an occurrence, the bit by its number among its module's
abbrev pub Valuation : Type 0
Valuation = List (List ℕ) → ℕ → Sig

-- the number of a bit among its module's
abbrev pub own_net : Module → Bit → ℕ
own_net m b = (net_of (declared_names m) b).0

-- the direction of a net among its module's
abbrev pub own_dir : Module → ℕ → Option Dir
own_dir m net = option_and_then (λ (n : NamedNet). n.dir) (slice_get (nets_in (declared_nets m)) net)

-- the top's nets alone are ports of the whole
abbrev pub dir_at : Place → ℕ → Option Dir
dir_at p net = at p.at
  where
    at : List (List ℕ) → Option Dir
    at [] = own_dir p.here net
    at (name ∷ names) = None

-- nets: what a cell gives its net, seen from inside; an inout's net joins it with what is outside
abbrev pub given_value : List ListedCell → Option Dir → Kind → List Sig → Sig → Sig → PinSig → Sig
given_value library (Some Inout) kind inputs kept value outside = see (join (cell_drive kind inputs value) outside)
given_value library dir kind inputs kept value outside = cell_value library kind inputs kept

-- the cell gives its net the value of its equation, at a place
abbrev pub CellMeets : List ListedCell → Place → (ℕ → PinSig) → (ℕ → Sig) → Sig → NamedCell → Type 0
CellMeets library p pins value kept cell = MatchOption cell.output ⊤ (λ (n : NetId). value n.0 ≡ given_value library (dir_at p n.0) cell.kind (feed_values value cell.feeds) kept (value n.0) (pins n.0))

-- an entry meets its equation; a flip-flop holds this
abbrev pub EntryMeets : List ListedCell → (ℕ → PinSig) → Valuation → Sig → Entry → Type 0
EntryMeets library pins value kept (stays p i) = CellMeets library p pins (value p.at) kept (cell_of library (declared_names p.here) i)
EntryMeets library pins value kept (carries p b q o) = value p.at (own_net p.here b) ≡ feed_value (value q.at) (feed_of (declared_names q.here) o)

-- an entry drives a bit of a place
abbrev pub EntryDrives : List ListedCell → Entry → Place → ℕ → Type 0
EntryDrives library (stays q i) p net = (q ≡ p) × ((cell_of library (declared_names q.here) i).output ≡ Some (record { 0 = net }))
EntryDrives library (carries q b r o) p net = (q ≡ p) × (own_net q.here b ≡ net)

-- The valuation solves the hierarchy for these pins, by the number of their net among the top's, and these values of
-- flip-flops, by the number of their entry in flat order.
pub record Solves (library : List ListedCell) (modules : List Module) (top : Module) (pins : ℕ → PinSig) (state : ℕ → Sig) (value : Valuation) : Type 0 where
  -- each item and each link meets its equation
  pub meets : (k : ℕ) (e : Entry) → slice_get (entries modules top) k ≡ Some e → EntryMeets library pins value (state k) e
  -- the top's inputs are seen as their pins
  pub inputs : (net : ℕ) → own_dir top net ≡ Some Input → value [] net ≡ see (pins net)
  -- each bit that nothing drives is unknown
  pub undriven : (j : ℕ) (p : Place) (net : ℕ) → slice_get (places modules top) j ≡ Some p → net < bits_in (declared_nets p.here) → follows_pin (dir_at p net) ≡ false
      → ((k : ℕ) (e : Entry) → slice_get (entries modules top) k ≡ Some e → EntryDrives library e p net → ⊥) → value p.at net ≡ Unknown

-- own: the bit is one of a net that is declared in the module
pub record IsOwnBit (m : Module) (b : Bit) : Type 0 where
  pub declared : Declared
  pub found : declared_as (declared_names m) b.net ≡ Some declared
  pub within : own_net m b < declared.first + width declared.range

-- A valuation of the nets of the flat module, read at (occurrence, net, bit).
abbrev pub IsReading : List Module → Module → (ℕ → Sig) → Valuation → Type 0
IsReading modules top flat_value value = (j : ℕ) (p : Place) (b : Bit) → slice_get (places modules top) j ≡ Some p → IsOwnBit p.here b
    → flat_value (net_of (declared_names (flat modules top)) (flat_bit p.at b)).0 ≡ value p.at (own_net p.here b)
