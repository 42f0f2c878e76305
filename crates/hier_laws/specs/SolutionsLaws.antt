-- What ties the equations of a hierarchy to those of its flat module.
use Rattle.std.specs.Prelude.{◌≡◌, ◌≢◌, ◌↔◌, ℕ, zero, suc, ◌+◌, ◌≤◌, length, false, List, [], ◌∷◌, map, Option, Some, None, slice_get, MatchOption, ⊤}
use Rattle.std.specs.List.{AllByRecursion}
use Rattle.signal_values.specs.declared.Sig.{Sig}
use Rattle.signal_values.specs.declared.Sig.TheVariants.{Unknown}
use Rattle.signal_values.specs.declared.PinSig.{PinSig}
use Rattle.cell_library.specs.declared.listed.ListedCell.{ListedCell}
use Rattle.verilog_tree.specs.declared.tree.Bit.{Bit}
use Rattle.verilog_tree.specs.declared.tree.Item.{Item}
use Rattle.verilog_tree.specs.declared.tree.Module.{Module}
use Rattle.netlist_model.specs.declared.Dir.{Dir}
use Rattle.netlist_model.specs.declared.Dir.TheVariants.{Inout}
use Rattle.netlist_model.specs.declared.NetId.{NetId}
use Rattle.netlist_model.specs.Lists.{CellView, NetlistView, Drives, direction}
use Rattle.netlist_model.specs.Settled.{feed_values, cell_value, follows_pin, IsSettled}
use Rattle.netlist_model.specs.Formed.{IsWellFormed}
use Rattle.link_model.specs.Lists.{repeated}
use Rattle.link_model.specs.Nets.{Declared, NetDeclaration, bits_in, declared_nets, declared_names, declared_as, net_of}
use Rattle.link_model.specs.Cells.{NamedCell, cell_of}
use Rattle.link_model.specs.Denoted.{IsNamed, denoted}
use Rattle.link_model.specs.Faults.{item_bits, operand_bits, first_bit, name_unknown, bit_outside}
use Rattle.hier_model.specs.Faults.{bad_link_in, bad_name_in}
use Rattle.hier_model.specs.Names.{flat_bit}
use Rattle.hier_model.specs.Entries.{Place, places, Entry, stays, carries, entry_item, entries}
use Rattle.hier_model.specs.Flat.{flat}
use Rattle.hier_laws.specs.Solves.{Valuation, own_net, own_dir, dir_at, given_value, EntryMeets, IsOwnBit, IsReading, Solves}

-- own: the bits have at their place the values of the flat nets
abbrev pub ReadsBits : List (List ℕ × Declared) → (ℕ → Sig) → Valuation → Place → List Bit → Type 0
ReadsBits names flat_value value p bits = AllByRecursion (λ (b : Bit). flat_value (net_of names (flat_bit p.at b)).0 ≡ value p.at (own_net p.here b)) bits

-- own: so do all bits of an entry
abbrev pub ReadsEntry : List (List ℕ × Declared) → (ℕ → Sig) → Valuation → Entry → Type 0
ReadsEntry names flat_value value (stays p i) = ReadsBits names flat_value value p (item_bits i)
ReadsEntry names flat_value value (carries p b q o) = ReadsBits names flat_value value p (b ∷ []) × ReadsBits names flat_value value q (operand_bits o)

-- own: a cell gives its net the value of its equation, where nets have these directions
abbrev pub FlatMeets : List ListedCell → (ℕ → Option Dir) → (ℕ → PinSig) → (ℕ → Sig) → Sig → NamedCell → Type 0
FlatMeets library dirs pins value kept cell = MatchOption cell.output ⊤ (λ (n : NetId). value n.0 ≡ given_value library (dirs n.0) cell.kind (feed_values value cell.feeds) kept (value n.0) (pins n.0))

-- own: the flat net follows the same rule as the net at its place
pub record SameRuleAt (dirs : ℕ → Option Dir) (pins : ℕ → PinSig) (p : Place) (flat_net own : NetId) : Type 0 where
  pub dir : dirs flat_net.0 ≡ dir_at p own.0
  pub pin : dir_at p own.0 ≡ Some Inout → pins flat_net.0 ≡ pins own.0

abbrev pub BothMeet : (NetId → NetId → Type 0) → Option NetId → Option NetId → Type 0
BothMeet P one other = MatchOption one ⊤ (λ (n : NetId). MatchOption other ⊤ (λ (m : NetId). P n m))

abbrev pub SameRule : List ListedCell → List (List ℕ × Declared) → (ℕ → Option Dir) → (ℕ → PinSig) → Entry → Type 0
SameRule library names dirs pins (stays p i) = BothMeet (λ n m. SameRuleAt dirs pins p n m) (cell_of library names (entry_item (stays p i))).output (cell_of library (declared_names p.here) i).output
SameRule library names dirs pins (carries p b q o) = dirs (net_of names (flat_bit p.at b)).0 ≢ Some Inout

-- own: an entry meets its equation exactly where its cell in the flat module does
abbrev pub EntriesMeetAsCells : Type 0
EntriesMeetAsCells = (library : List ListedCell) (names : List (List ℕ × Declared)) (dirs : ℕ → Option Dir) (pins : ℕ → PinSig) (flat_value : ℕ → Sig) (value : Valuation) (kept : Sig) (e : Entry)
    → ReadsEntry names flat_value value e → SameRule library names dirs pins e → EntryMeets library pins value kept e ↔ FlatMeets library dirs pins flat_value kept (cell_of library names (entry_item e))

-- own: in a settled valuation of the flat netlist each cell gives its net the value of its equation
abbrev pub SettledCellsMeet : Type 0
SettledCellsMeet = (modules : List Module) (top : Module) (table : List (List ℕ)) (N : NetlistView) (pins : ℕ → PinSig) (state flat_value : ℕ → Sig) → IsNamed table N (denoted N.library (flat modules top)) → IsWellFormed N
    → IsSettled N pins state flat_value → (k : ℕ) (e : Entry) → slice_get (entries modules top) k ≡ Some e
    → FlatMeets N.library (λ n. direction N.ports n) pins flat_value (state k) (cell_of N.library (declared_names (flat modules top)) (entry_item e))

-- own: how many bits the places before this one have
abbrev pub bits_before : List Place → ℕ → ℕ
bits_before [] k = 0
bits_before (p ∷ ps) zero = 0
bits_before (p ∷ ps) (suc k) = bits_in (declared_nets p.here) + bits_before ps k

-- own: where no name stands twice among the ports and wires of the flat module, its net of a bit that is declared at a
-- place has the number of the bit there, behind the bits of the places before
abbrev pub PlacesResolve : Type 0
PlacesResolve = (modules : List Module) (top : Module) → repeated (map (λ (n : NetDeclaration). n.name) (declared_nets (flat modules top))) ≡ None
    → (k : ℕ) (p : Place) (b : Bit) (d : Declared) → slice_get (places modules top) k ≡ Some p → declared_as (declared_names p.here) b.net ≡ Some d
    → (net_of (declared_names (flat modules top)) (flat_bit p.at b)).0 ≡ bits_before (places modules top) k + own_net p.here b

-- own: the bits of an entry are declared at its places
abbrev pub HasOwnBits : Entry → Type 0
HasOwnBits (stays p i) = AllByRecursion (IsOwnBit p.here) (item_bits i)
HasOwnBits (carries p b q o) = IsOwnBit p.here b × AllByRecursion (IsOwnBit q.here) (operand_bits o)

-- own: the netlist is that of the flat module, which links without a fault
pub record IsFlatNetlist (modules : List Module) (top : Module) (table : List (List ℕ)) (N : NetlistView) : Type 0 where
  pub named : IsNamed table N (denoted N.library (flat modules top))
  pub formed : IsWellFormed N
  -- a law of netlist_link: the direction of a net is that of its declaration
  pub directed : (net : ℕ) → direction N.ports net ≡ own_dir (flat modules top) net
  -- no name stands twice
  pub once : repeated (map (λ (n : NetDeclaration). n.name) (declared_nets (flat modules top))) ≡ None
  -- no name is unknown, no index outside, and no flat name of an undeclared net is that of another net
  pub own : AllByRecursion HasOwnBits (entries modules top)

-- own: a settled valuation of the flat netlist, read at (occurrence, net, bit), meets each equation of the hierarchy
abbrev pub SettledMeets : Type 0
SettledMeets = (modules : List Module) (top : Module) (table : List (List ℕ)) (N : NetlistView) (pins : ℕ → PinSig) (state flat_value : ℕ → Sig) (value : Valuation)
    → IsFlatNetlist modules top table N → IsReading modules top flat_value value → IsSettled N pins state flat_value
    → (k : ℕ) (e : Entry) → slice_get (entries modules top) k ≡ Some e → EntryMeets N.library pins value (state k) e

-- own: and where each equation of the hierarchy is met, each cell of the flat netlist gives its net the
-- value of its equation
abbrev pub SolvedCellsMeet : Type 0
SolvedCellsMeet = (modules : List Module) (top : Module) (table : List (List ℕ)) (N : NetlistView) (pins : ℕ → PinSig) (state flat_value : ℕ → Sig) (value : Valuation)
    → IsFlatNetlist modules top table N → IsReading modules top flat_value value → ((k : ℕ) (e : Entry) → slice_get (entries modules top) k ≡ Some e → EntryMeets N.library pins value (state k) e)
    → (i : ℕ) (cell : CellView) (net : ℕ) → Drives N i cell net → follows_pin (direction N.ports net) ≡ false → flat_value net ≡ cell_value N.library cell.kind (feed_values flat_value cell.feeds) (state i)

-- The valuations of the nets of the flat netlist that are settled are those that, read at (occurrence, net, bit),
-- solve the hierarchy.
abbrev pub SettledWhereSolved : Type 0
SettledWhereSolved = (modules : List Module) (top : Module) (table : List (List ℕ)) (N : NetlistView) (pins : ℕ → PinSig) (state flat_value : ℕ → Sig) (value : Valuation)
    → IsFlatNetlist modules top table N → IsReading modules top flat_value value → ((net : ℕ) → length N.nets ≤ net → flat_value net ≡ Unknown)
    → IsSettled N pins state flat_value ↔ Solves N.library modules top pins state value

-- own: where linking finds no unknown name and no index outside, and no flat name is at fault, each bit that an item
-- names is one of its own module
abbrev pub StaysOwnBits : Type 0
StaysOwnBits = (modules : List Module) (top : Module) → repeated (map (λ (n : NetDeclaration). n.name) (declared_nets (flat modules top))) ≡ None
    → first_bit name_unknown (flat modules top) ≡ None → first_bit bit_outside (flat modules top) ≡ None → bad_name_in modules top ≡ None
    → (k : ℕ) (p : Place) (i : Item) → slice_get (entries modules top) k ≡ Some (stays p i) → AllByRecursion (IsOwnBit p.here) (item_bits i)

-- own: where neither linking nor flattening finds such a fault, each bit that an entry names is one of its module
abbrev pub EntriesOwnBits : Type 0
EntriesOwnBits = (modules : List Module) (top : Module) → repeated (map (λ (n : NetDeclaration). n.name) (declared_nets (flat modules top))) ≡ None
    → first_bit name_unknown (flat modules top) ≡ None → first_bit bit_outside (flat modules top) ≡ None → bad_link_in modules top ≡ None → bad_name_in modules top ≡ None
    → AllByRecursion HasOwnBits (entries modules top)
