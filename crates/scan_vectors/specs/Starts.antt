-- What stands while the lines are gone through.
use Rattle.std.specs.Prelude.{◌≡◌, ◌≢◌, ℕ, ◌<◌, ◌&&◌, ◌||◌, ◌⊎◌, ◌↔◌, Bool, true, false, not, List, [], ◌∷◌, ◌++◌, length, slice_get, slice_set, Some, IsSome, MatchBool}
use Rattle.signal_values.specs.declared.PinSig.{PinSig}
use Rattle.signal_values.specs.declared.PinSig.TheVariants.{Zero, One, Unknown, HighZ}
use Rattle.netlist_model.specs.declared.Dir.{Dir}
use Rattle.netlist_model.specs.declared.Dir.TheVariants.{Input, Output, Inout}
use Rattle.netlist_model.specs.declared.NetId.{NetId}
use Rattle.netlist_model.specs.declared.PinBit.{PinBit}
use Rattle.netlist_model.specs.Lists.{NetlistView, direction}
use Rattle.netlist_model.specs.Cones.{IsControlPort}
use Rattle.netlist_model.specs.Runs.{IsLegal}
use Rattle.netlist_link.specs.Linked.{LinkedView}
use Rattle.scan_vectors.specs.declared.lines.Act.{Act}
use Rattle.scan_vectors.specs.declared.lines.Act.TheVariants.{Start, Set, Expect}
use Rattle.scan_vectors.specs.declared.lines.Line.{Line}
use Rattle.scan_vectors.specs.Grammar.{pin_of}
use Rattle.scan_vectors.specs.declared.scripts.bits.Bit.{Bit}
use Rattle.scan_vectors.specs.declared.scripts.script.ScriptLine.{ScriptLine}
use Rattle.scan_vectors.specs.Pins.{Names, side_of, net_of, TakesValue, HasStart}
use Rattle.scan_vectors.specs.Rules.{HasEvent, BreaksRule}
use Rattle.scan_vectors.specs.Scripts.{IsFound}

-- What a line does with a bit.

-- own: the word names this bit and no other, and these are its net, which no other bit has, and its side, and whether
-- it is a control port
pub record IsWordBit (L : LinkedView) (word : List ℕ) (bit : Bit) : Type 0 where
  pub named : Names L word bit.pin
  pub only : (other : PinBit) → Names L word other → other ≡ bit.pin
  pub alone : (other : PinBit) → net_of L.arena.lists other ≡ Some bit.net → other ≡ bit.pin
  pub net_is : net_of L.arena.lists bit.pin ≡ Some bit.net
  pub below : bit.net.0 < length L.arena.lists.nets
  pub side_is : side_of L.arena.lists bit.pin ≡ Some bit.side
  pub direction_is : direction L.arena.lists.ports bit.net.0 ≡ Some bit.side
  pub control : (bit.control ≡ true) ↔ IsControlPort L.arena.lists bit.net.0

-- own: a bit on this side takes a value
abbrev pub takes : Dir → Bool
takes Input = true
takes Inout = true
takes Output = false

-- own: the value is 0 or 1
abbrev pub is_known : PinSig → Bool
is_known Zero = true
is_known One = true
is_known Unknown = false
is_known HighZ = false

-- own: the bit may be given the value
abbrev pub gives : Dir → Bool → PinSig → Bool
gives side control value = takes side && (not control || is_known value)

-- own: a bit on this side may be expected
abbrev pub shows : Dir → Bool
shows Input = false
shows Inout = true
shows Output = true

-- own: a line may do this with a bit, whatever came before
abbrev pub suits : Act → Dir → Bool → PinSig → Bool
suits Start side control value = gives side control value
suits Set side control value = gives side control value
suits Expect side control value = shows side

-- The starts that came.

-- own: the net is that of an input or inout bit
pub record IsTakenNet (N : NetlistView) (net : ℕ) : Type 0 where
  pub pin : PinBit
  pub takes : TakesValue N pin
  pub net_is : net_of N pin ≡ Some (record { 0 = net })

-- own: the bit is one of the first so many ports
abbrev pub IsPortBefore : ℕ → PinBit → Type 0
IsPortBefore ports pin = pin.port.0 < ports

-- own: the bit is one of the first so many ports, or of the first so many bits of the next
abbrev pub IsBitBefore : ℕ → ℕ → PinBit → Type 0
IsBitBefore ports bits pin = (pin.port.0 < ports) ⊎ ((pin.port.0 ≡ ports) × (pin.bit < bits))

-- own: the flags of nets mark those of the input and inout bits that were looked at, and no others
pub record AreMarked (N : NetlistView) (IsLookedAt : PinBit → Type 0) (flags : List Bool) : Type 0 where
  pub count : length flags ≡ length N.nets
  pub each : (pin : PinBit) (net : NetId) → IsLookedAt pin → TakesValue N pin → net_of N pin ≡ Some net → slice_get flags net.0 ≡ Some true
  pub only : (net : ℕ) → slice_get flags net ≡ Some true → IsTakenNet N net

-- own: the flag of the bit's net says whether the bit still wants its start
abbrev pub IsFlagOf : LinkedView → List Line → List Bool → PinBit → NetId → Type 0
IsFlagOf L before flags pin net = ((slice_get flags net.0 ≡ Some true) × (HasStart L before pin → ⊥)) ⊎ ((slice_get flags net.0 ≡ Some false) × HasStart L before pin)

-- own: the flags of nets mark those of the bits that still want a start
pub record AreWanted (L : LinkedView) (before : List Line) (flags : List Bool) : Type 0 where
  pub count : length flags ≡ length L.arena.lists.nets
  pub each : (pin : PinBit) (net : NetId) → TakesValue L.arena.lists pin → net_of L.arena.lists pin ≡ Some net → IsFlagOf L before flags pin net
  pub only : (net : ℕ) → slice_get flags net ≡ Some true → IsTakenNet L.arena.lists net

-- own: some bit still wants a start
pub record IsWaiting (flags : List Bool) : Type 0 where
  pub net : ℕ
  pub wants : slice_get flags net ≡ Some true

-- own: no bit wants a start
abbrev pub IsComplete : List Bool → Type 0
IsComplete flags = (net : ℕ) → slice_get flags net ≡ Some true → ⊥

-- own: what is known after these lines; a set or an expect comes only where no bit wants a start
pub record IsAfter (L : LinkedView) (before : List Line) (flags : List Bool) : Type 0 where
  pub wanted : AreWanted L before flags
  pub begun : HasEvent before → IsComplete flags

-- own: the bit with this net wanted a start, and has it
pub record HasStarted (old new : List Bool) (net : ℕ) : Type 0 where
  pub wants : slice_get old net ≡ Some true
  pub new_is : new ≡ slice_set old net false

-- own: no bit wants a start, and a set or an expect comes
pub record HasRun (old new : List Bool) : Type 0 where
  pub complete : IsComplete old
  pub new_is : new ≡ old

-- own: this was done with the bit with this net, or can't be
abbrev pub HasDone : Act → ℕ → List Bool → List Bool → Bool → Type 0
HasDone Start net old new done = MatchBool done (HasStarted old new net) (slice_get old net ≡ Some false)
HasDone Set net old new done = MatchBool done (HasRun old new) (IsWaiting old)
HasDone Expect net old new done = MatchBool done (HasRun old new) (IsWaiting old)

-- The lines that were taken.

-- own: the line breaks no rule, its pin was found, and its word names no other
pub record IsTaken (L : LinkedView) (before : List Line) (line : Line) (number : ℕ) (found : ScriptLine) : Type 0 where
  pub found_is : IsFound L line number found
  pub only : (other : PinBit) → Names L (pin_of line) other → other ≡ found.pin
  pub there : IsSome (net_of L.arena.lists found.pin)
  pub legal : (net : NetId) → found.act ≢ Expect → net_of L.arena.lists found.pin ≡ Some net → IsLegal L.arena.lists (record { net = net.0; value = found.value })
  pub kept : BreaksRule L before line → ⊥

-- own: the line was taken behind these
pub record TakesLine (L : LinkedView) (before : List Line) (line : Line) (number : ℕ) (flags : List Bool) (found : ScriptLine) : Type 0 where
  pub taken : IsTaken L before line number found
  pub after : IsAfter L (before ++ line ∷ []) flags
