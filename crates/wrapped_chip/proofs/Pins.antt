-- Pins, events and readings under other numbers.
use Rattle.std.proofs.Common.{◌≡◌, ℕ, zero, suc, ◌+◌, List, [], ◌∷◌, map, length, refl, ap, ◌∙◌, subst, Option, Some, None, slice_get}
use Rattle.std.specs.Prelude.{option_and_then}
use Rattle.netlist_model.specs.declared.Dir.{Dir}
use Rattle.netlist_model.specs.Lists.{PortView, NetlistView, bit_net, direction}
use Rattle.netlist_model.specs.Formed.{IsWellFormed}
use Rattle.netlist_model.specs.Runs.{Moment, PinEvent, reading_at}
use Rattle.netlist_model.specs.Ports.{BitHasDirection}
use Rattle.netlist_model.specs.Renumbered.{IsRenumbering, renamed_event, seen_moment}
use Rattle.netlist_model.specs.RenumberedLaws.{RenumberingTurns, RenumberedBits, RenumberedReads, RenumberedRuns, RunsHaveImages}
use Rattle.signal_values.specs.declared.PinSig.{PinSig}
use Rattle.wrapped_chip.specs.ChipRuns.{ChipEvent, at_pin, at_tap}
use Rattle.wrapped_chip.specs.Realises.{SameBit, tap_place, IsTapNet, IsSameEvent, SameEvents, ReadsBit, ReadsTdo}

-- the laws that it stands on
pub record CopyLaws : Type 0 where
  pub ways : BitHasDirection
  pub turns : RenumberingTurns
  pub bits : RenumberedBits
  pub reads : RenumberedReads
  pub runs : RenumberedRuns
  pub images : RunsHaveImages

-- Bits.

pub same_bit : CopyLaws → (M M' N : NetlistView) (to at : ℕ → ℕ) → IsRenumbering M M' to at → (net there : ℕ) → SameBit M N net there → SameBit M' N net (to there)
same_bit laws M M' N to at r net there same = record {
  port = same.port;
  place = same.place;
  here = same.here;
  there = laws.bits M M' to at r same.port same.place (record { 0 = there }) same.there;
}

pub tap_net : CopyLaws → (M M' N : NetlistView) (to at : ℕ → ℕ) → IsRenumbering M M' to at → (place net : ℕ) → IsTapNet M N place net → IsTapNet M' N place (to net)
tap_net laws M M' N to at r place net tap = laws.bits M M' to at r (length N.ports + place) 0 (record { 0 = net }) tap

-- Events.

pub same_event : CopyLaws → (M M' N : NetlistView) (to at : ℕ → ℕ) → IsRenumbering M M' to at → (event : ChipEvent) (there : PinEvent) → IsSameEvent M N event there
    → IsSameEvent M' N event (renamed_event to there)
same_event laws M M' N to at r (at_pin event) there same = (same_bit laws M M' N to at r event.net there.net same.0, same.1)
same_event laws M M' N to at r (at_tap input level) there same = (tap_net laws M M' N to at r (tap_place input) there.net same.0, same.1)

length_renamed : (to : ℕ → ℕ) (events : List PinEvent) → length (map (renamed_event to) events) ≡ length events
length_renamed to [] = refl
length_renamed to (event ∷ events) = ap suc (length_renamed to events)

renamed_there : (to : ℕ → ℕ) (events : List PinEvent) (t : ℕ) (other : PinEvent) → slice_get (map (renamed_event to) events) t ≡ Some other
    → (event : PinEvent) × (slice_get events t ≡ Some event) × (renamed_event to event ≡ other)
renamed_there to [] t other e = absurd (cc)
renamed_there to (event ∷ events) zero other e = (event, refl, first (renamed_event to event) other e)
  where
    first : (a b : PinEvent) → Some a ≡ Some b → a ≡ b
    first a b h = cc
renamed_there to (event ∷ events) (suc t) other e = renamed_there to events t other e

pub same_events : CopyLaws → (M M' N : NetlistView) (to at : ℕ → ℕ) → IsRenumbering M M' to at → (events : List ChipEvent) (there : List PinEvent) → SameEvents M N events there
    → SameEvents M' N events (map (renamed_event to) there)
same_events laws M M' N to at r events there same = record {
  count = length_renamed to there ∙ same.count;
  each = λ t event other e h.
      let old = renamed_there to there t other h in
      subst (IsSameEvent M' N event) old.2 (same_event laws M M' N to at r event old.0 (same.each t event old.0 e old.1));
}

-- there and back
pub events_back : (to back : ℕ → ℕ) → ((net : ℕ) → to (back net) ≡ net) → (events : List PinEvent) → map (renamed_event to) (map (renamed_event back) events) ≡ events
events_back to back goes [] = refl
events_back to back goes (event ∷ events) =
    ap (λ (n : ℕ). (let one : PinEvent = record { net = n; value = event.value } in one) ∷ map (renamed_event to) (map (renamed_event back) events)) (goes event.net)
    ∙ ap (λ (rest : List PinEvent). event ∷ rest) (events_back to back goes events)

-- Readings.

bit_way : BitHasDirection → (M : NetlistView) → IsWellFormed M → (number bit net : ℕ) → bit_net M number bit ≡ Some (record { 0 = net }) → (dir : Dir) × (direction M.ports net ≡ Some dir)
bit_way law M formed number bit net h = by (slice_get M.ports number) refl h
  where
    by : (o : Option PortView) → slice_get M.ports number ≡ o → option_and_then (λ (p : PortView). slice_get p.nets bit) o ≡ Some (record { 0 = net }) → (dir : Dir) × (direction M.ports net ≡ Some dir)
    by None e k = absurd (cc)
    by (Some port) e k = (port.dir, law M formed port.dir (record { 0 = net }) (record { number = number; port = port; bit = bit; stands = e; has = k; same = refl }))

reads_there : CopyLaws → (M M' : NetlistView) (to at : ℕ → ℕ) → IsRenumbering M M' to at → IsWellFormed M → (number bit there : ℕ) → bit_net M number bit ≡ Some (record { 0 = there }) → (m : Moment)
    → reading_at M' m (to there) ≡ reading_at M (seen_moment to at m) there
reads_there laws M M' to at r formed number bit there h m =
    let way = bit_way laws.ways M formed number bit there h in laws.reads M M' to at r formed m.pins m.value there way.0 way.1

pub reads_bit : CopyLaws → (M M' N : NetlistView) (to at : ℕ → ℕ) → IsRenumbering M M' to at → IsWellFormed M → (m : Moment) (net : ℕ) (wanted : PinSig)
    → ReadsBit M N (seen_moment to at m) net wanted → ReadsBit M' N m net wanted
reads_bit laws M M' N to at r formed m net wanted old = record {
  there = to old.there;
  same = same_bit laws M M' N to at r net old.there old.same;
  reads = reads_there laws M M' to at r formed old.same.port old.same.place old.there old.same.there m ∙ old.reads;
}

pub reads_tdo : CopyLaws → (M M' N : NetlistView) (to at : ℕ → ℕ) → IsRenumbering M M' to at → IsWellFormed M → (m : Moment) (wanted : PinSig)
    → ReadsTdo M N (seen_moment to at m) wanted → ReadsTdo M' N m wanted
reads_tdo laws M M' N to at r formed m wanted old = record {
  there = to old.there;
  tap = tap_net laws M M' N to at r 3 old.there old.tap;
  reads = reads_there laws M M' to at r formed (length N.ports + 3) 0 old.there old.tap m ∙ old.reads;
}
