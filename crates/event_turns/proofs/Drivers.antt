-- What is kept of three-state gates at a start, one gate after another.
use Rattle.std.proofs.Common.{◌≡◌, ◌≢◌, ℕ, ◌+◌, ◌<◌, ◌≤◌, true, false, List, length, get_or, Option, Some, None, refl, sym, ap, ◌∙◌, inl, inr, arith, get_or-set_same, get_or-set_other, length-set}
use Rattle.std.specs.Prelude.{slice_get}
use Rattle.std.proofs.lemmas.Bool.{cases_lt}
use Rattle.std.proofs.lemmas.Option.{slice_get-get_or, slice_get_within}
use Rattle.list_laws.proofs.Options.{some_same}
use Rattle.signal_values.specs.declared.Sig.{Sig}
use Rattle.signal_values.specs.declared.Sig.TheVariants.{Unknown}
use Rattle.signal_values.specs.declared.PinSig.{PinSig}
use Rattle.cell_library.specs.declared.Kind.{Kind}
use Rattle.cell_library.specs.declared.Kind.TheVariants.{Bufif0, Bufif1}
use Rattle.cell_library.specs.Gates.{is_three_state}
use Rattle.netlist_model.specs.declared.NetId.{NetId}
use Rattle.netlist_model.specs.declared.Feed.{Feed}
use Rattle.netlist_model.specs.Lists.{CellView, Drives}
use Rattle.netlist_model.specs.Settled.{feed_values, cell_drive}
use Rattle.netlist_model.proofs.Search.{cell_at_once}
use Rattle.netlist_settling.specs.Values.{value_at, pin_at}
use Rattle.event_laws.specs.Work.{AreDriven}
use Rattle.event_laws.proofs.Inputs.{output_cases}
use Rattle.event_turns.specs.declared.circuit.Gate.{Gate}
use Rattle.event_turns.specs.Circuits.{CircuitView, IsCircuit, IsLiveGate, feeds_in, place_of, turn_at}
use Rattle.event_turns.specs.Logs.{drives_by, drives_with, own_drive}
use Rattle.event_turns.specs.Tables.{IsBelow}

-- the three-state gates in the first so many places
pub record AreDrivenUpTo (c : CircuitView) (values : List Sig) (count : ℕ) (drives : List PinSig) : Type 0 where
  pub long : length drives ≡ length c.lists.nets
  pub each : (place : ℕ) (gate : Gate) (net : ℕ) → place < count → slice_get c.gates place ≡ Some gate → gate.output ≡ Some (record { 0 = net }) → is_three_state gate.kind ≡ true
      → pin_at drives net ≡ cell_drive gate.kind (feed_values (value_at values) (feeds_in c.feeds gate)) Unknown

pub none_driven : (c : CircuitView) (values : List Sig) (drives : List PinSig) → length drives ≡ length c.lists.nets → AreDrivenUpTo c values 0 drives
none_driven c values drives long = record {
  long = long;
  each = λ place gate net below there out three. absurd (omega arith);
}

-- a gate that was looked up stands there
pub gate_at : (gates : List Gate) (place : ℕ) (gate : Gate) → gate ≡ get_or gates place gate → place < length gates → slice_get gates place ≡ Some gate
gate_at gates place gate at below = slice_get-get_or gates place gate below ∙ ap (λ (g : Gate). Some g) (sym at)

-- the output of a gate is a net of the list
pub gate_below : (c : CircuitView) (count : ℕ) (gate : Gate) → IsCircuit c → IsLiveGate c.lists c.feeds gate → count ≡ length c.lists.nets → IsBelow count gate.output
gate_below c count gate is live long = go gate.output refl
  where
    go : (output : Option NetId) → gate.output ≡ output → IsBelow count output
    go None at = tt
    go (Some net) at =
        let drives : Drives c.lists gate.cell.0 live.cell net.0 = record { live = live.live; output = sym live.is_of.output_is ∙ at } in
        (let below = is.laid.outputs gate.cell.0 live.cell net.0 drives in omega arith)

three_own : (kind : Kind) (inputs : List Sig) → is_three_state kind ≡ true → own_drive kind inputs ≡ Some (cell_drive kind inputs Unknown)
three_own Bufif0 inputs three = refl
three_own Bufif1 inputs three = refl
three_own kind inputs three = absurd (let no : false ≡ true = three in cc)

pub with_long : (net : ℕ) (drive : Option PinSig) (drives : List PinSig) → length (drives_with net drive drives) ≡ length drives
with_long net None drives = refl
with_long net (Some drive) drives = length-set drives net drive

pub with_other : (net other : ℕ) (drive : Option PinSig) (drives : List PinSig) → other ≢ net → pin_at (drives_with net drive drives) other ≡ pin_at drives other
with_other net other None drives ne = refl
with_other net other (Some drive) drives ne = get_or-set_other drives net other drive _ ne

pub with_own : (net : ℕ) (given : Option PinSig) (drive : PinSig) (drives : List PinSig) → given ≡ Some drive → net < length drives → pin_at (drives_with net given drives) net ≡ drive
with_own net given drive drives is below = rw is (get_or-set_same drives net drive _ below)

by_long : (output : Option NetId) (drive : Option PinSig) (drives : List PinSig) → length (drives_by output drive drives) ≡ length drives
by_long None drive drives = refl
by_long (Some net) drive drives = with_long net.0 drive drives

by_other : (output : Option NetId) (other : ℕ) (drive : Option PinSig) (drives : List PinSig) → output ≢ Some (record { 0 = other }) → pin_at (drives_by output drive drives) other ≡ pin_at drives other
by_other None other drive drives ne = refl
by_other (Some net) other drive drives ne = with_other net.0 other drive drives (λ e. ne (ap (λ (k : ℕ). Some (let n : NetId = record { 0 = k } in n)) (sym e)))

by_own : (output : Option NetId) (net : ℕ) (drive : PinSig) (given : Option PinSig) (drives : List PinSig) → output ≡ Some (record { 0 = net }) → given ≡ Some drive → net < length drives
    → pin_at (drives_by output given drives) net ≡ drive
by_own output net drive given drives out is below = rw (out, is) (get_or-set_same drives net drive _ below)

pub one_driven : (c : CircuitView) (values : List Sig) (count : ℕ) (gate : Gate) (drives new : List PinSig) → IsCircuit c → slice_get c.gates count ≡ Some gate
    → new ≡ drives_by gate.output (own_drive gate.kind (feed_values (value_at values) (feeds_in c.feeds gate))) drives → AreDrivenUpTo c values count drives → AreDrivenUpTo c values (count + 1) new
one_driven c values count gate drives new is here made so_far = rw made (record {
  long = by_long gate.output given drives ∙ so_far.long;
  each = λ place other net below there out three.
      elim (output_cases gate.output net) [
        | inl same ↦ (let one = one_cell place other net there out same in
            own net same (ap is_three_state one.0 ∙ three)
            ∙ ap (λ (k : Kind). cell_drive k inputs Unknown) one.0 ∙ ap (λ (feeds : List Feed). cell_drive other.kind (feed_values (value_at values) feeds) Unknown) one.1)
        | inr apart ↦ (by_other gate.output net given drives apart ∙ elim (cases_lt place count) [
          | inl early ↦ so_far.each place other net early there out three
          | inr late ↦ absurd (let at : place ≡ count = omega arith in
              let gates : other ≡ gate = some_same other gate _ (rw at at there) here in
              apart (ap (λ (g : Gate). g.output) (sym gates) ∙ out))
        ])
      ];
})
  where
    inputs : List Sig
    inputs = feed_values (value_at values) (feeds_in c.feeds gate)

    given : Option PinSig
    given = own_drive gate.kind inputs

    mine : IsLiveGate c.lists c.feeds gate
    mine = is.live count gate here

    own : (net : ℕ) → gate.output ≡ Some (record { 0 = net }) → is_three_state gate.kind ≡ true → pin_at (drives_by gate.output given drives) net ≡ cell_drive gate.kind inputs Unknown
    own net out three =
        let drives_it : Drives c.lists gate.cell.0 mine.cell net = record { live = mine.live; output = sym mine.is_of.output_is ∙ out } in
        let below : net < length drives = (let there = is.laid.outputs gate.cell.0 mine.cell net drives_it in let long = so_far.long in omega arith) in
        by_own gate.output net (cell_drive gate.kind inputs Unknown) given drives out (three_own gate.kind inputs three) below

    -- two gates that drive one net are of one kind, with the same operands
    one_cell : (place : ℕ) (other : Gate) (net : ℕ) → slice_get c.gates place ≡ Some other → other.output ≡ Some (record { 0 = net }) → gate.output ≡ Some (record { 0 = net })
        → (gate.kind ≡ other.kind) × (feeds_in c.feeds gate ≡ feeds_in c.feeds other)
    one_cell place other net there out same =
        let its = is.live place other there in
        let a : Drives c.lists gate.cell.0 mine.cell net = record { live = mine.live; output = sym mine.is_of.output_is ∙ same } in
        let b : Drives c.lists other.cell.0 its.cell net = record { live = its.live; output = sym its.is_of.output_is ∙ out } in
        let numbers = is.formed.one_driver gate.cell.0 other.cell.0 mine.cell its.cell net a b in
        let cells : mine.cell ≡ its.cell = cell_at_once c.lists gate.cell.0 other.cell.0 mine.cell its.cell numbers mine.live its.live in (
          mine.is_of.kind_is ∙ ap (λ (x : CellView). x.kind) cells ∙ sym its.is_of.kind_is,
          mine.is_of.feeds_are ∙ ap (λ (x : CellView). x.feeds) cells ∙ sym its.is_of.feeds_are,
        )

pub all_driven : (c : CircuitView) (values : List Sig) (count : ℕ) (drives : List PinSig) → IsCircuit c → length c.gates ≤ count → AreDrivenUpTo c values count drives
    → AreDriven c.lists (value_at values) (pin_at drives)
all_driven c values count drives is whole all = record {
  each = λ number cell net driven three.
      let stands = is.gates number cell driven.live in
      let place = place_of (length c.gates) (turn_at c.turns number) in
      let within = slice_get_within c.gates place _ stands.there in
      let kind = stands.is_of.kind_is in
      all.each place stands.gate net (omega arith) stands.there (stands.is_of.output_is ∙ driven.output) (ap is_three_state kind ∙ three)
      ∙ ap (λ (k : Kind). cell_drive k (feed_values (value_at values) (feeds_in c.feeds stands.gate)) Unknown) kind
      ∙ ap (λ (feeds : List Feed). cell_drive cell.kind (feed_values (value_at values) feeds) Unknown) stands.is_of.feeds_are;
}
