-- What events note, and what a simulator is made of.
use Rattle.std.proofs.Common.{◌≡◌, ◌≢◌, ◌⊎◌, ℕ, ◌+◌, ◌*◌, ◌<◌, ◌≤◌, List, length, Option, Some, None, refl, sym, ap, ◌∙◌, inl, inr, arith, if◌then◌else◌}
use Rattle.std.specs.Option.{option_and_then, option_map}
use Rattle.std.specs.Prelude.{slice_get}
use Rattle.std.proofs.lemmas.Bool.{cases_eq}
use Rattle.std.proofs.lemmas.Bool.Decides.{eqb_tells}
use Rattle.std.proofs.lemmas.Option.{slice_get_past}
use Rattle.list_laws.proofs.Tests.{true_or_false}
use Rattle.list_laws.proofs.Lists.{slice_get_there}
use Rattle.signal_values.specs.declared.Sig.{Sig}
use Rattle.signal_values.specs.declared.PinSig.{PinSig}
use Rattle.signal_values.specs.Values.{pin_of}
use Rattle.cell_library.specs.Gates.{is_three_state}
use Rattle.netlist_model.specs.declared.CellId.{CellId}
use Rattle.netlist_model.specs.declared.NetId.{NetId}
use Rattle.netlist_model.specs.declared.PinBit.{PinBit}
use Rattle.netlist_model.specs.declared.Range.{Range}
use Rattle.netlist_model.specs.Lists.{CellView, PortView, NetlistView, cell_at, direction}
use Rattle.netlist_model.specs.Settled.{driver_of}
use Rattle.netlist_model.specs.Formed.{IsLaidOut, width_of}
use Rattle.netlist_model.specs.Readings.{reading, reading_of}
use Rattle.netlist_model.specs.Runs.{PinEvent, pins_after}
use Rattle.netlist_model.specs.Orders.{IsCellOrder}
use Rattle.netlist_settling.specs.Values.{value_at, pin_at}
use Rattle.netlist_link.specs.Linked.{LinkedView}
use Rattle.netlist_meaning.specs.Pins.{net_of}
use Rattle.netlist_meaning.specs.States.{cell_bound}
use Rattle.netlist_meaning.proofs.Flops.{all_kept}
use Rattle.event_parts.specs.QueuesLaws.{IsIn, bit_of}
use Rattle.event_laws.specs.Work.{IsAtRest, kept_drive}
use Rattle.event_laws.proofs.Readings.{rest_reads}
use Rattle.event_turns.specs.Logs.{Logs}

kept_same : (found : Option CellView) (value value' : ℕ → Sig) (drive drive' : ℕ → PinSig) (net : ℕ) → value' net ≡ value net → drive' net ≡ drive net → kept_drive found value drive net ≡ kept_drive found value' drive' net
kept_same None value value' drive drive' net same kept = ap pin_of (sym same)
kept_same (Some cell) value value' drive drive' net same kept =
    elim (true_or_false (is_three_state cell.kind)) [
      | inl three ↦ rw three (sym kept)
      | inr other ↦ rw other (ap pin_of (sym same))
    ]

-- a net that isn't logged reads as before, where its pin has what it had
pub reads_same : (N : NetlistView) (pins pins' drives drives' : List PinSig) (values values' state state' : List Sig) (net : ℕ) → IsAtRest N (pin_at pins) (value_at values) (value_at state) (pin_at drives)
    → IsAtRest N (pin_at pins') (value_at values') (value_at state') (pin_at drives') → pin_at pins' net ≡ pin_at pins net → value_at values' net ≡ value_at values net → pin_at drives' net ≡ pin_at drives net
    → reading N (pin_at pins) (value_at values) net ≡ reading N (pin_at pins') (value_at values') net
reads_same N pins pins' drives drives' values values' state state' net rest rest' pin value drive =
    rest_reads N (pin_at pins) (value_at values) (value_at state) (pin_at drives) net rest
    ∙ ap (λ (p : PinSig). reading_of (direction N.ports net) p (pin_at pins net)) (kept_same (driver_of N.cells net) (value_at values) (value_at values') (pin_at drives) (pin_at drives') net value drive)
    ∙ ap (λ (p : PinSig). reading_of (direction N.ports net) (kept_drive (driver_of N.cells net) (value_at values') (pin_at drives') net) p) (sym pin)
    ∙ sym (rest_reads N (pin_at pins') (value_at values') (value_at state') (pin_at drives') net rest')

-- so a net that reads another value is logged
pub anew_logged : (N : NetlistView) (event : PinEvent) (pins pins' drives drives' : List PinSig) (values values' state state' : List Sig) (count : ℕ) (words words' : List ℕ) (net : ℕ)
    → IsAtRest N (pin_at pins) (value_at values) (value_at state) (pin_at drives) → IsAtRest N (pin_at pins') (value_at values') (value_at state') (pin_at drives')
    → ((other : ℕ) → pin_at pins' other ≡ pins_after (pin_at pins) event other) → IsIn words' event.net → Logs count values values' drives drives' words words'
    → reading N (pin_at pins) (value_at values) net ≢ reading N (pin_at pins') (value_at values') net → IsIn words' net
anew_logged N event pins pins' drives drives' values values' state state' count words words' net rest rest' pinned own logs anew =
    elim (cases_eq (bit_of words' net) 1) [
      | inl is ↦ is
      | inr not ↦ absurd (anew (reads_same N pins pins' drives drives' values values' state state' net rest rest' (pin_same not) (logs.values_stay net not) (logs.drives_stay net not)))
    ]
  where
    pin_same : (IsIn words' net → ⊥) → pin_at pins' net ≡ pin_at pins net
    pin_same not = elim (eqb_tells net event.net) [
      | inl here ↦ absurd (not (rw here.1 own))
      | inr apart ↦ pinned net ∙ rw apart.0 refl
    ]

-- there is a place for each cell
pub state_fits : (N : NetlistView) (order : List CellId) (state : List Sig) → IsCellOrder N order → length state ≡ cell_bound order → (number : ℕ) (cell : CellView) → cell_at N number ≡ Some cell → number < length state
state_fits N order state ordered long number cell live = (let there = ordered.each number (rw live refl) in all_kept order state long there.0 number there.1)

-- a pin of no port, and one past the last bit
pub no_port : (ports : List PortView) (pin : PinBit) → length ports ≤ pin.port.0 → None ≡ net_of ports pin
no_port ports pin past = sym (ap (λ (o : Option PortView). option_and_then (λ (port : PortView). slice_get port.nets pin.bit) o) (slice_get_past ports pin.port.0 past))

pub no_bit : (N : NetlistView) (pin : PinBit) (range : Option Range) → IsLaidOut N → option_map (λ (port : PortView). port.range) (slice_get N.ports pin.port.0) ≡ Some range → width_of range ≤ pin.bit → None ≡ net_of N.ports pin
no_bit N pin range laid looked past = go (slice_get N.ports pin.port.0) refl looked
  where
    go : (found : Option PortView) → slice_get N.ports pin.port.0 ≡ found → option_map (λ (port : PortView). port.range) found ≡ Some range → None ≡ option_and_then (λ (port : PortView). slice_get port.nets pin.bit) found
    go None at is = refl
    go (Some port) at is =
        let same : port.range ≡ range = cc in
        let long = laid.widths pin.port.0 port at in
        let wide : width_of port.range ≡ width_of range = ap width_of same in
        sym (slice_get_past port.nets pin.bit (omega arith))

pub some_bit : (N : NetlistView) (pin : PinBit) (range : Option Range) → IsLaidOut N → option_map (λ (port : PortView). port.range) (slice_get N.ports pin.port.0) ≡ Some range → pin.bit < width_of range
    → (net : NetId) × (net_of N.ports pin ≡ Some net)
some_bit N pin range laid looked below = go (slice_get N.ports pin.port.0) refl looked
  where
    go : (found : Option PortView) → slice_get N.ports pin.port.0 ≡ found → option_map (λ (port : PortView). port.range) found ≡ Some range
        → (net : NetId) × (option_and_then (λ (port : PortView). slice_get port.nets pin.bit) found ≡ Some net)
    go None at is = absurd (let no : None ≡ Some range = is in cc)
    go (Some port) at is =
        let same : port.range ≡ range = cc in
        let long = laid.widths pin.port.0 port at in
        let wide : width_of port.range ≡ width_of range = ap width_of same in
        slice_get_there port.nets pin.bit (omega arith)

-- what an empty log has after an event are nets
pub logged_nets : (count : ℕ) (values values' : List Sig) (drives drives' : List PinSig) (words words' : List ℕ) (net : ℕ) → ((other : ℕ) → IsIn words other → ⊥) → Logs count values values' drives drives' words words' → IsIn words' net → net < count
logged_nets count values values' drives drives' words words' net none logs is =
    elim (logs.nets net is) [
      | inl was ↦ absurd (none net was)
      | inr below ↦ below
    ]

-- a reading is had from what is kept
pub reading_kept : (S : LinkedView) (N : NetlistView) (pins : List PinSig) (values state : List Sig) (drives : List PinSig) (pin : PinBit) (net : NetId) (got : PinSig) → N ≡ S.arena.lists → net_of S.arena.lists.ports pin ≡ Some net
    → IsAtRest S.arena.lists (pin_at pins) (value_at values) (value_at state) (pin_at drives)
    → got ≡ reading_of (direction N.ports net.0) (kept_drive (driver_of N.cells net.0) (value_at values) (pin_at drives) net.0) (pin_at pins net.0)
    → option_map (λ (n : NetId). reading S.arena.lists (pin_at pins) (value_at values) n.0) (net_of S.arena.lists.ports pin) ≡ Some got
reading_kept S N pins values state drives pin net got same named rest is =
    let own : got ≡ reading_of (direction S.arena.lists.ports net.0) (kept_drive (driver_of S.arena.lists.cells net.0) (value_at values) (pin_at drives) net.0) (pin_at pins net.0) = rw same at is in
    rw named (ap (λ (p : PinSig). Some p) (rest_reads S.arena.lists (pin_at pins) (value_at values) (value_at state) (pin_at drives) net.0 rest ∙ sym own))
