-- Netlists with the same ports, and the same nets in the cones of clocks, clears and presets.
use Rattle.std.proofs.Common.{◌≡◌, ℕ, ◌+◌, inl, inr, List, length, ap, sym, ◌∙◌}
use Rattle.std.specs.Prelude.{slice_get, option_and_then}
use Rattle.netlist_model.specs.Lists.{PortView, NetlistView, bit_net, direction}
use Rattle.netlist_model.specs.Settled.{follows_pin}
use Rattle.netlist_model.specs.Cones.{IsControlNet, IsControlPort}
use Rattle.wrapped_chip.specs.Realises.{SameBit, IsTapNet, tap_place}
use Rattle.wrapped_chip.specs.Legal.{HasControls}

pub side_same : (old new : NetlistView) → new.ports ≡ old.ports → (net : ℕ) → direction new.ports net ≡ direction old.ports net
side_same old new e net = ap (λ (ps : List PortView). direction ps net) e

pub bit_same : (old new : NetlistView) → new.ports ≡ old.ports → (port place : ℕ) → bit_net new port place ≡ bit_net old port place
bit_same old new e port place = ap (λ (ps : List PortView). option_and_then (λ (q : PortView). slice_get q.nets place) (slice_get ps port)) e

pub tap_before : (old new N : NetlistView) → new.ports ≡ old.ports → (place net : ℕ) → IsTapNet new N place net → IsTapNet old N place net
tap_before old new N e place net at = sym (bit_same old new e (length N.ports + place) 0) ∙ at

pub tap_after : (old new N : NetlistView) → new.ports ≡ old.ports → (place net : ℕ) → IsTapNet old N place net → IsTapNet new N place net
tap_after old new N e place net at = bit_same old new e (length N.ports + place) 0 ∙ at

pub same_controls : (old new N : NetlistView) → new.ports ≡ old.ports → ((net : ℕ) → IsControlNet new net → IsControlNet old net) → ((net : ℕ) → IsControlNet old net → IsControlNet new net)
    → HasControls old N → HasControls new N
same_controls old new N e before after has = record {
  bits = λ net there same g. ap follows_pin (side_same old new e there) ∙ has.bits net there (bit_before net there same) g;
  tap = λ input there at. ap follows_pin (side_same old new e there) ∙ has.tap input there (tap_before old new N e (tap_place input) there at);
  kept = λ net there same c. has.kept net there (bit_before net there same) (port_before there c);
  stays = λ net there same c. port_after there (has.stays net there (bit_before net there same) c);
  added = λ input there which at. port_after there (has.added input there which (tap_before old new N e (tap_place input) there at));
  only = λ there c. elim (has.only there (port_before there c)) [
    | inl k ↦ inl (record { net = k.net; same = bit_after k.net there k.same; control = k.control })
    | inr t ↦ inr (record { input = t.input; which = t.which; tap = tap_after old new N e (tap_place t.input) there t.tap })
  ];
}
  where
    bit_before : (net there : ℕ) → SameBit new N net there → SameBit old N net there
    bit_before net there s = record { port = s.port; place = s.place; here = s.here; there = sym (bit_same old new e s.port s.place) ∙ s.there }

    bit_after : (net there : ℕ) → SameBit old N net there → SameBit new N net there
    bit_after net there s = record { port = s.port; place = s.place; here = s.here; there = bit_same old new e s.port s.place ∙ s.there }

    port_before : (there : ℕ) → IsControlPort new there → IsControlPort old there
    port_before there c = (sym (side_same old new e there) ∙ c.0, before there c.1)

    port_after : (there : ℕ) → IsControlPort old there → IsControlPort new there
    port_after there c = (side_same old new e there ∙ c.0, after there c.1)
