-- Control ports under other numbers.
use Rattle.std.proofs.Common.{◌≡◌, inl, inr, ℕ, ◌+◌, length, sym, ap, ◌∙◌, subst}
use Rattle.netlist_model.specs.Lists.{NetlistView, direction}
use Rattle.netlist_model.specs.Settled.{follows_pin}
use Rattle.netlist_model.specs.Renumbered.{IsRenumbering}
use Rattle.netlist_model.specs.RenumberedLaws.{RenumberingTurns, RenumberedBits, RenumberedDirections, RenumberedPorts, SamePorts}
use Rattle.wrapped_chip.specs.Realises.{SameBit, tap_place, IsTapNet}
use Rattle.wrapped_chip.specs.CopiesLaws.{RenumberedControls}

-- the laws that it stands on
pub record ControlLaws : Type 0 where
  pub turns : RenumberingTurns
  pub bits : RenumberedBits
  pub ways : RenumberedDirections
  pub ports : RenumberedPorts

bit_over : ControlLaws → (M M' N : NetlistView) (to at : ℕ → ℕ) → IsRenumbering M M' to at → (net there : ℕ) → SameBit M N net there → SameBit M' N net (to there)
bit_over laws M M' N to at r net there same = record {
  port = same.port;
  place = same.place;
  here = same.here;
  there = laws.bits M M' to at r same.port same.place (record { 0 = there }) same.there;
}

tap_over : ControlLaws → (M M' N : NetlistView) (to at : ℕ → ℕ) → IsRenumbering M M' to at → (place net : ℕ) → IsTapNet M N place net → IsTapNet M' N place (to net)
tap_over laws M M' N to at r place net tap = laws.bits M M' to at r (length N.ports + place) 0 (record { 0 = net }) tap

pub controls_there : ControlLaws → RenumberedControls
controls_there laws M M' N to at r has =
    let turned : IsRenumbering M' M r.back r.from = laws.turns M M' to at r in
    let ports : SamePorts M' M r.back = laws.ports M' M r.back r.from turned in
    let way : (there : ℕ) → direction M.ports (r.back there) ≡ direction M'.ports there = laws.ways M' M r.back r.from turned in
    let bit : (net there : ℕ) → SameBit M' N net there → SameBit M N net (r.back there) = bit_over laws M' M N r.back r.from turned in
    let tap : (place there : ℕ) → IsTapNet M' N place there → IsTapNet M N place (r.back there) = tap_over laws M' M N r.back r.from turned in
    record {
      bits = λ net there same follows. ap follows_pin (sym (way there)) ∙ has.bits net (r.back there) (bit net there same) follows;
      tap = λ input there is. ap follows_pin (sym (way there)) ∙ has.tap input (r.back there) (tap (tap_place input) there is);
      kept = λ net there same port. has.kept net (r.back there) (bit net there same) (ports.control there port);
      stays = λ net there same port. ports.control_back there (has.stays net (r.back there) (bit net there same) port);
      added = λ input there which is. ports.control_back there (has.added input (r.back there) which (tap (tap_place input) there is));
      only = λ there port. elim (has.only (r.back there) (ports.control there port)) [
        | inl k ↦ inl (record {
          net = k.net;
          same = subst (SameBit M' N k.net) (r.here.nets there) (bit_over laws M M' N to at r k.net (r.back there) k.same);
          control = k.control;
        })
        | inr t ↦ inr (record {
          input = t.input;
          which = t.which;
          tap = subst (IsTapNet M' N (tap_place t.input)) (r.here.nets there) (tap_over laws M M' N to at r (tap_place t.input) (r.back there) t.tap);
        })
      ];
    }
