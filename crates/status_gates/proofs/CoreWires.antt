-- A wire of the core carries the core's value.
use Rattle.std.proofs.Common.{◌≡◌, ℕ, List, [], ◌∷◌, map, refl, ap, sym, ◌∙◌}
use Rattle.std.specs.Prelude.{All}
use Rattle.std.proofs.lemmas.List.Elements.{All-head, All-tail}
use Rattle.signal_values.specs.declared.Sig.{Sig}
use Rattle.netlist_model.specs.declared.NetId.{NetId}
use Rattle.netlist_model.specs.Lists.{NetlistView}
use Rattle.netlist_model.specs.Settled.{feed_values}
use Rattle.surrounded_core.specs.Places.{Places}
use Rattle.surrounded_core.specs.Laws.{core_value}
use Rattle.status_gates.specs.Wires.{net_feeds}
use Rattle.status_gates.specs.Placed.{IsCoreWire}
use Rattle.status_gates.specs.RunsLaws.{WiresCarry}

core_is : (N : NetlistView) (S : Places) (v : ℕ → Sig) (net : ℕ) → IsCoreWire N S net → core_value N S v net ≡ v net
core_is N S v net wire = rw (wire.inside, wire.driver, wire.plain) (ap v wire.stays)

pub wires_carry : WiresCarry
wires_carry M N B S shown events chip moment r net wire t below = sym (core_is N S (moment t).value net wire) ∙ (r.follows.holds t below).core net

-- what a register is fed
pub fed : (N : NetlistView) (S : Places) (v w : ℕ → Sig) (nets : List NetId) → All (λ (net : NetId). IsCoreWire N S net.0) nets → ((net : ℕ) → IsCoreWire N S net → v net ≡ w net)
    → feed_values v (net_feeds nets) ≡ map (λ (net : NetId). w net.0) nets
fed N S v w [] all same = refl
fed N S v w (net ∷ nets) all same =
    ap (λ (x : Sig). x ∷ feed_values v (net_feeds nets)) (same net.0 (All-head (λ (n : NetId). IsCoreWire N S n.0) net nets all))
    ∙ ap (λ (xs : List Sig). w net.0 ∷ xs) (fed N S v w nets (All-tail (λ (n : NetId). IsCoreWire N S n.0) net nets all) same)
