-- A register's bits are its list.
use Rattle.std.proofs.Common.{◌≡◌, ℕ, zero, suc, ◌≤◌, Bool, List, [], ◌∷◌, map, length, refl, ap, sym, ◌∙◌, arith}
use Rattle.signal_values.specs.declared.Sig.{Sig}
use Rattle.signal_values.specs.declared.Sig.TheVariants.{Zero}
use Rattle.signal_values.specs.Values.{bit}
use Rattle.netlist_model.specs.declared.NetId.{NetId}
use Rattle.netlist_model.specs.declared.Feed.TheVariants.{Net}
use Rattle.netlist_model.specs.Settled.{feed_values}
use Rattle.test_logic.specs.declared.Levels.{Levels}
use Rattle.test_logic.specs.Registers.{ident_after}
use Rattle.test_logic.specs.Machine.{zeros}
use Rattle.register_gates.specs.BitsLaws.{bit_after}
use Rattle.wrapped_chip.specs.ChipRuns.{ChipMoment}
use Rattle.surrounded_core.specs.Places.{controller_nets}
use Rattle.register_gates.specs.Laws.{DataLaws, DataFollows}
use Rattle.status_gates.specs.Wires.{net_feeds}
use Rattle.status_gates.specs.Extended.{StatusRegister, HeldRegister, is_latched, wire_values, list_after, list_from}
use Rattle.status_gates.specs.Placed.{contents, held_at}
use Rattle.status_gates.specs.RunsLaws.{WiresCarry, RegistersFollow}
use Rattle.status_gates.proofs.CoreWires.{fed}

pub record ListLaws : Type 0 where
  pub wires : WiresCarry
  pub gates : DataFollows

zeros_map : {A C : Type 0} (f : A → C) (xs : List A) → zeros (map f xs) ≡ zeros xs
zeros_map f [] = refl
zeros_map f (x ∷ xs) = ap (λ (zs : List Sig). Zero ∷ zs) (zeros_map f xs)

pub blank : (r : StatusRegister) → zeros (net_feeds r.wires) ≡ zeros r.wires
blank r = zeros_map (λ (net : NetId). Net net) r.wires

begins : (h : HeldRegister) (chip : ℕ → ChipMoment) → list_from h chip 0 ≡ h.held
unfolding list_from
begins h chip = refl

goes_on : (h : HeldRegister) (chip : ℕ → ChipMoment) (t : ℕ)
    → list_from h chip (suc t) ≡ list_after h.register (chip t).levels (chip (suc t)).levels (chip t).value (chip t).machine (list_from h chip t)
unfolding list_from
goes_on h chip t = refl

pub registers_follow : ListLaws → RegistersFollow
registers_follow by M N B S shown events chip moment r p placed on = along
  where
    laws : DataLaws p.first p.number (controller_nets S) p.on S.tdi (net_feeds p.register.wires)
    laws = by.gates p.first p.number (controller_nets S) p.on S.tdi (net_feeds p.register.wires)

    start : HeldRegister
    start = held_at (moment 0) p

    along : (t : ℕ) → t ≤ length events → contents (moment t) p ≡ list_from start chip t
    along zero below = sym (begins start chip)
    along (suc t) below =
        let before : t ≤ length events = omega arith in
        let event = r.steps t below in
        let h = r.follows.holds t before in
        let on_now : Bool = is_latched p.register (chip t).machine in
        let ls : Levels = (chip t).levels in
        let ls' : Levels = (chip (suc t)).levels in
        let next : List Sig → List Sig → List Sig → List Sig
        = λ zs cs vs. bit_after ls ls' zs (ident_after on_now cs (chip t).machine.state (bit ls.tdi) vs) vs vs in
        let vs : List Sig = contents (moment t) p in
        let e : contents (moment (suc t)) p ≡ next (zeros (net_feeds p.register.wires)) (feed_values (moment t).value (net_feeds p.register.wires)) vs
        = laws.step M event.0 (chip t).machine.state on_now ls ls' (moment t) (moment (suc t)) r.around.formed placed.cells (r.settled t before) event.1
        (record { carries = h.levels; shows = h.shows; selection = on t before; data_in = h.data_in }) (r.follows.holds (suc t) below).levels in
        e
        ∙ ap (λ (zs : List Sig). next zs (feed_values (moment t).value (net_feeds p.register.wires)) vs) (blank p.register)
        ∙ ap (λ (cs : List Sig). next (zeros p.register.wires) cs vs)
        (fed N S (moment t).value (chip t).value p.register.wires placed.wires (λ net wire. by.wires M N B S shown events chip moment r net wire t before))
        ∙ ap (λ (xs : List Sig). next (zeros p.register.wires) (wire_values p.register (chip t).value) xs) (along t before)
        ∙ sym (goes_on start chip t)
