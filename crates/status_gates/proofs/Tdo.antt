-- TDO reads as the extended test logic.
use Rattle.std.proofs.Common.{◌≡◌, ℕ, zero, suc, ◌≤◌, Bool, true, false, List, [], ◌∷◌, map, length, Option, Some, None, refl, ap, sym, ◌∙◌, arith}
use Rattle.std.specs.Prelude.{All, unwrap_or, if◌then◌else◌}
use Rattle.std.proofs.lemmas.List.Elements.{All-nil, All-cons, All-head, All-tail}
use Rattle.signal_values.specs.declared.Sig.{Sig}
use Rattle.signal_values.specs.declared.PinSig.{PinSig}
use Rattle.signal_values.specs.declared.PinSig.TheVariants.{HighZ}
use Rattle.signal_values.specs.Values.{bit, sig_mux}
use Rattle.signal_values.proofs.Laws.{mux-one, mux-zero}
use Rattle.cell_library.specs.declared.codes.Instr.{Instr}
use Rattle.cell_library.specs.declared.codes.Instr.TheVariants as instr
use Rattle.netlist_model.specs.Runs.{Moment, reading_at}
use Rattle.bsdl_device.specs.Instructions.{selected_register}
use Rattle.bsdl_device.specs.declared.entries.Register.{Register}
use Rattle.bsdl_device.specs.declared.entries.Register.TheVariants as register
use Rattle.bsdl_device.specs.declared.values.Device.{Device}
use Rattle.test_logic.specs.Registers.{first_bit, tdo_after}
use Rattle.test_logic.specs.Machine.{TestLogic, Machine, in_effect, bit_of, test_logic_of}
use Rattle.register_gates.specs.BitsLaws.{bit_after}
use Rattle.wrapped_chip.specs.ChipRuns.{ChipMoment}
use Rattle.surrounded_core.specs.Places.{Places, controller_nets, bypass_bit}
use Rattle.surrounded_core.specs.Open.{shown_bit, tdo_step}
use Rattle.register_gates.specs.Laws.{DataFollows}
use Rattle.register_gates.specs.Registers.{data_last}
use Rattle.status_gates.specs.Wires.{net_feeds}
use Rattle.status_gates.proofs.Feeds.{net_feeds_length}
use Rattle.status_gates.specs.Extended.{HeldRegister, is_latched, list_from, nearest_of, data_of, tdo_with, tdo_from}
use Rattle.status_gates.specs.Placed.{Placed, IsPlaced, held_at, shown_by, IsFree}
use Rattle.status_gates.specs.RunsLaws.{RegistersFollow, ExtendedTdoFollows}

pub record TdoLaws : Type 0 where
  pub registers : RegistersFollow
  pub gates : DataFollows

chosen : (b : Bool) (rest x : Sig) → sig_mux (bit b) rest x ≡ (if b then x else rest)
chosen true rest x = mux-one rest x
chosen false rest x = mux-zero rest x

-- the bit that is on, else this one
or_near : (b : Bool) (o : Option Sig) (near rest : Sig) → (if b then near else unwrap_or o rest) ≡ unwrap_or (if b then Some near else o) rest
or_near true o near rest = refl
or_near false o near rest = refl

-- what is known of a register at a moment, where its list was this at first
record IsAt (S : Places) (m0 : Moment) (chip : ℕ → ChipMoment) (t : ℕ) (m : Moment) (p : Placed) : Type 0 where
  on : m.value p.on.0 ≡ bit (is_latched p.register (chip t).machine)
  near : m.value (data_last p.first S.tdi (net_feeds p.register.wires)).0 ≡ first_bit (list_from (held_at m0 p) chip t)

shown_is : (S : Places) (m0 : Moment) (chip : ℕ → ChipMoment) (t : ℕ) (m : Moment) → m.value (bypass_bit S).0 ≡ (chip t).machine.bypass → (ps : List Placed)
    → All (IsAt S m0 chip t m) ps → shown_by S ps m ≡ unwrap_or (nearest_of (map (held_at m0) ps) chip t) (chip t).machine.bypass
shown_is S m0 chip t m bypass [] all = bypass
shown_is S m0 chip t m bypass (p ∷ ps) all =
    let at = All-head (IsAt S m0 chip t m) p ps all in
    let rest = shown_is S m0 chip t m bypass ps (All-tail (IsAt S m0 chip t m) p ps all) in
    let latched : Bool = is_latched p.register (chip t).machine in
    let near : Sig = first_bit (list_from (held_at m0 p) chip t) in
    let behind : Option Sig = nearest_of (map (held_at m0) ps) chip t in
    ap (λ (s : Sig). sig_mux s (shown_by S ps m) (m.value (data_last p.first S.tdi (net_feeds p.register.wires)).0)) at.on
    ∙ ap (λ (x : Sig). sig_mux (bit latched) (shown_by S ps m) x) at.near
    ∙ ap (λ (x : Sig). sig_mux (bit latched) x near) rest
    ∙ chosen latched (unwrap_or behind (chip t).machine.bypass) near
    ∙ or_near latched behind near (chip t).machine.bypass

-- while a register is on, BYPASS is in effect in the base device
free_bypass : (B : Device) (m0 : Moment) (chip : ℕ → ChipMoment) (t : ℕ) (ps : List Placed) → All (λ (p : Placed). IsFree B p.register) ps → (near : Sig)
    → nearest_of (map (held_at m0) ps) chip t ≡ Some near → in_effect (test_logic_of B) (chip t).machine ≡ instr.Bypass
free_bypass B m0 chip t [] all near e = absurd (cc)
free_bypass B m0 chip t (p ∷ ps) all near e =
    by (is_latched p.register (chip t).machine) refl e (λ k. free_bypass B m0 chip t ps (All-tail (λ (q : Placed). IsFree B q.register) p ps all) near k)
  where
    rest : Option Sig
    rest = nearest_of (map (held_at m0) ps) chip t

    by : (b : Bool) → is_latched p.register (chip t).machine ≡ b → (if b then Some (first_bit (list_from (held_at m0 p) chip t)) else rest) ≡ Some near
        → (rest ≡ Some near → in_effect (test_logic_of B) (chip t).machine ≡ instr.Bypass) → in_effect (test_logic_of B) (chip t).machine ≡ instr.Bypass
    by true is k more = All-head (λ (q : Placed). IsFree B q.register) p ps all (chip t).machine.latched is
    by false is k more = more k

plain_bit : (of : Register) (m : Machine) → shown_bit of m.bypass m ≡ bit_of of m
plain_bit register.Boundary m = refl
plain_bit register.Bypass m = refl
plain_bit register.DeviceId m = refl

-- what is shown is what TDO takes
data_is : (L : TestLogic) (m : Machine) (near : Option Sig) → ((x : Sig) → near ≡ Some x → in_effect L m ≡ instr.Bypass)
    → shown_bit (selected_register (in_effect L m)) (unwrap_or near m.bypass) m ≡ data_of near L m
data_is L m None free = plain_bit (selected_register (in_effect L m)) m
data_is L m (Some x) free = ap (λ (i : Instr). shown_bit (selected_register i) x m) (free x refl)

begins : (hs : List HeldRegister) (B : Device) (chip : ℕ → ChipMoment) → tdo_from hs B chip 0 ≡ HighZ
unfolding tdo_from
begins hs B chip = refl

goes_on : (hs : List HeldRegister) (B : Device) (chip : ℕ → ChipMoment) (t : ℕ)
    → tdo_from hs B chip (suc t) ≡ tdo_with (test_logic_of B) (chip t).levels (chip (suc t)).levels (chip t).machine (nearest_of hs chip t) (tdo_from hs B chip t)
unfolding tdo_from
goes_on hs B chip t = refl

pub extended_tdo_follows : TdoLaws → ExtendedTdoFollows
extended_tdo_follows by M N B S shown events chip moment r ps placed free on mux = along
  where
    m0 : Moment
    m0 = moment 0

    hs : List HeldRegister
    hs = map (held_at m0) ps

    all_at : (t : ℕ) → t ≤ length events → (qs : List Placed) → All (IsPlaced M N S) qs
        → All (λ (p : Placed). (u : ℕ) → u ≤ length events → (moment u).value p.on.0 ≡ bit (is_latched p.register (chip u).machine)) qs
        → All (IsAt S m0 chip t (moment t)) qs
    all_at t below [] are ons = All-nil (IsAt S m0 chip t (moment t))
    all_at t below (p ∷ qs) are ons =
        let mine = All-head (IsPlaced M N S) p qs are in
        let mine_on = All-head (λ (q : Placed). (u : ℕ) → u ≤ length events → (moment u).value q.on.0 ≡ bit (is_latched q.register (chip u).machine)) p qs ons in
        let counted = net_feeds_length p.register.wires in
        All-cons (IsAt S m0 chip t (moment t)) p qs
        (record {
          on = mine_on t below;
          near = (by.gates p.first p.number (controller_nets S) p.on S.tdi (net_feeds p.register.wires)).last (let some = mine.some in omega (arith, some, counted)) (moment t)
              ∙ ap first_bit (by.registers M N B S shown events chip moment r p mine mine_on t below);
        })
        (all_at t below qs (All-tail (IsPlaced M N S) p qs are)
        (All-tail (λ (q : Placed). (u : ℕ) → u ≤ length events → (moment u).value q.on.0 ≡ bit (is_latched q.register (chip u).machine)) p qs ons))

    along : (t : ℕ) → t ≤ length events → reading_at M (moment t) S.tdo.0 ≡ tdo_from hs B chip t
    along zero below = r.follows.off ∙ sym (begins hs B chip)
    along (suc t) below =
        let before : t ≤ length events = omega arith in
        let machine : Machine = (chip t).machine in
        let near : Option Sig = nearest_of hs chip t in
        let shows : (moment t).value shown.0 ≡ unwrap_or near machine.bypass
        = mux t before ∙ shown_is S m0 chip t (moment t) (r.follows.holds t before).bypass ps (all_at t before ps placed on) in
        r.follows.tdo t below
        ∙ ap (λ (x : Sig). tdo_step (test_logic_of B) (chip t).levels (chip (suc t)).levels machine x (reading_at M (moment t) S.tdo.0)) shows
        ∙ ap (λ (y : PinSig). tdo_step (test_logic_of B) (chip t).levels (chip (suc t)).levels machine (unwrap_or near machine.bypass) y) (along t before)
        ∙ ap (λ (x : Sig). bit_after (chip t).levels (chip (suc t)).levels HighZ (tdo_from hs B chip t) (tdo_after machine.state x (first_bit machine.shift)) (tdo_from hs B chip t))
        (data_is (test_logic_of B) machine near (λ x e. free_bypass B m0 chip t ps free x e))
        ∙ sym (goes_on hs B chip t)
