-- An event that repeats the present value changes nothing.
use Rattle.std.proofs.Common.{◌≡◌, ℕ, zero, suc, ◌≤◌, ◌<◌, List, [], ◌∷◌, length, ap, sym, ◌∙◌, inl, inr, arith}
use Rattle.std.specs.Prelude.{Some, slice_get}
use Rattle.cell_library.specs.signal_values.declared.Sig.{Sig}
use Rattle.cell_library.specs.signal_values.declared.PinSig.{PinSig}
use Rattle.cell_library.specs.Gates.{flop_of}
use Rattle.cell_library.specs.declared.FlopKind.{FlopKind}
use Rattle.cell_library.specs.declared.ResetTo.{ResetTo}
use Rattle.cell_library.specs.Flops.{reset_or, flop_start}
use Rattle.netlist_model.specs.Lists.{CellView, NetlistView, cell_at}
use Rattle.netlist_model.specs.Settled.{feed_values, IsSettled}
use Rattle.netlist_model.specs.Formed.{IsWellFormed}
use Rattle.netlist_model.specs.Runs.{Moment, PinEvent, IsStep, IsRun, pins_after}
use Rattle.netlist_model.specs.Settle.{SameFlops}
use Rattle.netlist_model.specs.LawsRuns.{SameControlNets, SameMoment, RepeatsChangeNothing}
use Rattle.netlist_model.proofs.Pins.{settled_once}
use Rattle.netlist_model.proofs.Flops.{clock_same, reset_same, reset_or-twice, flop_next-same}
use Rattle.netlist_model.proofs.Moments.{event_at, pins_after-cases, run_settled, controls_same}

-- a flip-flop at rest: cleared or preset where its control is 0
abbrev pub FlopsRest : NetlistView → Moment → Type 0
FlopsRest N m = (i : ℕ) (cell : CellView) (kind : FlopKind) → cell_at N i ≡ Some cell → flop_of N.library cell.kind ≡ Some kind
    → m.state i ≡ flop_start kind (feed_values m.value cell.feeds) (m.state i)

pub rest_of : (reset : ResetTo) (control other now : Sig) → now ≡ reset_or reset control other → now ≡ reset_or reset control now
rest_of reset control other now e = e ∙ sym (ap (reset_or reset control) e ∙ reset_or-twice reset control other)

-- the flip-flops are at rest at each moment
pub run_rests : (N : NetlistView) (given : ℕ → Sig) (events : List PinEvent) (moment : ℕ → Moment) → IsRun N given events moment
    → (t : ℕ) → t ≤ length events → FlopsRest N (moment t)
run_rests N given events moment run zero h i cell kind live flop =
    rest_of kind.reset _ _ _ (run.start.flops.each i cell kind live flop)
run_rests N given events moment run (suc t) h i cell kind live flop =
    let e = event_at events t h in
    rest_of kind.reset _ _ _ ((run.steps t e.0 e.1).flops.each i cell kind live flop)

repeat_pins : (pins : ℕ → PinSig) (event : PinEvent) (net : ℕ) → event.value ≡ pins event.net → pins_after pins event net ≡ pins net
repeat_pins pins event net repeats =
    elim (pins_after-cases pins event net) [
      | inl e ↦ e.1 ∙ repeats ∙ ap pins (sym e.0)
      | inr e ↦ e
    ]

some_below : {A : Type 0} (xs : List A) (k : ℕ) (x : A) → slice_get xs k ≡ Some x → k < length xs
some_below [] k x e = absurd (cc)
some_below (y ∷ xs) zero x e = omega arith
some_below (y ∷ xs) (suc k) x e = let h = some_below xs k x e in omega arith

repeat_step : (N : NetlistView) (m m' : Moment) (event : PinEvent) → IsWellFormed N → IsSettled N m.pins m.state m.value → FlopsRest N m → IsStep N event m m'
    → event.value ≡ m.pins event.net → SameMoment N m m'
repeat_step N m m' event formed settled rests step repeats =
    let pins : (net : ℕ) → m.pins net ≡ m'.pins net = λ net. sym (step.pins net ∙ repeat_pins m.pins event net repeats) in
    let controls : SameControlNets N m'.value m.value
    = λ net c. sym (controls_same N m.pins m'.pins m.state m'.state m.value m'.value formed (λ net g. pins net) settled step.settled net c) in
    let flops : SameFlops N m.state m'.state = λ i cell kind live flop. sym (
    step.flops.each i cell kind live flop
    ∙ flop_next-same kind (feed_values m.value cell.feeds) (feed_values m'.value cell.feeds) (m.state i)
    (clock_same N i cell kind m'.value m.value live flop controls) (reset_same N i cell kind m'.value m.value live flop controls) (rests i cell kind live flop)) in
    record {
      pins = λ net g. pins net;
      flops = flops;
      value = settled_once N formed m.pins m'.pins m.state m'.state m.value m'.value (λ net g. pins net) flops settled step.settled;
    }

pub repeats_change_nothing : RepeatsChangeNothing
repeats_change_nothing N given events moment formed run t event at repeats =
    let h : t < length events = some_below events t event at in
    let within : t ≤ length events = omega arith in
    repeat_step N (moment t) (moment (suc t)) event formed (run_settled N given events moment run t within) (run_rests N given events moment run t within)
    (run.steps t event at) repeats
