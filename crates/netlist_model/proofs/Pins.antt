-- The rule of a netlist's own pins is causal, so its settled valuation is there and is the only one.
use Rattle.std.proofs.Common.{◌≡◌, ℕ, ◌<◌, ◌⊎◌, true, false, List, Option, refl, ap, sym, ◌∙◌, inl, inr}
use Rattle.std.specs.Prelude.{Some, None}
use Rattle.cell_library.specs.signal_values.declared.Sig.{Sig}
use Rattle.cell_library.specs.signal_values.declared.PinSig.{PinSig}
use Rattle.cell_library.specs.signal_values.Values.{see, join}
use Rattle.cell_library.specs.declared.Kind.{Kind}
use Rattle.cell_library.specs.declared.Kind.TheVariants.{Bufif0, Bufif1}
use Rattle.cell_library.specs.Gates.{is_three_state}
use Rattle.netlist_model.proofs.KindLaws.{three_state_gate}
use Rattle.netlist_model.specs.declared.Dir.{Dir}
use Rattle.netlist_model.specs.declared.Dir.TheVariants.{Input, Output, Inout}
use Rattle.netlist_model.specs.Lists.{NetlistView, direction}
use Rattle.netlist_model.specs.Settled.{feed_values, follows_pin, cell_drive, drive_by, driver_of, pin_rule}
use Rattle.netlist_model.specs.Formed.{IsDriven, IsNumbered, IsWellFormed}
use Rattle.netlist_model.specs.Settle.{IsCausal, SettledExists, SettledOnce}
use Rattle.netlist_model.proofs.Search.{driver_of-driven}
use Rattle.netlist_model.proofs.Once.{feeds_below_at, feed_values_same, agree_inside}
use Rattle.netlist_model.proofs.Exists.{meets_exists}

-- what it drives hangs on its operands alone
pub cell_drive-three_state : (kind : Kind) (xs : List Sig) (a b : Sig) → is_three_state kind ≡ true → cell_drive kind xs a ≡ cell_drive kind xs b
cell_drive-three_state Bufif0 xs a b h = refl
cell_drive-three_state Bufif1 xs a b h = refl
cell_drive-three_state kind xs a b h = absurd (let e : false ≡ true = h in cc)

pub pin_rule-input : (N : NetlistView) (pins : ℕ → PinSig) (v : ℕ → Sig) (net : ℕ) → direction N.ports net ≡ Some Input → pin_rule N pins v net ≡ see (pins net)
pin_rule-input N pins v net e = rw e refl

pub pin_rule-inout : (N : NetlistView) (pins : ℕ → PinSig) (v : ℕ → Sig) (net : ℕ) → direction N.ports net ≡ Some Inout
    → pin_rule N pins v net ≡ see (join (drive_by (driver_of N.cells net) v net) (pins net))
pin_rule-inout N pins v net e = rw e refl

-- a net that follows a pin is that of an input or an inout
pub pin_kinds : (dir : Option Dir) → follows_pin dir ≡ true → (dir ≡ Some Input) ⊎ (dir ≡ Some Inout)
pin_kinds (Some Input) h = inl refl
pin_kinds (Some Inout) h = inr refl
pin_kinds (Some Output) h = absurd (let e : false ≡ true = h in cc)
pin_kinds None h = absurd (let e : false ≡ true = h in cc)

-- what an inout's driver gives hangs on nets with smaller numbers alone
inout_drive_same : (N : NetlistView) (rank : ℕ → ℕ) (v v' : ℕ → Sig) (net : ℕ) → IsWellFormed N → IsNumbered N rank → direction N.ports net ≡ Some Inout
    → ((other : ℕ) → rank other < rank net → v other ≡ v' other) → drive_by (driver_of N.cells net) v net ≡ drive_by (driver_of N.cells net) v' net
inout_drive_same N rank v v' net formed numbered e same =
    let d : IsDriven N net = formed.inouts_driven net e in
    let three = formed.inout_bufif d.number d.cell net d.drives e in
    let below = numbered.gates d.number d.cell net d.drives (three_state_gate N.library d.cell.kind three) in
    let feeds = feed_values_same v v' d.cell.feeds (λ k other at. same other (feeds_below_at rank d.cell.feeds (rank net) k other below at)) in
    rw (driver_of-driven N d.number d.cell net formed.one_driver d.drives)
    (ap (λ xs. cell_drive d.cell.kind xs (v net)) feeds ∙ cell_drive-three_state d.cell.kind (feed_values v' d.cell.feeds) (v net) (v' net) three)

pub pin_rule_same : (N : NetlistView) (rank : ℕ → ℕ) (pins pins' : ℕ → PinSig) (v v' : ℕ → Sig) (net : ℕ) → IsWellFormed N → IsNumbered N rank
    → follows_pin (direction N.ports net) ≡ true → pins net ≡ pins' net → ((other : ℕ) → rank other < rank net → v other ≡ v' other)
    → pin_rule N pins v net ≡ pin_rule N pins' v' net
pin_rule_same N rank pins pins' v v' net formed numbered g p same =
    elim (pin_kinds (direction N.ports net) g) [
      | inl e ↦ pin_rule-input N pins v net e ∙ ap see p ∙ sym (pin_rule-input N pins' v' net e)
      | inr e ↦ (let drive = inout_drive_same N rank v v' net formed numbered e same in
          pin_rule-inout N pins v net e ∙ ap (λ d. see (join d (pins net))) drive ∙ ap (λ x. see (join (drive_by (driver_of N.cells net) v' net) x)) p
          ∙ sym (pin_rule-inout N pins' v' net e))
    ]

pub pin_rule_causal : (N : NetlistView) (rank : ℕ → ℕ) (pins : ℕ → PinSig) → IsWellFormed N → IsNumbered N rank → IsCausal N rank (pin_rule N pins)
pin_rule_causal N rank pins formed numbered = record { below = λ net g v v' same. pin_rule_same N rank pins pins v v' net formed numbered g refl same }

pub settled_exists : SettledExists
settled_exists N formed pins state =
    meets_exists N formed.ordered.0 (pin_rule N pins) state formed.ordered.1 (pin_rule_causal N formed.ordered.0 pins formed formed.ordered.1) formed.one_driver

pub settled_once : SettledOnce
settled_once N formed pins pins' state state' v v' same_pins same_flops a b net =
    agree_inside N (λ n. Unit {0}) formed.ordered.0 (pin_rule N pins) (pin_rule N pins') state state' v v' formed.ordered.1 (λ n other here reads. tt)
    (λ i cell kind n d here e. same_flops i cell kind d.live e)
    (λ n here g lower. pin_rule_same N formed.ordered.0 pins pins' v v' n formed formed.ordered.1 g (same_pins n g) (λ other less. lower other tt less)) a b net tt
