-- What boxes see of the chip is what the netlist shows them.
use Rattle.std.proofs.Common.{◌≡◌, ◌≤◌, ◌<◌, ℕ, zero, suc, Bool, true, false, List, [], ◌∷◌, length, refl, ap, sym, ◌∙◌, arith}
use Rattle.std.proofs.Math.Path.{fun_ext}
use Rattle.std.proofs.lemmas.Option.{slice_get_within}
use Rattle.signal_values.specs.declared.PinSig.{PinSig}
use Rattle.netlist_model.specs.Lists.{NetlistView}
use Rattle.netlist_model.specs.Runs.{Moment, reading_at}
use Rattle.test_logic.specs.bsdl_device.declared.values.Device.{Device}
use Rattle.wrapped_chip.specs.ChipRuns.{ChipMoment}
use Rattle.wrapped_chip.specs.Realises.{ReadsBit, ReadsAsChipBy}
use Rattle.wrapped_chip.specs.Coupled.{chip_seen, Shows, CanSee, seen_up_to, CoupledThere, CoupledHere}

-- as the chip
shown : (M : NetlistView) (B : Device) (N : NetlistView) (sees : ℕ → Bool) → CanSee M N sees → (m : Moment) (w : ChipMoment) (tdo : PinSig) → ReadsAsChipBy M B N m w tdo
    → Shows M N sees m (chip_seen sees B N w)
shown M B N sees can m w tdo reads = record {
  bits = λ net e. rw e (reads.bits net (can.reads net e));
  others = λ net e. rw e refl;
}

pub coupled_there : CoupledThere
coupled_there M B N tdo realises sees can allows given events chip moment run beside coupled = (
  λ t. chip_seen sees B N (chip t),
  λ t low. shown M B N sees can (moment t) (chip t) (tdo chip t) (realises.each given events chip moment run beside t low),
  coupled,
)

-- one bit reads one value
one_reading : (M N : NetlistView) (sees : ℕ → Bool) → CanSee M N sees → (m : Moment) (net : ℕ) (a b : PinSig) → sees net ≡ true → ReadsBit M N m net a → ReadsBit M N m net b → a ≡ b
one_reading M N sees can m net a b e x y = sym x.reads ∙ ap (λ n. reading_at M m n) (can.once net x.there y.there e x.same y.same) ∙ y.reads

-- two things that are shown at one moment are the same
same_at : (M N : NetlistView) (sees : ℕ → Bool) → CanSee M N sees → (m : Moment) (f g : ℕ → PinSig) → Shows M N sees m f → Shows M N sees m g → (net : ℕ) → f net ≡ g net
same_at M N sees can m f g a b net = by (sees net) refl
  where
    by : (s : Bool) → sees net ≡ s → f net ≡ g net
    by true e = one_reading M N sees can m net (f net) (g net) e (a.bits net e) (b.bits net e)
    by false e = a.others net e ∙ sym (b.others net e)

same_up_to : (f g : ℕ → ℕ → PinSig) (last : ℕ) → ((t : ℕ) → t ≤ last → (net : ℕ) → f t net ≡ g t net) → (t : ℕ) → t ≤ last → seen_up_to f t ≡ seen_up_to g t
same_up_to f g last same zero low = ap (λ (h : ℕ → PinSig). h ∷ []) (fun_ext (same 0 low))
same_up_to f g last same (suc t) low =
    ap (λ (h : ℕ → PinSig). h ∷ seen_up_to f t) (fun_ext (same (suc t) low)) ∙ ap (λ (hs : List (ℕ → PinSig)). g (suc t) ∷ hs) (same_up_to f g last same t (omega arith))

pub coupled_here : CoupledHere
coupled_here M B N tdo realises sees can allows given events chip moment run beside seen shows coupled t event at =
    let inside : t < length events = slice_get_within events t event at in
    let here : ℕ → ℕ → PinSig = λ u. chip_seen sees B N (chip u) in
    let same = same_up_to here seen (length events)
    (λ u low net. same_at M N sees can (moment u) (here u) (seen u)
    (shown M B N sees can (moment u) (chip u) (tdo chip u) (realises.each given events chip moment run beside u low)) (shows u low) net)
    t (omega arith) in
    ap (λ (hs : List (ℕ → PinSig)). allows hs event) same ∙ coupled t event at
