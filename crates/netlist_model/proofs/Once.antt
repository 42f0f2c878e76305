-- At most one valuation meets the equations.
use Rattle.std.proofs.Common.{◌≡◌, ℕ, zero, suc, ◌<◌, true, List, [], ◌∷◌, refl, ap, ◌∙◌}
use Rattle.std.specs.Prelude.{Some, slice_get}
use Rattle.cell_library.specs.signal_values.declared.Sig.{Sig}
use Rattle.cell_library.specs.declared.FlopKind.{FlopKind}
use Rattle.cell_library.specs.Gates.{flop_of}
use Rattle.netlist_model.proofs.KindLaws.{cell_value-gate}
use Rattle.netlist_model.specs.declared.NetId.{NetId}
use Rattle.netlist_model.specs.declared.Feed.{Feed}
use Rattle.netlist_model.specs.declared.Feed.TheVariants.{Net, Const}
use Rattle.netlist_model.specs.Lists.{CellView, NetlistView, direction, Drives}
use Rattle.netlist_model.specs.Settled.{feed_values, cell_value, follows_pin, Meets}
use Rattle.netlist_model.specs.Cones.{GateReads}
use Rattle.netlist_model.specs.Formed.{FeedsBelow, IsNumbered}
use Rattle.netlist_model.proofs.Carried.{HoldsBelow, carried}

-- the net of an operand has a smaller number
pub feeds_below_at : (rank : ℕ → ℕ) (feeds : List Feed) (bound k net : ℕ) → FeedsBelow rank feeds bound → slice_get feeds k ≡ Some (Net (record { 0 = net })) → rank net < bound
feeds_below_at rank [] bound k net below at = absurd (cc)
feeds_below_at rank (Net other ∷ feeds) bound zero net below at =
    let same : other ≡ record { 0 = net } = cc in
    let number : NetId → ℕ = λ n. n.0 in
    let e : other.0 ≡ net = ap number same in
    rw e at below.0
feeds_below_at rank (Net other ∷ feeds) bound (suc k) net below at = feeds_below_at rank feeds bound k net below.1 at
feeds_below_at rank (Const b ∷ feeds) bound zero net below at = absurd (cc)
feeds_below_at rank (Const b ∷ feeds) bound (suc k) net below at = feeds_below_at rank feeds bound k net below at

-- operands have the same values where the nets that they read have
pub feed_values_same : (v v' : ℕ → Sig) (feeds : List Feed) → ((k net : ℕ) → slice_get feeds k ≡ Some (Net (record { 0 = net })) → v net ≡ v' net)
    → feed_values v feeds ≡ feed_values v' feeds
feed_values_same v v' [] same = refl
feed_values_same v v' (Net net ∷ feeds) same =
    let here = same 0 net.0 refl in
    let rest = feed_values_same v v' feeds (λ k. same (suc k)) in cc
feed_values_same v v' (Const b ∷ feeds) same =
    let rest = feed_values_same v v' feeds (λ k. same (suc k)) in cc

-- two valuations under two rules agree on a set of nets that is closed under what gates read
pub agree_inside : (N : NetlistView) (C : ℕ → Type 0) (rank : ℕ → ℕ) (given given' : (ℕ → Sig) → ℕ → Sig) (state state' v v' : ℕ → Sig)
    → IsNumbered N rank
    → ((net other : ℕ) → C net → GateReads N net other → C other)
    → ((i : ℕ) (cell : CellView) (kind : FlopKind) (net : ℕ) → Drives N i cell net → C net → flop_of N.library cell.kind ≡ Some kind → state i ≡ state' i)
    → ((net : ℕ) → C net → follows_pin (direction N.ports net) ≡ true → HoldsBelow C (λ a b. a ≡ b) rank v v' net → given v net ≡ given' v' net)
    → Meets N given state v → Meets N given' state' v' → (net : ℕ) → C net → v net ≡ v' net
agree_inside N C rank given given' state state' v v' numbered closed flops pins a b =
    carried N C (λ a b. a ≡ b) rank given given' state state' v v'
    (record {
      pins = pins;
      flops = λ i cell kind net d here g e. flops i cell kind net d here e;
      gates = λ i cell net d here g gate lower.
          let read : (k other : ℕ) → slice_get cell.feeds k ≡ Some (Net (record { 0 = other })) → v other ≡ v' other
          = λ k other at. lower other (closed net other here (record { number = i; cell = cell; place = k; gate = gate; drives = d; reads = record { live = d.live; operand = at } }))
          (feeds_below_at rank cell.feeds (rank net) k other (numbered.gates i cell net d gate) at) in
          ap (λ xs. cell_value N.library cell.kind xs (state i)) (feed_values_same v v' cell.feeds read) ∙ cell_value-gate N.library cell.kind (feed_values v' cell.feeds) (state i) (state' i) gate;
      undriven = λ net here g none. refl;
    })
    a b
