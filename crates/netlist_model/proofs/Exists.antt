-- Some valuation meets the equations: each net's value after as many rounds as its number says.
use Rattle.std.proofs.Common.{◌≡◌, ℕ, zero, suc, ◌<◌, ◌⊎◌, true, false, List, if◌then◌else◌, refl, ap, sym, ◌∙◌, inl, inr, arith}
use Rattle.std.proofs.lemmas.Bool.Decides.{eqb_tells}
use Rattle.cell_library.proofs.list_laws.Tests.{true_or_false}
use Rattle.cell_library.specs.signal_values.declared.Sig.{Sig}
use Rattle.cell_library.specs.signal_values.declared.Sig.TheVariants.{Unknown}
use Rattle.cell_library.specs.declared.Kind.{Kind}
use Rattle.cell_library.specs.declared.listed.ListedCell.{ListedCell}
use Rattle.netlist_model.specs.declared.Feed.{Feed}
use Rattle.netlist_model.specs.Lists.{CellView, NetlistView, direction, Drives, IsUndriven}
use Rattle.netlist_model.specs.Settled.{feed_values, cell_value, follows_pin, Meets}
use Rattle.cell_library.specs.Gates.{is_flop}
use Rattle.netlist_model.specs.Formed.{FeedsBelow, IsNumbered}
use Rattle.netlist_model.specs.Settle.{IsCausal, IsDrivenOnce}
use Rattle.netlist_model.proofs.Search.{Found, NoneDrives, search_driver, cell_at_once}
use Rattle.netlist_model.proofs.KindLaws.{flop_or_gate, cell_value-flop}
use Rattle.netlist_model.proofs.Once.{feeds_below_at, feed_values_same}

-- what the driver of a net gives it
abbrev inside_value : (N : NetlistView) → (ℕ → Sig) → (ℕ → Sig) → (net : ℕ) → Found N.cells net ⊎ NoneDrives N.cells net → Sig
inside_value N state v net (inl f) = cell_value N.library f.cell.kind (feed_values v f.cell.feeds) (state f.number)
inside_value N state v net (inr none) = Unknown

-- what a net's equation gives it
abbrev net_value : NetlistView → ((ℕ → Sig) → ℕ → Sig) → (ℕ → Sig) → (ℕ → Sig) → ℕ → Sig
net_value N given state v net = if follows_pin (direction N.ports net) then given v net else inside_value N state v net (search_driver N.cells net)

-- the values after so many rounds
abbrev round_value : NetlistView → ((ℕ → Sig) → ℕ → Sig) → (ℕ → Sig) → ℕ → ℕ → Sig
round_value N given state zero net = Unknown
round_value N given state (suc k) net = net_value N given state (round_value N given state k) net

cell_value-same : (library : List ListedCell) (kind : Kind) (feeds : List Feed) (rank : ℕ → ℕ) (net : ℕ) (v v' : ℕ → Sig) (s : Sig) → (is_flop library kind ≡ false → FeedsBelow rank feeds (rank net))
    → ((other : ℕ) → rank other < rank net → v other ≡ v' other) → cell_value library kind (feed_values v feeds) s ≡ cell_value library kind (feed_values v' feeds) s
cell_value-same library kind feeds rank net v v' s below same =
    elim (flop_or_gate library kind) [
      | inl k ↦ cell_value-flop library kind k.0 (feed_values v feeds) s k.1 ∙ sym (cell_value-flop library kind k.0 (feed_values v' feeds) s k.1)
      | inr gate ↦ ap (λ xs. cell_value library kind xs s) (feed_values_same v v' feeds (λ k other at. same other (feeds_below_at rank feeds (rank net) k other (below gate) at)))
    ]

inside_value-same : (N : NetlistView) (rank : ℕ → ℕ) (state v v' : ℕ → Sig) (net : ℕ) → IsNumbered N rank → ((other : ℕ) → rank other < rank net → v other ≡ v' other)
    → (d : Found N.cells net ⊎ NoneDrives N.cells net) → inside_value N state v net d ≡ inside_value N state v' net d
inside_value-same N rank state v v' net numbered same (inr none) = refl
inside_value-same N rank state v v' net numbered same (inl f) =
    cell_value-same N.library f.cell.kind f.cell.feeds rank net v v' (state f.number) (numbered.gates f.number f.cell net (record { live = f.live; output = f.output })) same

-- what a net's equation gives hangs on nets with smaller numbers alone
net_value-same : (N : NetlistView) (rank : ℕ → ℕ) (given : (ℕ → Sig) → ℕ → Sig) (state v v' : ℕ → Sig) (net : ℕ) → IsNumbered N rank → IsCausal N rank given
    → ((other : ℕ) → rank other < rank net → v other ≡ v' other) → net_value N given state v net ≡ net_value N given state v' net
net_value-same N rank given state v v' net numbered causal same =
    elim (true_or_false (follows_pin (direction N.ports net))) [
      | inl g ↦ rw g (causal.below net g v v' same)
      | inr g ↦ rw g (inside_value-same N rank state v v' net numbered same (search_driver N.cells net))
    ]

stable : (N : NetlistView) (rank : ℕ → ℕ) (given : (ℕ → Sig) → ℕ → Sig) (state : ℕ → Sig) → IsNumbered N rank → IsCausal N rank given → (k net : ℕ) → rank net < k
    → round_value N given state k net ≡ round_value N given state (suc k) net
stable N rank given state numbered causal zero net h = absurd (omega arith)
stable N rank given state numbered causal (suc k) net h =
    net_value-same N rank given state (round_value N given state k) (round_value N given state (suc k)) net numbered causal
    (λ other less. stable N rank given state numbered causal k other (omega arith))

-- a net's value after as many rounds as its number says
abbrev last_value : NetlistView → (ℕ → ℕ) → ((ℕ → Sig) → ℕ → Sig) → (ℕ → Sig) → ℕ → Sig
last_value N rank given state net = round_value N given state (suc (rank net)) net

at_rest : (N : NetlistView) (rank : ℕ → ℕ) (given : (ℕ → Sig) → ℕ → Sig) (state : ℕ → Sig) → IsNumbered N rank → IsCausal N rank given → (k net : ℕ) → rank net < k
    → round_value N given state k net ≡ last_value N rank given state net
at_rest N rank given state numbered causal zero net h = absurd (omega arith)
at_rest N rank given state numbered causal (suc k) net h =
    elim (eqb_tells (rank net) k) [
      | inl e ↦ ap (λ j. round_value N given state (suc j) net) (sym e.1)
      | inr e ↦ (let differs = e.1 in let less : rank net < k = omega arith in
          sym (stable N rank given state numbered causal k net less) ∙ at_rest N rank given state numbered causal k net less)
    ]

fixed : (N : NetlistView) (rank : ℕ → ℕ) (given : (ℕ → Sig) → ℕ → Sig) (state : ℕ → Sig) → IsNumbered N rank → IsCausal N rank given → (net : ℕ)
    → last_value N rank given state net ≡ net_value N given state (last_value N rank given state) net
fixed N rank given state numbered causal net =
    net_value-same N rank given state (round_value N given state (rank net)) (last_value N rank given state) net numbered causal
    (λ other less. at_rest N rank given state numbered causal (rank net) other less)

net_value-pin : (N : NetlistView) (given : (ℕ → Sig) → ℕ → Sig) (state v : ℕ → Sig) (net : ℕ) → follows_pin (direction N.ports net) ≡ true → net_value N given state v net ≡ given v net
net_value-pin N given state v net g = rw g refl

net_value-inside : (N : NetlistView) (given : (ℕ → Sig) → ℕ → Sig) (state v : ℕ → Sig) (net : ℕ) → follows_pin (direction N.ports net) ≡ false
    → net_value N given state v net ≡ inside_value N state v net (search_driver N.cells net)
net_value-inside N given state v net g = rw g refl

inside_value-driven : (N : NetlistView) (state v : ℕ → Sig) (i : ℕ) (cell : CellView) (net : ℕ) → IsDrivenOnce N → Drives N i cell net
    → (d : Found N.cells net ⊎ NoneDrives N.cells net) → inside_value N state v net d ≡ cell_value N.library cell.kind (feed_values v cell.feeds) (state i)
inside_value-driven N state v i cell net once drives (inr none) = absurd (none i cell drives.live drives.output)
inside_value-driven N state v i cell net once drives (inl f) =
    let number : f.number ≡ i = once f.number i f.cell cell net (record { live = f.live; output = f.output }) drives in
    let same : f.cell ≡ cell = cell_at_once N f.number i f.cell cell number f.live drives.live in
    rw (same, number) refl

inside_value-undriven : (N : NetlistView) (state v : ℕ → Sig) (net : ℕ) → IsUndriven N net → (d : Found N.cells net ⊎ NoneDrives N.cells net) → inside_value N state v net d ≡ Unknown
inside_value-undriven N state v net none (inr x) = refl
inside_value-undriven N state v net none (inl f) = absurd (none f.number f.cell f.live f.output)

-- own: some valuation meets them, where no net has two drivers
pub meets_exists : (N : NetlistView) (rank : ℕ → ℕ) (given : (ℕ → Sig) → ℕ → Sig) (state : ℕ → Sig)
    → IsNumbered N rank → IsCausal N rank given → IsDrivenOnce N → (value : ℕ → Sig) × Meets N given state value
meets_exists N rank given state numbered causal once =
    let V : ℕ → Sig = last_value N rank given state in
    let at : (net : ℕ) → V net ≡ net_value N given state V net = fixed N rank given state numbered causal in (
      V,
      record {
        pins = λ net g. at net ∙ net_value-pin N given state V net g;
        cells = λ i cell net d g. at net ∙ net_value-inside N given state V net g ∙ inside_value-driven N state V i cell net once d (search_driver N.cells net);
        undriven = λ net g none. at net ∙ net_value-inside N given state V net g ∙ inside_value-undriven N state V net none (search_driver N.cells net);
      },
    )
