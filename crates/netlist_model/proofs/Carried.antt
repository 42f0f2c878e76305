-- What holds between the values of two valuations, net by net, along the numbers of the gates.
use Rattle.std.proofs.Common.{◌≡◌, ℕ, zero, suc, ◌<◌, true, false, List, Some, arith, inl, inr}
use Rattle.cell_library.proofs.list_laws.Tests.{true_or_false}
use Rattle.cell_library.specs.signal_values.declared.Sig.{Sig}
use Rattle.cell_library.specs.signal_values.declared.Sig.TheVariants.{Unknown}
use Rattle.cell_library.specs.declared.Kind.{Kind}
use Rattle.cell_library.specs.declared.FlopKind.{FlopKind}
use Rattle.cell_library.specs.declared.listed.ListedCell.{ListedCell}
use Rattle.netlist_model.specs.Lists.{CellView, NetlistView, direction, Drives, IsUndriven}
use Rattle.netlist_model.specs.Settled.{feed_values, cell_value, follows_pin, Meets}
use Rattle.cell_library.specs.Gates.{flop_of, is_flop}
use Rattle.netlist_model.proofs.KindLaws.{flop_or_gate, cell_value-flop}
use Rattle.netlist_model.proofs.Search.{search_driver}

-- on the nets of C with smaller numbers the relation holds
abbrev pub HoldsBelow : (ℕ → Type 0) → (Sig → Sig → Type 0) → (ℕ → ℕ) → (ℕ → Sig) → (ℕ → Sig) → ℕ → Type 0
HoldsBelow C R rank v v' net = (other : ℕ) → C other → rank other < rank net → R (v other) (v' other)

-- each equation on the nets of C carries the relation
pub record Carries (N : NetlistView) (C : ℕ → Type 0) (R : Sig → Sig → Type 0) (rank : ℕ → ℕ) (given given' : (ℕ → Sig) → ℕ → Sig) (state state' v v' : ℕ → Sig) : Type 0 where
  pub pins : (net : ℕ) → C net → follows_pin (direction N.ports net) ≡ true → HoldsBelow C R rank v v' net → R (given v net) (given' v' net)
  pub flops : (i : ℕ) (cell : CellView) (kind : FlopKind) (net : ℕ) → Drives N i cell net → C net → follows_pin (direction N.ports net) ≡ false
      → flop_of N.library cell.kind ≡ Some kind → R (state i) (state' i)
  pub gates : (i : ℕ) (cell : CellView) (net : ℕ) → Drives N i cell net → C net → follows_pin (direction N.ports net) ≡ false → is_flop N.library cell.kind ≡ false
      → HoldsBelow C R rank v v' net → R (cell_value N.library cell.kind (feed_values v cell.feeds) (state i)) (cell_value N.library cell.kind (feed_values v' cell.feeds) (state' i))
  pub undriven : (net : ℕ) → C net → follows_pin (direction N.ports net) ≡ false → IsUndriven N net → R Unknown Unknown

along : (R : Sig → Sig → Type 0) (a b a' b' : Sig) → a ≡ a' → b ≡ b' → R a' b' → R a b
along R a b a' b' e e' h = rw (e, e') h

flop_value : (library : List ListedCell) (kind : Kind) (k : FlopKind) (xs ys : List Sig) (s s' : Sig) (R : Sig → Sig → Type 0) → flop_of library kind ≡ Some k → R s s'
    → R (cell_value library kind xs s) (cell_value library kind ys s')
flop_value library kind k xs ys s s' R e h = rw (cell_value-flop library kind k xs s e, cell_value-flop library kind k ys s' e) h

carried_below : (N : NetlistView) (C : ℕ → Type 0) (R : Sig → Sig → Type 0) (rank : ℕ → ℕ) (given given' : (ℕ → Sig) → ℕ → Sig) (state state' v v' : ℕ → Sig)
    → Carries N C R rank given given' state state' v v' → Meets N given state v → Meets N given' state' v'
    → (bound net : ℕ) → C net → rank net < bound → R (v net) (v' net)
carried_below N C R rank given given' state state' v v' c a b zero net here h = absurd (omega arith)
carried_below N C R rank given given' state state' v v' c a b (suc bound) net here h =
    let lower : HoldsBelow C R rank v v' net = λ other there less. carried_below N C R rank given given' state state' v v' c a b bound other there (omega arith) in
    elim (true_or_false (follows_pin (direction N.ports net))) [
      | inl g ↦ along R _ _ _ _ (a.pins net g) (b.pins net g) (c.pins net here g lower)
      | inr g ↦ elim (search_driver N.cells net) [
        | inl f ↦ (let d : Drives N f.number f.cell net = record { live = f.live; output = f.output } in
            along R _ _ _ _ (a.cells f.number f.cell net d g) (b.cells f.number f.cell net d g)
            (elim (flop_or_gate N.library f.cell.kind) [
              | inl k ↦ flop_value N.library f.cell.kind k.0 _ _ _ _ R k.1 (c.flops f.number f.cell k.0 net d here g k.1)
              | inr gate ↦ c.gates f.number f.cell net d here g gate lower
            ]))
        | inr none ↦ along R _ _ _ _ (a.undriven net g none) (b.undriven net g none) (c.undriven net here g none)
      ]
    ]

-- then it holds on all nets of C
pub carried : (N : NetlistView) (C : ℕ → Type 0) (R : Sig → Sig → Type 0) (rank : ℕ → ℕ) (given given' : (ℕ → Sig) → ℕ → Sig) (state state' v v' : ℕ → Sig)
    → Carries N C R rank given given' state state' v v' → Meets N given state v → Meets N given' state' v' → (net : ℕ) → C net → R (v net) (v' net)
carried N C R rank given given' state state' v v' c a b net here = carried_below N C R rank given given' state state' v v' c a b (suc (rank net)) net here (omega arith)
