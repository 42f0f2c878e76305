-- A flip-flop, and what its next value hangs on.
use Rattle.std.proofs.Common.{◌≡◌, ℕ, zero, suc, false, List, [], ◌∷◌, refl, sym, ◌∙◌, inl, inr}
use Rattle.std.specs.Prelude.{Some, slice_get}
use Rattle.cell_library.specs.signal_values.declared.Sig.{Sig}
use Rattle.cell_library.specs.signal_values.declared.Sig.TheVariants.{Zero, One, Unknown}
use Rattle.cell_library.specs.declared.FlopKind.{FlopKind}
use Rattle.cell_library.specs.declared.Edge.{Edge}
use Rattle.cell_library.specs.declared.Edge.TheVariants.{Rise, Fall}
use Rattle.cell_library.specs.declared.ResetTo.{ResetTo}
use Rattle.cell_library.specs.declared.ResetTo.TheVariants.{Nothing, Zero as ToZero, One as ToOne}
use Rattle.cell_library.specs.Gates.{flop_of, operand}
use Rattle.cell_library.specs.Flops.{is_edge, reset_or, flop_next, flop_start}
use Rattle.netlist_model.specs.declared.Feed.{Feed}
use Rattle.netlist_model.specs.declared.Feed.TheVariants.{Net, Const}
use Rattle.netlist_model.specs.Lists.{CellView, NetlistView, cell_at}
use Rattle.netlist_model.specs.Settled.{feed_values}
use Rattle.netlist_model.specs.Cones.{itself, FlopReads, IsControlNet}
use Rattle.netlist_model.specs.LawsRuns.{SameControlNets}
use Rattle.netlist_model.proofs.Once.{feed_values_same}
use Rattle.netlist_model.specs.Runs.{FlopsStart, FlopsStep}
use Rattle.netlist_model.specs.Settle.{SameFlops}

-- an operand has the same value where the net that it reads has
pub operand_same : (v v' : ℕ → Sig) (feeds : List Feed) (k : ℕ) → ((net : ℕ) → slice_get feeds k ≡ Some (Net (record { 0 = net })) → v net ≡ v' net)
    → operand (feed_values v feeds) k ≡ operand (feed_values v' feeds) k
operand_same v v' [] k same = refl
operand_same v v' (Net net ∷ feeds) zero same = same net.0 refl
operand_same v v' (Const b ∷ feeds) zero same = refl
operand_same v v' (f ∷ feeds) (suc k) same = operand_same v v' feeds k same

-- what clocks, clears or presets a flip-flop has the same value where control nets have
pub clock_same : (N : NetlistView) (i : ℕ) (cell : CellView) (kind : FlopKind) (v v' : ℕ → Sig) → cell_at N i ≡ Some cell → flop_of N.library cell.kind ≡ Some kind
    → ((net : ℕ) → IsControlNet N net → v net ≡ v' net) → operand (feed_values v cell.feeds) 1 ≡ operand (feed_values v' cell.feeds) 1
clock_same N i cell kind v v' live flop same =
    operand_same v v' cell.feeds 1 (λ net at.
    let f : FlopReads N 1 net = record { number = i; cell = cell; kind = kind; flop = flop; reads = record { live = live; operand = at } } in
    same net (record { root = net; operand = inl f; cone = itself }))

pub reset_same : (N : NetlistView) (i : ℕ) (cell : CellView) (kind : FlopKind) (v v' : ℕ → Sig) → cell_at N i ≡ Some cell → flop_of N.library cell.kind ≡ Some kind
    → ((net : ℕ) → IsControlNet N net → v net ≡ v' net) → operand (feed_values v cell.feeds) 2 ≡ operand (feed_values v' cell.feeds) 2
reset_same N i cell kind v v' live flop same =
    operand_same v v' cell.feeds 2 (λ net at.
    let f : FlopReads N 2 net = record { number = i; cell = cell; kind = kind; flop = flop; reads = record { live = live; operand = at } } in
    same net (record { root = net; operand = inr f; cone = itself }))

-- a value that stays is no edge
pub is_edge-same : (edge : Edge) (x : Sig) → is_edge edge x x ≡ false
is_edge-same Rise Zero = refl
is_edge-same Rise One = refl
is_edge-same Rise Unknown = refl
is_edge-same Fall Zero = refl
is_edge-same Fall One = refl
is_edge-same Fall Unknown = refl

-- a cleared or preset value is cleared or preset once
pub reset_or-twice : (reset : ResetTo) (control other : Sig) → reset_or reset control (reset_or reset control other) ≡ reset_or reset control other
reset_or-twice Nothing control other = refl
reset_or-twice ToZero Zero other = refl
reset_or-twice ToZero One other = refl
reset_or-twice ToZero Unknown other = refl
reset_or-twice ToOne Zero other = refl
reset_or-twice ToOne One other = refl
reset_or-twice ToOne Unknown other = refl

-- a flip-flop whose clock and control stay keeps its value
pub flop_next-same : (kind : FlopKind) (before after : List Sig) (kept : Sig) → operand after 1 ≡ operand before 1 → operand after 2 ≡ operand before 2
    → kept ≡ flop_start kind before kept → flop_next kind before after kept ≡ kept
flop_next-same kind before after kept clock control rests =
    rw (clock, is_edge-same kind.edge (operand before 1), control) (sym rests)

-- a start hangs on the clear or preset operand alone
pub flop_start-same : (kind : FlopKind) (xs ys : List Sig) (given given' : Sig) → operand xs 2 ≡ operand ys 2 → given ≡ given' → flop_start kind xs given ≡ flop_start kind ys given'
flop_start-same kind xs ys given given' reset e = rw (reset, e) refl

-- of the operands after it, a step hangs on the clock and on the clear or preset alone
pub flop_next-after : (kind : FlopKind) (before before' after after' : List Sig) (kept kept' : Sig) → before ≡ before' → operand after 1 ≡ operand after' 1
    → operand after 2 ≡ operand after' 2 → kept ≡ kept' → flop_next kind before after kept ≡ flop_next kind before' after' kept'
flop_next-after kind before before' after after' kept kept' same clock reset e = rw (same, clock, reset, e) refl

-- own: of the nets, a start hangs on control nets alone
pub flops_start_once : (N : NetlistView) (given given' value value' state state' : ℕ → Sig) → SameFlops N given given' → SameControlNets N value value'
    → FlopsStart N given value state → FlopsStart N given' value' state' → SameFlops N state state'
flops_start_once N given given' value value' state state' same controls a b i cell kind live flop =
    a.each i cell kind live flop
    ∙ flop_start-same kind (feed_values value cell.feeds) (feed_values value' cell.feeds) (given i) (given' i)
    (reset_same N i cell kind value value' live flop controls) (same i cell kind live flop)
    ∙ sym (b.each i cell kind live flop)

-- own: of the nets after it, a step hangs on control nets alone
pub flops_step_once : (N : NetlistView) (before before' after after' state state' next next' : ℕ → Sig) → ((net : ℕ) → before net ≡ before' net)
    → SameControlNets N after after' → SameFlops N state state' → FlopsStep N before after state next → FlopsStep N before' after' state' next' → SameFlops N next next'
flops_step_once N before before' after after' state state' next next' values controls same a b i cell kind live flop =
    a.each i cell kind live flop
    ∙ flop_next-after kind (feed_values before cell.feeds) (feed_values before' cell.feeds) (feed_values after cell.feeds) (feed_values after' cell.feeds) (state i) (state' i)
    (feed_values_same before before' cell.feeds (λ k net at. values net))
    (clock_same N i cell kind after after' live flop controls) (reset_same N i cell kind after after' live flop controls) (same i cell kind live flop)
    ∙ sym (b.each i cell kind live flop)
