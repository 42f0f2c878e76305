-- What the pin lines of the examples are of.
use Rattle.std.proofs.Common.{◌≡◌, ℕ, zero, suc, ◌<◌, ◌⊎◌, Bool, true, false, List, [], ◌∷◌, ◌++◌, codes, slice_get, is_some, Option, Some, None, refl, sym, ap, ◌∙◌, subst, inl, inr, arith}
use Rattle.cell_library.specs.Gates.{is_flop}
use Rattle.cell_library.specs.declared.codes.BoundaryKind.{BoundaryKind}
use Rattle.cell_library.specs.declared.codes.BoundaryKind.TheVariants.{Bc1, Bc4}
use Rattle.netlist_model.specs.declared.Dir.{Dir}
use Rattle.netlist_model.specs.declared.Dir.TheVariants.{Input, Output}
use Rattle.netlist_model.specs.declared.Feed.{Feed}
use Rattle.netlist_model.specs.declared.Feed.TheVariants.{Net, Const}
use Rattle.netlist_model.specs.Lists.{CellView, NetlistView, cell_at}
use Rattle.netlist_model.specs.Cones.{GateReads, InCone, FlopReads, IsClockPort, IsControlPort}
use Rattle.netlist_model.specs.Cones.InCone.{itself, behind}
use Rattle.netlist_unlink.specs.netlist_link.Linked.{LinkedView}
use Rattle.netlist_unlink.specs.netlist_link.PinWords.IsPinWord.{scalar as scalar_word}
use Rattle.plan_texts.specs.declared.plan.PinLine.{PinLine}
use Rattle.plan_fitting.specs.Pins.{PinSeen, IsSeen, AreSeen}
use Rattle.plan_fitting.specs.Examples.{linked, pin_line, scalar, seen_at, as_clock, netlist_d, linked_d, plan_d, seen_d, netlist_c, linked_c, plan_c, seen_c, netlist_n}

-- Lines one by one.

pub none_seen : (L : LinkedView) → AreSeen L [] []
none_seen L = record { count = refl; each = λ place line one at there. absurd (cc) }

each_seen : (L : LinkedView) (line : PinLine) (lines : List PinLine) (one : PinSeen) (seen : List PinSeen) → IsSeen L line.port one → AreSeen L lines seen
    → (place : ℕ) (l : PinLine) (o : PinSeen) → slice_get (line ∷ lines) place ≡ Some l → slice_get (one ∷ seen) place ≡ Some o → IsSeen L l.port o
each_seen L line lines one seen first more zero l o at there =
    let same_line : line ≡ l = cc in
    let same_bit : one ≡ o = cc in
    subst (λ (k : PinLine). IsSeen L k.port o) same_line (subst (λ (b : PinSeen). IsSeen L line.port b) same_bit first)
each_seen L line lines one seen first more (suc place) l o at there = more.each place l o at there

pub and_seen : (L : LinkedView) (line : PinLine) (lines : List PinLine) (one : PinSeen) (seen : List PinSeen) → IsSeen L line.port one → AreSeen L lines seen → AreSeen L (line ∷ lines) (one ∷ seen)
and_seen L line lines one seen first more = record { count = ap suc more.count; each = each_seen L line lines one seen first more }

-- Scalar ports.

record IsScalarAt (L : LinkedView) (number : ℕ) (side : Dir) (name : List ℕ) : Type 0 where
  own : number < L.straight.first
  there : slice_get L.arena.lists.ports number ≡ Some (scalar number side)
  named : slice_get L.names number ≡ Some name

scalar_seen : (L : LinkedView) (number : ℕ) (side : Dir) (name : List ℕ) → IsScalarAt L number side name
    → (IsClockPort L.arena.lists number → ⊥) → (IsControlPort L.arena.lists number → ⊥) → IsSeen L name (seen_at L.arena.lists number side)
scalar_seen L number side name is no_clock no_control = record {
  named = (scalar_word {number = number} (record { port = scalar number side; named = record { there = is.there; named = is.named }; scalar = refl }), is.own);
  port = scalar number side;
  there = is.there;
  side = refl;
  net = refl;
  clock = (λ t. absurd (cc), λ c. absurd (no_clock c));
  control = (λ t. absurd (cc), λ c. absurd (no_control c));
  driver = refl;
}

clock_seen : (L : LinkedView) (number : ℕ) (side : Dir) (name : List ℕ) → IsScalarAt L number side name
    → IsClockPort L.arena.lists number → IsControlPort L.arena.lists number → IsSeen L name (as_clock (seen_at L.arena.lists number side))
clock_seen L number side name is clock control = record {
  named = (scalar_word {number = number} (record { port = scalar number side; named = record { there = is.there; named = is.named }; scalar = refl }), is.own);
  port = scalar number side;
  there = is.there;
  side = refl;
  net = refl;
  clock = (λ t. clock, λ c. refl);
  control = (λ t. control, λ c. refl);
  driver = refl;
}

-- Without flip-flops nothing clocks.

abbrev flop_in : Option CellView → Bool
flop_in None = false
flop_in (Some cell) = is_flop [] cell.kind

abbrev HasNoFlop : NetlistView → Type 0
HasNoFlop N = (i : ℕ) (cell : CellView) → cell_at N i ≡ Some cell → is_flop N.library cell.kind ≡ false

no_operand : (N : NetlistView) (place net : ℕ) → HasNoFlop N → FlopReads N place net → ⊥
no_operand N place net none reads =
    let is : is_flop N.library reads.cell.kind ≡ true = ap is_some reads.flop in
    let bad : true ≡ false = sym is ∙ none reads.number reads.cell reads.reads.live in
    cc

neither_operand : (N : NetlistView) (net : ℕ) → HasNoFlop N → FlopReads N 1 net ⊎ FlopReads N 2 net → ⊥
neither_operand N net none (inl reads) = no_operand N 1 net none reads
neither_operand N net none (inr reads) = no_operand N 2 net none reads

plain_seen : (L : LinkedView) (number : ℕ) (side : Dir) (name : List ℕ) → HasNoFlop L.arena.lists → IsScalarAt L number side name → IsSeen L name (seen_at L.arena.lists number side)
plain_seen L number side name none is =
    scalar_seen L number side name is (λ c. no_operand L.arena.lists 1 c.1.root none c.1.operand) (λ c. neither_operand L.arena.lists c.1.root none c.1.operand)

no_flop_d : HasNoFlop netlist_d
no_flop_d zero cell live = ap flop_in (sym live)
no_flop_d (suc zero) cell live = ap flop_in (sym live)
no_flop_d (suc (suc i)) cell live = absurd (cc)

pub are_seen_d : AreSeen linked_d plan_d.pins seen_d
are_seen_d =
    and_seen linked_d _ _ _ _ (plain_seen linked_d 0 Input _ no_flop_d (record { own = omega arith; there = refl; named = refl }))
    (and_seen linked_d _ _ _ _ (plain_seen linked_d 1 Input _ no_flop_d (record { own = omega arith; there = refl; named = refl }))
    (and_seen linked_d _ _ _ _ (plain_seen linked_d 2 Output _ no_flop_d (record { own = omega arith; there = refl; named = refl }))
    (and_seen linked_d _ _ _ _ (plain_seen linked_d 3 Output _ no_flop_d (record { own = omega arith; there = refl; named = refl }))
    (none_seen linked_d))))

no_flop_n : HasNoFlop netlist_n
no_flop_n zero cell live = ap flop_in (sym live)
no_flop_n (suc i) cell live = absurd (cc)

abbrev pub linked_n : LinkedView
linked_n = linked (codes "a+b" ∷ codes "y" ∷ []) netlist_n

abbrev pub seen_n : List PinSeen
seen_n = seen_at netlist_n 0 Input ∷ seen_at netlist_n 1 Output ∷ []

pub are_seen_n : AreSeen linked_n (pin_line (codes "a+b") (codes "1") Bc1 ∷ pin_line (codes "y") (codes "2") Bc1 ∷ []) seen_n
are_seen_n =
    and_seen linked_n _ _ _ _ (plain_seen linked_n 0 Input _ no_flop_n (record { own = omega arith; there = refl; named = refl }))
    (and_seen linked_n _ _ _ _ (plain_seen linked_n 1 Output _ no_flop_n (record { own = omega arith; there = refl; named = refl })) (none_seen linked_n))

-- The flip-flop is clocked by ck.

abbrev operand_at : ℕ → Option CellView → Option Feed
operand_at place None = None
operand_at place (Some cell) = slice_get cell.feeds place

abbrev net_in : Option Feed → ℕ
net_in None = 0
net_in (Some (Net net)) = net.0
net_in (Some (Const b)) = 0

operand_there : (place root : ℕ) (reads : FlopReads netlist_c place root) → operand_at place (cell_at netlist_c reads.number) ≡ Some (Net (record { 0 = root }))
operand_there place root reads = ap (operand_at place) reads.reads.live ∙ reads.reads.operand

clock_root-at : (number root : ℕ) → operand_at 1 (cell_at netlist_c number) ≡ Some (Net (record { 0 = root })) → root ≡ 0
clock_root-at zero root is = sym (ap net_in is)
clock_root-at (suc number) root is = absurd (cc)

no_reset-at : (number root : ℕ) → operand_at 2 (cell_at netlist_c number) ≡ Some (Net (record { 0 = root })) → ⊥
no_reset-at zero root is = cc
no_reset-at (suc number) root is = cc

control_root : (root : ℕ) → FlopReads netlist_c 1 root ⊎ FlopReads netlist_c 2 root → root ≡ 0
control_root root (inl reads) = clock_root-at reads.number root (operand_there 1 root reads)
control_root root (inr reads) = absurd (no_reset-at reads.number root (operand_there 2 root reads))

all_flops : (number : ℕ) (cell : CellView) → cell_at netlist_c number ≡ Some cell → is_flop [] cell.kind ≡ true
all_flops zero cell live = ap flop_in (sym live)
all_flops (suc number) cell live = absurd (cc)

no_gate : (net other : ℕ) → GateReads netlist_c net other → ⊥
no_gate net other reads =
    let bad : true ≡ false = sym (all_flops reads.number reads.cell reads.drives.live) ∙ reads.gate in
    cc

cone_is_root : (root net : ℕ) → InCone netlist_c root net → net ≡ root
cone_is_root root net itself = refl
cone_is_root root net (behind {net = near} cone reads) = absurd (no_gate near net reads)

only_ck : (net : ℕ) → IsControlPort netlist_c net → net ≡ 0
only_ck net is = cone_is_root is.1.root net is.1.cone ∙ control_root is.1.root is.1.operand

only_ck_clocks : (net : ℕ) → IsClockPort netlist_c net → net ≡ 0
only_ck_clocks net is = cone_is_root is.1.root net is.1.cone ∙ control_root is.1.root (inl is.1.operand)

ck_operand : FlopReads netlist_c 1 0
ck_operand = record { number = 0; cell = _; kind = _; flop = refl; reads = record { live = refl; operand = refl } }

data_seen : (number : ℕ) (side : Dir) (name : List ℕ) → IsScalarAt linked_c (suc number) side name → IsSeen linked_c name (seen_at netlist_c (suc number) side)
data_seen number side name is =
    scalar_seen linked_c (suc number) side name is
    (λ c. let bad : suc number ≡ 0 = only_ck_clocks (suc number) c in cc)
    (λ c. let bad : suc number ≡ 0 = only_ck (suc number) c in cc)

ck_seen : IsSeen linked_c (codes "ck") (as_clock (seen_at netlist_c 0 Input))
ck_seen =
    clock_seen linked_c 0 Input _ (record { own = omega arith; there = refl; named = refl })
    (refl, record { root = 0; operand = ck_operand; cone = itself })
    (refl, record { root = 0; operand = inl ck_operand; cone = itself })

pub q_seen : IsSeen linked_c (codes "q") (seen_at netlist_c 2 Output)
q_seen = data_seen 1 Output _ (record { own = omega arith; there = refl; named = refl })

pub are_seen_c : (cell : BoundaryKind) → AreSeen linked_c (plan_c cell).pins seen_c
are_seen_c cell =
    and_seen linked_c _ _ _ _ ck_seen
    (and_seen linked_c _ _ _ _ (data_seen 0 Input _ (record { own = omega arith; there = refl; named = refl }))
    (and_seen linked_c _ _ _ _ q_seen (none_seen linked_c)))

pub are_seen_twice : AreSeen linked_c ((plan_c Bc4).pins ++ pin_line (codes "q") (codes "4") Bc1 ∷ []) (seen_c ++ seen_at netlist_c 2 Output ∷ [])
are_seen_twice =
    and_seen linked_c _ _ _ _ ck_seen
    (and_seen linked_c _ _ _ _ (data_seen 0 Input _ (record { own = omega arith; there = refl; named = refl }))
    (and_seen linked_c _ _ _ _ q_seen
    (and_seen linked_c _ _ _ _ q_seen (none_seen linked_c))))
