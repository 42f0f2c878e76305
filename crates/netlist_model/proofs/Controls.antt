-- Nets that clock, clear or preset flip-flops are 0 or 1.
use Rattle.std.proofs.Common.{◌≡◌, ℕ, suc, ◌⊎◌, true, false, List, [], ◌∷◌, length, refl, ap, sym, ◌∙◌, inl, inr, arith, All}
use Rattle.std.specs.Prelude.{Some, slice_get, is_some}
use Rattle.std.proofs.lemmas.List.Elements.{All-cons}
use Rattle.cell_library.proofs.list_laws.Tests.{true_or_false}
use Rattle.cell_library.specs.signal_values.declared.Sig.{Sig}
use Rattle.cell_library.specs.signal_values.Values.{bit}
use Rattle.cell_library.specs.declared.FlopKind.{FlopKind}
use Rattle.cell_library.specs.Gates.{flop_of, is_flop, is_three_state, Takes}
use Rattle.netlist_model.proofs.KindLaws.{two_state, cell_value-two_state}
use Rattle.cell_library.specs.Laws.{IsKnown}
use Rattle.cell_library.proofs.CellLaws.{is_known-gate_output}
use Rattle.netlist_model.specs.declared.Feed.{Feed}
use Rattle.netlist_model.specs.declared.Feed.TheVariants.{Net, Const}
use Rattle.netlist_model.specs.Lists.{CellView, NetlistView, direction, Drives, Reads}
use Rattle.netlist_model.specs.Settled.{feed_values, cell_value, follows_pin, Meets}
use Rattle.netlist_model.specs.Cones.{GateReads, InCone, itself, behind, FlopReads, IsControlNet, IsControlPort}
use Rattle.netlist_model.specs.Formed.{IsDriven, IsWellFormed}
use Rattle.netlist_model.proofs.Search.{cell_at_once}
use Rattle.netlist_model.proofs.Carried.{HoldsBelow, carried}
use Rattle.netlist_model.proofs.Once.{feeds_below_at, agree_inside}
use Rattle.netlist_model.proofs.Pins.{pin_kinds}

-- a cell reads the net
pub record IsRead (N : NetlistView) (net : ℕ) : Type 0 where
  pub number : ℕ
  pub cell : CellView
  pub place : ℕ
  pub reads : Reads N number cell place net

root_read : (N : NetlistView) (root : ℕ) → FlopReads N 1 root ⊎ FlopReads N 2 root → IsRead N root
root_read N root (inl f) = record { number = f.number; cell = f.cell; place = 1; reads = f.reads }
root_read N root (inr f) = record { number = f.number; cell = f.cell; place = 2; reads = f.reads }

cone_read : (N : NetlistView) (root net : ℕ) → FlopReads N 1 root ⊎ FlopReads N 2 root → InCone N root net → IsRead N net
cone_read N root net operand itself = root_read N root operand
cone_read N root net operand (behind back g) = record { number = g.number; cell = g.cell; place = g.place; reads = g.reads }

-- a control net is read
pub control_read : (N : NetlistView) (net : ℕ) → IsControlNet N net → IsRead N net
control_read N net c = cone_read N c.root net c.operand c.cone

-- what a gate on a control net reads is a control net
pub control_closed : (N : NetlistView) (net other : ℕ) → IsControlNet N net → GateReads N net other → IsControlNet N other
control_closed N net other c g = record { root = c.root; operand = c.operand; cone = behind c.cone g }

-- no flip-flop drives a control net
pub control_no_flop : (N : NetlistView) (i : ℕ) (cell : CellView) (kind : FlopKind) (net : ℕ) → IsWellFormed N → Drives N i cell net → IsControlNet N net → flop_of N.library cell.kind ≡ Some kind → ⊥
control_no_flop N i cell kind net formed drives c e =
    elim (formed.cones net c) [
      | inl input ↦ formed.inputs_free i cell net drives input
      | inr found ↦ (let d : IsDriven N net = found.0 in
          let same = cell_at_once N i d.number cell d.cell (formed.one_driver i d.number cell d.cell net drives d.drives) drives.live d.drives.live in
          let flop : is_flop N.library d.cell.kind ≡ true = ap (λ (x : CellView). is_flop N.library x.kind) (sym same) ∙ ap is_some e in
          let gate : is_flop N.library d.cell.kind ≡ false = found.1 in
          let clash : true ≡ false = sym flop ∙ gate in cc)
    ]

-- a control net that follows a pin is a control port
pub control_port : (N : NetlistView) (net : ℕ) → IsWellFormed N → IsControlNet N net → follows_pin (direction N.ports net) ≡ true → IsControlPort N net
control_port N net formed c g =
    elim (pin_kinds (direction N.ports net) g) [
      | inl input ↦ (input, c)
      | inr inout ↦ elim (formed.cones net c) [
        | inl input ↦ (input, c)
        | inr found ↦ absurd (found.2 inout)
      ]
    ]

-- no three-state gate drives a control net from inside
control_no_bufif : (N : NetlistView) (i : ℕ) (cell : CellView) (net : ℕ) → IsWellFormed N → Drives N i cell net → IsControlNet N net → follows_pin (direction N.ports net) ≡ false
    → is_three_state cell.kind ≡ true → ⊥
control_no_bufif N i cell net formed drives c g three =
    elim (formed.bufif_outside i cell net drives three) [
      | inl output ↦ (let r : IsRead N net = control_read N net c in formed.bufif_unread i r.number cell r.cell r.place net drives three r.reads output)
      | inr inout ↦ (let h : follows_pin (direction N.ports net) ≡ true = ap follows_pin inout in let clash : true ≡ false = sym h ∙ g in cc)
    ]

all_known : (v : ℕ → Sig) (feeds : List Feed) → ((k net : ℕ) → slice_get feeds k ≡ Some (Net (record { 0 = net })) → IsKnown (v net)) → All IsKnown (feed_values v feeds)
all_known v [] known = grind arith
all_known v (Net net ∷ feeds) known = All-cons IsKnown (v net.0) (feed_values v feeds) (known 0 net.0 refl) (all_known v feeds (λ k. known (suc k)))
all_known v (Const b ∷ feeds) known = All-cons IsKnown (bit b) (feed_values v feeds) (record { known = b; same = refl }) (all_known v feeds (λ k. known (suc k)))

length-feed_values : (v : ℕ → Sig) (feeds : List Feed) → length (feed_values v feeds) ≡ length feeds
length-feed_values v [] = refl
length-feed_values v (f ∷ feeds) = ap suc (length-feed_values v feeds)

-- own: under any rule that gives control ports 0 or 1, each net in the cone of a clock, clear or preset operand is 0 or 1
pub controls_known_under : (N : NetlistView) (given : (ℕ → Sig) → ℕ → Sig) (state value : ℕ → Sig) → IsWellFormed N → Meets N given state value
    → ((net : ℕ) → IsControlPort N net → IsKnown (given value net)) → (net : ℕ) → IsControlNet N net → IsKnown (value net)
controls_known_under N given state value formed meets ports =
    carried N (IsControlNet N) (λ a b. IsKnown a) formed.ordered.0 given given state state value value
    (record {
      pins = λ net c g lower. ports net (control_port N net formed c g);
      flops = λ i cell kind net d c g e. absurd (control_no_flop N i cell kind net formed d c e);
      gates = λ i cell net d c g gate lower. at_gate i cell net d c g gate lower (true_or_false (is_three_state cell.kind));
      undriven = λ net c g none. elim (formed.cones net c) [
        | inl input ↦ absurd (let h : follows_pin (direction N.ports net) ≡ true = ap follows_pin input in let clash : true ≡ false = sym h ∙ g in cc)
        | inr found ↦ (let d : IsDriven N net = found.0 in absurd (none d.number d.cell d.drives.live d.drives.output))
      ];
    })
    meets meets
  where
    at_gate : (i : ℕ) (cell : CellView) (net : ℕ) → Drives N i cell net → IsControlNet N net → follows_pin (direction N.ports net) ≡ false → is_flop N.library cell.kind ≡ false
        → HoldsBelow (IsControlNet N) (λ a b. IsKnown a) formed.ordered.0 value value net
        → (is_three_state cell.kind ≡ true) ⊎ (is_three_state cell.kind ≡ false) → IsKnown (cell_value N.library cell.kind (feed_values value cell.feeds) (state i))
    at_gate i cell net d c g gate lower (inl three) = absurd (control_no_bufif N i cell net formed d c g three)
    at_gate i cell net d c g gate lower (inr two) =
        let known = all_known value cell.feeds (λ k other at.
        let read : Reads N i cell k other = record { live = d.live; operand = at } in
        lower other (control_closed N net other c (record { number = i; cell = cell; place = k; gate = gate; drives = d; reads = read }))
        (feeds_below_at formed.ordered.0 cell.feeds (formed.ordered.0 net) k other (formed.ordered.1.gates i cell net d gate) at)) in
        let count : Takes N.library cell.kind (length (feed_values value cell.feeds)) = rw (length-feed_values value cell.feeds) (formed.counts i cell d.live) in
        rw (cell_value-two_state N.library cell.kind (feed_values value cell.feeds) (state i) gate two)
        (is_known-gate_output N.library cell.kind (feed_values value cell.feeds) (two_state N.library cell.kind gate two) count known)

-- control nets hang on control ports alone
pub controls_once : (N : NetlistView) (given given' : (ℕ → Sig) → ℕ → Sig) (state state' v v' : ℕ → Sig) → IsWellFormed N → Meets N given state v → Meets N given' state' v'
    → ((net : ℕ) → IsControlPort N net → given v net ≡ given' v' net) → (net : ℕ) → IsControlNet N net → v net ≡ v' net
controls_once N given given' state state' v v' formed a b ports net c =
    agree_inside N (IsControlNet N) formed.ordered.0 given given' state state' v v' formed.ordered.1 (control_closed N)
    (λ i cell kind n d here e. absurd (control_no_flop N i cell kind n formed d here e))
    (λ n here g lower. ports n (control_port N n formed here g))
    a b net c
