-- The order of knowledge is kept from pins and flip-flops to the nets, and to the readings.
use Rattle.std.proofs.Common.{◌≡◌, ℕ, suc, ◌<◌, true, false, List, [], ◌∷◌, Option, refl, inl, inr}
use Rattle.std.specs.Prelude.{Some, None, slice_get}
use Rattle.cell_library.specs.signal_values.declared.Sig.{Sig}
use Rattle.cell_library.specs.signal_values.declared.Sig.TheVariants.{Unknown}
use Rattle.cell_library.specs.signal_values.declared.PinSig.{PinSig}
use Rattle.cell_library.specs.signal_values.Values.{bit}
use Rattle.cell_library.specs.signal_values.Knowledge.{IsBelow, IsPinBelow}
use Rattle.cell_library.proofs.signal_values.Laws.{below_refl, below-not, below-see, below-pin_of, below-join, below-drive}
use Rattle.cell_library.specs.declared.Kind.{Kind}
use Rattle.cell_library.specs.declared.Kind.TheVariants.{Flop, Bufif0, Bufif1, Listed}
use Rattle.cell_library.specs.declared.listed.ListedCell.{ListedCell}
use Rattle.cell_library.specs.Gates.{is_flop, is_three_state}
use Rattle.cell_library.specs.Laws.{AllBelow}
use Rattle.cell_library.proofs.CellLaws.{below-operand, below-gate_output}
use Rattle.netlist_model.specs.declared.Dir.{Dir}
use Rattle.netlist_model.specs.declared.Dir.TheVariants.{Input, Output, Inout}
use Rattle.netlist_model.specs.declared.Feed.{Feed}
use Rattle.netlist_model.specs.declared.Feed.TheVariants.{Net, Const}
use Rattle.netlist_model.specs.Lists.{CellView, NetlistView, direction}
use Rattle.netlist_model.specs.Settled.{feed_values, cell_value, follows_pin, cell_drive, drive_by, driver_of, pin_rule}
use Rattle.netlist_model.specs.Readings.{reading_of}
use Rattle.netlist_model.specs.Formed.{IsDriven, IsNumbered, IsWellFormed}
use Rattle.netlist_model.specs.Knowledge.{SettledKeepsOrder, ReadingsKeepOrder}
use Rattle.netlist_model.proofs.Search.{driver_of-driven}
use Rattle.netlist_model.proofs.Carried.{carried}
use Rattle.netlist_model.proofs.Once.{feeds_below_at}
use Rattle.netlist_model.proofs.KindLaws.{three_state_gate, cell_value-two_state}
use Rattle.netlist_model.proofs.Pins.{pin_kinds, pin_rule-input, pin_rule-inout}

-- operands have values below where the nets that they read have
all_below-values : (v v' : ℕ → Sig) (feeds : List Feed) → ((k net : ℕ) → slice_get feeds k ≡ Some (Net (record { 0 = net })) → IsBelow (v net) (v' net))
    → AllBelow (feed_values v feeds) (feed_values v' feeds)
all_below-values v v' [] h = tt
all_below-values v v' (Net net ∷ feeds) h = (h 0 net.0 refl, all_below-values v v' feeds (λ k. h (suc k)))
all_below-values v v' (Const b ∷ feeds) h = (below_refl (bit b), all_below-values v v' feeds (λ k. h (suc k)))

-- a three-state gate keeps the order
below-three_state : (kind : Kind) (xs ys : List Sig) (a b : Sig) → is_three_state kind ≡ true → AllBelow xs ys → IsPinBelow (cell_drive kind xs a) (cell_drive kind ys b)
below-three_state Bufif0 xs ys a b h k = below-drive _ _ _ _ (below-operand xs ys 0 k) (below-not _ _ (below-operand xs ys 1 k))
below-three_state Bufif1 xs ys a b h k = below-drive _ _ _ _ (below-operand xs ys 0 k) (below-operand xs ys 1 k)
below-three_state kind xs ys a b h k = absurd (let e : false ≡ true = h in cc)

-- so does what any cell drives, seen from outside
below-cell_drive : (kind : Kind) (xs ys : List Sig) (a b : Sig) → AllBelow xs ys → IsBelow a b → IsPinBelow (cell_drive kind xs a) (cell_drive kind ys b)
below-cell_drive Bufif0 xs ys a b k h = below-three_state Bufif0 xs ys a b refl k
below-cell_drive Bufif1 xs ys a b k h = below-three_state Bufif1 xs ys a b refl k
below-cell_drive kind xs ys a b k h = below-pin_of a b h

-- and what a gate gives, seen from inside
below-cell_value : (library : List ListedCell) (kind : Kind) (xs ys : List Sig) (s s' : Sig) → is_flop library kind ≡ false → AllBelow xs ys
    → IsBelow (cell_value library kind xs s) (cell_value library kind ys s')
below-cell_value library (Flop flop) xs ys s s' gate k = absurd (let e : true ≡ false = gate in cc)
below-cell_value library Bufif0 xs ys s s' gate k = below-see _ _ (below-three_state Bufif0 xs ys Unknown Unknown refl k)
below-cell_value library Bufif1 xs ys s s' gate k = below-see _ _ (below-three_state Bufif1 xs ys Unknown Unknown refl k)
below-cell_value library (Listed number) xs ys s s' gate k =
    rw (cell_value-two_state library (Listed number) xs s gate refl, cell_value-two_state library (Listed number) ys s' gate refl) (below-gate_output library (Listed number) xs ys k)
below-cell_value library kind xs ys s s' gate k = below-gate_output library kind xs ys k

below-inout_drive : (N : NetlistView) (rank : ℕ → ℕ) (v v' : ℕ → Sig) (net : ℕ) → IsWellFormed N → IsNumbered N rank → direction N.ports net ≡ Some Inout
    → ((other : ℕ) → rank other < rank net → IsBelow (v other) (v' other)) → IsPinBelow (drive_by (driver_of N.cells net) v net) (drive_by (driver_of N.cells net) v' net)
below-inout_drive N rank v v' net formed numbered e lower =
    let d : IsDriven N net = formed.inouts_driven net e in
    let three = formed.inout_bufif d.number d.cell net d.drives e in
    let below = numbered.gates d.number d.cell net d.drives (three_state_gate N.library d.cell.kind three) in
    let feeds = all_below-values v v' d.cell.feeds (λ k other at. lower other (feeds_below_at rank d.cell.feeds (rank net) k other below at)) in
    rw (driver_of-driven N d.number d.cell net formed.one_driver d.drives) (below-three_state d.cell.kind _ _ (v net) (v' net) three feeds)

below-pin_rule : (N : NetlistView) (rank : ℕ → ℕ) (pins pins' : ℕ → PinSig) (v v' : ℕ → Sig) (net : ℕ) → IsWellFormed N → IsNumbered N rank
    → follows_pin (direction N.ports net) ≡ true → IsPinBelow (pins net) (pins' net) → ((other : ℕ) → rank other < rank net → IsBelow (v other) (v' other))
    → IsBelow (pin_rule N pins v net) (pin_rule N pins' v' net)
below-pin_rule N rank pins pins' v v' net formed numbered g p lower =
    elim (pin_kinds (direction N.ports net) g) [
      | inl e ↦ rw (pin_rule-input N pins v net e, pin_rule-input N pins' v' net e) (below-see _ _ p)
      | inr e ↦ rw (pin_rule-inout N pins v net e, pin_rule-inout N pins' v' net e)
          (below-see _ _ (below-join _ _ _ _ (below-inout_drive N rank v v' net formed numbered e lower) p))
    ]

pub settled_keeps_order : SettledKeepsOrder
settled_keeps_order N formed pins pins' state state' v v' pins_below flops_below a b net =
    carried N (λ n. Unit {0}) IsBelow formed.ordered.0 (pin_rule N pins) (pin_rule N pins') state state' v v'
    (record {
      pins = λ n here g lower. below-pin_rule N formed.ordered.0 pins pins' v v' n formed formed.ordered.1 g (pins_below n g) (λ other less. lower other tt less);
      flops = λ i cell kind n d here g e. flops_below i cell kind d.live e;
      gates = λ i cell n d here g gate lower. below-cell_value N.library cell.kind _ _ (state i) (state' i) gate
          (all_below-values v v' cell.feeds (λ k other at. lower other tt (feeds_below_at formed.ordered.0 cell.feeds (formed.ordered.0 n) k other (formed.ordered.1.gates i cell n d gate) at)));
      undriven = λ n here g none. below_refl Unknown;
    })
    a b net tt

below-drive_by : (driver : Option CellView) (v v' : ℕ → Sig) (net : ℕ) → ((other : ℕ) → IsBelow (v other) (v' other)) → IsPinBelow (drive_by driver v net) (drive_by driver v' net)
below-drive_by None v v' net h = below-pin_of _ _ (h net)
below-drive_by (Some cell) v v' net h = below-cell_drive cell.kind _ _ _ _ (all_below-values v v' cell.feeds (λ k other at. h other)) (h net)

below-reading_of : (dir : Option Dir) (own own' outside outside' : PinSig) → IsPinBelow own own' → (follows_pin dir ≡ true → IsPinBelow outside outside')
    → IsPinBelow (reading_of dir own outside) (reading_of dir own' outside')
below-reading_of (Some Input) own own' outside outside' h k = k refl
below-reading_of (Some Inout) own own' outside outside' h k = below-join _ _ _ _ h (k refl)
below-reading_of (Some Output) own own' outside outside' h k = h
below-reading_of None own own' outside outside' h k = h

pub readings_keep_order : ReadingsKeepOrder
readings_keep_order N formed pins pins' state state' v v' pins_below flops_below a b net =
    below-reading_of (direction N.ports net) _ _ _ _
    (below-drive_by (driver_of N.cells net) v v' net (settled_keeps_order N formed pins pins' state state' v v' pins_below flops_below a b)) (pins_below net)
