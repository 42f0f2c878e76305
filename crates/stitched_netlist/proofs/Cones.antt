-- What clocks, clears or presets in the netlist with the test logic.
use Rattle.std.proofs.Common.{◌≡◌, ◌⊎◌, inl, inr, ℕ, zero, suc, ◌+◌, ◌<◌, true, false, List, [], ◌∷◌, ◌++◌, map, length, refl, sym, ap, ◌∙◌, subst, Option, Some, None, option_map, arith, slice_get}
use Rattle.std.specs.Prelude.{filter_map, is_some, option_and_then, unwrap_or}
use Rattle.list_laws.proofs.Options.{some_same}
use Rattle.cell_library.specs.declared.FlopKind.{FlopKind}
use Rattle.cell_library.specs.declared.listed.ListedCell.{ListedCell}
use Rattle.cell_library.specs.Gates.{flop_of, is_flop, is_three_state}
use Rattle.netlist_model.specs.declared.NetId.{NetId}
use Rattle.netlist_model.specs.declared.Dir.TheVariants.{Input, Output, Inout}
use Rattle.netlist_model.specs.declared.Feed.{Feed}
use Rattle.netlist_model.specs.declared.Feed.TheVariants.{Net, Const}
use Rattle.netlist_model.specs.Lists.{CellView, NetlistView, live_cell, cell_at, direction, Drives}
use Rattle.netlist_model.specs.Cones.{GateReads, InCone, itself, behind, FlopReads, IsControlNet}
use Rattle.netlist_model.specs.Formed.{IsLaidOut, IsWellFormed}
use Rattle.netlist_model.proofs.KindLaws.{flop_no_bufif}
use Rattle.netlist_model.proofs.Controls.{control_read, control_closed}
use Rattle.netlist_model.specs.Nested.{renamed_net, renamed_feed}
use Rattle.plan_fitting.specs.declared.fitted.FitRow.{FitRow}
use Rattle.stitched_netlist.specs.Sites.{Boundary}
use Rattle.stitched_netlist.specs.Sides.{core_side, drives, feeds_behind, core_cell}
use Rattle.stitched_netlist.specs.Stitched.{same_place}
use Rattle.stitched_netlist.proofs.Tables.{keeps_may}
use Rattle.stitched_netlist.proofs.Moved.{DrivenBy, driven_or_not, moved_or_stays}
use Rattle.stitched_netlist.proofs.Steered.{IsSteered, AreSteered, steered_at}
use Rattle.stitched_netlist.proofs.Kept.{IsKept, kept_tck, kept_trst, kept_core, IsNotKept, control_inside}

-- The cells: the core's behind its boundary cells, and those of the test logic.

record IsCoreCell (N : NetlistView) (B : Boundary) (cell : CellView) : Type 0 where
  number : ℕ
  old : CellView
  live : cell_at N number ≡ Some old
  is : core_cell B old ≡ cell

live_there : (B : Boundary) (places : List (Option CellView)) (k : ℕ) (cell : CellView) → slice_get (map (core_cell B) (filter_map same_place places)) k ≡ Some cell
    → (j : ℕ) × (old : CellView) × (live_cell (slice_get places j) ≡ Some old) × (core_cell B old ≡ cell)
live_there B [] k cell e = absurd (cc)
live_there B (Some old ∷ places) zero cell e = (0, old, refl, some_same (core_cell B old) cell (Some (core_cell B old)) refl e)
live_there B (Some old ∷ places) (suc k) cell e = let rest = live_there B places k cell e in (suc rest.0, rest.1, rest.2, rest.3)
live_there B (None ∷ places) k cell e = let rest = live_there B places k cell e in (suc rest.0, rest.1, rest.2, rest.3)

front_or_back : (xs ys : List CellView) (k : ℕ) (cell : CellView) → slice_get (xs ++ ys) k ≡ Some cell → (slice_get xs k ≡ Some cell) ⊎ ((j : ℕ) × (slice_get ys j ≡ Some cell))
front_or_back [] ys k cell e = inr (k, e)
front_or_back (x ∷ xs) ys zero cell e = inl e
front_or_back (x ∷ xs) ys (suc k) cell e = front_or_back xs ys k cell e

core_or_logic : (N : NetlistView) (B : Boundary) (logic : List CellView) (k : ℕ) (cell : CellView)
    → slice_get (map (core_cell B) (filter_map same_place N.cells) ++ logic) k ≡ Some cell → IsCoreCell N B cell ⊎ ((j : ℕ) × (slice_get logic j ≡ Some cell))
core_or_logic N B logic k cell e = elim (front_or_back (map (core_cell B) (filter_map same_place N.cells)) logic k cell e) [
  | inl front ↦ (let at = live_there B N.cells k cell front in inl (record { number = at.0; old = at.1; live = at.2; is = at.3 }))
  | inr back ↦ inr back
]

-- What a cell of the core reads behind its boundary cells.

record IsRead (B : Boundary) (old : CellView) (place other : ℕ) : Type 0 where
  net : ℕ
  reads : slice_get old.feeds place ≡ Some (Net (record { 0 = net }))
  is : core_side B net ≡ other

pub record IsAtRow (B : Boundary) (old : CellView) : Type 0 where
  pub net : ℕ
  pub output : old.output ≡ Some (record { 0 = net })
  pub by : DrivenBy B net B.first B.rows

abbrev feed_net : Feed → ℕ
feed_net (Net net) = net.0
feed_net (Const b) = 0

mapped_read : (to : ℕ → ℕ) (feeds : List Feed) (place other : ℕ) → slice_get (map (renamed_feed to) feeds) place ≡ Some (Net (record { 0 = other }))
    → (net : ℕ) × (slice_get feeds place ≡ Some (Net (record { 0 = net }))) × (to net ≡ other)
mapped_read to [] place other e = absurd (cc)
mapped_read to (Net net ∷ feeds) zero other e = (net.0, refl, net_once (to net.0) other e)
  where
    net_once : (a b : ℕ) → Some (Net (let one : NetId = record { 0 = a } in one)) ≡ Some (Net (record { 0 = b })) → a ≡ b
    net_once a b h = ap feed_net (some_same (Net (let one : NetId = record { 0 = a } in one)) (Net (let two : NetId = record { 0 = b } in two)) (Some (Net (record { 0 = a }))) refl h)
mapped_read to (Const b ∷ feeds) zero other e = absurd (cc)
mapped_read to (feed ∷ feeds) (suc place) other e = mapped_read to feeds place other e

core_reads : (B : Boundary) (old : CellView) (place other : ℕ) → slice_get (core_cell B old).feeds place ≡ Some (Net (record { 0 = other })) → IsRead B old place other ⊎ IsAtRow B old
core_reads B old place other e = by old.output refl e
  where
    mapped : slice_get (map (renamed_feed (core_side B)) old.feeds) place ≡ Some (Net (record { 0 = other })) → IsRead B old place other
    mapped h = let at = mapped_read (core_side B) old.feeds place other h in record { net = at.0; reads = at.1; is = at.2 }

    by : (o : Option NetId) → old.output ≡ o → slice_get (unwrap_or (option_and_then (feeds_behind B) o) (map (renamed_feed (core_side B)) old.feeds)) place ≡ Some (Net (record { 0 = other }))
        → IsRead B old place other ⊎ IsAtRow B old
    by None at h = inl (mapped h)
    by (Some id) at h = elim (driven_or_not B id.0 B.first B.rows) [
      | inl none ↦ inl (mapped (rw none at h))
      | inr d ↦ inr (record { net = id.0; output = at; by = d })
    ]

-- What is known of the netlist and its rows.

pub record AreDriverRows (N : NetlistView) (B : Boundary) : Type 0 where
  -- the driver of a row is a three-state gate
  pub three : (k : ℕ) (row : FitRow) → slice_get B.rows k ≡ Some row → (net : ℕ) → drives B.ports net row ≡ true → (i : ℕ) (cell : CellView) → Drives N i cell net → is_three_state cell.kind ≡ true
  -- at an output or an inout
  pub side : (k : ℕ) (row : FitRow) → slice_get B.rows k ≡ Some row → (net : ℕ) → drives B.ports net row ≡ true
      → (direction N.ports net ≡ Some Output) ⊎ (direction N.ports net ≡ Some Inout)

-- The core inside.
pub record IsCoreInside (N : NetlistView) (B : Boundary) (count : ℕ) : Type 0 where
  pub formed : IsWellFormed N
  pub laid : IsLaidOut N
  pub many : length N.nets ≡ count
  pub begins : B.first ≡ count + 5
  pub once : (a b : ℕ) → a < count → b < count → core_side B a ≡ core_side B b → a ≡ b
  pub rows : AreDriverRows N B

-- no flip-flop of the core stands at a driver's row
pub no_flop_row : (N : NetlistView) (B : Boundary) (count : ℕ) → IsCoreInside N B count → (i : ℕ) (old : CellView) → cell_at N i ≡ Some old → (kind : FlopKind) → flop_of N.library old.kind ≡ Some kind → IsAtRow B old → ⊥
no_flop_row N B count in_core i old live kind flop at =
    let three : is_three_state old.kind ≡ true = in_core.rows.three at.by.k at.by.row at.by.there at.net at.by.drives i old (record { live = live; output = at.output }) in
    let none : is_three_state old.kind ≡ false = flop_no_bufif N.library old.kind kind flop in
    let clash : true ≡ false = sym three ∙ none in cc

-- and no driver of a control net
pub no_control_row : (N : NetlistView) (B : Boundary) (count : ℕ) → IsCoreInside N B count → (i x : ℕ) (old : CellView) → Drives N i old x → IsControlNet N x → IsAtRow B old → ⊥
no_control_row N B count in_core i x old d c at =
    let same : at.net ≡ x = ap (λ (n : NetId). n.0) (some_same (let one : NetId = record { 0 = at.net } in one) (let two : NetId = record { 0 = x } in two) old.output at.output d.output) in
    let drives_x : drives B.ports x at.by.row ≡ true = subst (λ (n : ℕ). drives B.ports n at.by.row ≡ true) same at.by.drives in
    let three : is_three_state old.kind ≡ true = in_core.rows.three at.by.k at.by.row at.by.there x drives_x i old d in
    let read = control_read N x c in
    elim (in_core.rows.side at.by.k at.by.row at.by.there x drives_x) [
      | inl output ↦ in_core.formed.bufif_unread i read.number old read.cell read.place x d three read.reads output
      | inr inout ↦ elim (in_core.formed.cones x c) [
        | inl input ↦ (let clash : Some Inout ≡ Some Input = sym inout ∙ input in cc)
        | inr gate ↦ gate.2 inout
      ]
    ]

-- Gates.

-- a net of the core behind its boundary cells is none of the test access port's
core_side_apart : (N : NetlistView) (B : Boundary) (count : ℕ) → IsCoreInside N B count → (y place : ℕ) → y < count → place < 5 → core_side B y ≡ count + place → ⊥
core_side_apart N B count in_core y place inside less e =
    let begins = in_core.begins in
    elim (moved_or_stays B.ports y B.first B.rows) [
      | inl stays ↦ (let same = stays.same in absurd (omega arith))
      | inr by ↦ (let is = by.is in absurd (omega arith))
    ]

output_of : (to : ℕ → ℕ) (o : Option NetId) (net : ℕ) → option_map (renamed_net to) o ≡ Some (record { 0 = net }) → (y : ℕ) × (o ≡ Some (record { 0 = y })) × (to y ≡ net)
output_of to None net e = absurd (cc)
output_of to (Some id) net e =
    (id.0, refl, ap (λ (n : NetId). n.0) (some_same (let one : NetId = record { 0 = to id.0 } in one) (let two : NetId = record { 0 = net } in two) (Some (record { 0 = to id.0 })) refl e))

-- a gate of the core on such a net reads such nets
core_gate : (N : NetlistView) (B : Boundary) (count net other : ℕ) → IsCoreInside N B count → IsKept N B count net → (i y place : ℕ) (old : CellView) → Drives N i old y → core_side B y ≡ net
    → is_flop N.library old.kind ≡ false → slice_get (core_cell B old).feeds place ≡ Some (Net (record { 0 = other })) → IsKept N B count other
core_gate N B count net other in_core (kept_tck e) i y place old d side gate reads =
    let many = in_core.many in
    absurd (core_side_apart N B count in_core y 0 (let low = in_core.laid.outputs i old y d in omega arith) (omega arith) (omega arith))
core_gate N B count net other in_core (kept_trst e) i y place old d side gate reads =
    let many = in_core.many in
    absurd (core_side_apart N B count in_core y 4 (let low = in_core.laid.outputs i old y d in omega arith) (omega arith) (omega arith))
core_gate N B count net other in_core (kept_core x c e) i y place old d side gate reads =
    let many = in_core.many in
    let low = in_core.laid.outputs i old y d in
    let low' = control_inside N in_core.laid x c in
    let same : y ≡ x = in_core.once y x (omega arith) (omega arith) (side ∙ sym e) in
    let mine : Drives N i old x = subst (λ (n : ℕ). Drives N i old n) same d in
    elim (core_reads B old place other reads) [
      | inl r ↦ kept_core r.net (control_closed N x r.net c
          (record { number = i; cell = old; place = place; gate = gate; drives = mine; reads = record { live = d.live; operand = r.reads } })) r.is
      | inr at ↦ absurd (no_control_row N B count in_core i x old mine c at)
    ]

-- The netlist with the test logic has these cells.
pub record IsStitched (N M : NetlistView) (B : Boundary) (count : ℕ) (logic : List CellView) : Type 0 where
  pub library : M.library ≡ N.library
  pub core : IsCoreInside N B count
  pub cells : (i : ℕ) (cell : CellView) → cell_at M i ≡ Some cell → slice_get (map (core_cell B) (filter_map same_place N.cells) ++ logic) i ≡ Some cell
  pub steered : AreSteered (record { 0 = count }) (record { 0 = count + 4 }) (IsNotKept N B count) logic

kept_gate : (N M : NetlistView) (B : Boundary) (count : ℕ) (logic : List CellView) → IsStitched N M B count logic → (net other : ℕ) → IsKept N B count net → GateReads M net other → IsKept N B count other
kept_gate N M B count logic is net other kept g = elim (core_or_logic N B logic g.number g.cell (is.cells g.number g.cell g.drives.live)) [
  | inl c ↦
      (let out : option_map (renamed_net (core_side B)) c.old.output ≡ Some (record { 0 = net }) = ap (λ (x : CellView). x.output) c.is ∙ g.drives.output in
      let y = output_of (core_side B) c.old.output net out in
      let gate : is_flop N.library c.old.kind ≡ false = ap (λ (x : CellView). is_flop N.library x.kind) c.is ∙ ap (λ (l : List ListedCell). is_flop l g.cell.kind) (sym is.library) ∙ g.gate in
      let reads : slice_get (core_cell B c.old).feeds g.place ≡ Some (Net (record { 0 = other })) = ap (λ (x : CellView). slice_get x.feeds g.place) c.is ∙ g.reads.operand in
      core_gate N B count net other is.core kept c.number y.0 g.place c.old (record { live = c.live; output = y.1 }) y.2 gate reads)
  | inr l ↦ absurd ((steered_at (record { 0 = count }) (record { 0 = count + 4 }) (IsNotKept N B count) logic is.steered l.0 g.cell l.1).drives net g.drives.output kept)
]

kept_cone : (N M : NetlistView) (B : Boundary) (count : ℕ) (logic : List CellView) → IsStitched N M B count logic → (root net : ℕ) → IsKept N B count root → InCone M root net → IsKept N B count net
kept_cone N M B count logic is root net kept itself = kept
kept_cone N M B count logic is root net kept (behind {net = middle} back g) =
    kept_gate N M B count logic is middle net (kept_cone N M B count logic is root middle kept back) g

-- Flip-flops.

fed_net : (a b : ℕ) (o : Option Feed) → o ≡ Some (Net (record { 0 = a })) → o ≡ Some (Net (record { 0 = b })) → b ≡ a
fed_net a b o e f = ap feed_net (some_same (Net (let one : NetId = record { 0 = b } in one)) (Net (let two : NetId = record { 0 = a } in two)) o f e)

core_root : (N : NetlistView) (B : Boundary) (count root : ℕ) → IsCoreInside N B count → (i place : ℕ) (old : CellView) (kind : FlopKind) → cell_at N i ≡ Some old → flop_of N.library old.kind ≡ Some kind
    → slice_get (core_cell B old).feeds place ≡ Some (Net (record { 0 = root })) → (x : ℕ) × FlopReads N place x × (core_side B x ≡ root)
core_root N B count root in_core i place old kind live flop reads = elim (core_reads B old place root reads) [
  | inl r ↦ (r.net, record { number = i; cell = old; kind = kind; flop = flop; reads = record { live = live; operand = r.reads } }, r.is)
  | inr at ↦ absurd (no_flop_row N B count in_core i old live kind flop at)
]

-- what a flip-flop takes at its place
root_at : (N M : NetlistView) (B : Boundary) (count : ℕ) (logic : List CellView) → IsStitched N M B count logic → (place root : ℕ) (f : FlopReads M place root)
    → ((x : ℕ) × FlopReads N place x × (core_side B x ≡ root)) ⊎ IsSteered (record { 0 = count }) (record { 0 = count + 4 }) (IsNotKept N B count) f.cell
root_at N M B count logic is place root f = elim (core_or_logic N B logic f.number f.cell (is.cells f.number f.cell f.reads.live)) [
  | inl c ↦ inl (core_root N B count root is.core c.number place c.old f.kind c.live (ap (λ (x : CellView). flop_of N.library x.kind) c.is ∙ ap (λ (l : List ListedCell). flop_of l f.cell.kind) (sym is.library) ∙ f.flop)
      (ap (λ (x : CellView). slice_get x.feeds place) c.is ∙ f.reads.operand))
  | inr l ↦ inr (steered_at (record { 0 = count }) (record { 0 = count + 4 }) (IsNotKept N B count) logic is.steered l.0 f.cell l.1)
]

kept_root : (N M : NetlistView) (B : Boundary) (count : ℕ) (logic : List CellView) → IsStitched N M B count logic → (root : ℕ) → FlopReads M 1 root ⊎ FlopReads M 2 root → IsKept N B count root
kept_root N M B count logic is root (inl f) = elim (root_at N M B count logic is 1 root f) [
  | inl c ↦ kept_core c.0 (record { root = c.0; operand = inl c.1; cone = itself }) c.2
  | inr s ↦ kept_tck (fed_net count root (slice_get f.cell.feeds 1) (s.clock (keeps_may M.library f.cell.kind (ap is_some f.flop))) f.reads.operand)
]
kept_root N M B count logic is root (inr f) = elim (root_at N M B count logic is 2 root f) [
  | inl c ↦ kept_core c.0 (record { root = c.0; operand = inr c.1; cone = itself }) c.2
  | inr s ↦ kept_trst (fed_net (count + 4) root (slice_get f.cell.feeds 2) (s.reset (keeps_may M.library f.cell.kind (ap is_some f.flop))) f.reads.operand)
]

-- each control net is TCK, TRST, or one of the core behind its boundary cells
pub control_is_kept : (N M : NetlistView) (B : Boundary) (count : ℕ) (logic : List CellView) → IsStitched N M B count logic → (net : ℕ) → IsControlNet M net → IsKept N B count net
control_is_kept N M B count logic is net c = kept_cone N M B count logic is c.root net (kept_root N M B count logic is c.root c.operand) c.cone
