-- The tree of a linked netlist can be linked again, where nothing is too many.
use Rattle.std.proofs.Common.{◌≡◌, ℕ, zero, suc, ◌+◌, ◌<◌, ◌⊎◌, inl, inr, Bool, true, false, List, [], ◌∷◌, length, map, refl, ap, sym, ◌∙◌, subst, Option, Some, None, arith}
use Rattle.std.specs.Prelude.{slice_get, unwrap_or, option_and_then, is_some, if◌then◌else◌}
use Rattle.std.specs.Option.{option_map}
use Rattle.std.specs.List.{flat_map}
use Rattle.std.proofs.lemmas.Option.{same_Some, slice_get-map}
use Rattle.verilog_tree.specs.declared.tree.GateKind.{GateKind}
use Rattle.verilog_tree.specs.declared.tree.Instance.{Instance}
use Rattle.verilog_tree.specs.declared.tree.Link.{Link}
use Rattle.verilog_tree.specs.declared.tree.Module.{Module}
use Rattle.cell_library.specs.declared.FlopKind.{FlopKind}
use Rattle.cell_library.specs.declared.listed.ListedCell.{ListedCell}
use Rattle.cell_library.specs.declared.Kind.{Kind}
use Rattle.cell_library.specs.Gates.{flop_of, is_flop, is_three_state}
use Rattle.cell_library.specs.Library.{cell_name, operand_ports, output_port}
use Rattle.cell_library.specs.Sound.{IsLibrary}
use Rattle.cell_library.proofs.NameLaws.{named_is_found}
use Rattle.netlist_model.specs.declared.Dir.{Dir}
use Rattle.netlist_model.specs.declared.Dir.TheVariants.{Input, Output, Inout}
use Rattle.netlist_model.specs.declared.Feed.{Feed}
use Rattle.netlist_model.specs.declared.Feed.TheVariants.{Net, Const}
use Rattle.netlist_model.specs.declared.NetId.{NetId}
use Rattle.netlist_model.specs.Lists.{CellView, Drives, NetlistView, Reads, cell_at, direction, live_cell}
use Rattle.netlist_model.specs.Formed.{IsCombinational, IsDriven, IsLaidOut, IsWellFormed}
use Rattle.netlist_model.specs.Cones as cone
use Rattle.netlist_model.specs.Cones.InCone.{itself, behind}
use Rattle.link_model.specs.Lists.{or_else}
use Rattle.link_model.specs.Nets.{Declared, NamedNet, declared_names, declared_nets, net_of, nets_in}
use Rattle.link_model.specs.Cells.{NamedCell}
use Rattle.link_model.specs.Denoted.{NamedNetlist, denoted, net_id}
use Rattle.link_model.specs.Faults.{cells_in, driver_fault}
use Rattle.link_model.specs.Late as late
use Rattle.link_model.specs.Late.InCone.{itself as late_itself, behind as late_behind}
use Rattle.link_model.specs.Late.{ControlLink, IsLinkable, IsLoop, flop_links, item_links}
use Rattle.netlist_link.specs.link_rules.DriversLaws.{DrivesNet, HasDriver, HasItsDrivers, ReadsNet, dir_at}
use Rattle.netlist_link.specs.Linked.{LinkedView}
use Rattle.netlist_link.proofs.Drivers.{no_driver_fault}
use Rattle.netlist_link.proofs.Loops.{IsRising, feeds_lower, no_loop}
use Rattle.netlist_unlink.specs.Trees.{Naming, bit_of, cell_text, gate_of, item_of, items_from, naming_of, tree_of, written}
use Rattle.netlist_unlink.specs.Renumbered.{IsEachOnce, cells_from, named_net, net_order, new_cell, new_feed, new_net, passed_limit, place_of, renumbered}
use Rattle.netlist_unlink.proofs.Bits.{bit_found, each_once}
use Rattle.netlist_unlink.proofs.Denotes.{denotes, text_is}
use Rattle.netlist_unlink.proofs.Facts.{library_ports}
use Rattle.netlist_unlink.proofs.Keys.{CanName}
use Rattle.netlist_unlink.proofs.Members.{joined_source, mapped_source}
use Rattle.netlist_unlink.proofs.PortLinks.{control_of, control_operand, control_place, links_of}

-- Live cells with their numbers.

abbrev live_from : ℕ → List (Option CellView) → List (ℕ × CellView)
live_from number [] = []
live_from number (None ∷ cells) = live_from (number + 1) cells
live_from number (Some cell ∷ cells) = (number, cell) ∷ live_from (number + 1) cells

abbrev as_new : Naming → List ℕ → ℕ × CellView → NamedCell
as_new naming order p = new_cell naming order p.0 p.1

cells_live : (naming : Naming) (order : List ℕ) (number : ℕ) (cells : List (Option CellView)) → cells_from naming order number cells ≡ map (as_new naming order) (live_from number cells)
cells_live naming order number [] = refl
cells_live naming order number (None ∷ cells) = cells_live naming order (number + 1) cells
cells_live naming order number (Some cell ∷ cells) = ap (λ (xs : List NamedCell). new_cell naming order number cell ∷ xs) (cells_live naming order (number + 1) cells)

-- where a numbered cell comes from
record IsLiveAt (number : ℕ) (cells : List (Option CellView)) (p : ℕ × CellView) : Type 0 where
  k : ℕ
  number_is : p.0 ≡ number + k
  at : live_cell (slice_get cells k) ≡ Some p.1

later_live : (number : ℕ) (first : Option CellView) (cells : List (Option CellView)) (p : ℕ × CellView) → IsLiveAt (number + 1) cells p → IsLiveAt number (first ∷ cells) p
later_live number first cells p l = record { k = suc l.k; number_is = let e = l.number_is in omega arith; at = l.at }

live_source : (number : ℕ) (cells : List (Option CellView)) (j : ℕ) (p : ℕ × CellView) → slice_get (live_from number cells) j ≡ Some p → IsLiveAt number cells p
live_source number [] j p at = absurd (cc)
live_source number (None ∷ cells) j p at = later_live number None cells p (live_source (number + 1) cells j p at)
live_source number (Some cell ∷ cells) zero p at =
    let same : (number, cell) ≡ p = same_Some (number, cell) p at in
    let P : ℕ × CellView → Type 0 = IsLiveAt number (Some cell ∷ cells) in
    subst P same (record { k = 0; number_is = omega arith; at = refl })
live_source number (Some cell ∷ cells) (suc j) p at = later_live number (Some cell) cells p (live_source (number + 1) cells j p at)

live_there : (number : ℕ) (cells : List (Option CellView)) (k : ℕ) (cell : CellView) → live_cell (slice_get cells k) ≡ Some cell → (j : ℕ) × (slice_get (live_from number cells) j ≡ Some (number + k, cell))
live_there number [] k cell at = absurd (cc)
live_there number (None ∷ cells) zero cell at = absurd (cc)
live_there number (Some c ∷ cells) zero cell at =
    let same : c ≡ cell = same_Some c cell at in
    let zeroth : number ≡ number + 0 = omega arith in
    (0, ap (λ (n : ℕ). Some (n, c)) zeroth ∙ ap (λ (x : CellView). Some (number + 0, x)) same)
live_there number (None ∷ cells) (suc k) cell at =
    let rest = live_there (number + 1) cells k cell at in
    let place : number + 1 + k ≡ number + suc k = omega arith in
    (rest.0, rest.1 ∙ ap (λ (n : ℕ). Some (n, cell)) place)
live_there number (Some c ∷ cells) (suc k) cell at =
    let rest = live_there (number + 1) cells k cell at in
    let place : number + 1 + k ≡ number + suc k = omega arith in
    (suc rest.0, rest.1 ∙ ap (λ (n : ℕ). Some (n, cell)) place)

live_once : (number : ℕ) (cells : List (Option CellView)) (i j : ℕ) (p q : ℕ × CellView) → slice_get (live_from number cells) i ≡ Some p → slice_get (live_from number cells) j ≡ Some q → p.0 ≡ q.0 → i ≡ j
live_once number [] i j p q one two same = absurd (cc)
live_once number (None ∷ cells) i j p q one two same = live_once (number + 1) cells i j p q one two same
live_once number (Some c ∷ cells) zero zero p q one two same = refl
live_once number (Some c ∷ cells) zero (suc j) p q one two same =
    let first : number ≡ p.0 = ap (λ (x : ℕ × CellView). x.0) (same_Some (number, c) p one) in
    let later = live_source (number + 1) cells j q two in
    let e = later.number_is in
    absurd (omega arith)
live_once number (Some c ∷ cells) (suc i) zero p q one two same =
    let first : number ≡ q.0 = ap (λ (x : ℕ × CellView). x.0) (same_Some (number, c) q two) in
    let later = live_source (number + 1) cells i p one in
    let e = later.number_is in
    absurd (omega arith)
live_once number (Some c ∷ cells) (suc i) (suc j) p q one two same = ap suc (live_once (number + 1) cells i j p q one two same)

-- The renumbered netlist's nets and cells, and the old ones.

-- what is known of an order of nets
record Renumbers (naming : Naming) (N : NetlistView) (order : List ℕ) : Type 0 where
  library : naming.library ≡ N.library
  formed : IsWellFormed N
  laid : IsLaidOut N
  each_once : IsEachOnce (length N.nets) order

abbrev cells_of : Naming → NetlistView → List ℕ → List NamedCell
cells_of naming N order = cells_from naming order 0 N.cells

abbrev nets_of : Naming → NetlistView → List ℕ → List NamedNet
nets_of naming N order = map (named_net naming N.ports) order

-- the old cell at a place
record IsOldCell (naming : Naming) (N : NetlistView) (order : List ℕ) (j : ℕ) (named : NamedCell) : Type 0 where
  number : ℕ
  cell : CellView
  live : cell_at N number ≡ Some cell
  place : slice_get (live_from 0 N.cells) j ≡ Some (number, cell)
  is : new_cell naming order number cell ≡ named

old_cell : (naming : Naming) (N : NetlistView) (order : List ℕ) (j : ℕ) (named : NamedCell) → slice_get (cells_of naming N order) j ≡ Some named → IsOldCell naming N order j named
old_cell naming N order j named at =
    let from = mapped_source (as_new naming order) (live_from 0 N.cells) j named (ap (λ (xs : List NamedCell). slice_get xs j) (sym (cells_live naming order 0 N.cells)) ∙ at) in
    let source = live_source 0 N.cells j from.from from.there in
    let same : source.k ≡ from.from.0 = let e = source.number_is in omega arith in
    record { number = from.from.0; cell = from.from.1; live = ap (λ (n : ℕ). cell_at N n) (sym same) ∙ source.at; place = from.there; is = from.is }

cell_there : (naming : Naming) (N : NetlistView) (order : List ℕ) (number : ℕ) (cell : CellView) → cell_at N number ≡ Some cell → (j : ℕ) × (slice_get (cells_of naming N order) j ≡ Some (new_cell naming order number cell))
cell_there naming N order number cell at =
    let here = live_there 0 N.cells number cell at in
    let zeroth : 0 + number ≡ number = omega arith in (
      here.0,
      ap (λ (xs : List NamedCell). slice_get xs here.0) (cells_live naming order 0 N.cells) ∙ slice_get-map (as_new naming order) (live_from 0 N.cells) here.0 ∙ ap (option_map (as_new naming order)) here.1
          ∙ ap (λ (n : ℕ). Some (new_cell naming order n cell)) zeroth,
    )

-- the new number of an old net
new_place : (naming : Naming) (N : NetlistView) (order : List ℕ) (net old : ℕ) → Renumbers naming N order → slice_get order net ≡ Some old → place_of order old ≡ net
new_place naming N order net old w at = w.each_once.once (place_of order old) net old (w.each_once.each old (w.each_once.only net old at)) at

dir_old : (naming : Naming) (N : NetlistView) (order : List ℕ) (net old : ℕ) → slice_get order net ≡ Some old → dir_at (nets_of naming N order) net ≡ direction N.ports old
dir_old naming N order net old at = ap (option_and_then (λ (n : NamedNet). n.dir)) (slice_get-map (named_net naming N.ports) order net ∙ ap (option_map (named_net naming N.ports)) at)

-- a net with a direction is an old one
old_of_dir : (naming : Naming) (N : NetlistView) (order : List ℕ) (net : ℕ) (dir : Dir) → dir_at (nets_of naming N order) net ≡ Some dir → (old : ℕ) × (slice_get order net ≡ Some old) × (direction N.ports old ≡ Some dir)
old_of_dir naming N order net dir e = go (slice_get order net) refl
  where
    go : (o : Option ℕ) → slice_get order net ≡ o → (old : ℕ) × (slice_get order net ≡ Some old) × (direction N.ports old ≡ Some dir)
    go None at =
        let none : dir_at (nets_of naming N order) net ≡ None = ap (option_and_then (λ (n : NamedNet). n.dir)) (slice_get-map (named_net naming N.ports) order net ∙ ap (option_map (named_net naming N.ports)) at) in
        absurd (let bad : None ≡ Some dir = sym none ∙ e in cc)
    go (Some old) at = (old, at, sym (dir_old naming N order net old at) ∙ e)

-- what drives or reads a net, as the old netlist has it
record DrivesOld (naming : Naming) (N : NetlistView) (order : List ℕ) (j net : ℕ) (named : NamedCell) : Type 0 where
  of : IsOldCell naming N order j named
  old : ℕ
  drives : Drives N of.number of.cell old
  at : slice_get order net ≡ Some old

drives_old : (naming : Naming) (N : NetlistView) (order : List ℕ) (j net : ℕ) (named : NamedCell) → Renumbers naming N order → DrivesNet (cells_of naming N order) j named net → DrivesOld naming N order j net named
drives_old naming N order j net named w d = go (old_cell naming N order j named d.there)
  where
    go : IsOldCell naming N order j named → DrivesOld naming N order j net named
    go o = by o.cell.output refl (ap (λ (c : NamedCell). c.output) o.is ∙ d.output)
      where
        by : (out : Option NetId) → o.cell.output ≡ out → option_map (new_net order) out ≡ Some (record { 0 = net }) → DrivesOld naming N order j net named
        by None e same = absurd (cc)
        by (Some n) e same =
            let drives : Drives N o.number o.cell n.0 = record { live = o.live; output = e } in
            let less = w.laid.outputs o.number o.cell n.0 drives in
            let place : place_of order n.0 ≡ net = ap (λ (x : NetId). x.0) (same_Some (new_net order n) (record { 0 = net }) same) in
            let P : ℕ → Type 0 = λ k. slice_get order k ≡ Some n.0 in
            record { of = o; old = n.0; drives = drives; at = subst P place (w.each_once.each n.0 less) }

record ReadsOld (naming : Naming) (N : NetlistView) (order : List ℕ) (j place net : ℕ) (named : NamedCell) : Type 0 where
  of : IsOldCell naming N order j named
  old : ℕ
  reads : Reads N of.number of.cell place old
  at : slice_get order net ≡ Some old

reads_old : (naming : Naming) (N : NetlistView) (order : List ℕ) (j place net : ℕ) (named : NamedCell) → Renumbers naming N order → ReadsNet (cells_of naming N order) j named place net → ReadsOld naming N order j place net named
reads_old naming N order j place net named w r = go (old_cell naming N order j named r.there)
  where
    go : IsOldCell naming N order j named → ReadsOld naming N order j place net named
    go o =
        let from = mapped_source (new_feed order) o.cell.feeds place (Net (record { 0 = net })) (ap (λ (c : NamedCell). slice_get c.feeds place) o.is ∙ r.operand) in
        by from.from from.there from.is
      where
        by : (feed : Feed) → slice_get o.cell.feeds place ≡ Some feed → new_feed order feed ≡ Net (record { 0 = net }) → ReadsOld naming N order j place net named
        by (Const value) e same = absurd (cc)
        by (Net n) e same =
            let reads : Reads N o.number o.cell place n.0 = record { live = o.live; operand = e } in
            let less = w.laid.operands o.number o.cell place n.0 reads in
            let nets : new_net order n ≡ record { 0 = net } = cc in
            let number : place_of order n.0 ≡ net = ap (λ (x : NetId). x.0) nets in
            let P : ℕ → Type 0 = λ k. slice_get order k ≡ Some n.0 in
            record { of = o; old = n.0; reads = reads; at = subst P number (w.each_once.each n.0 less) }

driver_new : (naming : Naming) (N : NetlistView) (order : List ℕ) (net old : ℕ) → Renumbers naming N order → slice_get order net ≡ Some old → IsDriven N old → HasDriver (cells_of naming N order) net
driver_new naming N order net old w at d =
    let here = cell_there naming N order d.number d.cell d.drives.live in
    let place = new_place naming N order net old w at in
    let output : option_map (new_net order) d.cell.output ≡ Some (record { 0 = net }) = ap (option_map (new_net order)) d.drives.output ∙ ap (λ (k : ℕ). Some (net_id k)) place in
    record { number = here.0; cell = new_cell naming order d.number d.cell; drives = record { there = here.1; output = output } }

-- Drivers.

same_old : (order : List ℕ) (net one other : ℕ) → slice_get order net ≡ Some one → slice_get order net ≡ Some other → one ≡ other
same_old order net one other a b = same_Some one other (sym a ∙ b)

kind_old : (naming : Naming) (N : NetlistView) (order : List ℕ) (j : ℕ) (named : NamedCell) (o : IsOldCell naming N order j named) → o.cell.kind ≡ named.kind
kind_old naming N order j named o = ap (λ (c : NamedCell). c.kind) o.is

keeps_old : (naming : Naming) (N : NetlistView) (order : List ℕ) (j : ℕ) (named : NamedCell) → Renumbers naming N order → (o : IsOldCell naming N order j named) → is_flop N.library o.cell.kind ≡ named.keeps
keeps_old naming N order j named w o = ap (λ (l : List ListedCell). is_flop l o.cell.kind) (sym w.library) ∙ ap (λ (c : NamedCell). c.keeps) o.is

has_drivers : (naming : Naming) (N : NetlistView) (order : List ℕ) → Renumbers naming N order → HasItsDrivers (nets_of naming N order) (cells_of naming N order)
has_drivers naming N order w = record {
  inputs_free = λ i cell net d e. let o = drives_old naming N order i net cell w d in w.formed.inputs_free o.of.number o.of.cell o.old o.drives (sym (dir_old naming N order net o.old o.at) ∙ e);
  one_driver = λ i j cell other net d e.
      let o = drives_old naming N order i net cell w d in
      let p = drives_old naming N order j net other w e in
      let same = same_old order net o.old p.old o.at p.at in
      let D : ℕ → Type 0 = Drives N o.of.number o.of.cell in
      let numbers = w.formed.one_driver o.of.number p.of.number o.of.cell p.of.cell p.old (subst D same o.drives) p.drives in
      live_once 0 N.cells i j (o.of.number, o.of.cell) (p.of.number, p.of.cell) o.of.place p.of.place numbers;
  outputs_driven = λ net e. let o = old_of_dir naming N order net Output e in driver_new naming N order net o.0 w o.1 (w.formed.outputs_driven o.0 o.2);
  inouts_driven = λ net e. let o = old_of_dir naming N order net Inout e in driver_new naming N order net o.0 w o.1 (w.formed.inouts_driven o.0 o.2);
  read_driven = λ i cell place net r e.
      let o = reads_old naming N order i place net cell w r in
      driver_new naming N order net o.old w o.at (w.formed.read_driven o.of.number o.of.cell place o.old o.reads (sym (dir_old naming N order net o.old o.at) ∙ e));
  bufif_outside = λ i cell net d three.
      let o = drives_old naming N order i net cell w d in
      let dir = dir_old naming N order net o.old o.at in
      elim (w.formed.bufif_outside o.of.number o.of.cell o.old o.drives (ap is_three_state (kind_old naming N order i cell o.of) ∙ three)) [ inl out ↦ inl (dir ∙ out) | inr io ↦ inr (dir ∙ io) ];
  inout_bufif = λ i cell net d e.
      let o = drives_old naming N order i net cell w d in
      sym (ap is_three_state (kind_old naming N order i cell o.of)) ∙ w.formed.inout_bufif o.of.number o.of.cell o.old o.drives (sym (dir_old naming N order net o.old o.at) ∙ e);
  bufif_unread = λ i j cell other place net d three r e.
      let o = drives_old naming N order i net cell w d in
      let p = reads_old naming N order j place net other w r in
      let same = same_old order net p.old o.old p.at o.at in
      let R : ℕ → Type 0 = Reads N p.of.number p.of.cell place in
      w.formed.bufif_unread o.of.number p.of.number o.of.cell p.of.cell place o.old o.drives (ap is_three_state (kind_old naming N order i cell o.of) ∙ three) (subst R same p.reads)
      (sym (dir_old naming N order net o.old o.at) ∙ e);
}

-- Loops.

-- a gate reads the net and drives the other, as the old netlist has it
record GateOld (naming : Naming) (N : NetlistView) (order : List ℕ) (net other : ℕ) : Type 0 where
  old : ℕ
  at : slice_get order net ≡ Some old
  read : ℕ
  read_at : slice_get order other ≡ Some read
  gate : cone.GateReads N old read

gate_old : (naming : Naming) (N : NetlistView) (order : List ℕ) (net other : ℕ) → Renumbers naming N order → late.GateReads (cells_of naming N order) net other → GateOld naming N order net other
gate_old naming N order net other w g =
    let d = drives_old naming N order g.number net g.cell w (record { there = g.gate.there; output = g.drives }) in
    let r = reads_old naming N order g.number g.reads.place other g.cell w (record { there = g.gate.there; operand = g.reads.operand }) in
    let same : (d.of.number, d.of.cell) ≡ (r.of.number, r.of.cell) = same_Some (d.of.number, d.of.cell) (r.of.number, r.of.cell) (sym d.of.place ∙ r.of.place) in
    let D : ℕ × CellView → Type 0 = λ p. Drives N p.0 p.1 d.old in
    record {
      old = d.old;
      at = d.at;
      read = r.old;
      read_at = r.at;
      gate = record { number = r.of.number; cell = r.of.cell; place = g.reads.place; gate = keeps_old naming N order g.number g.cell w r.of ∙ g.gate.gate; drives = subst D same d.drives; reads = r.reads };
    }

abbrev old_net : List ℕ → ℕ → ℕ
old_net order net = unwrap_or (slice_get order net) 0

rising : (naming : Naming) (N : NetlistView) (order : List ℕ) (w : Renumbers naming N order) → IsRising (cells_of naming N order) (λ net. w.formed.ordered.0 (old_net order net))
rising naming N order w net other g =
    let o = gate_old naming N order net other w g in
    let rank = w.formed.ordered.0 in
    let below = w.formed.ordered.1.gates o.gate.number o.gate.cell o.old o.gate.drives o.gate.gate in
    let less = feeds_lower rank o.gate.cell.feeds (rank o.old) o.gate.place (record { 0 = o.read }) below o.gate.reads.operand in
    let a : old_net order net ≡ o.old = ap (λ (x : Option ℕ). unwrap_or x 0) o.at in
    let b : old_net order other ≡ o.read = ap (λ (x : Option ℕ). unwrap_or x 0) o.read_at in
    rw (a, b) less

-- Cones.

cone_old : (naming : Naming) (N : NetlistView) (order : List ℕ) (root root_old : ℕ) → Renumbers naming N order → slice_get order root ≡ Some root_old → (net : ℕ) → late.InCone (cells_of naming N order) root net
    → (old : ℕ) × (slice_get order net ≡ Some old) × cone.InCone N root_old old
cone_old naming N order root root_old w at _ late_itself = (root_old, at, itself)
cone_old naming N order root root_old w at _ (late_behind {net} {other} inner gate) =
    let before = cone_old naming N order root root_old w at net inner in
    let g = gate_old naming N order net other w gate in
    let same = same_old order net g.old before.0 g.at before.1 in
    let G : ℕ → Type 0 = λ n. cone.GateReads N n g.read in
    (g.read, g.read_at, behind before.2 (subst G same g.gate))

not_derived : (naming : Naming) (N : NetlistView) (order : List ℕ) (root root_old : ℕ) → Renumbers naming N order → slice_get order root ≡ Some root_old → cone.FlopReads N 1 root_old ⊎ cone.FlopReads N 2 root_old
    → late.IsDerived (nets_of naming N order) (cells_of naming N order) root → ⊥
not_derived naming N order root root_old w at operand d = go (cone_old naming N order root root_old w at d.net d.cone)
  where
    go : (old : ℕ) × (slice_get order d.net ≡ Some old) × cone.InCone N root_old old → ⊥
    go c = by (w.formed.cones c.0 (record { root = root_old; operand = operand; cone = c.2 })) d.sequential
      where
        dir : dir_at (nets_of naming N order) d.net ≡ direction N.ports c.0
        dir = dir_old naming N order d.net c.0 c.1

        kept : IsCombinational N c.0 → late.IsKept (cells_of naming N order) d.net → ⊥
        kept combinational k =
            let o = drives_old naming N order k.number d.net k.cell w (record { there = k.there; output = k.drives }) in
            let same = same_old order d.net o.old c.0 o.at c.1 in
            let D : ℕ → Type 0 = Drives N o.of.number o.of.cell in
            let drives = subst D same o.drives in
            let flop : is_flop N.library o.of.cell.kind ≡ true = keeps_old naming N order k.number k.cell w o.of ∙ k.flop in
            elim combinational [
              | inl input ↦ w.formed.inputs_free o.of.number o.of.cell c.0 drives input
              | inr gate ↦
                  let numbers = w.formed.one_driver o.of.number gate.0.number o.of.cell gate.0.cell c.0 drives gate.0.drives in
                  let cells : o.of.cell ≡ gate.0.cell = same_Some o.of.cell gate.0.cell (sym drives.live ∙ ap (λ (n : ℕ). cell_at N n) numbers ∙ gate.0.drives.live) in
                  let bad : true ≡ false = sym flop ∙ ap (λ (x : CellView). is_flop N.library x.kind) cells ∙ gate.1 in
                  cc
            ]

        inout : IsCombinational N c.0 → late.IsInoutNet (nets_of naming N order) d.net → ⊥
        inout combinational i =
            let here : dir_at (nets_of naming N order) d.net ≡ Some Inout = ap (option_and_then (λ (n : NamedNet). n.dir)) i.there ∙ i.inout in
            let is : direction N.ports c.0 ≡ Some Inout = sym dir ∙ here in
            elim combinational [
              | inl input ↦ (let bad : Some Inout ≡ Some Input = sym is ∙ input in cc)
              | inr gate ↦ gate.2 is
            ]

        by : IsCombinational N c.0 → late.IsKept (cells_of naming N order) d.net ⊎ late.IsInoutNet (nets_of naming N order) d.net → ⊥
        by combinational (inl k) = kept combinational k
        by combinational (inr i) = inout combinational i

-- Clocks, clears and presets.

abbrev instance_as : List ℕ → List ℕ → List Link → Instance
instance_as library name links = record { cell = library; name = name; links = links }

-- an operand of a flip-flop of the netlist
record IsControlOf (naming : Naming) (names : List (List ℕ × Declared)) (N : NetlistView) (link : ControlLink) : Type 0 where
  net : NetId
  operand : cone.FlopReads N 1 net.0 ⊎ cone.FlopReads N 2 net.0
  is : link.net ≡ (net_of names (bit_of naming net)).0

some_kind : (o : Option FlopKind) → is_some o ≡ true → (k : FlopKind) × (o ≡ Some k)
some_kind (Some k) e = (k, refl)
some_kind None e = absurd (cc)

library_operand : (naming : Naming) (names : List (List ℕ × Declared)) (N : NetlistView) (i : ℕ) (cell : CellView) (library name : List ℕ) (j : ℕ) (link : ControlLink) → naming.library ≡ N.library → IsLibrary naming.library
    → cell_at N i ≡ Some cell → cell_name naming.library cell.kind ≡ Some library
    → slice_get (flop_links naming.library names (instance_as library name (links_of naming (operand_ports naming.library cell.kind) (output_port naming.library cell.kind) cell.feeds cell.output)) (Some cell.kind)) j ≡ Some link → IsControlOf naming names N link
library_operand naming names N i cell library name j link same is live known = by (is_flop naming.library cell.kind) refl
  where
    links : List ControlLink
    links = flat_map (control_of naming.library names name cell.kind) (links_of naming (operand_ports naming.library cell.kind) (output_port naming.library cell.kind) cell.feeds cell.output)

    by : (b : Bool) → is_flop naming.library cell.kind ≡ b → slice_get (if b then links else []) j ≡ Some link → IsControlOf naming names N link
    by false gate at = absurd (let bad : None ≡ Some link = at in cc)
    by true keeps at =
        let found = some_kind (flop_of naming.library cell.kind) keeps in
        let flop : flop_of N.library cell.kind ≡ Some found.0 = ap (λ (l : List ListedCell). flop_of l cell.kind) (sym same) ∙ found.1 in
        let o = control_operand naming names name cell.kind cell.feeds cell.output j link (library_ports naming.library cell.kind library is known) at in
        record {
          net = o.net;
          operand = elim (control_place o.place o.control) [
            | inl one ↦ inl (record { number = i; cell = cell; kind = found.0; flop = flop; reads = record { live = live; operand = ap (slice_get cell.feeds) (sym one) ∙ o.at } })
            | inr two ↦ inr (record { number = i; cell = cell; kind = found.0; flop = flop; reads = record { live = live; operand = ap (slice_get cell.feeds) (sym two) ∙ o.at } })
          ];
          is = o.is;
        }

item_operand : (naming : Naming) (names : List (List ℕ × Declared)) (N : NetlistView) (i : ℕ) (cell : CellView) (j : ℕ) (link : ControlLink) → naming.library ≡ N.library → IsLibrary naming.library → cell_at N i ≡ Some cell
    → slice_get (item_links naming.library names (item_of naming i cell)) j ≡ Some link → IsControlOf naming names N link
item_operand naming names N i cell j link same is live = by_gate (gate_of cell.kind)
  where
    by_library : (l : Option (List ℕ)) → cell_name naming.library cell.kind ≡ l → slice_get (item_links naming.library names (written naming i cell None l)) j ≡ Some link → IsControlOf naming names N link
    by_library None e at = absurd (let bad : None ≡ Some link = at in cc)
    by_library (Some library) e at =
        let text : List ℕ = unwrap_or (option_map (cell_text naming i) cell.name) [] in
        let x : Instance = instance_as library text (links_of naming (operand_ports naming.library cell.kind) (output_port naming.library cell.kind) cell.feeds cell.output) in
        let known = named_is_found naming.library is cell.kind library e in
        let there : slice_get (flop_links naming.library names x (Some cell.kind)) j ≡ Some link = ap (λ (k : Option Kind). slice_get (flop_links naming.library names x k) j) (sym known) ∙ at in
        library_operand naming names N i cell library text j link same is live e there

    by_gate : (g : Option GateKind) → slice_get (item_links naming.library names (written naming i cell g (cell_name naming.library cell.kind))) j ≡ Some link → IsControlOf naming names N link
    by_gate None at = by_library (cell_name naming.library cell.kind) refl at
    by_gate (Some g) at = absurd (let bad : None ≡ Some link = at in cc)

items_operand : (naming : Naming) (names : List (List ℕ × Declared)) (N : NetlistView) (number : ℕ) (cells : List (Option CellView)) (j : ℕ) (link : ControlLink) → naming.library ≡ N.library → IsLibrary naming.library
    → ((k : ℕ) (cell : CellView) → live_cell (slice_get cells k) ≡ Some cell → cell_at N (number + k) ≡ Some cell)
    → slice_get (flat_map (item_links naming.library names) (items_from naming number cells)) j ≡ Some link → IsControlOf naming names N link
items_operand naming names N number [] j link same is each at = absurd (let bad : None ≡ Some link = at in cc)
items_operand naming names N number (None ∷ cells) j link same is each at =
    items_operand naming names N (number + 1) cells j link same is (λ k cell there. let same : number + 1 + k ≡ number + suc k = omega arith in ap (λ (n : ℕ). cell_at N n) same ∙ each (suc k) cell there) at
items_operand naming names N number (Some first ∷ cells) j link same is each at =
    elim (joined_source (item_links naming.library names (item_of naming number first)) (flat_map (item_links naming.library names) (items_from naming (number + 1) cells)) j link at) [
      | inl here ↦
          let zeroth : number ≡ number + 0 = omega arith in
          item_operand naming names N number first here.0 link same is (ap (λ (n : ℕ). cell_at N n) zeroth ∙ each 0 first refl) here.1
      | inr later ↦
          items_operand naming names N (number + 1) cells later.0 link same is (λ k cell there. let same : number + 1 + k ≡ number + suc k = omega arith in ap (λ (n : ℕ). cell_at N n) same ∙ each (suc k) cell there) later.1
    ]

-- The tree.

pub links_again : (linked : LinkedView) (prefix : List ℕ) → CanName linked prefix → passed_limit linked.arena.lists ≡ None → IsLinkable linked.arena.lists.library (tree_of linked prefix)
links_again linked prefix w few = record {
  early = ap (λ o. or_else o (driver_fault (nets_in (declared_nets tree)) (cells_in N.library tree))) (text_is linked prefix w ∙ few) ∙ drivers;
  loops = λ numbers l. no_loop (cells_of naming N order) (λ net. numbered.formed.ordered.0 (old_net order net)) numbers (rising naming N order numbered) (subst (λ (xs : List NamedCell). IsLoop xs numbers) cells_same l);
  derived = λ place link d.
      let o = items_operand naming names N 0 N.cells place link refl w.are.named.library (λ k cell there. let zeroth : 0 + k ≡ k = omega arith in ap (λ (n : ℕ). cell_at N n) zeroth ∙ there) d.there in
      let less = operand_less o.net.0 o.operand in
      let found = bit_found linked prefix o.net w less in
      let number : link.net ≡ place_of order o.net.0 = o.is ∙ ap (λ (n : NetId). n.0) found.is in
      let at : slice_get order link.net ≡ Some o.net.0 = ap (slice_get order) number ∙ numbered.each_once.each o.net.0 less in
      not_derived naming N order link.net o.net.0 numbered at o.operand (derived_same link.net d.derived);
}
  where
    tree : Module
    tree = tree_of linked prefix

    N : NetlistView
    N = linked.arena.lists

    naming : Naming
    naming = naming_of linked prefix

    order : List ℕ
    order = net_order linked.arena.lists

    names : List (List ℕ × Declared)
    names = declared_names (tree_of linked prefix)

    numbered : Renumbers (naming_of linked prefix) linked.arena.lists (net_order linked.arena.lists)
    numbered = record { library = refl; formed = w.are.formed; laid = w.are.laid; each_once = each_once linked prefix w }

    same : denoted linked.arena.lists.library (tree_of linked prefix) ≡ renumbered (naming_of linked prefix) linked.arena.lists
    same = denotes linked prefix w

    cells_same : cells_in linked.arena.lists.library (tree_of linked prefix) ≡ cells_of (naming_of linked prefix) linked.arena.lists (net_order linked.arena.lists)
    cells_same = ap (λ (M : NamedNetlist). M.cells) (denotes linked prefix w)

    nets_same : nets_in (declared_nets (tree_of linked prefix)) ≡ nets_of (naming_of linked prefix) linked.arena.lists (net_order linked.arena.lists)
    nets_same = ap (λ (M : NamedNetlist). M.nets) (denotes linked prefix w)

    drivers : driver_fault (nets_in (declared_nets (tree_of linked prefix))) (cells_in linked.arena.lists.library (tree_of linked prefix)) ≡ None
    drivers =
        ap (λ (xs : List NamedNet). driver_fault xs (cells_in linked.arena.lists.library (tree_of linked prefix))) nets_same ∙ ap (driver_fault (nets_of (naming_of linked prefix) linked.arena.lists (net_order linked.arena.lists))) cells_same
        ∙ no_driver_fault (nets_of (naming_of linked prefix) linked.arena.lists (net_order linked.arena.lists)) (cells_of (naming_of linked prefix) linked.arena.lists (net_order linked.arena.lists))
        (has_drivers (naming_of linked prefix) linked.arena.lists (net_order linked.arena.lists) (record { library = refl; formed = w.are.formed; laid = w.are.laid; each_once = each_once linked prefix w }))

    operand_less : (net : ℕ) → cone.FlopReads linked.arena.lists 1 net ⊎ cone.FlopReads linked.arena.lists 2 net → net < length linked.arena.lists.nets
    operand_less net (inl f) = w.are.laid.operands f.number f.cell 1 net f.reads
    operand_less net (inr f) = w.are.laid.operands f.number f.cell 2 net f.reads

    derived_same : (net : ℕ) → late.IsDerived (nets_in (declared_nets (tree_of linked prefix))) (cells_in linked.arena.lists.library (tree_of linked prefix)) net
        → late.IsDerived (nets_of (naming_of linked prefix) linked.arena.lists (net_order linked.arena.lists)) (cells_of (naming_of linked prefix) linked.arena.lists (net_order linked.arena.lists)) net
    derived_same net d =
        let C : List NamedCell → Type 0 = λ xs. late.IsDerived (nets_in (declared_nets (tree_of linked prefix))) xs net in
        let M : List NamedNet → Type 0 = λ xs. late.IsDerived xs (cells_of (naming_of linked prefix) linked.arena.lists (net_order linked.arena.lists)) net in
        subst M nets_same (subst C cells_same d)
