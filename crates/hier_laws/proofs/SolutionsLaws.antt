-- The settled valuations are those that solve the hierarchy.
use Rattle.std.proofs.Common.{◌≡◌, ℕ, zero, suc, ◌+◌, ◌-◌, ◌<◌, ◌≤◌, Bool, true, false, List, [], ◌∷◌, length, map, nat_le, Option, Some, None, MatchOption, is_some, slice_get, refl, sym, ap, subst, ◌∙◌, arith, leb-true}
use Rattle.std.proofs.lemmas.Bool.{leb-false}
use Rattle.std.specs.Bool.{⊤}
use Rattle.std.specs.Option.{option_and_then}
use Rattle.std.proofs.lemmas.List.{length-map}
use Rattle.list_laws.proofs.Lists.{all_at, slice_get_there, AreAll-length}
use Rattle.signal_values.specs.declared.Sig.{Sig}
use Rattle.signal_values.specs.declared.Sig.TheVariants.{Unknown}
use Rattle.signal_values.specs.declared.PinSig.{PinSig}
use Rattle.signal_values.specs.Values.{see}
use Rattle.verilog_tree.specs.declared.tree.Module.{Module}
use Rattle.netlist_model.specs.declared.Dir.{Dir}
use Rattle.netlist_model.specs.declared.Dir.TheVariants.{Input, Output, Inout}
use Rattle.netlist_model.specs.declared.NetId.{NetId}
use Rattle.netlist_model.specs.Lists.{CellView, NetlistView, cell_at, direction, Drives, IsUndriven}
use Rattle.netlist_model.specs.Settled.{feed_values, follows_pin, pin_value, pin_rule, drive_by, driver_of, IsSettled}
use Rattle.link_model.specs.Nets.{NamedNet, nets_in, bits_in, declared_nets, declared_names, net_of}
use Rattle.link_model.specs.Cells.{NamedCell, cell_of}
use Rattle.link_model.specs.Denoted.{IsCell, IsLive, IsNet}
use Rattle.link_model.specs.Faults.{item_bits}
use Rattle.hier_model.specs.Names.{flat_bit, flat_item}
use Rattle.hier_model.specs.Entries.{Place, place, places, Entry, stays, carries, entry_item, entries}
use Rattle.hier_model.specs.Flat.{flat}
use Rattle.hier_laws.specs.Solves.{Valuation, own_net, own_dir, dir_at, given_value, EntryDrives, IsOwnBit, IsReading, Solves}
use Rattle.hier_laws.specs.SolutionsLaws.{bits_before, IsFlatNetlist, HasOwnBits, FlatMeets, SettledWhereSolved}
use Rattle.hier_laws.proofs.Apart.{blocks_apart, bits_of_places, BitAt, bit_at, whole_bits, bit_of}
use Rattle.hier_laws.proofs.Blocks.{places_resolve}
use Rattle.hier_laws.proofs.MetEquations.{length_nets, own_within, top_dir, below_dir, rule_at, all_weaker, rule_of, reads_of, settled_meets, solved_cells_meet}
use Rattle.hier_laws.proofs.SolutionsCells.{entries_meet_as_cells}
use Rattle.hier_laws.proofs.Outputs.{Related, RelatedBit, output_related}
use Rattle.hier_laws.proofs.SolutionsPlaces.{stands_at, EntryStands, entries_stand}
use Rattle.hier_laws.proofs.Settled.{item_at, driver_is}

-- A net of the top by its pin.

-- a net with a direction is one of the top's
top_net : (modules : List Module) (top : Module) (net : ℕ) (d : Dir) → own_dir (flat modules top) net ≡ Some d → (net < bits_in (declared_nets top)) × (own_dir top net ≡ Some d)
top_net modules top net d is = go (nat_le (suc net) (bits_in (declared_nets top))) refl
  where
    go : (b : Bool) → nat_le (suc net) (bits_in (declared_nets top)) ≡ b → (net < bits_in (declared_nets top)) × (own_dir top net ≡ Some d)
    go true e =
        let less : net < bits_in (declared_nets top) = omega (arith, leb-true (suc net) (bits_in (declared_nets top)) e) in
        (less, sym (top_dir modules top net less) ∙ is)
    go false e =
        let far : bits_in (declared_nets top) ≤ net = omega (arith, leb-false (suc net) (bits_in (declared_nets top)) e) in
        let none = below_dir modules top net (net - bits_in (declared_nets top)) (omega (arith, far)) in
        let no : None ≡ Some d = sym none ∙ is in
        absurd (cc)

-- a net with a direction is one of the list
some_below : {d : Dir} (nets : List NamedNet) (k : ℕ) → option_and_then (λ (n : NamedNet). n.dir) (slice_get nets k) ≡ Some d → k < length nets
some_below [] k h = absurd (cc)
some_below (n ∷ nets) zero h = omega arith
some_below (n ∷ nets) (suc k) h = omega (arith, some_below nets k h)

-- the value of a bit at its place
read_at : (modules : List Module) (top : Module) (table : List (List ℕ)) (N : NetlistView) (v : ℕ → Sig) (value : Valuation) (j : ℕ) (p : Place) (own : ℕ) → IsFlatNetlist modules top table N → IsReading modules top v value
    → slice_get (places modules top) j ≡ Some p → own < bits_in (declared_nets p.here) → v (bits_before (places modules top) j + own) ≡ value p.at own
read_at modules top table N v value j p own f reading there less =
    let b = bit_of modules top j p own f.once there less in
    let number = places_resolve modules top f.once j p b.bit b.own.declared there b.own.found in
    ap v (omega (arith, number, b.is)) ∙ reading j p b.bit there b.own ∙ ap (λ (n : ℕ). value p.at n) b.is

-- the direction of a bit at its place
dir_of : (modules : List Module) (top : Module) (table : List (List ℕ)) (N : NetlistView) (pins : ℕ → PinSig) (j : ℕ) (p : Place) (own : ℕ) → IsFlatNetlist modules top table N
    → slice_get (places modules top) j ≡ Some p → own < bits_in (declared_nets p.here) → direction N.ports (bits_before (places modules top) j + own) ≡ dir_at p own
dir_of modules top table N pins j p own f there less =
    let b = bit_of modules top j p own f.once there less in
    let number = places_resolve modules top f.once j p b.bit b.own.declared there b.own.found in
    ap (λ (n : ℕ). direction N.ports n) (omega (arith, number, b.is)) ∙ (rule_at modules top table N pins j p b.bit f there b.own).dir ∙ ap (λ (n : ℕ). dir_at p n) b.is

-- What an entry drives.

-- the flat net is that of the own net, which is one of the place's
abbrev IsBlockNet : ℕ → ℕ → NetId → NetId → Type 0
IsBlockNet first bits n m = (n.0 ≡ first + m.0) × (m.0 < bits)

drives_own : (modules : List Module) (top : Module) (table : List (List ℕ)) (N : NetlistView) (e : Entry) (j : ℕ) (p : Place) (own net : ℕ) → IsFlatNetlist modules top table N → HasOwnBits e → EntryStands (places modules top) e
    → slice_get (places modules top) j ≡ Some p → own < bits_in (declared_nets p.here) → net ≡ bits_before (places modules top) j + own
    → (cell_of N.library (declared_names (flat modules top)) (entry_item e)).output ≡ Some (record { 0 = net }) → EntryDrives N.library e p own
drives_own modules top table N (stays q i) j p own net f bits stands there less is output =
    let s = stands_at q (places modules top) stands in
    let first : ℕ = bits_before (places modules top) s.0 in
    let R : NetId → NetId → Type 0 = IsBlockNet first (bits_in (declared_nets q.here)) in
    let related = output_related N.library R (declared_names (flat modules top)) (declared_names q.here) q.at i
    (all_weaker (IsOwnBit q.here) (RelatedBit R (declared_names (flat modules top)) (declared_names q.here) q.at) (item_bits i) (λ b o. (places_resolve modules top f.once s.0 q b o.declared s.1 o.found, own_within q.here b o)) bits) in
    let P : Option NetId → Type 0 = λ o. Related R o (cell_of N.library (declared_names q.here) i).output in
    by s.0 s.1 (cell_of N.library (declared_names q.here) i).output (subst P output related)
  where
    by : (k : ℕ) → slice_get (places modules top) k ≡ Some q → (o : Option NetId) → Related (IsBlockNet (bits_before (places modules top) k) (bits_in (declared_nets q.here))) (Some (record { 0 = net })) o → (q ≡ p) × (o ≡ Some (record { 0 = own }))
    by k at_k None r = absurd r
    by k at_k (Some m) r =
        let t = blocks_apart (places modules top) k j q p m.0 own at_k there r.1 less (omega (arith, r.0, is)) in
        (t.0, ap (λ (n : ℕ). let z : Option NetId = Some (record { 0 = n }) in z) t.1)
drives_own modules top table N (carries q b r o) j p own net f bits stands there less is output =
    let s = stands_at q (places modules top) stands.0 in
    let number = places_resolve modules top f.once s.0 q b bits.0.declared s.1 bits.0.found in
    let same : (net_of (declared_names (flat modules top)) (flat_bit q.at b)).0 ≡ net = ap (λ (n : NetId). n.0) (some_same output) in
    blocks_apart (places modules top) s.0 j q p (own_net q.here b) own s.1 there (own_within q.here b bits.0) less (omega (arith, number, same, is))
  where
    some_same : {n m : NetId} → ◌≡◌ {A = Option NetId} (Some n) (Some m) → n ≡ m
    some_same h = cc

own_drives : (modules : List Module) (top : Module) (table : List (List ℕ)) (N : NetlistView) (e : Entry) (j : ℕ) (p : Place) (own : ℕ) → IsFlatNetlist modules top table N → HasOwnBits e
    → slice_get (places modules top) j ≡ Some p → EntryDrives N.library e p own → (cell_of N.library (declared_names (flat modules top)) (entry_item e)).output ≡ Some (record { 0 = bits_before (places modules top) j + own })
own_drives modules top table N (stays q i) j p own f bits there drives =
    let P : Place → Type 0 = λ z. slice_get (places modules top) j ≡ Some z in
    let at_q : slice_get (places modules top) j ≡ Some q = subst P (sym drives.0) there in
    let first : ℕ = bits_before (places modules top) j in
    let R : NetId → NetId → Type 0 = λ n m. n.0 ≡ first + m.0 in
    let related = output_related N.library R (declared_names (flat modules top)) (declared_names q.here) q.at i
    (all_weaker (IsOwnBit q.here) (RelatedBit R (declared_names (flat modules top)) (declared_names q.here) q.at) (item_bits i) (λ b o. places_resolve modules top f.once j q b o.declared at_q o.found) bits) in
    let Q : Option NetId → Type 0 = λ o. Related R (cell_of N.library (declared_names (flat modules top)) (flat_item q.at i)).output o in
    by (cell_of N.library (declared_names (flat modules top)) (flat_item q.at i)).output (subst Q drives.1 related)
  where
    by : (o : Option NetId) → Related (λ n m. n.0 ≡ bits_before (places modules top) j + m.0) o (Some (record { 0 = own })) → o ≡ Some (record { 0 = bits_before (places modules top) j + own })
    by None r = absurd r
    by (Some n) r = ap (λ (k : ℕ). let z : Option NetId = Some (record { 0 = k }) in z) r
own_drives modules top table N (carries q b r o) j p own f bits there drives =
    let P : Place → Type 0 = λ z. slice_get (places modules top) j ≡ Some z in
    let at_q : slice_get (places modules top) j ≡ Some q = subst P (sym drives.0) there in
    let number = places_resolve modules top f.once j q b bits.0.declared at_q bits.0.found in
    ap (λ (k : ℕ). let z : Option NetId = Some (record { 0 = k }) in z) (omega (arith, number, drives.1))

-- the cell of an entry in the flat netlist
live_cell_of : (modules : List Module) (top : Module) (table : List (List ℕ)) (N : NetlistView) (k : ℕ) (e : Entry) → IsFlatNetlist modules top table N → slice_get (entries modules top) k ≡ Some e
    → (cell : CellView) × (cell_at N k ≡ Some cell) × IsCell table cell (cell_of N.library (declared_names (flat modules top)) (entry_item e))
live_cell_of modules top table N k e f there = go (cell_at N k) refl (f.named.cells.each k (cell_of N.library (declared_names (flat modules top)) (entry_item e)) (item_at N.library (declared_names (flat modules top)) (entries modules top) k e there))
  where
    go : (o : Option CellView) → cell_at N k ≡ o → IsLive table o (cell_of N.library (declared_names (flat modules top)) (entry_item e)) → (cell : CellView) × (cell_at N k ≡ Some cell) × IsCell table cell (cell_of N.library (declared_names (flat modules top)) (entry_item e))
    go None l is = absurd is
    go (Some cell) l is = (cell, l, is)

-- the entry of a cell of the flat netlist
entry_of : (modules : List Module) (top : Module) (table : List (List ℕ)) (N : NetlistView) (i : ℕ) (cell : CellView) → IsFlatNetlist modules top table N → cell_at N i ≡ Some cell
    → (e : Entry) × (slice_get (entries modules top) i ≡ Some e) × IsCell table cell (cell_of N.library (declared_names (flat modules top)) (entry_item e))
entry_of modules top table N i cell f live =
    let names = declared_names (flat modules top) in
    let less : i < length (entries modules top) = omega (arith, f.named.cells.only i (ap (λ (c : Option CellView). is_some c) live), length-map (map entry_item (entries modules top)) (cell_of N.library names), length-map (entries modules top) entry_item) in
    let t = slice_get_there (entries modules top) i less in
    (t.0, t.1, (let P : Option CellView → Type 0 = λ c. IsLive table c (cell_of N.library names (entry_item t.0)) in subst P live (f.named.cells.each i (cell_of N.library names (entry_item t.0)) (item_at N.library names (entries modules top) i t.0 t.1))))

-- From the netlist to the hierarchy.

solved : (modules : List Module) (top : Module) (table : List (List ℕ)) (N : NetlistView) (pins : ℕ → PinSig) (state v : ℕ → Sig) (value : Valuation) → IsFlatNetlist modules top table N → IsReading modules top v value
    → IsSettled N pins state v → Solves N.library modules top pins state value
solved modules top table N pins state v value f reading settled = record {
  meets = settled_meets modules top table N pins state v value f reading settled;
  inputs = inputs;
  undriven = undriven;
}
  where
    inputs : (net : ℕ) → own_dir top net ≡ Some Input → value [] net ≡ see (pins net)
    inputs net is =
        let less : net < bits_in (declared_nets top) = omega (arith, some_below (nets_in (declared_nets top)) net is, length_nets (declared_nets top)) in
        let dir : direction N.ports net ≡ Some Input = f.directed net ∙ top_dir modules top net less ∙ is in
        sym (ap v (omega arith) ∙ read_at modules top table N v value zero (place [] top) net f reading refl less)
        ∙ settled.pins net (ap follows_pin dir)
        ∙ ap (λ (d : Option Dir). pin_value d (drive_by (driver_of N.cells net) v net) (pins net)) dir

    undriven : (j : ℕ) (p : Place) (net : ℕ) → slice_get (places modules top) j ≡ Some p → net < bits_in (declared_nets p.here) → follows_pin (dir_at p net) ≡ false
        → ((k : ℕ) (e : Entry) → slice_get (entries modules top) k ≡ Some e → EntryDrives N.library e p net → ⊥) → value p.at net ≡ Unknown
    undriven j p net there less inside none =
        sym (read_at modules top table N v value j p net f reading there less)
        ∙ settled.undriven (bits_before (places modules top) j + net) (ap follows_pin (dir_of modules top table N pins j p net f there less) ∙ inside)
        (λ i cell live output.
        let e = entry_of modules top table N i cell f live in
        let own = all_at HasOwnBits (entries modules top) i e.0 f.own e.1 in
        let stands = all_at (EntryStands (places modules top)) (entries modules top) i e.0 (entries_stand modules top) e.1 in
        none i e.0 e.1 (drives_own modules top table N e.0 j p net (bits_before (places modules top) j + net) f own stands there less refl (sym e.2.output ∙ output)))

-- From the hierarchy to the netlist.

-- each cell of the flat netlist meets its equation
solved_cell : (modules : List Module) (top : Module) (table : List (List ℕ)) (N : NetlistView) (pins : ℕ → PinSig) (state v : ℕ → Sig) (value : Valuation) (i : ℕ) (cell : CellView) (net : ℕ) → IsFlatNetlist modules top table N → IsReading modules top v value
    → Solves N.library modules top pins state value → Drives N i cell net → v net ≡ given_value N.library (direction N.ports net) cell.kind (feed_values v cell.feeds) (state i) (v net) (pins net)
solved_cell modules top table N pins state v value i cell net f reading solves drives =
    let e = entry_of modules top table N i cell f drives.live in
    let own = all_at HasOwnBits (entries modules top) i e.0 f.own e.1 in
    let stands = all_at (EntryStands (places modules top)) (entries modules top) i e.0 (entries_stand modules top) e.1 in
    by (cell_of N.library (declared_names (flat modules top)) (entry_item e.0)) e.2
    ((entries_meet_as_cells N.library (declared_names (flat modules top)) (λ n. direction N.ports n) pins v value (state i) e.0 (reads_of modules top v value e.0 reading own stands) (rule_of modules top table N pins i e.0 f e.1 own stands)).0 (solves.meets i e.0 e.1))
  where
    by : (own : NamedCell) → IsCell table cell own → FlatMeets N.library (λ n. direction N.ports n) pins v (state i) own → v net ≡ given_value N.library (direction N.ports net) cell.kind (feed_values v cell.feeds) (state i) (v net) (pins net)
    by own is h =
        let P : Option NetId → Type 0 = λ o. MatchOption o ⊤ (λ (n : NetId). v n.0 ≡ given_value N.library (direction N.ports n.0) own.kind (feed_values v own.feeds) (state i) (v n.0) (pins n.0)) in
        subst P (sym is.output ∙ drives.output) h ∙ rw (is.kind, is.feeds) refl

settled_back : (modules : List Module) (top : Module) (table : List (List ℕ)) (N : NetlistView) (pins : ℕ → PinSig) (state v : ℕ → Sig) (value : Valuation) → IsFlatNetlist modules top table N → IsReading modules top v value
    → ((net : ℕ) → length N.nets ≤ net → v net ≡ Unknown) → Solves N.library modules top pins state value → IsSettled N pins state v
settled_back modules top table N pins state v value f reading past solves = record {
  pins = λ net follows. by_pin net (direction N.ports net) refl follows;
  cells = solved_cells_meet modules top table N pins state v value f reading solves.meets;
  undriven = λ net inside none. by_bits net inside none (nat_le (suc net) (bits_of_places (places modules top))) refl;
}
  where
    input_is : (net : ℕ) → direction N.ports net ≡ Some Input → v net ≡ pin_rule N pins v net
    input_is net dir =
        let t = top_net modules top net Input (sym (f.directed net) ∙ dir) in
        ap v (omega arith) ∙ read_at modules top table N v value zero (place [] top) net f reading refl t.0
        ∙ solves.inputs net t.1
        ∙ sym (ap (λ (d : Option Dir). pin_value d (drive_by (driver_of N.cells net) v net) (pins net)) dir)

    inout_is : (net : ℕ) → direction N.ports net ≡ Some Inout → v net ≡ pin_rule N pins v net
    inout_is net dir =
        let d = f.formed.inouts_driven net dir in
        let only : (j : ℕ) (other : CellView) → cell_at N j ≡ Some other → other.output ≡ Some (record { 0 = net }) → other ≡ d.cell = λ j other l o.
        let same : j ≡ d.number = f.formed.one_driver j d.number other d.cell net (record { live = l; output = o }) d.drives in
        let both : ◌≡◌ {A = Option CellView} (Some other) (Some d.cell) = sym l ∙ ap (λ (z : ℕ). cell_at N z) same ∙ d.drives.live in
        cc in
        solved_cell modules top table N pins state v value d.number d.cell net f reading solves d.drives
        ∙ ap (λ (z : Option Dir). given_value N.library z d.cell.kind (feed_values v d.cell.feeds) (state d.number) (v net) (pins net)) dir
        ∙ sym (ap (λ (z : Option Dir). pin_value z (drive_by (driver_of N.cells net) v net) (pins net)) dir ∙ ap (λ (o : Option CellView). pin_value (Some Inout) (drive_by o v net) (pins net)) (driver_is N.cells d.number d.cell net d.drives.live d.drives.output only))

    by_pin : (net : ℕ) (d : Option Dir) → direction N.ports net ≡ d → follows_pin (direction N.ports net) ≡ true → v net ≡ pin_rule N pins v net
    by_pin net None dir follows = let no : false ≡ true = sym (ap follows_pin dir) ∙ follows in absurd (cc)
    by_pin net (Some Input) dir follows = input_is net dir
    by_pin net (Some Output) dir follows = let no : false ≡ true = sym (ap follows_pin dir) ∙ follows in absurd (cc)
    by_pin net (Some Inout) dir follows = inout_is net dir

    at_bit : (net : ℕ) → follows_pin (direction N.ports net) ≡ false → IsUndriven N net → BitAt (places modules top) net → v net ≡ Unknown
    at_bit net inside none t =
        let dir = dir_of modules top table N pins t.number t.at_place t.own f t.there t.within in
        ap v t.is ∙ read_at modules top table N v value t.number t.at_place t.own f reading t.there t.within
        ∙ solves.undriven t.number t.at_place t.own t.there t.within (ap follows_pin (sym dir ∙ ap (λ (n : ℕ). direction N.ports n) (sym t.is)) ∙ inside)
        (λ k e there drives.
        let own = all_at HasOwnBits (entries modules top) k e f.own there in
        let c = live_cell_of modules top table N k e f there in
        none k c.0 c.1 (c.2.output ∙ own_drives modules top table N e t.number t.at_place t.own f own t.there drives ∙ ap (λ (n : ℕ). let z : Option NetId = Some (record { 0 = n }) in z) (sym t.is)))

    by_bits : (net : ℕ) → follows_pin (direction N.ports net) ≡ false → IsUndriven N net → (b : Bool) → nat_le (suc net) (bits_of_places (places modules top)) ≡ b → v net ≡ Unknown
    by_bits net inside none true e = at_bit net inside none (bit_at (places modules top) net (omega (arith, leb-true (suc net) (bits_of_places (places modules top)) e)))
    by_bits net inside none false e =
        past net (omega (arith, leb-false (suc net) (bits_of_places (places modules top)) e, whole_bits modules top, length_nets (declared_nets (flat modules top)), AreAll-length (IsNet table) N.nets (nets_in (declared_nets (flat modules top))) f.named.nets))

pub settled_where_solved : SettledWhereSolved
settled_where_solved modules top table N pins state v value f reading past = (
  λ settled. solved modules top table N pins state v value f reading settled,
  λ solves. settled_back modules top table N pins state v value f reading past solves,
)
