-- Equations of the hierarchy and of the flat netlist, entry by entry.
use Rattle.std.proofs.Common.{◌≡◌, ◌≢◌, ℕ, zero, suc, ◌+◌, ◌<◌, ◌≤◌, true, false, List, [], ◌∷◌, ◌++◌, length, map, Option, Some, None, MatchOption, slice_get, is_some, inl, inr, refl, sym, ap, subst, ◌∙◌, arith, length-append}
use Rattle.std.specs.Bool.{⊤}
use Rattle.std.specs.List.{flat_map, AllByRecursion}
use Rattle.std.specs.Option.{option_and_then}
use Rattle.std.proofs.lemmas.List.{length-map}
use Rattle.std.proofs.lemmas.Grind.{flat_map-append}
use Rattle.list_laws.proofs.Lists.{all_append, all_at, slice_get_there, slice_get-append_left, slice_get-append_right, length-counted_from}
use Rattle.signal_values.specs.declared.Sig.{Sig}
use Rattle.signal_values.specs.declared.PinSig.{PinSig}
use Rattle.cell_library.specs.Gates.{is_three_state}
use Rattle.verilog_tree.specs.declared.tree.Bit.{Bit}
use Rattle.verilog_tree.specs.declared.tree.Operand.{Operand}
use Rattle.verilog_tree.specs.declared.tree.Wire.{Wire}
use Rattle.verilog_tree.specs.declared.tree.Module.{Module}
use Rattle.netlist_model.specs.declared.Dir.{Dir}
use Rattle.netlist_model.specs.declared.Dir.TheVariants.{Inout}
use Rattle.netlist_model.specs.declared.NetId.{NetId}
use Rattle.netlist_model.specs.Lists.{CellView, NetlistView, cell_at, direction}
use Rattle.netlist_model.specs.Settled.{feed_values, cell_value, follows_pin}
use Rattle.link_model.specs.Nets.{Declared, NetDeclaration, NamedNet, wire_nets, width, counted_from, net_at, nets_in, bits_in, declared_nets, declared_names, names_from, net_of}
use Rattle.link_model.specs.Cells.{NamedCell, cell_of}
use Rattle.link_model.specs.Denoted.{IsCell, IsLive}
use Rattle.link_model.specs.Faults.{item_bits, operand_bits}
use Rattle.hier_model.specs.Names.{flat_bit, flat_item}
use Rattle.hier_model.specs.Entries.{Place, place, places, opened_places, Entry, stays, carries, entry_item, entries, level_limit}
use Rattle.hier_model.specs.Flat.{flat, place_wires}
use Rattle.hier_laws.specs.Solves.{Valuation, own_net, own_dir, dir_at, given_value, IsOwnBit, IsReading}
use Rattle.hier_laws.specs.SolutionsLaws.{bits_before, ReadsBits, ReadsEntry, FlatMeets, SameRuleAt, BothMeet, SameRule, HasOwnBits, IsFlatNetlist, SettledMeets, SolvedCellsMeet}
use Rattle.hier_model.specs.Visits.{visits}
use Rattle.hier_laws.proofs.Blocks.{Listed, found_listed, bits_cons, blocks, whole_nets, places_resolve}
use Rattle.hier_laws.proofs.SolutionsCells.{entries_meet_as_cells, given_inside}
use Rattle.hier_laws.proofs.Outputs.{Related, RelatedBit, output_related}
use Rattle.hier_laws.proofs.SolutionsPlaces.{Stands, stands_at, EntryStands, entries_stand, opened_behind}
use Rattle.hier_laws.proofs.Settled.{item_at, settled_cells_meet}

-- Nets of a module and their directions.

pub length_nets : (nets : List NetDeclaration) → length (nets_in nets) ≡ bits_in nets
length_nets [] = refl
length_nets (n ∷ nets) = omega (arith, length_nets nets, bits_cons n nets, length-append (map (net_at n) (counted_from 0 (width n.range))) (nets_in nets), length-map (counted_from 0 (width n.range)) (net_at n), length-counted_from 0 (width n.range))

listed_within : (name : List ℕ) (d : Declared) (first : ℕ) (nets : List NetDeclaration) → Listed name d (names_from first nets) → d.first + width d.range ≤ first + bits_in nets
listed_within name d first [] h = absurd h
listed_within name d first (n ∷ nets) (inl h) =
    let here : first + width n.range ≤ first + bits_in (n ∷ nets) = omega (arith, bits_cons n nets) in
    let P : Declared → Type 0 = λ x. x.first + width x.range ≤ first + bits_in (n ∷ nets) in
    subst P h.1 here
listed_within name d first (n ∷ nets) (inr h) = omega (arith, listed_within name d (first + width n.range) nets h, bits_cons n nets)

pub own_within : (m : Module) (b : Bit) → IsOwnBit m b → own_net m b < bits_in (declared_nets m)
own_within m b o = omega (arith, o.within, listed_within b.net o.declared 0 (declared_nets m) (found_listed b.net o.declared (declared_names m) o.found))

abbrev dir_in : List NamedNet → ℕ → Option Dir
dir_in nets k = option_and_then (λ (n : NamedNet). n.dir) (slice_get nets k)

wires_have_none : (ws : List Wire) → AllByRecursion (λ (n : NamedNet). n.dir ≡ None) (nets_in (map wire_nets ws))
wires_have_none [] = tt
wires_have_none (w ∷ ws) = all_append (λ (n : NamedNet). n.dir ≡ None) (map (net_at (wire_nets w)) (counted_from 0 (width w.range))) (nets_in (map wire_nets ws)) (each (counted_from 0 (width w.range))) (wires_have_none ws)
  where
    each : (ks : List ℕ) → AllByRecursion (λ (n : NamedNet). n.dir ≡ None) (map (net_at (wire_nets w)) ks)
    each [] = tt
    each (k ∷ ks) = (refl, each ks)

none_there : (nets : List NamedNet) (k : ℕ) → AllByRecursion (λ (n : NamedNet). n.dir ≡ None) nets → dir_in nets k ≡ None
none_there [] k h = refl
none_there (n ∷ nets) zero h = h.0
none_there (n ∷ nets) (suc k) h = none_there nets k h.1

whole_split : (modules : List Module) (top : Module) → nets_in (declared_nets (flat modules top)) ≡ nets_in (declared_nets top) ++ nets_in (blocks (opened_places modules top))
whole_split modules top = ap nets_in (whole_nets modules top) ∙ flat_map-append (λ (n : NetDeclaration). map (net_at n) (counted_from 0 (width n.range))) (declared_nets top) (blocks (opened_places modules top))

pub top_dir : (modules : List Module) (top : Module) (net : ℕ) → net < bits_in (declared_nets top) → own_dir (flat modules top) net ≡ own_dir top net
top_dir modules top net less =
    ap (λ (l : List NamedNet). dir_in l net) (whole_split modules top)
    ∙ ap (λ (o : Option NamedNet). option_and_then (λ (n : NamedNet). n.dir) o) (slice_get-append_left (nets_in (declared_nets top)) (nets_in (blocks (opened_places modules top))) net (omega (arith, less, length_nets (declared_nets top))))

pub below_dir : (modules : List Module) (top : Module) (net k : ℕ) → net ≡ bits_in (declared_nets top) + k → own_dir (flat modules top) net ≡ None
unfolding blocks
below_dir modules top net k is =
    ap (λ (l : List NamedNet). dir_in l net) (whole_split modules top)
    ∙ ap (λ (o : Option NamedNet). option_and_then (λ (n : NamedNet). n.dir) o) (slice_get-append_right (nets_in (declared_nets top)) (nets_in (blocks (opened_places modules top))) net k (omega (arith, is, length_nets (declared_nets top))))
    ∙ none_there (nets_in (blocks (opened_places modules top))) k (wires_have_none (flat_map place_wires (opened_places modules top)))

dir_none : (p : Place) (net : ℕ) → p.at ≢ [] → dir_at p net ≡ None
dir_none p net h = by p.at p.here h
  where
    by : (l : List (List ℕ)) (m : Module) → l ≢ [] → dir_at (place l m) net ≡ None
    by [] m some = absurd (some refl)
    by (x ∷ l) m some = refl

-- The rule of a bit's net.

pub rule_at : (modules : List Module) (top : Module) (table : List (List ℕ)) (N : NetlistView) (pins : ℕ → PinSig) (j : ℕ) (p : Place) (b : Bit) → IsFlatNetlist modules top table N → slice_get (places modules top) j ≡ Some p → IsOwnBit p.here b
    → SameRuleAt (λ n. direction N.ports n) pins p (net_of (declared_names (flat modules top)) (flat_bit p.at b)) (net_of (declared_names p.here) b)
rule_at modules top table N pins zero p b f there own =
    let is : place [] top ≡ p = cc in
    let at_top : (net_of (declared_names (flat modules top)) (flat_bit p.at b)).0 ≡ own_net p.here b = places_resolve modules top f.once zero p b own.declared there own.found ∙ omega arith in
    let less : own_net p.here b < bits_in (declared_nets p.here) = own_within p.here b own in
    let P : Place → Type 0 = λ q. own_net p.here b < bits_in (declared_nets q.here) → own_dir (flat modules top) (own_net p.here b) ≡ dir_at q (own_net p.here b) in
    let here : own_net p.here b < bits_in (declared_nets p.here) → own_dir (flat modules top) (own_net p.here b) ≡ dir_at p (own_net p.here b) = subst P is (λ l. top_dir modules top (own_net p.here b) l) in record {
      dir = ap (λ (n : ℕ). direction N.ports n) at_top ∙ f.directed (own_net p.here b) ∙ here less;
      pin = λ _. ap pins at_top;
    }
rule_at modules top table N pins (suc j) p b f there own =
    let flat_net : ℕ = (net_of (declared_names (flat modules top)) (flat_bit p.at b)).0 in
    let at_place : flat_net ≡ (bits_in (declared_nets top) + bits_before (opened_places modules top) j) + own_net p.here b = places_resolve modules top f.once (suc j) p b own.declared there own.found in
    let behind : p.at ≢ [] = all_at (λ (q : Place). q.at ≢ []) (opened_places modules top) j p (opened_behind (visits level_limit modules [] top)) there in
    let none : dir_at p (own_net p.here b) ≡ None = dir_none p (own_net p.here b) behind in record {
      dir = f.directed flat_net ∙ below_dir modules top flat_net (bits_before (opened_places modules top) j + own_net p.here b) (omega (arith, at_place)) ∙ sym none;
      pin = λ is. let no : None ≡ Some Inout = sym none ∙ is in absurd (cc);
    }

pub all_weaker : {X : Type 0} (P Q : X → Type 0) (xs : List X) → ((x : X) → P x → Q x) → AllByRecursion P xs → AllByRecursion Q xs
all_weaker P Q [] f h = tt
all_weaker P Q (x ∷ xs) f h = (f x h.0, all_weaker P Q xs f h.1)

both_of : (R : NetId → NetId → Type 0) (one other : Option NetId) → Related R one other → BothMeet R one other
both_of R None other h = tt
both_of R (Some n) None h = tt
both_of R (Some n) (Some m) h = h

-- a link is an assignment, and drives no inout
carries_inside : (modules : List Module) (top : Module) (table : List (List ℕ)) (N : NetlistView) (k : ℕ) (p q : Place) (b : Bit) (o : Operand) → IsFlatNetlist modules top table N → slice_get (entries modules top) k ≡ Some (carries p b q o)
    → direction N.ports (net_of (declared_names (flat modules top)) (flat_bit p.at b)).0 ≢ Some Inout
carries_inside modules top table N k p q b o f there dir = go (cell_at N k) refl (f.named.cells.each k own (item_at N.library (declared_names (flat modules top)) (entries modules top) k (carries p b q o) there))
  where
    own : NamedCell
    own = cell_of N.library (declared_names (flat modules top)) (entry_item (carries p b q o))

    go : (c : Option CellView) → cell_at N k ≡ c → IsLive table c own → ⊥
    go None l is = is
    go (Some cell) l is =
        let three : is_three_state cell.kind ≡ true = f.formed.inout_bufif k cell (net_of (declared_names (flat modules top)) (flat_bit p.at b)).0 (record { live = l; output = is.output }) dir in
        let none : is_three_state cell.kind ≡ false = ap is_three_state is.kind in
        let no : true ≡ false = sym three ∙ none in
        absurd (cc)

pub rule_of : (modules : List Module) (top : Module) (table : List (List ℕ)) (N : NetlistView) (pins : ℕ → PinSig) (k : ℕ) (e : Entry) → IsFlatNetlist modules top table N → slice_get (entries modules top) k ≡ Some e → HasOwnBits e → EntryStands (places modules top) e
    → SameRule N.library (declared_names (flat modules top)) (λ n. direction N.ports n) pins e
rule_of modules top table N pins k (stays p i) f there own stands =
    let s = stands_at p (places modules top) stands in
    let R : NetId → NetId → Type 0 = λ n m. SameRuleAt (λ z. direction N.ports z) pins p n m in
    both_of R (cell_of N.library (declared_names (flat modules top)) (flat_item p.at i)).output (cell_of N.library (declared_names p.here) i).output
    (output_related N.library R (declared_names (flat modules top)) (declared_names p.here) p.at i
    (all_weaker (IsOwnBit p.here) (RelatedBit R (declared_names (flat modules top)) (declared_names p.here) p.at) (item_bits i) (λ b o. rule_at modules top table N pins s.0 p b f s.1 o) own))
rule_of modules top table N pins k (carries p b q o) f there own stands = carries_inside modules top table N k p q b o f there

reads_bits : (modules : List Module) (top : Module) (v : ℕ → Sig) (value : Valuation) (p : Place) (bits : List Bit) → IsReading modules top v value → Stands p (places modules top) → AllByRecursion (IsOwnBit p.here) bits → ReadsBits (declared_names (flat modules top)) v value p bits
reads_bits modules top v value p bits reading stands own =
    let s = stands_at p (places modules top) stands in
    all_weaker (IsOwnBit p.here) (λ (b : Bit). v (net_of (declared_names (flat modules top)) (flat_bit p.at b)).0 ≡ value p.at (own_net p.here b)) bits (λ b o. reading s.0 p b s.1 o) own

pub reads_of : (modules : List Module) (top : Module) (v : ℕ → Sig) (value : Valuation) (e : Entry) → IsReading modules top v value → HasOwnBits e → EntryStands (places modules top) e → ReadsEntry (declared_names (flat modules top)) v value e
reads_of modules top v value (stays p i) reading own stands = reads_bits modules top v value p (item_bits i) reading stands own
reads_of modules top v value (carries p b q o) reading own stands =
    (reads_bits modules top v value p (b ∷ []) reading stands.0 (own.0, tt), reads_bits modules top v value q (operand_bits o) reading stands.1 own.1)

pub settled_meets : SettledMeets
settled_meets modules top table N pins state v value f reading settled k e there =
    let own = all_at HasOwnBits (entries modules top) k e f.own there in
    let stands = all_at (EntryStands (places modules top)) (entries modules top) k e (entries_stand modules top) there in
    (entries_meet_as_cells N.library (declared_names (flat modules top)) (λ n. direction N.ports n) pins v value (state k) e (reads_of modules top v value e reading own stands) (rule_of modules top table N pins k e f there own stands)).1
    (settled_cells_meet modules top table N pins state v f.named f.formed settled k e there)

pub solved_cells_meet : SolvedCellsMeet
solved_cells_meet modules top table N pins state v value f reading meets i cell net drives inside =
    let names = declared_names (flat modules top) in
    let less : i < length (entries modules top) = omega (arith, f.named.cells.only i (ap (λ (c : Option CellView). is_some c) drives.live), length-map (map entry_item (entries modules top)) (cell_of N.library names), length-map (entries modules top) entry_item) in
    let t = slice_get_there (entries modules top) i less in
    let own = all_at HasOwnBits (entries modules top) i t.0 f.own t.1 in
    let stands = all_at (EntryStands (places modules top)) (entries modules top) i t.0 (entries_stand modules top) t.1 in
    by (cell_of N.library names (entry_item t.0)) (let P : Option CellView → Type 0 = λ c. IsLive table c (cell_of N.library names (entry_item t.0)) in subst P drives.live (f.named.cells.each i (cell_of N.library names (entry_item t.0)) (item_at N.library names (entries modules top) i t.0 t.1)))
    ((entries_meet_as_cells N.library names (λ n. direction N.ports n) pins v value (state i) t.0 (reads_of modules top v value t.0 reading own stands) (rule_of modules top table N pins i t.0 f t.1 own stands)).0 (meets i t.0 t.1))
  where
    no_inout : direction N.ports net ≢ Some Inout
    no_inout is = let no : true ≡ false = sym (ap follows_pin is) ∙ inside in absurd (cc)

    by : (own : NamedCell) → IsCell table cell own → FlatMeets N.library (λ n. direction N.ports n) pins v (state i) own → v net ≡ cell_value N.library cell.kind (feed_values v cell.feeds) (state i)
    by own is h =
        let P : Option NetId → Type 0 = λ o. MatchOption o ⊤ (λ (n : NetId). v n.0 ≡ given_value N.library (direction N.ports n.0) own.kind (feed_values v own.feeds) (state i) (v n.0) (pins n.0)) in
        subst P (sym is.output ∙ drives.output) h
        ∙ given_inside N.library (direction N.ports net) own.kind (feed_values v own.feeds) (state i) (v net) (pins net) no_inout
        ∙ rw (is.kind, is.feeds) refl
