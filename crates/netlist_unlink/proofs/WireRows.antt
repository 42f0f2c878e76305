-- The rows of a netlist's wires have the bits of the nets that stand in no port.
use Rattle.std.proofs.Common.{◌≡◌, ℕ, zero, suc, ◌+◌, ◌-◌, ◌<◌, ◌≤◌, Bool, true, false, ◌==◌, List, [], ◌∷◌, ◌++◌, length, map, refl, ap, sym, ◌∙◌, subst, inl, inr, ◌⊎◌, Option, Some, None, arith}
use Rattle.std.specs.Prelude.{slice_get, nat_le}
use Rattle.std.specs.Option.{option_map}
use Rattle.std.proofs.lemmas.Option.{same_Some, slice_get_within}
use Rattle.std.proofs.lemmas.Bool.{cases_lt}
use Rattle.std.proofs.lemmas.Bool.Decides.{nat_tests}
use Rattle.verilog_tree.specs.declared.tree.Range as tree
use Rattle.netlist_model.specs.declared.Name.TheVariants.{Original}
use Rattle.netlist_model.specs.declared.Range.{Range}
use Rattle.netlist_model.specs.Lists.{NetView, NetlistView, direction}
use Rattle.netlist_model.specs.Formed.{width_of}
use Rattle.link_model.specs.Nets.{NamedNet, NetDeclaration, counted_from, index_at, net_at, nets_in, width, wire_nets}
use Rattle.netlist_link.specs.WellNamed.{IsWellNamed, IsWire, IsWireName, IsWireNet, index_from}
use Rattle.netlist_unlink.specs.declared.rows.NetRow.{NetRow}
use Rattle.netlist_unlink.specs.Rows.{before, joined_range, one_index}
use Rattle.netlist_unlink.specs.Trees.{original, wire_of}
use Rattle.netlist_unlink.proofs.Apart.{Apart, NotIn}

-- The bits of rows.

abbrev pub row_nets : List (List ℕ) → NetRow → NetDeclaration
row_nets table row = wire_nets (wire_of table row)

abbrev pub all_nets : List (List ℕ) → List NetRow → List NamedNet
all_nets table found = nets_in (map (row_nets table) found)

abbrev row_bits : List (List ℕ) → NetRow → List NamedNet
row_bits table row = map (net_at (row_nets table row)) (counted_from 0 (width row.range))

-- a net under an original name, in no port
abbrev pub wire_bit : List (List ℕ) → ℕ → Option ℕ → NamedNet
wire_bit table name index = record { name = original table name; index = index; dir = None }

abbrev pub indexed : ℕ → ℕ → tree.Range
indexed left right = record { left = left; right = right }

-- the range of a row of one net
one_bit : (table : List (List ℕ)) (name : ℕ) (index : Option ℕ) → row_bits table (record { name = name; range = option_map one_index index }) ≡ wire_bit table name index ∷ []
one_bit table name None = refl
one_bit table name (Some i) = by (width (Some (indexed i i))) (omega arith)
  where
    here : index_at (Some (indexed i i)) 0 ≡ Some i
    here = let same : nat_le i i ≡ true = grind (arith, nat_tests) in let zeroth : i + 0 ≡ i = omega arith in rw same (ap Some zeroth)

    by : (w : ℕ) → w ≡ 1 → map (net_at (row_nets table (record { name = name; range = Some (indexed i i) }))) (counted_from 0 w) ≡ wire_bit table name (Some i) ∷ []
    by w e = rw e (ap (λ (index : Option ℕ). wire_bit table name index ∷ []) here)

-- numbers that are counted up from the next one
shifted : {Y : Type 0} (f g : ℕ → Y) (first n : ℕ) → ((k : ℕ) → k < n → f (suc (first + k)) ≡ g (first + k)) → map f (counted_from (suc first) n) ≡ map g (counted_from first n)
shifted f g first zero each = refl
shifted f g first (suc n) each =
    let zeroth : first + 0 ≡ first = omega arith in
    let here : f (suc first) ≡ g first = ap (λ (k : ℕ). f (suc k)) (sym zeroth) ∙ each 0 (omega arith) ∙ ap g zeroth in
    let rest = shifted f g (suc first) n (λ k less. let same : suc first + k ≡ first + suc k = omega arith in ap (λ (j : ℕ). f (suc j)) same ∙ each (suc k) (omega arith) ∙ ap g (sym same)) in
    ap (λ y. y ∷ map f (counted_from (suc (suc first)) n)) here ∙ ap (λ ys. g first ∷ ys) rest

-- one step along a range
record IsStep (index next right : ℕ) : Type 0 where
  way : ((next ≡ index + 1) × (next ≤ right)) ⊎ ((index ≡ next + 1) × (right ≤ next))

step_width : (index next right : ℕ) → IsStep index next right → width (Some (indexed index right)) ≡ suc (width (Some (indexed next right)))
step_width index next right s = elim s.way [ inl up ↦ omega (arith, up.0, up.1) | inr down ↦ omega (arith, down.0, down.1) ]

step_index : (index next right k : ℕ) → IsStep index next right → k < width (Some (indexed next right)) → index_at (Some (indexed index right)) (suc k) ≡ index_at (Some (indexed next right)) k
step_index index next right k s less = elim s.way [ inl up ↦ rising up.0 up.1 | inr down ↦ falling down.0 down.1 (nat_le next right) refl ]
  where
    rising : next ≡ index + 1 → next ≤ right → index_at (Some (indexed index right)) (suc k) ≡ index_at (Some (indexed next right)) k
    rising e low =
        let one : nat_le index right ≡ true = grind (arith, nat_tests) in
        let two : nat_le next right ≡ true = grind (arith, nat_tests) in
        let same : index + suc k ≡ next + k = omega arith in
        rw (one, two) (ap Some same)

    falling : index ≡ next + 1 → right ≤ next → (b : Bool) → nat_le next right ≡ b → index_at (Some (indexed index right)) (suc k) ≡ index_at (Some (indexed next right)) k
    falling e low true is =
        let one : nat_le index right ≡ false = grind (arith, nat_tests) in
        let only : next ≤ right = grind (arith, nat_tests) in
        let same : index - suc k ≡ next + k = omega arith in
        rw (one, is) (ap Some same)
    falling e low false is =
        let one : nat_le index right ≡ false = grind (arith, nat_tests) in
        let same : index - suc k ≡ next - k = omega arith in
        rw (one, is) (ap Some same)

first_index : (index right : ℕ) → index_at (Some (indexed index right)) 0 ≡ Some index
first_index index right = go (nat_le index right) refl
  where
    go : (b : Bool) → nat_le index right ≡ b → index_at (Some (indexed index right)) 0 ≡ Some index
    go true e = rw e (ap Some (omega arith))
    go false e = rw e (ap Some (omega arith))

-- a row with one net more at its front
joined_bits : (table : List (List ℕ)) (name index next right : ℕ) → IsStep index next right
    → row_bits table (record { name = name; range = Some (indexed index right) }) ≡ wire_bit table name (Some index) ∷ row_bits table (record { name = name; range = Some (indexed next right) })
joined_bits table name index next right s = by (width (Some (indexed index right))) (step_width index next right s)
  where
    one : NetDeclaration
    one = row_nets table (record { name = name; range = Some (indexed index right) })

    rest : NetDeclaration
    rest = row_nets table (record { name = name; range = Some (indexed next right) })

    by : (w : ℕ) → w ≡ suc (width (Some (indexed next right))) → map (net_at one) (counted_from 0 w) ≡ wire_bit table name (Some index) ∷ map (net_at rest) (counted_from 0 (width (Some (indexed next right))))
    by w e =
        let later = shifted (net_at one) (net_at rest) 0 (width (Some (indexed next right)))
        (λ k less. let zeroth : 0 + k ≡ k = omega arith in rw zeroth (ap (wire_bit table name) (step_index index next right k s less))) in
        rw e (ap (λ (index : Option ℕ). wire_bit table name index ∷ map (net_at one) (counted_from 1 (width (Some (indexed next right))))) (first_index index right)
        ∙ ap (λ ys. wire_bit table name (Some index) ∷ ys) later)

-- The head row from a net on.

-- the right end of a range
abbrev pub right_of : Option Range → ℕ
right_of None = 0
right_of (Some range) = range.right

-- from a place of a wire to its end
abbrev pub rest_range : Option Range → ℕ → Option tree.Range
rest_range range place = option_map (λ index. indexed index (right_of range)) (index_from range place)

-- a row begins at the net, and goes on to the end of its wire
pub record BeginsAt (N : NetlistView) (net : ℕ) (row : NetRow) : Type 0 where
  pub is : IsWireNet N net (Original row.name)
  pub range : (first : ℕ) (whole : Option Range) → IsWire N row.name first whole → row.range ≡ rest_range whole (net - first)

abbrev pub NoWires : NetlistView → ℕ → ℕ → Type 0
NoWires N from to = (net number : ℕ) → from ≤ net → net < to → IsWireNet N net (Original number) → ⊥

-- the first row is that of the first net of a wire
pub record IsHead (N : NetlistView) (from : ℕ) (row : NetRow) : Type 0 where
  pub net : ℕ
  pub past : from ≤ net
  pub none : NoWires N from net
  pub begins : BeginsAt N net row

abbrev pub IsHeadOf : NetlistView → ℕ → List NetRow → Type 0
IsHeadOf N from [] = (net number : ℕ) → from ≤ net → IsWireNet N net (Original number) → ⊥
IsHeadOf N from (row ∷ found) = IsHead N from row

-- a row has the name of a net from here on
pub record HasNet (N : NetlistView) (from : ℕ) (row : NetRow) : Type 0 where
  pub net : ℕ
  pub past : from ≤ net
  pub is : IsWireNet N net (Original row.name)

abbrev pub row_name : NetRow → ℕ
row_name row = row.name

-- what is known of the rows from a net on
pub record AreRows (table : List (List ℕ)) (N : NetlistView) (from : ℕ) (found : List NetRow) (bits : List NamedNet) : Type 0 where
  pub head : IsHeadOf N from found
  pub each : (k : ℕ) (row : NetRow) → slice_get found k ≡ Some row → HasNet N from row
  pub apart : Apart (map row_name found)
  pub bits_are : all_nets table found ≡ bits

-- One net more.

-- the index of a net of a wire
index_is : (N : NetlistView) (net number first : ℕ) (whole : Option Range) (view : NetView) → IsWire N number first whole → slice_get N.nets net ≡ Some view → first ≤ net → net < first + width_of whole
    → view.index ≡ index_from whole (net - first)
index_is N net number first whole view w at low high =
    let place : first + (net - first) ≡ net = omega arith in
    let bit = w.bits (net - first) (omega arith) in
    let V : ℕ → Type 0 = λ k. slice_get N.nets k ≡ Some (record { name = Original number; index = index_from whole (net - first) }) in
    let here = subst V place bit in
    ap (λ (v : NetView). v.index) (same_Some view (record { name = Original number; index = index_from whole (net - first) }) (sym at ∙ here))

-- a net of a wire stands in no port
wire_net : (N : NetlistView) (net number first : ℕ) (whole : Option Range) → IsWire N number first whole → first ≤ net → net < first + width_of whole → IsWireNet N net (Original number)
wire_net N net number first whole w low high =
    let place : first + (net - first) ≡ net = omega arith in
    let bit = w.bits (net - first) (omega arith) in
    let out = w.outside (net - first) (omega arith) in
    let W : ℕ → Type 0 = λ k. IsWireNet N k (Original number) in
    subst W place (record { view = record { name = Original number; index = index_from whole (net - first) }; there = bit; outside = out; named = refl })

same_name : (N : NetlistView) (net one other : ℕ) → IsWireNet N net (Original one) → IsWireNet N net (Original other) → one ≡ other
same_name N net one other a b =
    let same : a.view ≡ b.view = same_Some a.view b.view (sym a.there ∙ b.there) in
    let names : Original one ≡ Original other = sym a.named ∙ ap (λ (v : NetView). v.name) same ∙ b.named in
    cc

-- a wire goes on with the next net, or ends
head_next : (N : NetlistView) (from number first : ℕ) (whole : Option Range) (found : List NetRow) → IsWire N number first whole → first ≤ from → from + 1 < first + width_of whole → IsHeadOf N (from + 1) found
    → (row : NetRow) × (rest : List NetRow) × (found ≡ row ∷ rest) × (row.name ≡ number) × BeginsAt N (from + 1) row
head_next N from number first whole [] w low high head = absurd (head (from + 1) number (omega arith) (wire_net N (from + 1) number first whole w (omega arith) high))
head_next N from number first whole (row ∷ rest) w low high head =
    let next = wire_net N (from + 1) number first whole w (omega arith) high in
    elim (cases_lt (from + 1) head.net) [
      | inl less ↦ absurd (head.none (from + 1) number (omega arith) less next)
      | inr more ↦
          let past = head.past in
          let here : head.net ≡ from + 1 = omega arith in
          let B : ℕ → Type 0 = λ k. BeginsAt N k row in
          let begins = subst B here head.begins in
          (row, rest, refl, same_name N (from + 1) row.name number begins.is next, begins)
    ]

-- the index of the last place of a range is its right end
last_index : (whole : Option Range) (place : ℕ) → place + 1 ≡ width_of whole → option_map one_index (index_from whole place) ≡ rest_range whole place
last_index None place last = refl
last_index (Some range) place last = go (nat_le range.left range.right) refl
  where
    go : (b : Bool) → nat_le range.left range.right ≡ b → option_map one_index (index_from (Some range) place) ≡ rest_range (Some range) place
    go true e = let up : range.left ≤ range.right = grind (arith, nat_tests) in let end : range.left + place ≡ range.right = omega arith in rw (e, end) refl
    go false e = let down : range.right < range.left = grind (arith, nat_tests) in let end : range.left - place ≡ range.right = omega arith in rw (e, end) refl

-- two places of a range that follow one another
record AreNext (whole : Option Range) (place : ℕ) : Type 0 where
  index : ℕ
  next : ℕ
  right : ℕ
  here : index_from whole place ≡ Some index
  there : index_from whole (place + 1) ≡ Some next
  end : right_of whole ≡ right
  step : IsStep index next right

next_index : (whole : Option Range) (place : ℕ) → place + 1 < width_of whole → AreNext whole place
next_index None place less = absurd (omega arith)
next_index (Some range) place less = go (nat_le range.left range.right) refl
  where
    go : (b : Bool) → nat_le range.left range.right ≡ b → AreNext (Some range) place
    go true e =
        let up : range.left ≤ range.right = grind (arith, nat_tests) in
        record { index = range.left + place; next = range.left + (place + 1); right = range.right; here = rw e refl; there = rw e refl; end = refl; step = record { way = inl (omega arith, omega arith) } }
    go false e =
        let down : range.right < range.left = grind (arith, nat_tests) in
        record { index = range.left - place; next = range.left - (place + 1); right = range.right; here = rw e refl; there = rw e refl; end = refl; step = record { way = inr (omega arith, omega arith) } }

joined_rest : (whole : Option Range) (place : ℕ) → place + 1 < width_of whole → joined_range (option_map one_index (index_from whole place)) (rest_range whole (place + 1)) ≡ rest_range whole place
joined_rest whole place less = let n = next_index whole place less in rw (n.here, n.there) refl

-- later rows, seen from an earlier net
earlier_net : (N : NetlistView) (from : ℕ) (row : NetRow) → HasNet N (from + 1) row → HasNet N from row
earlier_net N from row h = let past = h.past in record { net = h.net; past = omega arith; is = h.is }

abbrev new_row : ℕ → NetView → NetRow
new_row number view = record { name = number; range = option_map one_index view.index }

-- a net of a wire
record IsOn (table : List (List ℕ)) (N : NetlistView) (from number : ℕ) (view : NetView) : Type 0 where
  named : IsWellNamed table N
  there : slice_get N.nets from ≡ Some view
  is : view.name ≡ Original number
  outside : direction N.ports from ≡ None

on_net : (table : List (List ℕ)) (N : NetlistView) (from number : ℕ) (view : NetView) → IsOn table N from number view → IsWireNet N from (Original number)
on_net table N from number view on = record { view = view; there = on.there; outside = on.outside; named = on.is }

-- its wire ends, so it is a row of its own
pushed : (table : List (List ℕ)) (N : NetlistView) (from number : ℕ) (view : NetView) (found : List NetRow) (bits : List NamedNet) → IsOn table N from number view → AreRows table N (from + 1) found bits
    → ((first : ℕ) (whole : Option Range) → IsWire N number first whole → from + 1 ≡ first + width_of whole) → AreRows table N from (new_row number view ∷ found) (wire_bit table number view.index ∷ bits)
pushed table N from number view found bits on are ends = record {
  head = record {
    net = from;
    past = omega arith;
    none = λ net other low high wire. omega arith;
    begins = record { is = on_net table N from number view on; range = range };
  };
  each = each;
  apart = (alone, are.apart);
  bits_are = ap (λ front. front ++ all_nets table found) (one_bit table number view.index) ∙ ap (λ rest. wire_bit table number view.index ∷ rest) are.bits_are;
}
  where
    range : (first : ℕ) (whole : Option Range) → IsWire N number first whole → option_map one_index view.index ≡ rest_range whole (from - first)
    range first whole w =
        let within = w.only from (on_net table N from number view on) in
        let low = within.0 in
        let high = within.1 in
        let end = ends first whole w in
        ap (option_map one_index) (index_is N from number first whole view w on.there low high) ∙ last_index whole (from - first) (omega arith)

    each : (k : ℕ) (row : NetRow) → slice_get (new_row number view ∷ found) k ≡ Some row → HasNet N from row
    each zero row at =
        let same : new_row number view ≡ row = same_Some (new_row number view) row at in
        let P : NetRow → Type 0 = HasNet N from in
        subst P same (record { net = from; past = omega arith; is = on_net table N from number view on })
    each (suc k) row at = earlier_net N from row (are.each k row at)

    alone : NotIn number (map row_name found)
    alone k at = go found k at are.each
      where
        go : (rows : List NetRow) (j : ℕ) → slice_get (map row_name rows) j ≡ Some number → ((i : ℕ) (row : NetRow) → slice_get rows i ≡ Some row → HasNet N (from + 1) row) → ⊥
        go [] j here all = cc
        go (row ∷ rows) (suc j) here all = go rows j here (λ i r there. all (suc i) r there)
        go (row ∷ rows) zero here all =
            let has = all 0 row refl in
            let same : row.name ≡ number = same_Some row.name number here in
            let W : ℕ → Type 0 = λ n. IsWireNet N has.net (Original n) in
            let mine = subst W same has.is in
            let wire = on.named.wires from number (on_net table N from number view on) in
            let within = wire.wire.only has.net mine in
            let high = within.1 in
            let end = ends wire.first wire.range wire.wire in
            let past = has.past in
            omega arith

-- its wire goes on, so it joins the first row
joined : (table : List (List ℕ)) (N : NetlistView) (from number : ℕ) (view : NetView) (row : NetRow) (found : List NetRow) (bits : List NamedNet) → IsOn table N from number view
    → AreRows table N (from + 1) (row ∷ found) bits → row.name ≡ number → BeginsAt N (from + 1) row
    → AreRows table N from (record { name = number; range = joined_range (option_map one_index view.index) row.range } ∷ found) (wire_bit table number view.index ∷ bits)
joined table N from number view row found bits on are same begins = record {
  head = record {
    net = from;
    past = omega arith;
    none = λ net other low high wire. omega arith;
    begins = record { is = on_net table N from number view on; range = λ first whole w. (facts first whole w).0 };
  };
  each = each;
  apart = (alone, are.apart.1);
  bits_are = ap (λ front. front ++ all_nets table found) front ∙ ap (λ rest. wire_bit table number view.index ∷ rest) are.bits_are;
}
  where
    range : Option tree.Range
    range = joined_range (option_map one_index view.index) row.range

    facts : (first : ℕ) (whole : Option Range) → IsWire N number first whole
        → (range ≡ rest_range whole (from - first)) × (from - first + 1 < width_of whole) × (view.index ≡ index_from whole (from - first)) × (row.range ≡ rest_range whole (from - first + 1))
    facts first whole w =
        let W : ℕ → Type 0 = λ n. IsWireNet N (from + 1) (Original n) in
        let next = w.only (from + 1) (subst W same begins.is) in
        let here = w.only from (on_net table N from number view on) in
        let low = here.0 in
        let high = next.1 in
        let less : from - first + 1 < width_of whole = omega arith in
        let index = index_is N from number first whole view w on.there low here.1 in
        let I : ℕ → Type 0 = λ n. IsWire N n first whole in
        let place : from + 1 - first ≡ from - first + 1 = omega arith in
        let rest : row.range ≡ rest_range whole (from - first + 1) = begins.range first whole (subst I (sym same) w) ∙ ap (rest_range whole) place in
        (ap (λ (i : Option ℕ). joined_range (option_map one_index i) row.range) index ∙ ap (joined_range (option_map one_index (index_from whole (from - first)))) rest ∙ joined_rest whole (from - first) less, less, index, rest)

    each : (k : ℕ) (other : NetRow) → slice_get (record { name = number; range = range } ∷ found) k ≡ Some other → HasNet N from other
    each zero other at =
        let is : record { name = number; range = range } ≡ other = same_Some (record { name = number; range = range }) other at in
        let P : NetRow → Type 0 = HasNet N from in
        subst P is (record { net = from; past = omega arith; is = on_net table N from number view on })
    each (suc k) other at = earlier_net N from other (are.each (suc k) other at)

    alone : NotIn number (map row_name found)
    alone k at = are.apart.0 k (at ∙ ap Some (sym same))

    front : row_bits table (record { name = number; range = range }) ≡ wire_bit table number view.index ∷ row_bits table row
    front =
        let wire = on.named.wires from number (on_net table N from number view on) in
        let f = facts wire.first wire.range wire.wire in
        let n = next_index wire.range (from - wire.first) f.1 in
        let whole : range ≡ Some (indexed n.index n.right) = f.0 ∙ (rw (n.here, n.end) refl) in
        let rest : row.range ≡ Some (indexed n.next n.right) = f.3 ∙ (rw (n.there, n.end) refl) in
        let index : view.index ≡ Some n.index = f.2 ∙ n.here in
        let mine : row_bits table (record { name = number; range = Some (indexed n.next n.right) }) ≡ row_bits table row =
        ap (λ (r : Option tree.Range). row_bits table (record { name = number; range = r })) (sym rest) ∙ ap (λ (m : ℕ). row_bits table (record { name = m; range = row.range })) (sym same) in
        ap (λ (r : Option tree.Range). row_bits table (record { name = number; range = r })) whole ∙ joined_bits table number n.index n.next n.right n.step
        ∙ ap (λ (ys : List NamedNet). wire_bit table number (Some n.index) ∷ ys) mine ∙ ap (λ (i : Option ℕ). wire_bit table number i ∷ row_bits table row) (sym index)

pub one_more : (table : List (List ℕ)) (N : NetlistView) (from number : ℕ) (view : NetView) (found : List NetRow) (bits : List NamedNet) → IsWellNamed table N → slice_get N.nets from ≡ Some view
    → view.name ≡ Original number → direction N.ports from ≡ None → AreRows table N (from + 1) found bits
    → AreRows table N from (before (record { name = number; range = option_map one_index view.index }) found) (wire_bit table number view.index ∷ bits)
one_more table N from number view found bits named at is outside are = by_end (cases_lt (from + 1) (w.first + width_of w.range))
  where
    on : IsOn table N from number view
    on = record { named = named; there = at; is = is; outside = outside }

    w : IsWireName N number
    w = named.wires from number (on_net table N from number view on)

    met : (row : NetRow) (rest : List NetRow) → row.name ≡ number → before (new_row number view) (row ∷ rest) ≡ record { name = number; range = joined_range (option_map one_index view.index) row.range } ∷ rest
    met row rest same = let test : (number == row.name) ≡ true = grind arith in rw test refl

    parted : (rows : List NetRow) → Apart (map row_name (new_row number view ∷ rows)) → before (new_row number view) rows ≡ new_row number view ∷ rows
    parted [] apart = refl
    parted (row ∷ rows) apart = go (number == row.name) refl
      where
        go : (b : Bool) → (number == row.name) ≡ b → before (new_row number view) (row ∷ rows) ≡ new_row number view ∷ row ∷ rows
        go false e = rw e refl
        go true e = absurd (apart.0 0 (let same : number ≡ row.name = grind arith in ap Some (sym same)))

    by_end : (from + 1 < w.first + width_of w.range) ⊎ (w.first + width_of w.range ≤ from + 1) → AreRows table N from (before (new_row number view) found) (wire_bit table number view.index ∷ bits)
    by_end (inl less) =
        let within = w.wire.only from (on_net table N from number view on) in
        let next = head_next N from number w.first w.range found w.wire within.0 less are.head in
        let row : NetRow = next.0 in
        let rest : List NetRow = next.1 in
        let F : List NetRow → Type 0 = λ xs. AreRows table N (from + 1) xs bits in
        let whole : before (new_row number view) found ≡ record { name = number; range = joined_range (option_map one_index view.index) row.range } ∷ rest =
        ap (before (new_row number view)) next.2 ∙ met row rest next.3 in
        let R : List NetRow → Type 0 = λ xs. AreRows table N from xs (wire_bit table number view.index ∷ bits) in
        subst R (sym whole) (joined table N from number view row rest bits on (subst F next.2 are) next.3 next.4)
    by_end (inr more) =
        let ends : (first : ℕ) (whole : Option Range) → IsWire N number first whole → from + 1 ≡ first + width_of whole =
        λ first whole other.
        let mine = w.wire.only from (on_net table N from number view on) in
        let its = other.only from (on_net table N from number view on) in
        let low = mine.0 in
        let high = mine.1 in
        elim (cases_lt (from + 1) (first + width_of whole)) [
          | inl less ↦
              let next = w.wire.only (from + 1) (wire_net N (from + 1) number first whole other (let l = its.0 in omega arith) less) in
              let past = next.1 in
              absurd (omega arith)
          | inr past ↦ let h = its.1 in omega arith
        ] in
        let alone = pushed table N from number view found bits on are ends in
        let R : List NetRow → Type 0 = λ xs. AreRows table N from xs (wire_bit table number view.index ∷ bits) in
        subst R (sym (parted found alone.apart)) alone

-- a net that is none of a wire
pub none_more : (table : List (List ℕ)) (N : NetlistView) (from : ℕ) (found : List NetRow) (bits : List NamedNet) → ((number : ℕ) → IsWireNet N from (Original number) → ⊥)
    → AreRows table N (from + 1) found bits → AreRows table N from found bits
none_more table N from found bits none are = record {
  head = head found are.head;
  each = λ k row at. earlier_net N from row (are.each k row at);
  apart = are.apart;
  bits_are = are.bits_are;
}
  where
    head : (rows : List NetRow) → IsHeadOf N (from + 1) rows → IsHeadOf N from rows
    head [] none_after = λ net number low wire. elim (cases_lt from net) [
      | inl less ↦ none_after net number (omega arith) wire
      | inr more ↦ let same : net ≡ from = omega arith in let W : ℕ → Type 0 = λ k. IsWireNet N k (Original number) in none number (subst W same wire)
    ]
    head (row ∷ rows) h = record {
      net = h.net;
      past = let past = h.past in omega arith;
      none = λ net number low high wire. elim (cases_lt from net) [
        | inl less ↦ h.none net number (omega arith) high wire
        | inr more ↦ let same : net ≡ from = omega arith in let W : ℕ → Type 0 = λ k. IsWireNet N k (Original number) in none number (subst W same wire)
      ];
      begins = h.begins;
    }

pub no_rows : (table : List (List ℕ)) (N : NetlistView) (from : ℕ) → length N.nets ≤ from → AreRows table N from [] []
no_rows table N from past = record {
  head = λ net number low wire. let less = slice_get_within N.nets net wire.view wire.there in omega arith;
  each = λ k row at. absurd (let bad : None ≡ Some row = at in cc);
  apart = tt;
  bits_are = refl;
}
