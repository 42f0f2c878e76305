-- The wires of a module with test logic: the core's, and added ones.
use Rattle.std.proofs.Common.{◌≡◌, ℕ, suc, ◌+◌, ◌==◌, not, Bool, true, false, List, [], ◌∷◌, ◌++◌, map, filter, refl, ◌∙◌, ap, Some, None, slice_get}
use Rattle.std.specs.Fmt.{decimal}
use Rattle.std.proofs.lemmas.List.Elements.{filter-append}
use Rattle.list_laws.proofs.Lists.{begins_joined}
use Rattle.netlist_model.specs.declared.Name.{Name}
use Rattle.netlist_model.specs.declared.Name.TheVariants.{Original, Added}
use Rattle.netlist_model.specs.Lists.{PortView, NetView}
use Rattle.netlist_unlink.specs.declared.rows.NetRow.{NetRow}
use Rattle.netlist_unlink.specs.Rows.{has_port_name, row_of, before, with_row, rows}
use Rattle.netlist_unlink.specs.Trees.{original, added, wire_of, added_from}
use Rattle.strip_model.specs.Core.{begins, is_own_wire}

-- Rows of nets.

pub rows_none : (ports : List PortView) (nets : List NetView) → ((k : ℕ) (view : NetView) → slice_get nets k ≡ Some view → row_of ports view ≡ None) → rows ports nets ≡ []
rows_none ports [] none = refl
rows_none ports (view ∷ nets) none =
    let here = none 0 view refl in
    let rest = rows_none ports nets (λ k other at. none (suc k) other at) in rw (here, rest) refl

pub rows_joined : (ports : List PortView) (xs ys : List NetView) → rows ports ys ≡ [] → rows ports (xs ++ ys) ≡ rows ports xs
rows_joined ports [] ys none = none
rows_joined ports (x ∷ xs) ys none = ap (with_row (row_of ports x)) (rows_joined ports xs ys none)

pub rows_same : (one other : List PortView) (nets : List NetView) → ((k : ℕ) (view : NetView) → slice_get nets k ≡ Some view → row_of one view ≡ row_of other view)
    → rows one nets ≡ rows other nets
rows_same one other [] same = refl
rows_same one other (view ∷ nets) same =
    let here = same 0 view refl in
    let rest = rows_same one other nets (λ k v at. same (suc k) v at) in rw (here, rest) refl

-- own: each row's name has this
abbrev AllRows : (ℕ → Type 0) → List NetRow → Type 0
AllRows P [] = Unit {0}
AllRows P (row ∷ rows) = P row.name × AllRows P rows

before_all : (P : ℕ → Type 0) (row : NetRow) (rest : List NetRow) → P row.name → AllRows P rest → AllRows P (before row rest)
before_all P row [] here all = (here, tt)
before_all P row (next ∷ rest) here all = by (row.name == next.name) refl
  where
    by : (b : Bool) → row.name == next.name ≡ b → AllRows P (before row (next ∷ rest))
    by true e = rw e (here, all.1)
    by false e = rw e (here, all)

rows_all : (P : ℕ → Type 0) (ports : List PortView) (nets : List NetView) → ((k : ℕ) (view : NetView) (number : ℕ) → slice_get nets k ≡ Some view → view.name ≡ Original number → P number)
    → AllRows P (rows ports nets)
rows_all P ports [] all = tt
rows_all P ports (view ∷ nets) all = with (view.name) refl (rows_all P ports nets (λ k other number at e. all (suc k) other number at e))
  where
    with : (name : Name) → view.name ≡ name → AllRows P (rows ports nets) → AllRows P (with_row (row_of ports view) (rows ports nets))
    with (Added number) e rest = rw e rest
    with (Original number) e rest = by (has_port_name ports number) refl
      where
        by : (b : Bool) → has_port_name ports number ≡ b → AllRows P (with_row (row_of ports view) (rows ports nets))
        by true h = rw (e, h) rest
        by false h = rw (e, h) (before_all P (record { name = number; range = _ }) (rows ports nets) (all 0 view number refl e) rest)

-- Wires.

-- own: the name is the same in both tables, and doesn't begin with the prefix
abbrev pub IsKept : List (List ℕ) → List (List ℕ) → List ℕ → ℕ → Type 0
IsKept table own prefix number = (original table number ≡ original own number) × (begins prefix (original table number) ≡ false)

kept_wires : (table own : List (List ℕ)) (prefix : List ℕ) (rest : List NetRow) → AllRows (IsKept table own prefix) rest
    → filter (is_own_wire prefix) (map (wire_of table) rest) ≡ map (wire_of own) rest
kept_wires table own prefix [] all = refl
kept_wires table own prefix (row ∷ rest) all =
    let passes : is_own_wire prefix (wire_of table row) ≡ true = ap not all.0.1 in
    let same = all.0.0 in
    let more = kept_wires table own prefix rest all.1 in
    rw (passes, same, more) refl

no_added : (prefix : List ℕ) (number : ℕ) (nets : List NetView) → filter (is_own_wire prefix) (added_from prefix number nets) ≡ []
no_added prefix number [] = refl
no_added prefix number (view ∷ nets) = at view.name refl (no_added prefix (number + 1) nets)
  where
    at : (name : Name) → view.name ≡ name → filter (is_own_wire prefix) (added_from prefix (number + 1) nets) ≡ [] → filter (is_own_wire prefix) (added_from prefix number (view ∷ nets)) ≡ []
    at (Original place) e rest = rw e rest
    at (Added other) e rest =
        let yes : begins prefix (added prefix 110 number) ≡ true = begins_joined prefix (110 ∷ decimal number) in
        rw (e, yes) rest

none_added : (prefix : List ℕ) (number : ℕ) (nets : List NetView) → ((k : ℕ) (view : NetView) → slice_get nets k ≡ Some view → (place : ℕ) × (view.name ≡ Original place)) → added_from prefix number nets ≡ []
none_added prefix number [] own = refl
none_added prefix number (view ∷ nets) own =
    let here = (own 0 view refl).1 in
    let rest = none_added prefix (number + 1) nets (λ k other at. own (suc k) other at) in rw (here, rest) refl

nil_end : {X : Type 0} (xs : List X) → xs ++ [] ≡ xs
nil_end [] = refl
nil_end {X = X} (x ∷ xs) = ap (λ (ys : List X). x ∷ ys) (nil_end xs)

-- the wires of the core are left
pub wires_told : (table own : List (List ℕ)) (prefix : List ℕ) (ports more : List PortView) (nets behind : List NetView)
    → ((k : ℕ) (view : NetView) (number : ℕ) → slice_get nets k ≡ Some view → view.name ≡ Original number → IsKept table own prefix number)
    → ((k : ℕ) (view : NetView) → slice_get nets k ≡ Some view → (place : ℕ) × (view.name ≡ Original place))
    → ((k : ℕ) (view : NetView) → slice_get nets k ≡ Some view → row_of (ports ++ more) view ≡ row_of ports view)
    → ((k : ℕ) (view : NetView) → slice_get behind k ≡ Some view → row_of (ports ++ more) view ≡ None)
    → filter (is_own_wire prefix) (map (wire_of table) (rows (ports ++ more) (nets ++ behind)) ++ added_from prefix 0 (nets ++ behind))
    ≡ map (wire_of own) (rows ports nets) ++ added_from prefix 0 nets
wires_told table own prefix ports more nets behind kept own_names same none =
    let all : rows (ports ++ more) (nets ++ behind) ≡ rows ports nets =
    rows_joined (ports ++ more) nets behind (rows_none (ports ++ more) behind none) ∙ rows_same (ports ++ more) ports nets same in
    let left = kept_wires table own prefix (rows ports nets) (rows_all (IsKept table own prefix) ports nets kept) in
    let gone = no_added prefix 0 (nets ++ behind) in
    let fresh = none_added prefix 0 nets own_names in
    filter-append (is_own_wire prefix) (map (wire_of table) (rows (ports ++ more) (nets ++ behind))) (added_from prefix 0 (nets ++ behind))
    ∙ rw (all, left, gone, fresh) refl
