-- The names of the seven library cells, and of those of a library, both ways.
use Rattle.std.proofs.Common.{◌≡◌, Bool, true, false, List, [], ◌∷◌, length, ◌<◌, ℕ, zero, suc, get_or, arith, refl, sym, ap, ◌∙◌}
use Rattle.std.specs.Prelude.{Option, Some, None, IsSome, slice_get, position, codes, if◌then◌else◌}
use Rattle.std.specs.Option.{option_map}
use Rattle.std.specs.List.{list_any}
use Rattle.std.specs.Str.{bytes_eq}
use Rattle.std.specs.Cmp.Lexicographic.{bytes_decides}
use Rattle.std.proofs.lemmas.Option.{slice_get-get_or}
use Rattle.std.proofs.lemmas.List.Quantifiers.{position-Some}
use Rattle.verilog_lexicon.proofs.list_laws.Lists.{any_at, position_none}
use Rattle.cell_library.specs.declared.Kind.{Kind}
use Rattle.cell_library.specs.declared.Kind.TheVariants.{Mux2, Flop, Listed}
use Rattle.cell_library.specs.declared.Edge.{Edge}
use Rattle.cell_library.specs.declared.Edge.TheVariants.{Rise, Fall}
use Rattle.cell_library.specs.declared.ResetTo.{ResetTo}
use Rattle.cell_library.specs.declared.ResetTo.TheVariants.{Nothing, Zero, One}
use Rattle.cell_library.specs.declared.listed.ListedCell.{ListedCell}
use Rattle.cell_library.specs.Listed.{no_cell, listed}
use Rattle.cell_library.specs.Library.{cell_name, own_cell_name, flop_name, kind_named, own_kind_named, own_or_listed}
use Rattle.cell_library.specs.Laws.{OwnNamesAreExact, NamesAreExact}
use Rattle.cell_library.specs.Sound.{IsLibrary}

flop_found : (edge : Edge) (reset : ResetTo) → own_kind_named (flop_name edge reset) ≡ Some (Flop (record { edge = edge; reset = reset }))
flop_found Rise Nothing = refl
flop_found Fall Nothing = refl
flop_found Rise Zero = refl
flop_found Fall Zero = refl
flop_found Rise One = refl
flop_found Fall One = refl

-- the kind of a cell's name is the cell's
own_named_is_found : (kind : Kind) (name : List ℕ) → own_cell_name kind ≡ Some name → own_kind_named name ≡ Some kind
own_named_is_found Mux2 name e = let same : codes "MUX2" ≡ name = cc in ap own_kind_named (sym same)
own_named_is_found (Flop flop) name e = let same : flop_name flop.edge flop.reset ≡ name = cc in ap own_kind_named (sym same) ∙ flop_found flop.edge flop.reset
own_named_is_found kind name e = absurd (let no : None ≡ Some name = e in cc)

named_like : (known kind : Kind) → Some known ≡ Some kind → IsSome (own_cell_name known) → IsSome (own_cell_name kind)
named_like known kind e named = let same : known ≡ kind = cc in rw (← same) named

chosen_has_name : (a b c d e f g : Bool) (kind : Kind)
    → (if a then Some Mux2
    else if b then Some (Flop (record { edge = Rise; reset = Nothing }))
    else if c then Some (Flop (record { edge = Fall; reset = Nothing }))
    else if d then Some (Flop (record { edge = Rise; reset = Zero }))
    else if e then Some (Flop (record { edge = Fall; reset = Zero }))
    else if f then Some (Flop (record { edge = Rise; reset = One }))
    else if g then Some (Flop (record { edge = Fall; reset = One }))
    else None) ≡ Some kind → IsSome (own_cell_name kind)
chosen_has_name true b c d e f g kind is = named_like Mux2 kind is refl
chosen_has_name false true c d e f g kind is = named_like (Flop (record { edge = Rise; reset = Nothing })) kind is refl
chosen_has_name false false true d e f g kind is = named_like (Flop (record { edge = Fall; reset = Nothing })) kind is refl
chosen_has_name false false false true e f g kind is = named_like (Flop (record { edge = Rise; reset = Zero })) kind is refl
chosen_has_name false false false false true f g kind is = named_like (Flop (record { edge = Fall; reset = Zero })) kind is refl
chosen_has_name false false false false false true g kind is = named_like (Flop (record { edge = Rise; reset = One })) kind is refl
chosen_has_name false false false false false false true kind is = named_like (Flop (record { edge = Fall; reset = One })) kind is refl
chosen_has_name false false false false false false false kind is = absurd (cc)

pub own_found_has_name : (name : List ℕ) (kind : Kind) → own_kind_named name ≡ Some kind → IsSome (own_cell_name kind)
own_found_has_name name kind e = chosen_has_name _ _ _ _ _ _ _ kind e

-- The names of a library.

abbrev pub place_in : List ListedCell → List ℕ → Option ℕ
place_in library name = position (λ (cell : ListedCell). bytes_eq name cell.name) library

-- the cell with a number that there is
pub listed_at : (library : List ListedCell) (number : ℕ) (cell : ListedCell) → slice_get library number ≡ Some cell → listed library number ≡ cell
listed_at [] number cell e = absurd (let no : None ≡ Some cell = e in cc)
listed_at (c ∷ library) zero cell e = cc
listed_at (c ∷ library) (suc number) cell e = listed_at library number cell e

pub listed_past : (library : List ListedCell) (number : ℕ) → slice_get library number ≡ None → listed library number ≡ no_cell
listed_past [] number e = refl
listed_past (c ∷ library) zero e = absurd (let no : Some c ≡ None = e in cc)
listed_past (c ∷ library) (suc number) e = listed_past library number e

pub at_get_or : (library : List ListedCell) (number : ℕ) (default cell : ListedCell) → slice_get library number ≡ Some cell → (number < length library) × (get_or library number default ≡ cell)
at_get_or [] number default cell e = absurd (let no : None ≡ Some cell = e in cc)
at_get_or (c ∷ library) zero default cell e = (omega arith, cc)
at_get_or (c ∷ library) (suc number) default cell e = let there = at_get_or library number default cell e in (omega (arith, there.0), there.1)

-- the cell that is found under a name has it
pub found_there : (library : List ListedCell) (name : List ℕ) (number : ℕ) → place_in library name ≡ Some number → (cell : ListedCell) × (slice_get library number ≡ Some cell) × (cell.name ≡ name)
found_there library name number e =
    let found = position-Some (λ (cell : ListedCell). bytes_eq name cell.name) library number no_cell e in
    let cell : ListedCell = get_or library number no_cell in
    (cell, slice_get-get_or library number no_cell found.0, sym ((bytes_decides name cell.name).0 found.1))

-- and a listed cell is found under its name
found_at : (library : List ListedCell) (name : List ℕ) (number : ℕ) (cell : ListedCell) → IsLibrary library → slice_get library number ≡ Some cell → cell.name ≡ name
    → (place : Option ℕ) → place_in library name ≡ place → place_in library name ≡ Some number
found_at library name number cell is at same None e =
    let none : list_any (λ (c : ListedCell). bytes_eq name c.name) library ≡ false = position_none (λ (c : ListedCell). bytes_eq name c.name) library e in
    let here : bytes_eq name cell.name ≡ true = (bytes_decides name cell.name).1 (sym same) in
    let some : list_any (λ (c : ListedCell). bytes_eq name c.name) library ≡ true = any_at (λ (c : ListedCell). bytes_eq name c.name) library number cell at here in
    absurd (let clash : true ≡ false = sym some ∙ none in cc)
found_at library name number cell is at same (Some other) e =
    let found = found_there library name other e in
    let one : other ≡ number = is.once other number found.0 cell found.1 at (found.2 ∙ sym same) in
    e ∙ ap (λ (n : ℕ). Some n) one

own_first : (library : List ListedCell) (name : List ℕ) (kind : Kind) → own_cell_name kind ≡ Some name → kind_named library name ≡ Some kind
own_first library name kind e = ap (λ (own : Option Kind). own_or_listed own (place_in library name)) (own_named_is_found kind name e)

listed_next : (library : List ListedCell) → IsLibrary library → (name : List ℕ) (number : ℕ) (cell : Option ListedCell) → slice_get library number ≡ cell
    → option_map (λ (c : ListedCell). c.name) cell ≡ Some name → kind_named library name ≡ Some (Listed number)
listed_next library is name number None at e = absurd (let no : None ≡ Some name = e in cc)
listed_next library is name number (Some cell) at e =
    let same : cell.name ≡ name = cc in
    let own : own_kind_named name ≡ None = ap own_kind_named (sym same) ∙ is.named number cell at in
    let found : place_in library name ≡ Some number = found_at library name number cell is at same (place_in library name) refl in
    ap (λ (o : Option Kind). own_or_listed o (place_in library name)) own ∙ ap (own_or_listed None) found

-- the kind of a cell's name is the cell's
pub named_is_found : (library : List ListedCell) → IsLibrary library → (kind : Kind) (name : List ℕ) → cell_name library kind ≡ Some name → kind_named library name ≡ Some kind
named_is_found library is Mux2 name e = own_first library name Mux2 e
named_is_found library is (Flop flop) name e = own_first library name (Flop flop) e
named_is_found library is (Listed number) name e = listed_next library is name number (slice_get library number) refl e
named_is_found library is kind name e = absurd (let no : None ≡ Some name = e in cc)

-- a name of one of the seven is that of the cell in any library
own_name : (library : List ListedCell) (kind : Kind) → IsSome (own_cell_name kind) → cell_name library kind ≡ own_cell_name kind
own_name library Mux2 named = refl
own_name library (Flop flop) named = refl
own_name library kind named = absurd (let no : false ≡ true = named in cc)

-- a kind that is found under a name has that name
has_found_name : OwnNamesAreExact → (library : List ListedCell) (name : List ℕ) (kind : Kind) (own : Option Kind) (place : Option ℕ) → own_kind_named name ≡ own → place_in library name ≡ place
    → own_or_listed own place ≡ Some kind → cell_name library kind ≡ Some name
has_found_name exact library name kind (Some k) place own at e =
    let same : k ≡ kind = cc in
    let found : own_kind_named name ≡ Some kind = own ∙ ap (λ (x : Kind). Some x) same in
    own_name library kind (own_found_has_name name kind found) ∙ (exact name kind).0 found
has_found_name exact library name kind None None own at e = absurd (let no : None ≡ Some kind = e in cc)
has_found_name exact library name kind None (Some number) own at e =
    let same : Listed number ≡ kind = cc in
    let found = found_there library name number at in
    let named : cell_name library (Listed number) ≡ Some name = ap (option_map (λ (c : ListedCell). c.name)) found.1 ∙ ap (λ (x : List ℕ). Some x) found.2 in
    ap (cell_name library) (sym same) ∙ named

pub names_are_exact : OwnNamesAreExact → NamesAreExact
names_are_exact exact library is name kind = (has_found_name exact library name kind (own_kind_named name) (place_in library name) refl refl, named_is_found library is kind name)

-- a kind that is found under a name has a name
pub found_has_name : (library : List ListedCell) (name : List ℕ) (kind : Kind) → kind_named library name ≡ Some kind → IsSome (cell_name library kind)
found_has_name library name kind e = by (own_kind_named name) (place_in library name) refl refl e
  where
    by : (own : Option Kind) (place : Option ℕ) → own_kind_named name ≡ own → place_in library name ≡ place → own_or_listed own place ≡ Some kind → IsSome (cell_name library kind)
    by (Some k) place own at found =
        let same : k ≡ kind = cc in
        let named = own_found_has_name name kind (own ∙ ap (λ (x : Kind). Some x) same) in rw (own_name library kind named) named
    by None None own at found = absurd (let no : None ≡ Some kind = found in cc)
    by None (Some number) own at found =
        let same : Listed number ≡ kind = cc in
        let there = found_there library name number at in
        let named : cell_name library kind ≡ Some there.0.name = ap (cell_name library) (sym same) ∙ ap (option_map (λ (c : ListedCell). c.name)) there.1 in
        rw named refl
