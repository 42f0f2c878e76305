-- The ports of cells that have a name, found by their names.
use Rattle.std.proofs.Common.{◌≡◌, ◌≤◌, ◌<◌, ℕ, zero, suc, true, false, get_or, List, [], ◌∷◌, length, refl, sym, ap, ◌∙◌, subst, if◌then◌else◌}
use Rattle.std.specs.Prelude.{Option, Some, None, IsSome, MatchOption, slice_get, codes}
use Rattle.std.specs.Option.{option_map}
use Rattle.std.specs.List.{list_any, position}
use Rattle.std.specs.Str.{bytes_eq}
use Rattle.std.specs.Cmp.Lexicographic.{bytes_decides}
use Rattle.std.proofs.lemmas.Option.{slice_get-get_or}
use Rattle.std.proofs.lemmas.List.Quantifiers.{position-Some}
use Rattle.std.proofs.lemmas.List.Elements.{All-get_or}
use Rattle.verilog_lexicon.proofs.list_laws.Bytes.{bytes_eq-same, bytes_eq-sym}
use Rattle.verilog_lexicon.proofs.list_laws.Lists.{all_at, any_at, position_none}
use Rattle.cell_library.specs.declared.Kind.{Kind}
use Rattle.cell_library.specs.declared.Kind.TheVariants.{Mux2, Flop, Listed}
use Rattle.cell_library.specs.declared.listed.ListedCell.{ListedCell}
use Rattle.cell_library.specs.Listed.{no_cell, listed}
use Rattle.cell_library.specs.declared.PortPlace.TheVariants.{Output, Input}
use Rattle.cell_library.specs.declared.ResetTo.{ResetTo}
use Rattle.cell_library.specs.declared.ResetTo.TheVariants.{Nothing, Zero, One}
use Rattle.cell_library.specs.Gates.{Takes, operand_count_of, flop_operand_count}
use Rattle.cell_library.specs.Library.{flop_ports, kind_named, own_kind_named, own_cell_name, own_or_listed, operand_ports, output_port, port_in, port_named}
use Rattle.cell_library.specs.Ports.{IsNoneOf, AreApart, HasPorts}
use Rattle.cell_library.specs.Laws.{NamedCellsHavePorts}
use Rattle.cell_library.specs.Sound.{IsSoundCell, IsLibrary}
use Rattle.cell_library.proofs.NameLaws.{found_has_name, found_there, own_found_has_name, place_in, listed_at, listed_past, at_get_or}

-- a name is none of those that it is apart from
pub apart_not_at : (name : List ℕ) (names : List (List ℕ)) (k : ℕ) → IsNoneOf name names → slice_get names k ≡ Some name → ⊥
apart_not_at name names k none at =
    let other : bytes_eq name name ≡ false = all_at (λ (other : List ℕ). bytes_eq name other ≡ false) names k name none at in
    let clash : true ≡ false = sym (bytes_eq-same name) ∙ other in cc

-- a name that is apart from the others stands once
pub apart_once : (names : List (List ℕ)) (i j : ℕ) (name : List ℕ) → AreApart names → slice_get names i ≡ Some name → slice_get names j ≡ Some name → i ≡ j
apart_once [] i j name apart at there = absurd (cc)
apart_once (x ∷ names) zero zero name apart at there = refl
apart_once (x ∷ names) zero (suc j) name apart at there =
    let same : x ≡ name = cc in absurd (apart_not_at x names j apart.0 (there ∙ ap (λ (n : List ℕ). Some n) (sym same)))
apart_once (x ∷ names) (suc i) zero name apart at there =
    let same : x ≡ name = cc in absurd (apart_not_at x names i apart.0 (at ∙ ap (λ (n : List ℕ). Some n) (sym same)))
apart_once (x ∷ names) (suc i) (suc j) name apart at there = ap suc (apart_once names i j name apart.1 at there)

-- and is found at its place
apart_at : (names : List (List ℕ)) (k : ℕ) (name : List ℕ) → AreApart names → slice_get names k ≡ Some name → position (λ (n : List ℕ). bytes_eq name n) names ≡ Some k
apart_at names k name apart at = by (position (λ (n : List ℕ). bytes_eq name n) names) refl
  where
    by : (o : Option ℕ) → position (λ (n : List ℕ). bytes_eq name n) names ≡ o → position (λ (n : List ℕ). bytes_eq name n) names ≡ Some k
    by None e =
        let none : list_any (λ (n : List ℕ). bytes_eq name n) names ≡ false = position_none (λ (n : List ℕ). bytes_eq name n) names e in
        let some : list_any (λ (n : List ℕ). bytes_eq name n) names ≡ true = any_at (λ (n : List ℕ). bytes_eq name n) names k name at (bytes_eq-same name) in
        absurd (let clash : true ≡ false = sym some ∙ none in cc)
    by (Some place) e =
        let found = position-Some (λ (n : List ℕ). bytes_eq name n) names place name e in
        let named : name ≡ get_or names place name = (bytes_decides name (get_or names place name)).0 found.1 in
        let there : slice_get names place ≡ Some name = slice_get-get_or names place name found.0 ∙ ap (λ (n : List ℕ). Some n) (sym named) in
        e ∙ ap (λ (m : ℕ). Some m) (apart_once names place k name apart there at)

placed : (output : List ℕ) (inputs : List (List ℕ)) (k : ℕ) (port : List ℕ) → AreApart inputs → IsNoneOf output inputs → slice_get inputs k ≡ Some port → port_in (Some output) inputs port ≡ Some (Input k)
placed output inputs k port apart none at =
    let other : bytes_eq port output ≡ false = bytes_eq-sym port output ∙ all_at (λ (p : List ℕ). bytes_eq output p ≡ false) inputs k port none at in
    let there = apart_at inputs k port apart at in
    rw (other, there) refl

output_placed : (output : List ℕ) (inputs : List (List ℕ)) → port_in (Some output) inputs output ≡ Some Output
output_placed output inputs = rw (bytes_eq-same output) refl

have_ports : (library : List ListedCell) (kind : Kind) (output : List ℕ) → output_port library kind ≡ Some output → AreApart (operand_ports library kind) → IsNoneOf output (operand_ports library kind) → operand_count_of library kind ≡ Some (length (operand_ports library kind)) → HasPorts library kind
have_ports library kind output is apart none count = record {
  output = output;
  output_is = is;
  once = apart;
  no_output = none;
  output_found = ap (λ (o : Option (List ℕ)). port_in o (operand_ports library kind) output) is ∙ output_placed output (operand_ports library kind);
  operand_found = λ place port at. ap (λ (o : Option (List ℕ)). port_in o (operand_ports library kind) port) is ∙ placed output (operand_ports library kind) place port apart none at;
  count = count;
}

-- a listed cell can be listed
is_sound_at : (library : List ListedCell) → IsLibrary library → (number : ℕ) (cell : ListedCell) → slice_get library number ≡ Some cell → IsSoundCell cell
is_sound_at library is number cell at =
    let there = at_get_or library number no_cell cell at in subst IsSoundCell there.1 (All-get_or IsSoundCell library number no_cell there.0 is.sound)

flop_apart : (reset : ResetTo) → AreApart (flop_ports reset) × IsNoneOf (codes "Q") (flop_ports reset)
flop_apart Nothing = (((refl, tt), (tt, tt)), (refl, (refl, tt)))
flop_apart Zero = (((refl, (refl, tt)), ((refl, tt), (tt, tt))), (refl, (refl, (refl, tt))))
flop_apart One = (((refl, (refl, tt)), ((refl, tt), (tt, tt))), (refl, (refl, (refl, tt))))

flop_count : (reset : ResetTo) → flop_operand_count reset ≡ length (flop_ports reset)
flop_count Nothing = refl
flop_count Zero = refl
flop_count One = refl

listed_ports : (library : List ListedCell) → IsLibrary library → (number : ℕ) (there : Option ListedCell) → slice_get library number ≡ there → IsSome (option_map (λ (c : ListedCell). c.name) there) → HasPorts library (Listed number)
listed_ports library is number None at named = absurd (let no : false ≡ true = named in cc)
listed_ports library is number (Some cell) at named =
    let there : listed library number ≡ cell = listed_at library number cell at in
    let sound : IsSoundCell cell = is_sound_at library is number cell at in
    let A : ListedCell → Type 0 = λ c. AreApart c.inputs in
    let B : ListedCell → Type 0 = λ c. IsNoneOf cell.output c.inputs in
    have_ports library (Listed number) cell.output (ap (option_map (λ (c : ListedCell). c.output)) at) (subst A (sym there) sound.apart.1) (subst B (sym there) sound.apart.0) refl

pub named_cells_have_ports : NamedCellsHavePorts
named_cells_have_ports library is Mux2 named = have_ports library Mux2 (codes "Y") refl ((refl, (refl, tt)), ((refl, tt), (tt, tt))) (refl, (refl, (refl, tt))) refl
named_cells_have_ports library is (Flop kind) named = let apart = flop_apart kind.reset in have_ports library (Flop kind) (codes "Q") refl apart.0 apart.1 (ap (λ (n : ℕ). Some n) (flop_count kind.reset))
named_cells_have_ports library is (Listed number) named = listed_ports library is number (slice_get library number) refl named
named_cells_have_ports library is kind named = absurd (let no : false ≡ true = named in cc)

-- the count of operands that the kind takes is that of its ports

takes_listed : (library : List ListedCell) (number : ℕ) (there : Option ListedCell) → slice_get library number ≡ there → IsSome (option_map (λ (c : ListedCell). c.output) there) → Takes library (Listed number) (length (listed library number).inputs)
takes_listed library number None at has = absurd (let no : false ≡ true = has in cc)
takes_listed library number (Some cell) at has = rw at (ap (λ (c : ListedCell). length c.inputs) (listed_at library number cell at))

pub takes_ports : (library : List ListedCell) (kind : Kind) → HasPorts library kind → Takes library kind (length (operand_ports library kind))
takes_ports library (Listed number) has = takes_listed library number (slice_get library number) refl (rw has.output_is refl)
takes_ports library Mux2 has = refl
takes_ports library (Flop kind) has = sym (flop_count kind.reset)
takes_ports library kind has = let count = has.count in absurd (cc)

taken_listed : (library : List ListedCell) (number count : ℕ) (there : Option ListedCell) → slice_get library number ≡ there → MatchOption there ⊥ (λ (c : ListedCell). count ≡ length c.inputs) → count ≡ length (listed library number).inputs
taken_listed library number count None at takes = absurd takes
taken_listed library number count (Some cell) at takes = takes ∙ ap (λ (c : ListedCell). length c.inputs) (sym (listed_at library number cell at))

pub taken_ports : (library : List ListedCell) (kind : Kind) (count : ℕ) → HasPorts library kind → Takes library kind count → count ≡ length (operand_ports library kind)
taken_ports library (Listed number) count has takes = taken_listed library number count (slice_get library number) refl takes
taken_ports library kind count has takes =
    let T : Option ℕ → Type 0 = λ o. MatchOption o ((1 ≤ count) × (count ≤ 256)) (λ wanted. count ≡ wanted) in subst T has.count takes

-- the port at a place of the operands is found there, whatever the kind
pub operand_is_found : (library : List ListedCell) → IsLibrary library → (kind : Kind) (place : ℕ) (port : List ℕ) → slice_get (operand_ports library kind) place ≡ Some port → port_named library kind port ≡ Some (Input place)
operand_is_found library is Mux2 place port at = (named_cells_have_ports library is Mux2 refl).operand_found place port at
operand_is_found library is (Flop kind) place port at = (named_cells_have_ports library is (Flop kind) refl).operand_found place port at
operand_is_found library is (Listed number) place port at = by (slice_get library number) refl
  where
    by : (there : Option ListedCell) → slice_get library number ≡ there → port_named library (Listed number) port ≡ Some (Input place)
    by None none = absurd (let gone : listed library number ≡ no_cell = listed_past library number none in let no : None ≡ Some port = ap (λ (c : ListedCell). slice_get c.inputs place) (sym gone) ∙ at in cc)
    by (Some cell) there = (named_cells_have_ports library is (Listed number) (rw there refl)).operand_found place port at
operand_is_found library is kind place port at = absurd (let no : None ≡ Some port = at in cc)

-- a kind that is found under a name has its ports
pub found_has_ports : (library : List ListedCell) → IsLibrary library → (name : List ℕ) (kind : Kind) → kind_named library name ≡ Some kind → HasPorts library kind
found_has_ports library is name kind e = named_cells_have_ports library is kind (found_has_name library name kind e)

-- the port of a listed cell, by the cell
pub listed_port : (library : List ListedCell) (number : ℕ) (cell : ListedCell) (name : List ℕ) → slice_get library number ≡ Some cell → port_named library (Listed number) name ≡ port_in (Some cell.output) cell.inputs name
listed_port library number cell name at =
    ap (λ (o : Option (List ℕ)). port_in o (listed library number).inputs name) (ap (option_map (λ (c : ListedCell). c.output)) at)
    ∙ ap (λ (c : ListedCell). port_in (Some cell.output) c.inputs name) (listed_at library number cell at)

pub past_port : (library : List ListedCell) (number : ℕ) (name : List ℕ) → slice_get library number ≡ None → port_named library (Listed number) name ≡ None
past_port library number name none =
    ap (λ (o : Option (List ℕ)). port_in o (listed library number).inputs name) (ap (option_map (λ (c : ListedCell). c.output)) none)
    ∙ ap (λ (c : ListedCell). port_in None c.inputs name) (listed_past library number none)

-- so a kind that is found under a name takes as many operands as it has ports, in any list of cells

own_takes : (library : List ListedCell) (kind : Kind) → IsSome (own_cell_name kind) → Takes library kind (length (operand_ports library kind))
own_takes library Mux2 named = refl
own_takes library (Flop kind) named = sym (flop_count kind.reset)
own_takes library kind named = absurd (let no : false ≡ true = named in cc)

pub found_takes : (library : List ListedCell) (name : List ℕ) (kind : Kind) → kind_named library name ≡ Some kind → Takes library kind (length (operand_ports library kind))
found_takes library name kind e = by (own_kind_named name) (place_in library name) refl refl e
  where
    by : (own : Option Kind) (place : Option ℕ) → own_kind_named name ≡ own → place_in library name ≡ place → own_or_listed own place ≡ Some kind → Takes library kind (length (operand_ports library kind))
    by (Some k) place own at found =
        let same : k ≡ kind = cc in own_takes library kind (own_found_has_name name kind (own ∙ ap (λ (x : Kind). Some x) same))
    by None None own at found = absurd (let no : None ≡ Some kind = found in cc)
    by None (Some number) own at found =
        let same : Listed number ≡ kind = cc in
        let there = found_there library name number at in
        subst (λ (k : Kind). Takes library k (length (operand_ports library k))) same (takes_listed library number (Some there.0) there.1 refl)
