-- Where the values of a gate stand among the tables.
use Rattle.std.proofs.Common.{◌≡◌, ℕ, zero, suc, ◌+◌, ◌-◌, ◌*◌, ◌<◌, ◌∷◌, ◌++◌, [], List, length, Some, refl, ap, ◌∙◌, arith}
use Rattle.std.specs.Prelude.{slice_get, slice_index_or}
use Rattle.std.specs.List.{flat_map}
use Rattle.std.proofs.lemmas.Grind.{flat_map-append}
use Rattle.std.proofs.lemmas.List.{get_or_past}
use Rattle.std.proofs.lemmas.Option.{get_or_from_slice_get}
use Rattle.list_laws.specs.Lists.{counted_from}
use Rattle.list_laws.proofs.Lists.{counted-last, slice_get-append_right}
use Rattle.signal_values.specs.declared.Sig.{Sig}
use Rattle.signal_values.specs.declared.Sig.TheVariants.{Zero, One, Unknown}
use Rattle.cell_library.specs.declared.Kind.{Kind}
use Rattle.cell_library.specs.declared.Kind.TheVariants.{Listed}
use Rattle.cell_library.specs.declared.listed.ListedCell.{ListedCell}
use Rattle.cell_library.specs.Gates.{gate_output}
use Rattle.event_parts.specs.declared.counted_cells.pairs.Pair.{Pair}
use Rattle.event_parts.specs.Pairs.{AreTables, IsPair, code, kind_at, open_kinds, table_of, tables_upto}

-- past the kinds that take several operands stand the listed ones
pub listed_at : (n : ℕ) → kind_at (6 + n) ≡ Listed n
listed_at n = get_or_past open_kinds (6 + n) (Listed (6 + n - 6)) (let six : length open_kinds ≡ 6 = refl in omega arith) ∙ ap (λ (k : ℕ). Listed k) (omega arith)

-- one table more
pub table_next : (library : List ListedCell) (n : ℕ) → tables_upto library (n + 1) ≡ tables_upto library n ++ table_of library (kind_at n)
table_next library n =
    let next : n + 1 ≡ suc n = omega arith in
    let last : 0 + n ≡ n = omega arith in
    ap (tables_upto library) next
    ∙ ap (flat_map (λ (number : ℕ). table_of library (kind_at number))) (counted-last 0 n ∙ ap (λ (k : ℕ). counted_from 0 n ++ k ∷ []) last)
    ∙ flat_map-append (λ (number : ℕ). table_of library (kind_at number)) (counted_from 0 n) (n ∷ [])

-- in a table
in_table : (library : List ListedCell) (kind : Kind) (more : List Sig) (a b : Sig) → slice_get (table_of library kind ++ more) (9 * 0 + (3 * code a + code b)) ≡ Some (gate_output library kind (a ∷ b ∷ []))
in_table library kind more Zero Zero = refl
in_table library kind more Zero One = refl
in_table library kind more Zero Unknown = refl
in_table library kind more One Zero = refl
in_table library kind more One One = refl
in_table library kind more One Unknown = refl
in_table library kind more Unknown Zero = refl
in_table library kind more Unknown One = refl
in_table library kind more Unknown Unknown = refl

-- among tables
among : (library : List ListedCell) (first count place : ℕ) (a b : Sig) → place < count
    → slice_get (flat_map (λ (number : ℕ). table_of library (kind_at number)) (counted_from first count)) (9 * place + (3 * code a + code b)) ≡ Some (gate_output library (kind_at (first + place)) (a ∷ b ∷ []))
among library first zero place a b below = absurd (omega arith)
among library first (suc count) zero a b below =
    let same : first ≡ first + 0 = omega arith in
    in_table library (kind_at first) (flat_map (λ (number : ℕ). table_of library (kind_at number)) (counted_from (suc first) count)) a b
    ∙ ap (λ (k : ℕ). Some (gate_output library (kind_at k) (a ∷ b ∷ []))) same
among library first (suc count) (suc place) a b below =
    let nine : length (table_of library (kind_at first)) ≡ 9 = refl in
    let further : 9 * suc place + (3 * code a + code b) ≡ length (table_of library (kind_at first)) + (9 * place + (3 * code a + code b)) = omega arith in
    let same : suc first + place ≡ first + suc place = omega arith in
    slice_get-append_right (table_of library (kind_at first)) (flat_map (λ (number : ℕ). table_of library (kind_at number)) (counted_from (suc first) count)) (9 * suc place + (3 * code a + code b)) (9 * place + (3 * code a + code b)) further
    ∙ among library (suc first) count place a b (omega arith)
    ∙ ap (λ (k : ℕ). Some (gate_output library (kind_at k) (a ∷ b ∷ []))) same

-- what is looked up is what the gate gives
pub looked_up : (library : List ListedCell) (kind : Kind) (pair : Pair) (a b : Sig) (values : List Sig) → AreTables library values → IsPair library kind pair
    → slice_index_or values (9 * pair.0 + (3 * code a + code b)) Unknown ≡ gate_output library kind (a ∷ b ∷ [])
looked_up library kind pair a b values are is =
    let first : 0 + pair.0 ≡ pair.0 = omega arith in
    ap (λ (v : List Sig). slice_index_or v (9 * pair.0 + (3 * code a + code b)) Unknown) are
    ∙ get_or_from_slice_get (tables_upto library (6 + length library)) (9 * pair.0 + (3 * code a + code b)) (gate_output library (kind_at (0 + pair.0)) (a ∷ b ∷ [])) Unknown
    (among library 0 (6 + length library) pair.0 a b is.below)
    ∙ ap (λ (k : ℕ). gate_output library (kind_at k) (a ∷ b ∷ [])) first
    ∙ ap (λ (k : Kind). gate_output library k (a ∷ b ∷ [])) is.kind_is
