-- Tables of a library's cells.
use Rattle.std.proofs.Common.{◌≡◌, ℕ, suc, zero, ◌+◌, ◌<◌, Bool, true, false, ◌||◌, cond, List, [], ◌∷◌, ◌++◌, map, length, take, Bor, Some, None, refl, sym, ap, ◌∙◌, arith}
use Rattle.std.specs.Prelude.{slice_get, position}
use Rattle.std.specs.Map.{lookup, keys_of}
use Rattle.std.specs.Str.{bytes_eq}
use Rattle.std.specs.Cmp.Lexicographic.{bytes_decides}
use Rattle.std.proofs.lemmas.List.{length-take}
use Rattle.std.proofs.lemmas.Option.{slice_get_within}
use Rattle.std.proofs.lemmas.Iterator.Adapters.{position_from-zero}
use Rattle.std.specs.List.{position_from}
use Rattle.list_laws.proofs.Lists.{taken_more}
use Rattle.cell_library.specs.declared.listed.ListedCell.{ListedCell}
use Rattle.cell_library.specs.Sound.{IsLibrary}
use Rattle.link_model.specs.Lists.{has_name}
use Rattle.link_names.specs.CellNumbers.{number_entry, numbered_from}

-- What is found under a name.

lookup-numbers : (name : List ℕ) (es : List (Bor (List ℕ) × ℕ)) → lookup (λ (k : Bor (List ℕ)). bytes_eq name k.now) es ≡ lookup (bytes_eq name) (map number_entry es)
lookup-numbers name [] = refl
lookup-numbers name (e ∷ es) = ap (cond (bytes_eq name e.0.now) (Some e.1)) (lookup-numbers name es)

lookup-numbered : (name : List ℕ) (number : ℕ) (cells : List ListedCell) → lookup (bytes_eq name) (numbered_from number cells) ≡ position_from (λ (cell : ListedCell). bytes_eq name cell.name) number cells
lookup-numbered name number [] = refl
lookup-numbered name number (cell ∷ cells) = ap (cond (bytes_eq name cell.name) (Some number)) (lookup-numbered name (number + 1) cells)

-- a table that has the cells' numbers finds the first cell of a name
pub number_found : (name : List ℕ) (es : List (Bor (List ℕ) × ℕ)) (library : List ListedCell) → map number_entry es ≡ numbered_from 0 library
    → lookup (λ (k : Bor (List ℕ)). bytes_eq name k.now) es ≡ position (λ (cell : ListedCell). bytes_eq name cell.name) library
number_found name es library is =
    lookup-numbers name es ∙ ap (lookup (bytes_eq name)) is ∙ lookup-numbered name 0 library ∙ sym (position_from-zero (λ (cell : ListedCell). bytes_eq name cell.name) library)

-- One cell more.

-- a name that no entry has is not found
pub no_entry : (name : List ℕ) (es : List (Bor (List ℕ) × ℕ)) → has_name (keys_of (map number_entry es)) name ≡ false → lookup (λ (k : Bor (List ℕ)). bytes_eq name k.now) es ≡ None
no_entry name [] h = refl
no_entry name (e ∷ es) h = by (bytes_eq name e.0.now) refl (no_entry name es)
  where
    by : (b : Bool) → bytes_eq name e.0.now ≡ b → (has_name (keys_of (map number_entry es)) name ≡ false → lookup (λ (k : Bor (List ℕ)). bytes_eq name k.now) es ≡ None)
        → cond b (Some e.1) (lookup (λ (k : Bor (List ℕ)). bytes_eq name k.now) es) ≡ None
    by true f rest = let no : true ≡ false = sym (ap (λ b. b || has_name (keys_of (map number_entry es)) name) f) ∙ h in absurd (cc)
    by false f rest = rest (sym (ap (λ b. b || has_name (keys_of (map number_entry es)) name) f) ∙ h)

pub numbers-append : (xs ys : List (Bor (List ℕ) × ℕ)) → map number_entry (xs ++ ys) ≡ map number_entry xs ++ map number_entry ys
numbers-append [] ys = refl
numbers-append (x ∷ xs) ys = ap (λ l. number_entry x ∷ l) (numbers-append xs ys)

no_name : (name : List ℕ) (number : ℕ) (cells : List ListedCell) → ((k : ℕ) (cell : ListedCell) → slice_get cells k ≡ Some cell → cell.name ≡ name → ⊥) → has_name (keys_of (numbered_from number cells)) name ≡ false
no_name name number [] none = refl
no_name name number (c ∷ cells) none = by (bytes_eq name c.name) refl (no_name name (number + 1) cells (λ k cell at same. none (suc k) cell at same))
  where
    by : (b : Bool) → bytes_eq name c.name ≡ b → has_name (keys_of (numbered_from (number + 1) cells)) name ≡ false → has_name (keys_of (numbered_from number (c ∷ cells))) name ≡ false
    by true f rest = absurd (none 0 c refl (sym ((bytes_decides name c.name).0 f)))
    by false f rest = ap (λ b. b || has_name (keys_of (numbered_from (number + 1) cells)) name) f ∙ rest

taken_at : (cells : List ListedCell) (n k : ℕ) (cell : ListedCell) → slice_get (take n cells) k ≡ Some cell → (k < n) × (slice_get cells k ≡ Some cell)
taken_at [] zero k cell at = absurd (cc)
taken_at [] (suc n) k cell at = absurd (cc)
taken_at (c ∷ cells) zero k cell at = absurd (cc)
taken_at (c ∷ cells) (suc n) zero cell at = (omega arith, at)
taken_at (c ∷ cells) (suc n) (suc k) cell at = let rest = taken_at cells n k cell at in (omega (arith, rest.0), rest.1)

-- the name of the next cell of a library is new
pub next_is_new : (library : List ListedCell) (n : ℕ) (cell : ListedCell) (name : List ℕ) (front : List (List ℕ × ℕ)) → IsLibrary library → slice_get library n ≡ Some cell → name ≡ cell.name
    → front ≡ numbered_from 0 (take n library) → has_name (keys_of front) name ≡ false
next_is_new library n cell name front is at named front_is =
    ap (λ (es : List (List ℕ × ℕ)). has_name (keys_of es) name) front_is
    ∙ no_name name 0 (take n library) (λ k other there same.
    let before = taken_at library n k other there in
    let low = before.0 in
    let one : k ≡ n = is.once k n other cell before.1 at (same ∙ named) in omega (arith, low, one))

numbered-push : (cells : List ListedCell) (cell : ListedCell) (number : ℕ) → numbered_from number (cells ++ cell ∷ []) ≡ numbered_from number cells ++ (cell.name, number + length cells) ∷ []
numbered-push [] cell number = let same : number ≡ number + 0 = omega arith in ap (λ (k : ℕ). (cell.name, k) ∷ []) same
numbered-push (c ∷ cells) cell number =
    let same : number + 1 + length cells ≡ number + suc (length cells) = omega arith in
    ap (λ (l : List (List ℕ × ℕ)). (c.name, number) ∷ l) (numbered-push cells cell (number + 1) ∙ ap (λ (k : ℕ). numbered_from (number + 1) cells ++ (cell.name, k) ∷ []) same)

-- the numbers of one cell more
pub numbered_more : (library : List ListedCell) (n : ℕ) (cell : ListedCell) (name : List ℕ) (front new : List (List ℕ × ℕ)) → slice_get library n ≡ Some cell → name ≡ cell.name → front ≡ numbered_from 0 (take n library)
    → new ≡ front ++ (name, n) ∷ [] → new ≡ numbered_from 0 (take (n + 1) library)
numbered_more library n cell name front new at named front_is new_is =
    let low = slice_get_within library n cell at in
    let long = length-take n library in
    let count : n ≡ 0 + length (take n library) = omega (arith, low, long) in
    new_is ∙ ap (λ (es : List (List ℕ × ℕ)). es ++ (name, n) ∷ []) front_is ∙ ap (λ (x : List ℕ). numbered_from 0 (take n library) ++ (x, n) ∷ []) named
    ∙ ap (λ (k : ℕ). numbered_from 0 (take n library) ++ (cell.name, k) ∷ []) count
    ∙ sym (numbered-push (take n library) cell 0)
    ∙ ap (numbered_from 0) (taken_more library n cell (take n library) (take n library ++ cell ∷ []) at refl refl)
