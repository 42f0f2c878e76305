-- A table of names where others are entered.
use Rattle.std.proofs.Common.{◌≡◌, ℕ, zero, suc, ◌+◌, ◌<◌, ◌≤◌, ◌⊎◌, true, false, List, [], ◌∷◌, ◌++◌, length, refl, ap, sym, ◌∙◌, inl, inr, arith, Some, None}
use Rattle.std.specs.Prelude.{slice_get}
use Rattle.std.specs.List.{list_any}
use Rattle.std.specs.Str.{bytes_eq}
use Rattle.std.proofs.lemmas.Bool.{cases_Bool}
use Rattle.std.proofs.lemmas.Option.{same_Some}
use Rattle.std.proofs.lemmas.Slice.Eq.{bytes_eq-Decides}
use Rattle.list_laws.proofs.Bytes.{bytes_eq-same}
use Rattle.list_laws.proofs.Lists.{last_push, before_push}
use Rattle.link_arena.specs.NameTableNames.{with_name, IsOnce}

-- An element of a list with more behind it.

-- is one of the list, or one of those behind
pub at_append : {X : Type 0} (xs ys : List X) (i : ℕ) (x : X) → slice_get (xs ++ ys) i ≡ Some x
    → ((i < length xs) × (slice_get xs i ≡ Some x)) ⊎ ((k : ℕ) × (i ≡ length xs + k) × (slice_get ys k ≡ Some x))
at_append [] ys i x at = inr (i, omega arith, at)
at_append (y ∷ xs) ys zero x at = inl (omega arith, at)
at_append (y ∷ xs) ys (suc i) x at = elim (at_append xs ys i x at) [
  | inl before ↦ inl (omega (arith, before.0), before.1)
  | inr after ↦ inr (after.0, omega (arith, after.1), after.2)
]

-- One name.

-- the name is there where it is found
found_at : (name : List ℕ) (names : List (List ℕ)) → list_any (bytes_eq name) names ≡ true → (k : ℕ) × (slice_get names k ≡ Some name)
found_at name [] found = absurd (cc)
found_at name (n ∷ names) found = elim (cases_Bool (bytes_eq name n)) [
  | inl same ↦ (zero, ap (λ (m : List ℕ). Some m) (sym ((bytes_eq-Decides name n).0 same)))
  | inr other ↦ (let there = found_at name names (rw other at found) in (suc there.0, there.1))
]

-- and found where it is there
is_found : (name : List ℕ) (names : List (List ℕ)) (k : ℕ) → slice_get names k ≡ Some name → list_any (bytes_eq name) names ≡ false → ⊥
is_found name [] k at none = cc
is_found name (n ∷ names) zero at none =
    let same : n ≡ name = same_Some n name at in
    let yes : bytes_eq name n ≡ true = ap (bytes_eq name) same ∙ bytes_eq-same name in
    (let no : true ≡ false = rw yes at none in cc)
is_found name (n ∷ names) (suc k) at none = elim (cases_Bool (bytes_eq name n)) [
  | inl same ↦ (let no : true ≡ false = rw same at none in cc)
  | inr other ↦ is_found name names k at (rw other at none)
]

one_kept : (name : List ℕ) (names : List (List ℕ)) (k : ℕ) (bytes : List ℕ) → slice_get names k ≡ Some bytes → slice_get (with_name name names) k ≡ Some bytes
one_kept name names k bytes at = elim (cases_Bool (list_any (bytes_eq name) names)) [
  | inl there ↦ rw there at
  | inr new ↦ rw new (before_push names (name ∷ []) bytes k at)
]

-- a name of the table with one more is one of the table, or the new one behind it
record IsEnteredAs (name : List ℕ) (names : List (List ℕ)) (k : ℕ) (bytes : List ℕ) : Type 0 where
  same : bytes ≡ name
  last : k ≡ length names
  new : list_any (bytes_eq name) names ≡ false

pub only_at : {X : Type 0} (y x : X) (k : ℕ) → slice_get (y ∷ []) k ≡ Some x → (k ≡ 0) × (y ≡ x)
only_at y x zero at = (refl, same_Some y x at)
only_at y x (suc k) at = absurd (cc)

one_either : (name : List ℕ) (names : List (List ℕ)) (k : ℕ) (bytes : List ℕ) → slice_get (with_name name names) k ≡ Some bytes
    → (slice_get names k ≡ Some bytes) ⊎ IsEnteredAs name names k bytes
one_either name names k bytes at = elim (cases_Bool (list_any (bytes_eq name) names)) [
  | inl there ↦ inl (rw there at at)
  | inr new ↦ elim (at_append names (name ∷ []) k bytes (rw new at at)) [
    | inl before ↦ inl before.1
    | inr after ↦ (let only = only_at name bytes after.0 after.2 in inr (record { same = sym only.1; last = omega (arith, after.1, only.0); new = new }))
  ]
]

one_entered : (name : List ℕ) (names : List (List ℕ)) → (k : ℕ) × (slice_get (with_name name names) k ≡ Some name)
one_entered name names = elim (cases_Bool (list_any (bytes_eq name) names)) [
  | inl there ↦ (let at = found_at name names there in (at.0, rw there at.1))
  | inr new ↦ (length names, rw new (last_push names name))
]

one_once : (name : List ℕ) (names : List (List ℕ)) → IsOnce names → IsOnce (with_name name names)
one_once name names once i j bytes here there = elim (one_either name names i bytes here) [
  | inl a ↦ elim (one_either name names j bytes there) [
    | inl b ↦ once i j bytes a b
    | inr b ↦ absurd (is_found name names i (a ∙ ap (λ (m : List ℕ). Some m) b.same) b.new)
  ]
  | inr a ↦ elim (one_either name names j bytes there) [
    | inl b ↦ absurd (is_found name names j (b ∙ ap (λ (m : List ℕ). Some m) a.same) a.new)
    | inr b ↦ a.last ∙ sym b.last
  ]
]

-- Several names, in their order.

abbrev pub with_all : List (List ℕ) → List (List ℕ) → List (List ℕ)
with_all [] names = names
with_all (one ∷ more) names = with_all more (with_name one names)

pub all_kept : (more names : List (List ℕ)) (k : ℕ) (bytes : List ℕ) → slice_get names k ≡ Some bytes → slice_get (with_all more names) k ≡ Some bytes
all_kept [] names k bytes at = at
all_kept (one ∷ more) names k bytes at = all_kept more (with_name one names) k bytes (one_kept one names k bytes at)

pub all_once : (more names : List (List ℕ)) → IsOnce names → IsOnce (with_all more names)
all_once [] names once = once
all_once (one ∷ more) names once = all_once more (with_name one names) (one_once one names once)

pub all_entered : (more names : List (List ℕ)) (j : ℕ) (bytes : List ℕ) → slice_get more j ≡ Some bytes → (k : ℕ) × (slice_get (with_all more names) k ≡ Some bytes)
all_entered [] names j bytes at = absurd (cc)
all_entered (one ∷ more) names zero bytes at =
    let same : one ≡ bytes = same_Some one bytes at in
    let here = one_entered one names in
    (here.0, all_kept more (with_name one names) here.0 bytes (here.1 ∙ at))
all_entered (one ∷ more) names (suc j) bytes at = all_entered more (with_name one names) j bytes at

-- each is one of the table, or one of those that were entered
pub all_either : (more names : List (List ℕ)) (k : ℕ) (bytes : List ℕ) → slice_get (with_all more names) k ≡ Some bytes
    → (slice_get names k ≡ Some bytes) ⊎ ((j : ℕ) × (slice_get more j ≡ Some bytes))
all_either [] names k bytes at = inl at
all_either (one ∷ more) names k bytes at = elim (all_either more (with_name one names) k bytes at) [
  | inl before ↦ elim (one_either one names k bytes before) [
    | inl old ↦ inl old
    | inr new ↦ inr (zero, ap (λ (m : List ℕ). Some m) (sym new.same))
  ]
  | inr after ↦ inr (suc after.0, after.1)
]

-- the table is no shorter
pub no_shorter : (more names : List (List ℕ)) → length names ≤ length (with_all more names)
no_shorter more names = by names (with_all more names) (all_kept more names)
  where
    by : {X : Type 0} (xs ys : List X) → ((k : ℕ) (x : X) → slice_get xs k ≡ Some x → slice_get ys k ≡ Some x) → length xs ≤ length ys
    by [] ys kept = omega arith
    by (x ∷ xs) [] kept = absurd (let no : None ≡ Some x = kept zero x refl in cc)
    by (x ∷ xs) (y ∷ ys) kept = (let rest = by xs ys (λ k z at. kept (suc k) z at) in omega (arith, rest))
