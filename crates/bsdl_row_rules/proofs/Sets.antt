-- Numbers that were put into a set.
use Rattle.std.proofs.Common.{◌≡◌, ℕ, Bool, true, false, List, [], ◌∷◌, ◌++◌, ◌||◌, ◌==◌, nat_eq, not, map, if◌then◌else◌, refl, ap, ◌∙◌, eqb-true}
use Rattle.std.specs.List.{list_any}
use Rattle.std.proofs.lemmas.List.Folds.{list_any-append}
use Rattle.indexmap.specs.IndexSet.{insert_key}
use Rattle.list_laws.proofs.Numbers.{eqb-sym}
use Rattle.list_laws.proofs.Lists.{any_same}
use Rattle.bsdl_device.specs.declared.entries.RowEntry.{RowEntry}
use Rattle.bsdl_device.specs.Checks.{any_pair, is_numbered}

absorbed : (a b : Bool) → (b ≡ true → a ≡ true) → a ≡ (a || (b || false))
absorbed true b h = refl
absorbed false true h = h refl
absorbed false false h = refl

-- a set with one number more
pub inserted : (ks : List ℕ) (k n : ℕ) → list_any (nat_eq n) (insert_key nat_eq ks k) ≡ (list_any (nat_eq n) ks || (nat_eq n k || false))
inserted ks k n = by (list_any (nat_eq k) ks) refl
  where
    same : list_any (nat_eq k) ks ≡ true → nat_eq n k ≡ true → list_any (nat_eq n) ks ≡ true
    same e f = ap (λ (m : ℕ). list_any (nat_eq m) ks) (eqb-true n k f) ∙ e

    by : (b : Bool) → list_any (nat_eq k) ks ≡ b → list_any (nat_eq n) (if b then ks else ks ++ k ∷ []) ≡ (list_any (nat_eq n) ks || (nat_eq n k || false))
    by true e = absorbed (list_any (nat_eq n) ks) (nat_eq n k) (same e)
    by false e = list_any-append (nat_eq n) ks (k ∷ [])

-- pairs and tests by a number of each item
any_key : {A : Type 0} (key : A → ℕ) (n : ℕ) → (xs : List A) → list_any (nat_eq n) (map key xs) ≡ list_any (λ x. nat_eq n (key x)) xs
any_key key n [] = refl
any_key key n (x ∷ xs) = ap (λ b. nat_eq n (key x) || b) (any_key key n xs)

pub any_pair_key : {A : Type 0} (key : A → ℕ) → (xs : List A) → any_pair nat_eq (map key xs) ≡ any_pair (λ x y. nat_eq (key x) (key y)) xs
any_pair_key key [] = refl
any_pair_key key (x ∷ xs) = ap (λ b. b || any_pair nat_eq (map key xs)) (any_key key (key x) xs) ∙ ap (λ b. list_any (λ y. nat_eq (key x) (key y)) xs || b) (any_pair_key key xs)

pub any_key_flipped : {A : Type 0} (key : A → ℕ) (n : ℕ) → (xs : List A) → list_any (nat_eq n) (map key xs) ≡ list_any (λ x. nat_eq (key x) n) xs
any_key_flipped key n [] = refl
any_key_flipped key n (x ∷ xs) = ap (λ b. b || list_any (nat_eq n) (map key xs)) (eqb-sym n (key x)) ∙ ap (λ b. nat_eq (key x) n || b) (any_key_flipped key n xs)

pub row_number_twice : (rows : List RowEntry) → any_pair nat_eq (map (λ (r : RowEntry). r.number) rows) ≡ any_pair (λ (r : RowEntry) (s : RowEntry). r.number == s.number) rows
row_number_twice rows = any_pair_key (λ (r : RowEntry). r.number) rows

pub missing_alike : (ks ns : List ℕ) → ((n : ℕ) → list_any (nat_eq n) ks ≡ list_any (nat_eq n) ns) → (xs : List ℕ) → list_any (λ n. not (list_any (nat_eq n) ks)) xs ≡ list_any (λ n. not (list_any (nat_eq n) ns)) xs
missing_alike ks ns same xs = any_same (λ n. not (list_any (nat_eq n) ks)) (λ n. not (list_any (nat_eq n) ns)) (λ n. ap not (same n)) xs

pub missing_by_rows : (rows : List RowEntry) (xs : List ℕ) → list_any (λ n. not (list_any (nat_eq n) (map (λ (r : RowEntry). r.number) rows))) xs ≡ list_any (λ n. not (list_any (is_numbered n) rows)) xs
missing_by_rows rows xs =
    any_same (λ n. not (list_any (nat_eq n) (map (λ (r : RowEntry). r.number) rows))) (λ n. not (list_any (is_numbered n) rows)) (λ n. ap not (any_key_flipped (λ (r : RowEntry). r.number) n rows)) xs
