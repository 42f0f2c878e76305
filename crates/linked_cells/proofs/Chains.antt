-- Chains of linked slots: joined, cut, and written at one slot.
use Rattle.std.proofs.Common.{◌≡◌, ◌≢◌, ◌⊎◌, inl, inr, ℕ, zero, suc, ◌≤◌, List, [], ◌∷◌, ◌++◌, length, refl, sym, ◌∙◌, arith, ap, Option, Some, None, length-append, append_assoc}
use Rattle.std.proofs.lemmas.Bool.{cases_eq}
use Rattle.std.specs.List.{slice_get}
use Rattle.netlist_model.specs.declared.Reader.{Reader}
use Rattle.linked_cells.specs.Links.{Slot, Slots, first_or, last_or, slot_on, Chain, Stands, walk_from, Writes, WritesBefore, WritesAfter, SetsBefore, SetsAfter}

pub reader_of : ℕ → ℕ → Reader
reader_of number place = record { cell = record { 0 = number }; place = place }

pub reader_cases : (a b : Reader) → (a ≡ b) ⊎ (a ≢ b)
reader_cases a b =
    elim (cases_eq a.cell.0 b.cell.0) [
      | inl number ↦ elim (cases_eq a.place b.place) [
        | inl place ↦ (let on_number : ℕ → Reader = λ n. record { cell = record { 0 = n }; place = a.place } in
            let on_place : ℕ → Reader = λ p. record { cell = b.cell; place = p } in
            let first : a ≡ on_place a.place = ap on_number number in
            let second : on_place a.place ≡ b = ap on_place place in
            inl (first ∙ second))
        | inr differ ↦ inr (λ e. differ (ap (λ (r : Reader). r.place) e))
      ]
      | inr differ ↦ inr (λ e. differ (ap (λ (r : Reader). r.cell.0) e))
    ]

pub first_or-append : (xs ys : List Reader) (after : Option Reader) → first_or (xs ++ ys) after ≡ first_or xs (first_or ys after)
first_or-append [] ys after = refl
first_or-append (x ∷ xs) ys after = refl

pub last_or-push : (before : Option Reader) (xs : List Reader) (x : Reader) → last_or before (xs ++ x ∷ []) ≡ Some x
last_or-push before [] x = refl
last_or-push before (y ∷ xs) x = last_or-push (Some y) xs x

-- where the reader stands in one of two lists, or at the head

pub stands_here : (x : Reader) (xs : List Reader) → Stands (x ∷ xs) x
stands_here x xs = record { front = []; back = xs; is = refl }

pub stands_later : (x : Reader) (xs : List Reader) (r : Reader) → Stands xs r → Stands (x ∷ xs) r
stands_later x xs r s = record { front = x ∷ s.front; back = s.back; is = ap (λ (l : List Reader). x ∷ l) s.is }

pub stands_left : (xs ys : List Reader) (r : Reader) → Stands xs r → Stands (xs ++ ys) r
stands_left xs ys r s = record { front = s.front; back = s.back ++ ys; is = rw (s.is, append_assoc) refl }

pub stands_right : (xs ys : List Reader) (r : Reader) → Stands ys r → Stands (xs ++ ys) r
stands_right xs ys r s = record { front = xs ++ s.front; back = s.back; is = rw (s.is, append_assoc) refl }

pub stands_nowhere : (r : Reader) → Stands [] r → ⊥
stands_nowhere r s = none s.front s.is
  where
    none : (front : List Reader) → [] ≡ front ++ r ∷ s.back → ⊥
    none [] e = cc
    none (x ∷ front) e = cc

pub stands_cases : (x : Reader) (xs : List Reader) (r : Reader) → Stands (x ∷ xs) r → (r ≡ x) ⊎ Stands xs r
stands_cases x xs r s = by_front s.front s.is
  where
    by_front : (front : List Reader) → x ∷ xs ≡ front ++ r ∷ s.back → (r ≡ x) ⊎ Stands xs r
    by_front [] e = inl (cc)
    by_front (y ∷ front) e = inr (record { front = front; back = s.back; is = cc })

pub stands_split : (xs ys : List Reader) (r : Reader) → Stands (xs ++ ys) r → Stands xs r ⊎ Stands ys r
stands_split [] ys r s = inr s
stands_split (x ∷ xs) ys r s =
    elim (stands_cases x (xs ++ ys) r s) [
      | inl here ↦ inl (rw here (stands_here x xs))
      | inr later ↦ elim (stands_split xs ys r later) [
        | inl left ↦ inl (stands_later x xs r left)
        | inr right ↦ inr right
      ]
    ]

pub stands_last : (before : Option Reader) (xs : List Reader) (r : Reader) → last_or before xs ≡ Some r → (before ≡ Some r) ⊎ Stands xs r
stands_last before [] r e = inl e
stands_last before (x ∷ xs) r e =
    elim (stands_last (Some x) xs r e) [
      | inl here ↦ (let same : r ≡ x = cc in inr (rw same (stands_here x xs)))
      | inr later ↦ inr (stands_later x xs r later)
    ]

-- chains

pub chain_frame : (old new : Slots) (net : ℕ) (before : Option Reader) (xs : List Reader) (after : Option Reader) → ((r : Reader) → Stands xs r → new r ≡ old r)
    → Chain old net before xs after → Chain new net before xs after
chain_frame old new net before [] after same c = tt
chain_frame old new net before (x ∷ xs) after same c =
    (same x (stands_here x xs) ∙ c.0, chain_frame old new net (Some x) xs after (λ r s. same r (stands_later x xs r s)) c.1)

pub chain_front : (slots : Slots) (net : ℕ) (before : Option Reader) (xs ys : List Reader) (after : Option Reader) → Chain slots net before (xs ++ ys) after → Chain slots net before xs (first_or ys after)
chain_front slots net before [] ys after c = tt
chain_front slots net before (x ∷ xs) ys after c =
    (c.0 ∙ ap (λ (o : Option Reader). Some (slot_on net before o)) (first_or-append xs ys after), chain_front slots net (Some x) xs ys after c.1)

pub chain_back : (slots : Slots) (net : ℕ) (before : Option Reader) (xs ys : List Reader) (after : Option Reader) → Chain slots net before (xs ++ ys) after → Chain slots net (last_or before xs) ys after
chain_back slots net before [] ys after c = c
chain_back slots net before (x ∷ xs) ys after c = chain_back slots net (Some x) xs ys after c.1

pub chain_join : (slots : Slots) (net : ℕ) (before : Option Reader) (xs ys : List Reader) (after : Option Reader) → Chain slots net before xs (first_or ys after) → Chain slots net (last_or before xs) ys after
    → Chain slots net before (xs ++ ys) after
chain_join slots net before [] ys after front back = back
chain_join slots net before (x ∷ xs) ys after front back =
    (front.0 ∙ ap (λ (o : Option Reader). Some (slot_on net before o)) (sym (first_or-append xs ys after)), chain_join slots net (Some x) xs ys after front.1 back)

-- the slot of one that stands in a chain
pub chain_at : (slots : Slots) (net : ℕ) (before : Option Reader) (xs : List Reader) (after : Option Reader) (r : Reader) → Chain slots net before xs after → (s : Stands xs r)
    → slots r ≡ Some (slot_on net (last_or before s.front) (first_or s.back after))
chain_at slots net before xs after r c s =
    let there = rw s.is at c in
    let back = chain_back slots net before s.front (r ∷ s.back) after there in back.0

-- two chains that start at one slot and end are the same
pub chain_determined : (slots : Slots) (m n : ℕ) (a b : Option Reader) (xs ys : List Reader) → Chain slots m a xs None → Chain slots n b ys None → first_or xs None ≡ first_or ys None → xs ≡ ys
chain_determined slots m n a b [] [] c d e = refl
chain_determined slots m n a b [] (y ∷ ys) c d e = absurd (cc)
chain_determined slots m n a b (x ∷ xs) [] c d e = absurd (cc)
chain_determined slots m n a b (x ∷ xs) (y ∷ ys) c d e =
    let same : x ≡ y = cc in
    let at_x = c.0 in
    let at_y = d.0 in
    let slot : Some (slot_on m a (first_or xs None)) ≡ Some (slot_on n b (first_or ys None)) = sym at_x ∙ ap slots same ∙ at_y in
    let on : slot_on m a (first_or xs None) ≡ slot_on n b (first_or ys None) = cc in
    let next : first_or xs None ≡ first_or ys None = ap (λ (s : Slot). s.after) on in
    let rest = chain_determined slots m n (Some x) (Some y) xs ys c.1 d.1 next in
    rw (same, rest) refl

not_longer : (xs : List Reader) (front back : List Reader) (r : Reader) → xs ≡ front ++ r ∷ xs → ⊥
not_longer xs front back r e =
    let lengths = ap (λ (l : List Reader). length l) e in
    let sum = length-append front (r ∷ xs) in omega (arith, lengths, sum)

-- no slot stands twice in a chain that ends
pub chain_once : (slots : Slots) (net : ℕ) (before : Option Reader) (r : Reader) (rs : List Reader) → Chain slots net before (r ∷ rs) None → Stands rs r → ⊥
chain_once slots net before r rs c s =
    let tail = rw s.is at c.1 in
    let back = chain_back slots net (Some r) s.front (r ∷ s.back) None tail in
    let same : r ∷ rs ≡ r ∷ s.back = chain_determined slots net net before (last_or (Some r) s.front) (r ∷ rs) (r ∷ s.back) c back refl in
    let rest : rs ≡ s.back = cc in
    not_longer rs s.front s.back r (s.is ∙ ap (λ (l : List Reader). s.front ++ r ∷ l) (sym rest))

pub chain_apart : (slots : Slots) (net : ℕ) (before : Option Reader) (xs ys : List Reader) (r : Reader) → Chain slots net before (xs ++ ys) None → Stands xs r → Stands ys r → ⊥
chain_apart slots net before [] ys r c a b = stands_nowhere r a
chain_apart slots net before (x ∷ xs) ys r c a b =
    elim (stands_cases x xs r a) [
      | inl here ↦ chain_once slots net before x (xs ++ ys) c (rw here at (stands_right xs ys r b))
      | inr later ↦ chain_apart slots net (Some x) xs ys r c.1 later b
    ]

pub writes_before : (old new : Slots) (r : Reader) (before : Option Reader) (slot : Slot) → old r ≡ Some slot → WritesBefore old new r before → Writes old new r (record slot { before = before })
writes_before old new r before slot at sets =
    let was = sets.was in
    let same : sets.slot ≡ slot = cc in
    rw same at sets.writes

pub writes_after : (old new : Slots) (r : Reader) (after : Option Reader) (slot : Slot) → old r ≡ Some slot → WritesAfter old new r after → Writes old new r (record slot { after = after })
writes_after old new r after slot at sets =
    let was = sets.was in
    let same : sets.slot ≡ slot = cc in
    rw same at sets.writes

-- the link back of the first is written
pub chain_rebefore : (old new : Slots) (net : ℕ) (before : Option Reader) (xs : List Reader) (before' : Option Reader) → Chain old net before xs None → SetsBefore old new (first_or xs None) before'
    → Chain new net before' xs None
chain_rebefore old new net before [] before' c sets = tt
chain_rebefore old new net before (x ∷ xs) before' c sets =
    let written = writes_before old new x before' (slot_on net before (first_or xs None)) c.0 sets in
    (written.here, chain_frame old new net (Some x) xs None (λ r s. written.others r (λ e. chain_once old net before x xs c (rw e at s))) c.1)

-- the link forward of the last is written
pub chain_reafter : (old new : Slots) (net : ℕ) (before : Option Reader) (xs : List Reader) (x : Reader) (after after' : Option Reader) → Chain old net before (xs ++ x ∷ []) after → (Stands xs x → ⊥)
    → SetsAfter old new (Some x) after' → Chain new net before (xs ++ x ∷ []) after'
chain_reafter old new net before xs x after after' c apart sets =
    let front = chain_front old net before xs (x ∷ []) after c in
    let back = chain_back old net before xs (x ∷ []) after c in
    let written = writes_after old new x after' (slot_on net (last_or before xs) after) back.0 sets in
    let same : (r : Reader) → Stands xs r → new r ≡ old r = (λ r s. written.others r (λ e. apart (rw e at s))) in
    chain_join new net before xs (x ∷ []) after' (chain_frame old new net before xs (Some x) same front) (written.here, tt)

-- a list is empty or has a last element
pub record Last (xs : List Reader) : Type 0 where
  pub front : List Reader
  pub last : Reader
  pub is : xs ≡ front ++ last ∷ []

pub last_cases : (x : Reader) (xs : List Reader) → Last (x ∷ xs)
last_cases x [] = record { front = []; last = x; is = refl }
last_cases x (y ∷ ys) =
    let rest = last_cases y ys in
    record { front = x ∷ rest.front; last = rest.last; is = ap (λ (l : List Reader). x ∷ l) rest.is }

-- the walk along the links
pub walk_is : (slots : Slots) (net : ℕ) (before : Option Reader) (xs : List Reader) (fuel : ℕ) → Chain slots net before xs None → length xs ≤ fuel → walk_from slots fuel (first_or xs None) ≡ xs
walk_is slots net before [] zero c short = refl
walk_is slots net before [] (suc fuel) c short = refl
walk_is slots net before (x ∷ xs) zero c short = absurd (omega arith)
walk_is slots net before (x ∷ xs) (suc fuel) c short =
    let rest = walk_is slots net (Some x) xs fuel c.1 (omega arith) in
    let at = c.0 in rw at (ap (λ (l : List Reader). x ∷ l) rest)

-- by places
pub stands_at : (xs : List Reader) (k : ℕ) (r : Reader) → slice_get xs k ≡ Some r → (s : Stands xs r) × (length s.front ≡ k)
stands_at [] k r e = absurd (cc)
stands_at (x ∷ xs) zero r e = let same : x ≡ r = cc in (record { front = []; back = xs; is = ap (λ (y : Reader). y ∷ xs) same }, refl)
stands_at (x ∷ xs) (suc k) r e =
    let rest = stands_at xs k r e in
    (record { front = x ∷ rest.0.front; back = rest.0.back; is = ap (λ (l : List Reader). x ∷ l) rest.0.is }, ap (λ (n : ℕ). suc n) rest.1)

pub at_stands : (xs : List Reader) (r : Reader) → (s : Stands xs r) → slice_get xs (length s.front) ≡ Some r
at_stands xs r s = rw s.is (there s.front)
  where
    there : (front : List Reader) → slice_get (front ++ r ∷ s.back) (length front) ≡ Some r
    there [] = refl
    there (x ∷ front) = there front
