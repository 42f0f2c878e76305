-- Rows in the order of their numbers.
use Rattle.std.proofs.Common.{◌≡◌, ℕ, suc, zero, ◌+◌, ◌<◌, ◌≤◌, List, [], ◌∷◌, Bool, true, false, cond, Option, Some, length, find, refl, sym, ap, subst, ◌∙◌, arith, eq-eqb, eqb-true, ltb-true, lt-ltb, add-one}
use Rattle.std.specs.Prelude.{◌==◌, ◌||◌, not, nat_lt}
use Rattle.std.specs.List.{list_any, filter_map, cons_option, AllByRecursion}
use Rattle.list_laws.proofs.Tests.{not_false, or_first, or_second, neither, or_more}
use Rattle.list_laws.proofs.Numbers.{eqb-sym, eqb_less}
use Rattle.list_laws.proofs.Options.{found}
use Rattle.list_laws.proofs.Lists.{each_fails}
use Rattle.bsdl_device.specs.declared.entries.RowEntry.{RowEntry}
use Rattle.bsdl_device.specs.Ports.{counted_from}
use Rattle.bsdl_device.specs.Checks.{any_pair, is_numbered}
use Rattle.bsdl_device.specs.Denoted.{ordered_rows}
use Rattle.bsdl_device.proofs.Totals.{weigh, tally, none_any, Shuffled}
use Rattle.bsdl_device.proofs.Chosen.{chosen_shuffled}
use Rattle.bsdl_device.proofs.RoundTripNames.{some_found, all_to}

-- Tests of numbers.

-- Each number once.

number_at_most_once : (rows : List RowEntry) → any_pair (λ (r : RowEntry) (s : RowEntry). r.number == s.number) rows ≡ false → (n : ℕ) → tally (is_numbered n) rows ≤ 1
number_at_most_once [] h n = omega arith
number_at_most_once (r ∷ rs) h n = by (r.number == n) refl (number_at_most_once rs (or_second (list_any (λ (s : RowEntry). r.number == s.number) rs) (any_pair (λ (q : RowEntry) (s : RowEntry). q.number == s.number) rs) h) n)
  where
    others : (ss : List RowEntry) → r.number ≡ n → list_any (λ (s : RowEntry). r.number == s.number) ss ≡ false → list_any (is_numbered n) ss ≡ false
    others [] is apart = refl
    others (s ∷ ss) is apart = neither (s.number == n) (list_any (is_numbered n) ss)
        (eqb-sym s.number n ∙ ap (λ (k : ℕ). k == s.number) (sym is) ∙ or_first (r.number == s.number) (list_any (λ (q : RowEntry). r.number == q.number) ss) apart)
        (others ss is (or_second (r.number == s.number) (list_any (λ (q : RowEntry). r.number == q.number) ss) apart))

    by : (b : Bool) → (r.number == n) ≡ b → tally (is_numbered n) rs ≤ 1 → weigh (r.number == n) 1 + tally (is_numbered n) rs ≤ 1
    by true is rest =
        let none : tally (is_numbered n) rs ≡ 0 = none_any (is_numbered n) rs (others rs (eqb-true r.number n is) (or_first (list_any (λ (s : RowEntry). r.number == s.number) rs) (any_pair (λ (q : RowEntry) (s : RowEntry). q.number == s.number) rs) h)) in
        let one : weigh (r.number == n) 1 ≡ 1 = ap (λ (b : Bool). weigh b 1) is in omega arith
    by false is rest = let one : weigh (r.number == n) 1 ≡ 0 = ap (λ (b : Bool). weigh b 1) is in omega arith

-- a number below a count is counted once
counted_past : (k first n : ℕ) → k < first → tally (λ m. k == m) (counted_from first n) ≡ 0
counted_past k first zero h = refl
counted_past k first (suc n) h =
    let here : weigh (k == first) 1 ≡ 0 = ap (λ (b : Bool). weigh b 1) (eqb_less k first h) in
    let rest : tally (λ m. k == m) (counted_from (suc first) n) ≡ 0 = counted_past k (suc first) n (omega (arith, add-one first)) in omega arith

above : (a b : ℕ) → b ≤ a → (a ≡ b → ⊥) → suc b ≤ a
above a b le apart = grind (arith, apart)

counted_once : (k first n : ℕ) → first ≤ k → k < first + n → tally (λ m. k == m) (counted_from first n) ≡ 1
counted_once k first zero low high = absurd (omega arith)
counted_once k first (suc n) low high = by (k == first) refl (counted_once k (suc first) n)
  where
    by : (b : Bool) → (k == first) ≡ b → (suc first ≤ k → k < suc first + n → tally (λ m. k == m) (counted_from (suc first) n) ≡ 1) → weigh (k == first) 1 + tally (λ m. k == m) (counted_from (suc first) n) ≡ 1
    by true is rest =
        let same : k ≡ first = eqb-true k first is in
        let one : weigh (k == first) 1 ≡ 1 = ap (λ (b : Bool). weigh b 1) is in
        let none : tally (λ m. k == m) (counted_from (suc first) n) ≡ 0 = counted_past k (suc first) n (omega arith) in omega arith
    by false is rest =
        let one : weigh (k == first) 1 ≡ 0 = ap (λ (b : Bool). weigh b 1) is in
        let apart : k ≡ first → ⊥ = λ same. (let t : (k == first) ≡ true = eq-eqb k first same in absurd (cc)) in
        let all : tally (λ m. k == m) (counted_from (suc first) n) ≡ 1 = rest (above k first low apart) (omega arith) in omega arith

-- The rows of a count: numbered below it, each number once.

pub record CountedRows (count : ℕ) (rows : List RowEntry) : Type 0 where
  pub below : list_any (λ (r : RowEntry). not (nat_lt r.number count)) rows ≡ false
  pub apart : any_pair (λ (r : RowEntry) (s : RowEntry). r.number == s.number) rows ≡ false
  pub each : list_any (λ number. not (list_any (is_numbered number) rows)) (counted_from 0 count) ≡ false

some_any : {A : Type 0} (test : A → Bool) (xs : List A) → list_any test xs ≡ true → 1 ≤ tally test xs
some_any test [] h = absurd (cc)
some_any test (x ∷ xs) h = by (test x) (some_any test xs) h
  where
    by : (b : Bool) → (list_any test xs ≡ true → 1 ≤ tally test xs) → (b || list_any test xs) ≡ true → 1 ≤ weigh b 1 + tally test xs
    by true rest k = omega arith
    by false rest k = omega (arith, rest k)

one_row : (rows : List RowEntry) → any_pair (λ (r : RowEntry) (s : RowEntry). r.number == s.number) rows ≡ false → (n : ℕ) → not (list_any (is_numbered n) rows) ≡ false → tally (is_numbered n) rows ≡ 1
one_row rows apart n h =
    let most : tally (is_numbered n) rows ≤ 1 = number_at_most_once rows apart n in
    let least : 1 ≤ tally (is_numbered n) rows = some_any (is_numbered n) rows (not_false (list_any (is_numbered n) rows) h) in omega arith

rows_each : (count : ℕ) (rows : List RowEntry) → CountedRows count rows → AllByRecursion (λ n. tally (is_numbered n) rows ≡ 1) (counted_from 0 count)
rows_each count rows c = all_to (counted_from 0 count) (one_row rows c.apart) (each_fails (λ number. not (list_any (is_numbered number) rows)) (counted_from 0 count) c.each)

below_once : (count : ℕ) (r : RowEntry) → not (nat_lt r.number count) ≡ false → tally (λ n. is_numbered n r) (counted_from 0 count) ≡ 1
below_once count r h = counted_once r.number 0 count (omega arith) (let low : r.number < count = ltb-true r.number count (not_false (nat_lt r.number count) h) in omega arith)

pub ordered_shuffled : (count : ℕ) (rows : List RowEntry) → CountedRows count rows → Shuffled (ordered_rows count rows) rows
ordered_shuffled count rows c = chosen_shuffled is_numbered (counted_from 0 count) rows (rows_each count rows c) (all_to rows (below_once count) (each_fails (λ (r : RowEntry). not (nat_lt r.number count)) rows c.below))

-- In order.

-- the numbers of the rows go up by one from this number on
abbrev pub NumberedFrom : ℕ → List RowEntry → Type 0
NumberedFrom first [] = Unit {0}
NumberedFrom first (r ∷ rs) = (r.number ≡ first) × NumberedFrom (suc first) rs

-- so many rows, in order
pub record InOrder (first count : ℕ) (rows : List RowEntry) : Type 0 where
  pub numbered : NumberedFrom first rows
  pub many : length rows ≡ count

in_order : (rows : List RowEntry) (first n : ℕ) → AllByRecursion (λ k. tally (is_numbered k) rows ≡ 1) (counted_from first n) → InOrder first n (filter_map (λ k. find (is_numbered k) rows) (counted_from first n))
in_order rows first zero all = record { numbered = tt; many = refl }
in_order rows first (suc n) all =
    let seen = some_found (is_numbered first) rows (let one : tally (is_numbered first) rows ≡ 1 = all.0 in omega arith) in
    let number : seen.0.number ≡ first = eqb-true seen.0.number first (found (is_numbered first) rows seen.0 seen.1) in
    let rest = in_order rows (suc first) n all.1 in
    subst (λ (o : Option RowEntry). InOrder first (suc n) (cons_option o (filter_map (λ k. find (is_numbered k) rows) (counted_from (suc first) n)))) (sym seen.1)
    (record { numbered = (number, rest.numbered); many = ap (λ (k : ℕ). suc k) rest.many })

pub ordered_in_order : (count : ℕ) (rows : List RowEntry) → CountedRows count rows → InOrder 0 count (ordered_rows count rows)
ordered_in_order count rows c = in_order rows 0 count (rows_each count rows c)

-- Rows in order are chosen in order.

skips_first : (r : RowEntry) (rs : List RowEntry) (first k n : ℕ) → r.number ≡ first → first < k → filter_map (λ m. find (is_numbered m) (r ∷ rs)) (counted_from k n) ≡ filter_map (λ m. find (is_numbered m) rs) (counted_from k n)
skips_first r rs first k zero is low = refl
skips_first r rs first k (suc n) is low =
    ap (λ (b : Bool). cons_option (cond b (Some r) (find (is_numbered k) rs)) (filter_map (λ m. find (is_numbered m) (r ∷ rs)) (counted_from (suc k) n))) (eqb_less r.number k (omega arith))
    ∙ ap (λ (l : List RowEntry). cons_option (find (is_numbered k) rs) l) (skips_first r rs first (suc k) n is (omega (arith, add-one k)))

chosen_in_order : (first : ℕ) (rows : List RowEntry) → NumberedFrom first rows → filter_map (λ m. find (is_numbered m) rows) (counted_from first (length rows)) ≡ rows
chosen_in_order first [] numbered = refl
chosen_in_order first (r ∷ rs) numbered =
    ap (λ (b : Bool). cons_option (cond b (Some r) (find (is_numbered first) rs)) (filter_map (λ m. find (is_numbered m) (r ∷ rs)) (counted_from (suc first) (length rs)))) (eq-eqb r.number first numbered.0)
    ∙ ap (λ (l : List RowEntry). r ∷ l) (skips_first r rs first (suc first) (length rs) numbered.0 (omega (arith, add-one first)) ∙ chosen_in_order (suc first) rs numbered.1)

pub ordered_again : (count : ℕ) (rows : List RowEntry) → InOrder 0 count rows → ordered_rows count rows ≡ rows
ordered_again count rows o = ap (λ (n : ℕ). ordered_rows n rows) (sym o.many) ∙ chosen_in_order 0 rows o.numbered

-- Rows in order keep the rules on their numbers.

numbered_below : (count first : ℕ) (rows : List RowEntry) → NumberedFrom first rows → first + length rows ≤ count → list_any (λ (r : RowEntry). not (nat_lt r.number count)) rows ≡ false
numbered_below count first [] numbered fits = refl
numbered_below count first (r ∷ rs) numbered fits =
    let number : r.number ≡ first = numbered.0 in
    let low : r.number < count = omega arith in
    neither (not (nat_lt r.number count)) (list_any (λ (s : RowEntry). not (nat_lt s.number count)) rs) (ap not (lt-ltb r.number count low)) (numbered_below count (suc first) rs numbered.1 (omega arith))

numbered_past : (n first : ℕ) (rows : List RowEntry) → NumberedFrom first rows → n < first → list_any (λ (s : RowEntry). n == s.number) rows ≡ false
numbered_past n first [] numbered low = refl
numbered_past n first (r ∷ rs) numbered low =
    let number : r.number ≡ first = numbered.0 in
    neither (n == r.number) (list_any (λ (s : RowEntry). n == s.number) rs) (eqb_less n r.number (omega arith)) (numbered_past n (suc first) rs numbered.1 (omega arith))

numbered_apart : (first : ℕ) (rows : List RowEntry) → NumberedFrom first rows → any_pair (λ (r : RowEntry) (s : RowEntry). r.number == s.number) rows ≡ false
numbered_apart first [] numbered = refl
numbered_apart first (r ∷ rs) numbered =
    let number : r.number ≡ first = numbered.0 in
    neither (list_any (λ (s : RowEntry). r.number == s.number) rs) (any_pair (λ (q : RowEntry) (s : RowEntry). q.number == s.number) rs) (numbered_past r.number (suc first) rs numbered.1 (omega arith)) (numbered_apart (suc first) rs numbered.1)

numbered_each : (all : List RowEntry) (first : ℕ) (rows : List RowEntry) → NumberedFrom first rows → ((n : ℕ) → list_any (is_numbered n) rows ≡ true → list_any (is_numbered n) all ≡ true) → list_any (λ number. not (list_any (is_numbered number) all)) (counted_from first (length rows)) ≡ false
numbered_each all first [] numbered part = refl
numbered_each all first (r ∷ rs) numbered part =
    neither (not (list_any (is_numbered first) all)) (list_any (λ number. not (list_any (is_numbered number) all)) (counted_from (suc first) (length rs)))
    (ap not (part first (ap (λ (b : Bool). b || list_any (is_numbered first) rs) (eq-eqb r.number first numbered.0))))
    (numbered_each all (suc first) rs numbered.1 (λ n h. part n (or_more (r.number == n) (list_any (is_numbered n) rs) h)))

pub counted_again : (count : ℕ) (rows : List RowEntry) → InOrder 0 count rows → CountedRows count rows
counted_again count rows o =
    let many : length rows ≡ count = o.many in record {
      below = numbered_below count 0 rows o.numbered (omega arith);
      apart = numbered_apart 0 rows o.numbered;
      each = ap (λ (n : ℕ). list_any (λ number. not (list_any (is_numbered number) rows)) (counted_from 0 n)) (sym many) ∙ numbered_each rows 0 rows o.numbered (λ n h. h);
    }
