-- Digits that are an index of a range.
use Rattle.std.proofs.Common.{◌≡◌, ℕ, zero, suc, ◌+◌, ◌-◌, ◌*◌, ◌^◌, ◌<◌, ◌≤◌, min, Bool, true, false, ◌&&◌, ◌||◌, if◌then◌else◌, List, [], ◌∷◌, ◌++◌, take, get_or, length, Option, Some, refl, sym, ap, ◌∙◌, arith, le-leb, leb-true, leb-false, inl, inr}
use Rattle.std.specs.Prelude.{nat_le, ◌⊎◌}
use Rattle.std.specs.List.{list_any, filter_map}
use Rattle.std.specs.Fmt.{decimal}
use Rattle.std.specs.Str.{bytes_eq}
use Rattle.std.specs.Cmp.Lexicographic.{bytes_decides}
use Rattle.std.proofs.lemmas.List.{take_more}
use Rattle.list_laws.specs.Digits.{value_after}
use Rattle.list_laws.specs.Lists.{counted_from}
use Rattle.list_laws.proofs.Digits.{decimal_digits, push_value}
use Rattle.list_laws.proofs.Numbers.{below_or_not}
use Rattle.list_laws.proofs.Tests.{both_true, never_true, or_more, true_or_false}
use Rattle.verilog_tree.specs.declared.tree.Range.{Range}
use Rattle.link_model.specs.Nets.{is_within, index_at, width}
use Rattle.box_model.specs.Ports.{indexes_of}
use Rattle.box_trees.specs.HiddenNames.{holds_digits}

-- The value of digits, up to the greatest that there is.

grown : (v w m d : ℕ) → v ≡ min w m → min (min (v * 10) m + d) m ≡ min (10 * w + d) m
grown v w m d is = omega (arith, is)

pub value_next : (digits : List ℕ) (i v new : ℕ) → i < length digits → v ≡ min (value_after 10 0 (take i digits)) 4294967295
    → new ≡ min (min (v * 10) 4294967295 + (get_or digits i 0 - 48)) 4294967295 → new ≡ min (value_after 10 0 (take (i + 1) digits)) 4294967295
value_next digits i v new low was is =
    is ∙ grown v (value_after 10 0 (take i digits)) 4294967295 (get_or digits i 0 - 48) was
    ∙ ap (λ (n : ℕ). min n 4294967295) (sym (ap (value_after 10 0) (take_more digits i 0 low) ∙ push_value 10 0 (take i digits) (get_or digits i 0)))

-- Indexes of a range.

any_index : (test : ℕ → Bool) (r : Range) (first n k i : ℕ) → first ≤ k → k < first + n → index_at (Some r) k ≡ Some i → test i ≡ true
    → list_any test (filter_map (λ j. index_at (Some r) j) (counted_from first n)) ≡ true
any_index test r first zero k i low high at passes = absurd (omega (arith, low, high))
any_index test r first (suc n) k i low high at passes = by (below_or_not first k) (λ more. any_index test r (suc first) n k i more (omega (arith, high)) at passes)
  where
    here : ℕ
    here = if nat_le r.left r.right then r.left + first else r.left - first

    behind : List ℕ
    behind = filter_map (λ j. index_at (Some r) j) (counted_from (suc first) n)

    by : (first < k) ⊎ (k ≤ first) → (suc first ≤ k → list_any test behind ≡ true) → list_any test (filter_map (λ j. index_at (Some r) j) (counted_from first (suc n))) ≡ true
    by (inl less) rest = or_more (test here) (list_any test behind) (rest (omega (arith, less)))
    by (inr more) rest =
        let e : first ≡ k = omega (arith, low, more) in
        let same : Some here ≡ Some i = ap (index_at (Some r)) e ∙ at in
        let is : here ≡ i = cc in
        ap (λ (b : Bool). b || list_any test behind) (ap test is ∙ passes)

-- an index within a range stands at a place
place_in : (r : Range) (v : ℕ) → is_within r v ≡ true → (k : ℕ) × (k < width (Some r)) × (index_at (Some r) k ≡ Some v)
place_in r v within = (k, inside, at (nat_le r.left r.right) refl)
  where
    k : ℕ
    k = (r.left - v) + (v - r.left)

    inside : k < (r.left - r.right) + (r.right - r.left) + 1
    inside = grind (arith, within)

    at : (b : Bool) → nat_le r.left r.right ≡ b → Some (if nat_le r.left r.right then r.left + k else r.left - k) ≡ Some v
    at true e = let is : r.left + k ≡ v = grind (arith, within, e) in ap (λ (b : Bool). Some (if b then r.left + k else r.left - k)) e ∙ ap (λ (x : ℕ). Some x) is
    at false e = let is : r.left - k ≡ v = grind (arith, within, e) in ap (λ (b : Bool). Some (if b then r.left + k else r.left - k)) e ∙ ap (λ (x : ℕ). Some x) is

abbrev is_index : Range → List ℕ → ℕ → Bool
is_index r digits index = is_within r index && bytes_eq digits (decimal index)

none_in : (test : ℕ → Bool) → ((i : ℕ) → test i ≡ false) → (xs : List ℕ) → list_any test xs ≡ false
none_in test none [] = refl
none_in test none (x ∷ xs) = ap (λ (b : Bool). b || list_any test xs) (none x) ∙ none_in test none xs

within_low : (r : Range) (i : ℕ) → r.left < 2 ^ 32 → r.right < 2 ^ 32 → is_within r i ≡ true → i < 2 ^ 32
within_low r i left right within = grind (arith, within, left, right)

-- the one index that digits can be is the value of them
index_is : (r : Range) (digits : List ℕ) (v i : ℕ) → r.left < 2 ^ 32 → r.right < 2 ^ 32 → v ≡ min (value_after 10 0 digits) 4294967295 → is_index r digits i ≡ true → i ≡ v
index_is r digits v i left right value is =
    let both = both_true (is_within r i) (bytes_eq digits (decimal i)) is in
    let low : i < 2 ^ 32 = within_low r i left right both.0 in
    let same : digits ≡ decimal i = (bytes_decides digits (decimal i)).0 both.1 in
    let of_digits : value_after 10 0 digits ≡ i = ap (value_after 10 0) same ∙ (decimal_digits i (omega (arith, low))).value in
    omega (arith, value, of_digits, low)

pub digits_held : (r : Range) (digits : List ℕ) (v : ℕ) → r.left < 2 ^ 32 → r.right < 2 ^ 32 → v ≡ min (value_after 10 0 digits) 4294967295 → (is_within r v && bytes_eq digits (decimal v)) ≡ holds_digits r digits
digits_held r digits v left right value = by (true_or_false (is_index r digits v))
  where
    by : (is_index r digits v ≡ true) ⊎ (is_index r digits v ≡ false) → is_index r digits v ≡ holds_digits r digits
    by (inl held) =
        let place = place_in r v (both_true (is_within r v) (bytes_eq digits (decimal v)) held).0 in
        held ∙ sym (any_index (is_index r digits) r 0 (width (Some r)) place.0 v (omega arith) (let low = place.1 in omega (arith, low)) place.2 held)
    by (inr other) =
        other ∙ sym (none_in (is_index r digits) (λ i. never_true (is_index r digits i) (λ is.
        let same : i ≡ v = index_is r digits v i left right value is in
        let clash : true ≡ false = sym is ∙ ap (is_index r digits) same ∙ other in cc)) (indexes_of r))
