-- Words of bits by their last opening bracket.
use Rattle.std.proofs.Common.{◌≡◌, ◌≢◌, ℕ, zero, suc, ◌+◌, ◌-◌, ◌/◌, ◌%◌, ◌<◌, ◌≤◌, Bool, true, false, ◌||◌, if◌then◌else◌, List, [], ◌∷◌, ◌++◌, length, take, drop, get_or, refl, sym, ap, subst, ◌∙◌, arith, append_assoc, drop-cons, lt-ltb, eqb-true, length-append, inl, inr}
use Rattle.std.specs.Prelude.{nat_eq, nat_lt, ◌==◌}
use Rattle.std.specs.Fmt.{decimal, digits, digits_onto, digit_glyph}
use Rattle.std.specs.List.{list_any}
use Rattle.std.proofs.lemmas.Bool.{cases_lt}
use Rattle.std.proofs.lemmas.List.{append_cancel_right, take-append-drop, get_or-append-add}
use Rattle.std.proofs.lemmas.List.Folds.{list_any-append}
use Rattle.std.proofs.Math.Seq.{get_or-append_seam}
use Rattle.list_laws.proofs.Numbers.{eqb_more}
use Rattle.list_laws.proofs.Tests.{or_first, or_second, neither, never_true}
use Rattle.list_laws.proofs.Lists.{none_left}
use Rattle.box_trees.specs.HiddenNames.{indexed, IsBracketless}

-- Digits are no brackets.

glyph_apart : (d : ℕ) → d < 10 → nat_eq 91 (digit_glyph false d) ≡ false
glyph_apart d low = ap (λ (b : Bool). nat_eq 91 (if b then 48 + d else 87 + d)) (lt-ltb d 10 low) ∙ eqb_more 91 (48 + d) (omega (arith, low))

either_bare : (b : Bool) (xs ys : List ℕ) → IsBracketless xs → IsBracketless ys → IsBracketless (if b then xs else ys)
either_bare true xs ys p q = p
either_bare false xs ys p q = q

onto_bracketless : (k n : ℕ) (acc : List ℕ) → IsBracketless acc → IsBracketless (digits_onto k 10 false n acc)
onto_bracketless zero n acc none = none
onto_bracketless (suc k) n acc none =
    let more : IsBracketless (digit_glyph false (n % 10) ∷ acc) = neither (nat_eq 91 (digit_glyph false (n % 10))) (list_any (nat_eq 91) acc) (glyph_apart (n % 10) (omega arith)) none in
    either_bare (n / 10 == 0) (digit_glyph false (n % 10) ∷ acc) (digits_onto k 10 false (n / 10) (digit_glyph false (n % 10) ∷ acc)) more (onto_bracketless k (n / 10) (digit_glyph false (n % 10) ∷ acc) more)

pub decimal_bracketless : (n : ℕ) → IsBracketless (decimal n)
unfolding digits
decimal_bracketless n = onto_bracketless 64 n [] refl

pub closed_bracketless : (digits : List ℕ) → IsBracketless digits → IsBracketless (digits ++ 93 ∷ [])
closed_bracketless digits none = list_any-append (nat_eq 91) digits (93 ∷ []) ∙ neither (list_any (nat_eq 91) digits) false none refl

-- A word has one last bracket.

bracket_in : (name rest : List ℕ) → list_any (nat_eq 91) (name ++ 91 ∷ rest) ≡ true
bracket_in [] rest = refl
bracket_in (b ∷ name) rest = by (nat_eq 91 b) (bracket_in name rest)
  where
    by : (t : Bool) → list_any (nat_eq 91) (name ++ 91 ∷ rest) ≡ true → (t || list_any (nat_eq 91) (name ++ 91 ∷ rest)) ≡ true
    by true e = refl
    by false e = e

no_bracket_in : {A : Type 0} (name rest word : List ℕ) → word ≡ name ++ 91 ∷ rest → IsBracketless word → A
no_bracket_in name rest word is none = absurd (let clash : true ≡ false = sym (bracket_in name rest) ∙ ap (list_any (nat_eq 91)) (sym is) ∙ none in cc)

fronts_same : (a b x y : List ℕ) → IsBracketless x → IsBracketless y → a ++ 91 ∷ x ≡ b ++ 91 ∷ y → (a ≡ b) × (x ≡ y)
fronts_same [] [] x y p q is = (refl, (cc))
fronts_same [] (c ∷ b) x y p q is = let behind : x ≡ b ++ 91 ∷ y = cc in no_bracket_in b y x behind p
fronts_same (d ∷ a) [] x y p q is = let behind : y ≡ a ++ 91 ∷ x = cc in no_bracket_in a x y behind q
fronts_same (d ∷ a) (c ∷ b) x y p q is =
    let first : d ≡ c = cc in
    let behind : a ++ 91 ∷ x ≡ b ++ 91 ∷ y = cc in
    let same = fronts_same a b x y p q behind in
    (ap (λ (l : List ℕ). d ∷ l) same.0 ∙ ap (λ (e : ℕ). e ∷ b) first, same.1)

spread : (name digits : List ℕ) → indexed name digits ≡ name ++ 91 ∷ (digits ++ 93 ∷ [])
spread name digits = append_assoc name (91 ∷ digits) (93 ∷ [])

pub parts_same : (a b x y : List ℕ) → IsBracketless x → IsBracketless y → indexed a x ≡ indexed b y → (a ≡ b) × (x ≡ y)
parts_same a b x y p q is =
    let same = fronts_same a b (x ++ 93 ∷ []) (y ++ 93 ∷ []) (closed_bracketless x p) (closed_bracketless y q) (sym (spread a x) ∙ is ∙ spread b y) in
    (same.0, append_cancel_right x y (93 ∷ []) same.1)

-- Where the bytes behind it begin.

none_behind : (xs : List ℕ) (start : ℕ) → ((k : ℕ) → start ≤ k → k < length xs → get_or xs k 0 ≢ 91) → IsBracketless (drop start xs)
none_behind [] start none = ap (list_any (nat_eq 91)) (none_left {X = ℕ} [] start (omega arith))
none_behind (x ∷ xs) zero none = neither (nat_eq 91 x) (list_any (nat_eq 91) xs) first (none_behind xs 0 (λ k low high. none (suc k) (omega (arith, low)) (omega (arith, high))))
  where
    first : nat_eq 91 x ≡ false
    first = never_true (nat_eq 91 x) (λ e. none 0 (omega arith) (omega arith) (sym (eqb-true 91 x e)))
none_behind (x ∷ xs) (suc start) none = none_behind xs start (λ k low high. none (suc k) (omega (arith, low)) (omega (arith, high)))

none_at : (xs : List ℕ) (k : ℕ) → IsBracketless xs → k < length xs → get_or xs k 0 ≢ 91
none_at [] k none low is = omega (arith, low)
none_at (x ∷ xs) zero none low is = let no : true ≡ false = sym (ap (nat_eq 91) is) ∙ or_first (nat_eq 91 x) (list_any (nat_eq 91) xs) none in cc
none_at (x ∷ xs) (suc k) none low is = none_at xs k (or_second (nat_eq 91 x) (list_any (nat_eq 91) xs) none) (omega (arith, low)) is

behind_name : (name rest : List ℕ) (k : ℕ) → get_or (name ++ 91 ∷ rest) (length name + suc k) 0 ≡ get_or rest k 0
behind_name name rest k = get_or-append-add name (91 ∷ rest) (suc k) 0

-- the last bracket is found
start_is : (name rest : List ℕ) (start : ℕ) → IsBracketless rest → start ≤ length (name ++ 91 ∷ rest) → ((k : ℕ) → start ≤ k → k < length (name ++ 91 ∷ rest) → get_or (name ++ 91 ∷ rest) k 0 ≢ 91)
    → (0 < start → get_or (name ++ 91 ∷ rest) (start - 1) 0 ≡ 91) → start ≡ length name + 1
start_is name rest start bare within behind bracket =
    elim (cases_lt (length name) start) [
      | inl past ↦ elim (cases_lt (length name + 1) start) [
        | inl far ↦
            (let k : ℕ = start - (length name + 2) in
            let long = length-append name (91 ∷ rest) in
            let at : start - 1 ≡ length name + suc k = omega (arith, far) in
            let there : get_or rest k 0 ≡ 91 = sym (behind_name name rest k) ∙ ap (λ (n : ℕ). get_or (name ++ 91 ∷ rest) n 0) (sym at) ∙ bracket (omega (arith, far)) in
            absurd (none_at rest k bare (omega (arith, far, long, within)) there))
        | inr near ↦ omega (arith, past, near)
      ]
      | inr before ↦ (let long = length-append name (91 ∷ rest) in absurd (behind (length name) before (omega (arith, long)) (get_or-append_seam name 91 rest 0)))
    ]

drop_name : (name rest : List ℕ) (b : ℕ) → drop (length name + 1) (name ++ b ∷ rest) ≡ rest
drop_name [] rest b = refl
drop_name (x ∷ name) rest b =
    let more : suc (length name) + 1 ≡ suc (length name + 1) = omega arith in
    ap (λ (n : ℕ). drop n (x ∷ name ++ b ∷ rest)) more ∙ drop_name name rest b

abbrev pub Starts : List ℕ → ℕ → Type 0
Starts word start = (start ≤ length word) × ((k : ℕ) → start ≤ k → k < length word → get_or word k 0 ≢ 91) × (0 < start → get_or word (start - 1) 0 ≡ 91)

-- a word of a bit has its bracket before the start, and behind it digits and the closing one
pub starts_behind : (word : List ℕ) (start : ℕ) (name digits : List ℕ) → Starts word start → IsBracketless digits → word ≡ indexed name digits → (0 < start) × (drop start word ≡ digits ++ 93 ∷ [])
starts_behind word start name digits facts bare is =
    let rest : List ℕ = digits ++ 93 ∷ [] in
    let whole : word ≡ name ++ 91 ∷ rest = is ∙ spread name digits in
    let moved : Starts (name ++ 91 ∷ rest) start = subst (λ (w : List ℕ). Starts w start) whole facts in
    let at : start ≡ length name + 1 = start_is name rest start (closed_bracketless digits bare) moved.0 moved.1 moved.2 in
    (omega (arith, at), ap (drop start) whole ∙ ap (λ (n : ℕ). drop n (name ++ 91 ∷ rest)) at ∙ drop_name name rest 91)

-- and so is any that has these
pub word_parted : (word : List ℕ) (start : ℕ) (digits : List ℕ) → Starts word start → 0 < start → drop start word ≡ digits ++ 93 ∷ [] → (word ≡ indexed (take (start - 1) word) digits) × IsBracketless digits
word_parted word start digits facts some behind = (whole, or_first (list_any (nat_eq 91) digits) (list_any (nat_eq 91) (93 ∷ [])) (sym (list_any-append (nat_eq 91) digits (93 ∷ [])) ∙ ap (list_any (nat_eq 91)) (sym behind) ∙ none_behind word start facts.1))
  where
    low : start - 1 < length word
    low = let within = facts.0 in omega (arith, some, within)

    next : suc (start - 1) ≡ start
    next = omega (arith, some)

    left : drop (start - 1) word ≡ 91 ∷ (digits ++ 93 ∷ [])
    left = drop-cons word (start - 1) 0 low ∙ ap (λ (b : ℕ). b ∷ drop (suc (start - 1)) word) (facts.2 some) ∙ ap (λ (n : ℕ). 91 ∷ drop n word) next ∙ ap (λ (l : List ℕ). 91 ∷ l) behind

    whole : word ≡ indexed (take (start - 1) word) digits
    whole = sym (take-append-drop (start - 1) word) ∙ ap (λ (l : List ℕ). take (start - 1) word ++ l) left ∙ sym (spread (take (start - 1) word) digits)
