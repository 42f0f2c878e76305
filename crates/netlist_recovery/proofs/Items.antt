-- The items that are left, up to the first added one.
use Rattle.std.proofs.Common.{◌≡◌, ℕ, zero, suc, ◌+◌, ◌<◌, ◌≤◌, true, false, List, [], ◌∷◌, ◌++◌, map, drop, length, get_or, refl, sym, ◌∙◌, ap, arith, append_assoc}
use Rattle.std.proofs.lemmas.List.{append-nil}
use Rattle.list_laws.proofs.Lists.{none_left}
use Rattle.verilog_tree.specs.declared.tree.Item.{Item}
use Rattle.strip_model.specs.declared.Side.{Side}
use Rattle.strip_model.specs.Core.{is_added, before_added, core_item}

-- the item at a place, and those behind it
pub left_here : {X : Type 0} (xs : List X) (i : ℕ) (x : X) → i < length xs → x ≡ get_or xs i x → drop i xs ≡ x ∷ drop (i + 1) xs
left_here [] i x low is = absurd (omega (arith, low))
left_here {X} (y ∷ ys) zero x low is = ap (λ (z : X). z ∷ ys) (sym is)
left_here {X} (y ∷ ys) (suc i) x low is =
    let next : suc (i + 1) ≡ suc i + 1 = omega arith in
    left_here ys i x (omega (arith, low)) is ∙ ap (λ (n : ℕ). x ∷ drop n (y ∷ ys)) next

abbrev core_of : List ℕ → List Side → List Item → List Item
core_of prefix sides items = map (core_item sides) (before_added prefix items)

-- an added one ends them
pub no_more : (prefix : List ℕ) (sides : List Side) (items core : List Item) (i : ℕ) (item : Item) → i < length items → item ≡ get_or items i item → is_added prefix item ≡ true
    → core_of prefix sides items ≡ core ++ core_of prefix sides (drop i items) → core ≡ core_of prefix sides items
no_more prefix sides items core i item low is added whole =
    let left : drop i items ≡ item ∷ drop (i + 1) items = left_here items i item low is in
    let none : core_of prefix sides (item ∷ drop (i + 1) items) ≡ [] = rw added refl in
    sym (whole ∙ ap (λ (rest : List Item). core ++ core_of prefix sides rest) left ∙ ap (λ (rest : List Item). core ++ rest) none ∙ append-nil core)

-- any other is one of them
pub one_more : (prefix : List ℕ) (sides : List Side) (items core new : List Item) (i : ℕ) (item made : Item) → i < length items → item ≡ get_or items i item → is_added prefix item ≡ false
    → made ≡ core_item sides item → new ≡ core ++ made ∷ [] → core_of prefix sides items ≡ core ++ core_of prefix sides (drop i items)
    → core_of prefix sides items ≡ new ++ core_of prefix sides (drop (i + 1) items)
one_more prefix sides items core new i item made low is own made_is pushed whole =
    let left : drop i items ≡ item ∷ drop (i + 1) items = left_here items i item low is in
    let rest : List Item = core_of prefix sides (drop (i + 1) items) in
    let step : core_of prefix sides (item ∷ drop (i + 1) items) ≡ core_item sides item ∷ rest = rw own refl in
    whole
    ∙ ap (λ (more : List Item). core ++ core_of prefix sides more) left
    ∙ ap (λ (more : List Item). core ++ more) step
    ∙ ap (λ (one : Item). core ++ one ∷ rest) (sym made_is)
    ∙ sym (append_assoc core (made ∷ []) rest)
    ∙ ap (λ (front : List Item). front ++ rest) (sym pushed)

pub all_taken : (prefix : List ℕ) (sides : List Side) (items core : List Item) (i : ℕ) → length items ≤ i → core_of prefix sides items ≡ core ++ core_of prefix sides (drop i items)
    → core ≡ core_of prefix sides items
all_taken prefix sides items core i past whole =
    sym (whole ∙ ap (λ (rest : List Item). core ++ core_of prefix sides rest) (none_left items i past) ∙ append-nil core)
