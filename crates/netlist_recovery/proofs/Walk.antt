-- The rows that are left, with the items that are left.
use Rattle.std.proofs.Common.{◌≡◌, ℕ, inl, inr, suc, zero, ◌+◌, ◌-◌, ◌<◌, ◌≤◌, List, [], ◌∷◌, ◌++◌, reverse, length, take, drop, refl, sym, ◌∙◌, ap, Option, Some, None, option_map, option_and_then, slice_get, arith, append_assoc}
use Rattle.std.proofs.lemmas.List.{reverse-append, length-reverse, append-nil, take-append-drop, length-take-le, length-drop}
use Rattle.std.proofs.Math.Seq.{drop-append_seam}
use Rattle.list_laws.proofs.Lists.{front_all, left_at, none_left}
use Rattle.list_laws.proofs.Numbers.{below_or_not}
use Rattle.verilog_tree.specs.declared.tree.Item.{Item}
use Rattle.bsdl_device.specs.declared.values.CellRow.{CellRow}
use Rattle.netlist_recovery.specs.Tables.{found_with}
use Rattle.strip_model.specs.declared.Side.{Side}
use Rattle.strip_model.specs.declared.Stand.{Stand}
use Rattle.strip_model.specs.Sides.{stand_at, with_side, sides_in, sides}

-- own: what is found and what is left are all
abbrev pub AreLeft : List CellRow → List Item → List Side → ℕ → ℕ → Type 0
AreLeft rows items found left k = found_with found (sides_in (drop k rows) (reverse (take left items))) ≡ sides_in rows (reverse items)

pub none_found : (o : Option (List Side)) → found_with [] o ≡ o
none_found None = refl
none_found (Some sides) = refl

-- Items that are left.

taken_twice : {X : Type 0} (n m : ℕ) (xs : List X) → n ≤ m → take n (take m xs) ≡ take n xs
taken_twice zero m xs low = refl
taken_twice (suc n) zero xs low = absurd (omega (arith, low))
taken_twice (suc n) (suc m) [] low = refl
taken_twice {X} (suc n) (suc m) (x ∷ xs) low = ap (λ (ys : List X). x ∷ ys) (taken_twice n m xs (omega (arith, low)))

-- behind the first n of a list stand as many as are left
turned : (xs : List Item) (n : ℕ) → n ≤ length xs → drop (length xs - n) (reverse xs) ≡ reverse (take n xs)
turned xs n low =
    let front : List Item = take n xs in
    let back : List Item = drop n xs in
    let whole : reverse xs ≡ reverse back ++ reverse front = ap (λ (ys : List Item). reverse ys) (sym (take-append-drop n xs)) ∙ reverse-append front back in
    let count : length xs - n ≡ length (reverse back) = sym (length-reverse back ∙ length-drop n xs) in
    ap (λ (k : ℕ). drop k (reverse xs)) count ∙ ap (drop (length (reverse back))) whole ∙ drop-append_seam (reverse back) (reverse front)

pub left_of : (left count : ℕ) (items : List Item) → left ≤ length items → drop count (reverse (take left items)) ≡ reverse (take (left - count) items)
left_of left count items fits =
    let xs : List Item = take left items in
    let many : length xs ≡ left = length-take-le left items fits in
    elim (below_or_not count left) [
      | inl some ↦
          (let back : length xs - (left - count) ≡ count = omega (arith, many, some) in
          let at = turned xs (left - count) (omega (arith, many)) in
          ap (λ (k : ℕ). drop k (reverse xs)) (sym back) ∙ at ∙ ap (λ (ys : List Item). reverse ys) (taken_twice (left - count) left items (omega arith)))
      | inr none ↦
          (let zeroth : left - count ≡ 0 = omega (arith, none) in
          let long : length (reverse xs) ≤ count = omega (arith, length-reverse xs, many, none) in
          none_left (reverse xs) count long ∙ sym (ap (λ (n : ℕ). reverse (take n items)) zeroth))
    ]

-- One row more.

found_more : (found : List Side) (side : Option Side) (o : Option (List Side)) → found_with (found ++ with_side side []) o ≡ found_with found (option_map (with_side side) o)
found_more found None None = refl
found_more found None (Some sides) = ap (λ (xs : List Side). Some (xs ++ sides)) (append-nil found)
found_more found (Some side) None = refl
found_more found (Some side) (Some sides) = ap (λ (xs : List Side). Some xs) (append_assoc found (side ∷ []) sides)

pub left_on : (rows : List CellRow) (items : List Item) (found : List Side) (left k : ℕ) (row : CellRow) (stand : Stand) → left ≤ length items → AreLeft rows items found left k → slice_get rows k ≡ Some row
    → stand_at row.function row.cell (reverse (take left items)) ≡ Some stand → AreLeft rows items (found ++ with_side stand.side []) (left - stand.count) (k + 1)
left_on rows items found left k row stand fits are at stands =
    let split = left_at rows k row at in
    let next : k + 1 ≡ suc k = omega arith in
    let left_items = left_of left stand.count items fits in
    let rest : Option (List Side) = sides_in (drop (suc k) rows) (reverse (take (left - stand.count) items)) in
    let step : sides_in (drop k rows) (reverse (take left items)) ≡ option_map (with_side stand.side) rest =
    ap (λ (rs : List CellRow). sides_in rs (reverse (take left items))) split
    ∙ ap (λ (o : Option Stand). option_and_then (λ (s : Stand). option_map (with_side s.side) (sides_in (drop (suc k) rows) (drop s.count (reverse (take left items))))) o) stands
    ∙ ap (λ (xs : List Item). option_map (with_side stand.side) (sides_in (drop (suc k) rows) xs)) left_items in
    ap (λ (n : ℕ). found_with (found ++ with_side stand.side []) (sides_in (drop n rows) (reverse (take (left - stand.count) items)))) next
    ∙ found_more found stand.side rest ∙ ap (found_with found) (sym step) ∙ are

-- the same with the items as they were handed
pub turn : (rows : List CellRow) (items ys : List Item) (found : List Side) (left k : ℕ) (row : CellRow) (stand : Stand) (o : Option Stand) → left ≤ length items → AreLeft rows items found left k
    → slice_get rows k ≡ Some row → ys ≡ take left items → o ≡ stand_at row.function row.cell (reverse ys) → o ≡ Some stand → AreLeft rows items (found ++ with_side stand.side []) (left - stand.count) (k + 1)
turn rows items ys found left k row stand o fits are at same stands is =
    left_on rows items found left k row stand fits are at (ap (λ (zs : List Item). stand_at row.function row.cell (reverse zs)) (sym same) ∙ sym stands ∙ is)

-- where nothing stands at a row there is nothing
pub no_turn : (rows : List CellRow) (items ys : List Item) (found : List Side) (left k : ℕ) (row : CellRow) (o : Option Stand) → AreLeft rows items found left k
    → slice_get rows k ≡ Some row → ys ≡ take left items → o ≡ stand_at row.function row.cell (reverse ys) → o ≡ None → None ≡ sides_in rows (reverse items)
no_turn rows items ys found left k row o are at same stands is =
    let split = left_at rows k row at in
    let none : stand_at row.function row.cell (reverse (take left items)) ≡ None = ap (λ (zs : List Item). stand_at row.function row.cell (reverse zs)) (sym same) ∙ sym stands ∙ is in
    let gone : sides_in (drop k rows) (reverse (take left items)) ≡ None =
    ap (λ (rs : List CellRow). sides_in rs (reverse (take left items))) split
    ∙ ap (λ (x : Option Stand). option_and_then (λ (s : Stand). option_map (with_side s.side) (sides_in (drop (suc k) rows) (drop s.count (reverse (take left items))))) x) none in
    sym (ap (found_with found) gone) ∙ are

-- The gates of TDO.

pub before_tdo : (rows : List CellRow) (items xs : List Item) (left : ℕ) → left ≡ length items - 7 → xs ≡ take left items → sides_in rows (reverse xs) ≡ sides rows items
before_tdo rows items xs left is same =
    let all : take (length items) items ≡ items = front_all items (length items) (omega arith) in
    ap (λ (ys : List Item). sides_in rows (reverse ys)) (same ∙ ap (λ (n : ℕ). take n items) is)
    ∙ ap (sides_in rows) (sym (left_of (length items) 7 items (omega arith)))
    ∙ ap (λ (ys : List Item). sides_in rows (drop 7 (reverse ys))) all
