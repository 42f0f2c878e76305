-- Lists of what was found, of which a front was found before.
use Rattle.std.proofs.Common.{◌≡◌, ℕ, ◌+◌, ◌<◌, ◌≤◌, true, false, List, [], ◌∷◌, ◌++◌, map, drop, length, get_or, refl, sym, ◌∙◌, ap, Option, Some, None, option_map, append_assoc}
use Rattle.std.proofs.lemmas.List.{append-nil}
use Rattle.list_laws.proofs.Lists.{none_left}
use Rattle.bsdl_device.specs.declared.values.CellRow.{CellRow}
use Rattle.bsdl_device.specs.declared.values.Device.{Device}
use Rattle.plan_texts.specs.declared.plan.PinLine.{PinLine}
use Rattle.strip_model.specs.Plans.{all_found, lines_of_row, lines_of_rows}
use Rattle.netlist_recovery.specs.Tables.{found_with, AreFound}
use Rattle.netlist_recovery.proofs.Items.{left_here}

found_none : {X : Type 0} (o : Option (List X)) → found_with [] o ≡ o
found_none None = refl
found_none (Some xs) = refl

found_one : {X : Type 0} (found : List X) (one : X) (o : Option (List X)) → found_with (found ++ one ∷ []) o ≡ found_with found (option_map (λ (rest : List X). one ∷ rest) o)
found_one found one None = refl
found_one {X} found one (Some xs) = ap (λ (ys : List X). Some ys) (append_assoc found (one ∷ []) xs)

-- One by one.

abbrev pub AreLeft : {X Y : Type 0} → (X → Option Y) → List X → List Y → ℕ → Type 0
AreLeft test xs found i = found_with found (all_found (map test (drop i xs))) ≡ all_found (map test xs)

pub one_more : {X Y : Type 0} (test : X → Option Y) (xs : List X) (found new : List Y) (i : ℕ) (x : X) (y : Y) (o : Option Y) → i < length xs → x ≡ get_or xs i x → o ≡ test x → o ≡ Some y
    → new ≡ found ++ y ∷ [] → AreLeft test xs found i → AreLeft test xs new (i + 1)
one_more {X} {Y} test xs found new i x y o low is tested some pushed are =
    let left : drop i xs ≡ x ∷ drop (i + 1) xs = left_here xs i x low is in
    let rest : Option (List Y) = all_found (map test (drop (i + 1) xs)) in
    let step : all_found (map test (x ∷ drop (i + 1) xs)) ≡ option_map (λ (more : List Y). y ∷ more) rest =
    ap (λ (t : Option Y). all_found (t ∷ map test (drop (i + 1) xs))) (sym tested ∙ some) in
    ap (λ (front : List Y). found_with front rest) pushed ∙ found_one found y rest
    ∙ ap (found_with found) (sym step) ∙ ap (λ (ys : List X). found_with found (all_found (map test ys))) (sym left) ∙ are

pub not_found : {X Y : Type 0} (test : X → Option Y) (xs : List X) (found : List Y) (i : ℕ) (x : X) (o : Option Y) → i < length xs → x ≡ get_or xs i x → o ≡ test x → o ≡ None
    → AreLeft test xs found i → None ≡ all_found (map test xs)
not_found {X} {Y} test xs found i x o low is tested none are =
    let left : drop i xs ≡ x ∷ drop (i + 1) xs = left_here xs i x low is in
    let step : all_found (map test (x ∷ drop (i + 1) xs)) ≡ None = ap (λ (t : Option Y). all_found (t ∷ map test (drop (i + 1) xs))) (sym tested ∙ none) in
    sym (ap (λ (ys : List X). found_with found (all_found (map test ys))) left ∙ ap (found_with found) step) ∙ are

pub all_are : {X Y : Type 0} (test : X → Option Y) (xs : List X) (found : List Y) (i : ℕ) → length xs ≤ i → AreLeft test xs found i → Some found ≡ all_found (map test xs)
all_are {X} {Y} test xs found i past are =
    ap (λ (ys : List Y). Some ys) (sym (append-nil found)) ∙ ap (λ (ys : List X). found_with found (all_found (map test ys))) (sym (none_left xs i past)) ∙ are

-- Row by row.

abbrev both : {X : Type 0} → Option (List X) → Option (List X) → Option (List X)
both None more = None
both (Some found) more = found_with found more

pushed_both : {X : Type 0} (x : X) (o more : Option (List X)) → option_map (λ (xs : List X). x ∷ xs) (both o more) ≡ both (option_map (λ (xs : List X). x ∷ xs) o) more
pushed_both x None more = refl
pushed_both x (Some found) None = refl
pushed_both x (Some found) (Some more) = refl

joined : {X : Type 0} (xs ys : List (Option X)) → all_found (xs ++ ys) ≡ both (all_found xs) (all_found ys)
joined [] ys = sym (found_none (all_found ys))
joined (None ∷ xs) ys = refl
joined {X} (Some x ∷ xs) ys = ap (option_map (λ (zs : List X). x ∷ zs)) (joined xs ys) ∙ pushed_both x (all_found xs) (all_found ys)

abbrev pub AreRowsLeft : Device → List CellRow → List PinLine → ℕ → Type 0
AreRowsLeft d rows found i = found_with found (all_found (lines_of_rows d (drop i rows))) ≡ all_found (lines_of_rows d rows)

same_some : {X : Type 0} (a b : X) → ◌≡◌ {A = Option X} (Some a) (Some b) → a ≡ b
same_some a b e = cc

after_both : {X : Type 0} (found new : List X) (here more : Option (List X)) → Some new ≡ found_with found here → found_with new more ≡ found_with found (both here more)
after_both found new None more e = absurd (let bad : Some new ≡ None = e in cc)
after_both found new (Some xs) None e = refl
after_both {X} found new (Some xs) (Some ys) e =
    ap (λ (front : List X). Some (front ++ ys)) (same_some new (found ++ xs) e) ∙ ap (λ (all : List X). Some all) (append_assoc found xs ys)

pub row_more : (d : Device) (rows : List CellRow) (found new : List PinLine) (i : ℕ) (row : CellRow) → i < length rows → row ≡ get_or rows i row
    → AreFound true found new (all_found (lines_of_row d row.cell row.pin)) → AreRowsLeft d rows found i → AreRowsLeft d rows new (i + 1)
row_more d rows found new i row low is pushed are =
    let left : drop i rows ≡ row ∷ drop (i + 1) rows = left_here rows i row low is in
    let rest : Option (List PinLine) = all_found (lines_of_rows d (drop (i + 1) rows)) in
    after_both found new (all_found (lines_of_row d row.cell row.pin)) rest pushed
    ∙ ap (found_with found) (sym (joined (lines_of_row d row.cell row.pin) (lines_of_rows d (drop (i + 1) rows))))
    ∙ ap (λ (rs : List CellRow). found_with found (all_found (lines_of_rows d rs))) (sym left)
    ∙ are

pub row_missing : (d : Device) (rows : List CellRow) (found new : List PinLine) (i : ℕ) (row : CellRow) → i < length rows → row ≡ get_or rows i row
    → AreFound false found new (all_found (lines_of_row d row.cell row.pin)) → AreRowsLeft d rows found i → None ≡ all_found (lines_of_rows d rows)
row_missing d rows found new i row low is none are =
    let left : drop i rows ≡ row ∷ drop (i + 1) rows = left_here rows i row low is in
    let step : all_found (lines_of_rows d (row ∷ drop (i + 1) rows)) ≡ None =
    joined (lines_of_row d row.cell row.pin) (lines_of_rows d (drop (i + 1) rows))
    ∙ ap (λ (o : Option (List PinLine)). both o (all_found (lines_of_rows d (drop (i + 1) rows)))) none in
    sym (ap (λ (rs : List CellRow). found_with found (all_found (lines_of_rows d rs))) left ∙ ap (found_with found) step) ∙ are

pub rows_are : (d : Device) (rows : List CellRow) (found : List PinLine) (i : ℕ) → length rows ≤ i → AreRowsLeft d rows found i → Some found ≡ all_found (lines_of_rows d rows)
rows_are d rows found i past are =
    ap (λ (ys : List PinLine). Some ys) (sym (append-nil found)) ∙ ap (λ (rs : List CellRow). found_with found (all_found (lines_of_rows d rs))) (sym (none_left rows i past)) ∙ are
