-- How many rows a bit has: one, where it has one line.
use Rattle.std.proofs.Common.{◌≡◌, ℕ, suc, ◌+◌, ◌*◌, ◌≤◌, Bool, true, false, cond, List, [], ◌∷◌, ◌++◌, length, slice_get, position, Option, Some, None, refl, ap, ◌∙◌, arith}
use Rattle.std.specs.Prelude.{◌||◌, is_some, count_by}
use Rattle.std.specs.List.{list_any, AllByRecursion}
use Rattle.std.specs.Option.{option_map_or}
use Rattle.std.proofs.lemmas.List.{length-append}
use Rattle.std.proofs.lemmas.List.Sums.{sum_by-cons, sum_by-append}
use Rattle.list_laws.proofs.Tests.{or_first, or_second}
use Rattle.bsdl_device.specs.Checks.{any_pair}
use Rattle.cell_library.specs.declared.codes.BoundaryKind.{BoundaryKind}
use Rattle.cell_library.specs.declared.codes.Function.{Function}
use Rattle.cell_library.specs.declared.codes.Function.TheVariants as function
use Rattle.netlist_model.specs.declared.Dir.{Dir}
use Rattle.netlist_model.specs.declared.Dir.TheVariants as dir
use Rattle.netlist_model.specs.declared.PinBit.{PinBit}
use Rattle.plan_texts.specs.declared.plan.PinLine.{PinLine}
use Rattle.plan_fitting.specs.declared.fitted.FitRow.{FitRow}
use Rattle.plan_fitting.specs.Pins.{PinSeen, same_bit}
use Rattle.plan_fitting.specs.Rows.{Driver, controls, input_row, two_state_row, data_row, control_row, controlled_by, output_rows, inout_rows, rows_at, rows_after, output_driver, three_state}
use Rattle.plan_fitting.proofs.Tests.{true_not_false}

abbrev pub weigh : Bool → ℕ
weigh b = cond b 1 0

pub count-cons : {X : Type 0} (p : X → Bool) (x : X) (xs : List X) → count_by p (x ∷ xs) ≡ weigh (p x) + count_by p xs
count-cons {X = X} p x xs = sum_by-cons (λ (y : X). weigh (p y)) x xs

pub count-append : {X : Type 0} (p : X → Bool) (xs ys : List X) → count_by p (xs ++ ys) ≡ count_by p xs + count_by p ys
count-append {X = X} p xs ys = sum_by-append (λ (y : X). weigh (p y)) xs ys

pub count_none : {X : Type 0} (p : X → Bool) (xs : List X) → list_any p xs ≡ false → count_by p xs ≡ 0
count_none p [] h = refl
count_none p (x ∷ xs) h =
    count-cons p x xs ∙ ap (λ (b : Bool). weigh b + count_by p xs) (or_first (p x) (list_any p xs) h) ∙ (let rest : count_by p xs ≡ 0 = count_none p xs (or_second (p x) (list_any p xs) h) in omega arith)

pub count_some : {X : Type 0} (p : X → Bool) (xs : List X) → list_any p xs ≡ true → 1 ≤ count_by p xs
count_some p [] h = absurd (cc)
count_some p (x ∷ xs) h = by (p x) refl h (λ k. count_some p xs k)
  where
    by : (b : Bool) → p x ≡ b → (b || list_any p xs) ≡ true → (list_any p xs ≡ true → 1 ≤ count_by p xs) → 1 ≤ count_by p (x ∷ xs)
    by true e k more =
        let here : count_by p (x ∷ xs) ≡ 1 + count_by p xs = count-cons p x xs ∙ ap (λ (c : Bool). weigh c + count_by p xs) e in
        omega arith
    by false e k more =
        let rest = more k in
        let here : count_by p (x ∷ xs) ≡ 0 + count_by p xs = count-cons p x xs ∙ ap (λ (c : Bool). weigh c + count_by p xs) e in
        omega arith

pub count_at : {X : Type 0} (p : X → Bool) (xs : List X) → 1 ≤ count_by p xs → (k : ℕ) × (x : X) × (slice_get xs k ≡ Some x) × (p x ≡ true)
count_at p [] h = absurd (omega arith)
count_at {X = X} p (x ∷ xs) h = by (p x) refl (λ k. count_at p xs k)
  where
    by : (b : Bool) → p x ≡ b → (1 ≤ count_by p xs → (k : ℕ) × (y : X) × (slice_get xs k ≡ Some y) × (p y ≡ true))
        → (k : ℕ) × (y : X) × (slice_get (x ∷ xs) k ≡ Some y) × (p y ≡ true)
    by true e more = (0, x, refl, e)
    by false e more =
        let here : count_by p (x ∷ xs) ≡ 0 + count_by p xs = count-cons p x xs ∙ ap (λ (c : Bool). weigh c + count_by p xs) e in
        let rest = more (omega arith) in
        (suc rest.0, rest.1, rest.2, rest.3)

-- The rows of a line.

-- the row stands at the bit
abbrev pub sits : PinBit → FitRow → Bool
sits x row = option_map_or (same_bit x) row.pin false

-- an inout bit has a three-state driver
abbrev pub makes_row : PinSeen → Dir → Bool
makes_row one dir.Input = true
makes_row one dir.Output = true
makes_row one dir.Inout = is_some (three_state one.driver)

one_row : (x : PinBit) (row : FitRow) → count_by (sits x) (row ∷ []) ≡ weigh (sits x row)
one_row x row = count-cons (sits x) row [] ∙ omega arith

two_rows : (x : PinBit) (row other : FitRow) → sits x other ≡ false → count_by (sits x) (row ∷ other ∷ []) ≡ weigh (sits x row)
two_rows x row other h =
    let rest : count_by (sits x) (other ∷ []) ≡ 0 = one_row x other ∙ ap weigh h in
    count-cons (sits x) row (other ∷ []) ∙ omega arith

controlled_count : (x : PinBit) (kind : BoundaryKind) (before : List FitRow) (does : Function) (line : PinLine) (one : PinSeen) (d : Driver) (number : Option ℕ)
    → count_by (sits x) (controlled_by kind before does line one d number) ≡ weigh (same_bit x one.pin)
controlled_count x kind before does line one d (Some number) = one_row x (data_row does line one d number)
controlled_count x kind before does line one d None = two_rows x (data_row does line one d (length before + 1)) (control_row kind d) refl

output_count : (x : PinBit) (kind : BoundaryKind) (before : List FitRow) (line : PinLine) (one : PinSeen) (d : Option Driver)
    → count_by (sits x) (output_rows kind before line one d) ≡ weigh (same_bit x one.pin)
output_count x kind before line one None = one_row x (two_state_row line one)
output_count x kind before line one (Some d) = controlled_count x kind before function.Output3 line one d (position (controls d) before)

inout_count : (x : PinBit) (kind : BoundaryKind) (before : List FitRow) (line : PinLine) (one : PinSeen) (d : Option Driver) → is_some d ≡ true
    → count_by (sits x) (inout_rows kind before line one d) ≡ weigh (same_bit x one.pin)
inout_count x kind before line one None h = absurd (cc)
inout_count x kind before line one (Some d) h = controlled_count x kind before function.Bidir line one d (position (controls d) before)

line_count : (x : PinBit) (kind : BoundaryKind) (highz : Bool) (before : List FitRow) (line : PinLine) (one : PinSeen) (side : Dir) → makes_row one side ≡ true
    → count_by (sits x) (rows_at kind highz before line one side) ≡ weigh (same_bit x one.pin)
line_count x kind highz before line one dir.Input h = one_row x (input_row line one)
line_count x kind highz before line one dir.Output h = output_count x kind before line one (output_driver highz one)
line_count x kind highz before line one dir.Inout h = inout_count x kind before line one (three_state one.driver) h

pub rows_count : (x : PinBit) (kind : BoundaryKind) (highz : Bool) (before : List FitRow) (lines : List PinLine) (seen : List PinSeen) → length seen ≡ length lines
    → AllByRecursion (λ (one : PinSeen). makes_row one one.side ≡ true) seen
    → count_by (sits x) (rows_after kind highz before lines seen) ≡ count_by (sits x) before + count_by (λ (one : PinSeen). same_bit x one.pin) seen
rows_count x kind highz before [] [] many makes = omega arith
rows_count x kind highz before [] (one ∷ seen) many makes = absurd (omega arith)
rows_count x kind highz before (line ∷ lines) [] many makes = absurd (omega arith)
rows_count x kind highz before (line ∷ lines) (one ∷ seen) many makes =
    let new = rows_at kind highz before line one one.side in
    let rest : count_by (sits x) (rows_after kind highz (before ++ new) lines seen) ≡ count_by (sits x) (before ++ new) + count_by (λ (y : PinSeen). same_bit x y.pin) seen =
    rows_count x kind highz (before ++ new) lines seen (omega arith) makes.1 in
    let joined : count_by (sits x) (before ++ new) ≡ count_by (sits x) before + count_by (sits x) new = count-append (sits x) before new in
    let here : count_by (sits x) new ≡ weigh (same_bit x one.pin) = line_count x kind highz before line one one.side makes.0 in
    let whole : count_by (λ (y : PinSeen). same_bit x y.pin) (one ∷ seen) ≡ weigh (same_bit x one.pin) + count_by (λ (y : PinSeen). same_bit x y.pin) seen = count-cons (λ (y : PinSeen). same_bit x y.pin) one seen in
    omega arith

-- Once.

none_again : {X : Type 0} (p : X → Bool) (r : X → X → Bool) (x : X) → p x ≡ true → ((y : X) → p y ≡ true → r x y ≡ true) → (ys : List X) → list_any (r x) ys ≡ false → list_any p ys ≡ false
none_again p r x e joins [] k = refl
none_again p r x e joins (y ∷ ys) k = not_here (p y) refl (none_again p r x e joins ys (or_second (r x y) (list_any (r x) ys) k))
  where
    not_here : (b : Bool) → p y ≡ b → list_any p ys ≡ false → list_any p (y ∷ ys) ≡ false
    not_here true f more = absurd (true_not_false (r x y) (joins y f) (or_first (r x y) (list_any (r x) ys) k))
    not_here false f more = ap (λ (b : Bool). b || list_any p ys) f ∙ more

pub at_most_one : {X : Type 0} (p : X → Bool) (r : X → X → Bool) → ((x y : X) → p x ≡ true → p y ≡ true → r x y ≡ true) → (xs : List X) → any_pair r xs ≡ false → count_by p xs ≤ 1
at_most_one p r joins [] h = omega arith
at_most_one {X = X} p r joins (x ∷ xs) h = by (p x) refl (at_most_one p r joins xs (or_second (list_any (r x) xs) (any_pair r xs) h))
  where
    by : (b : Bool) → p x ≡ b → count_by p xs ≤ 1 → count_by p (x ∷ xs) ≤ 1
    by true e more =
        let here : count_by p (x ∷ xs) ≡ 1 + count_by p xs = count-cons p x xs ∙ ap (λ (c : Bool). weigh c + count_by p xs) e in
        let rest : count_by p xs ≡ 0 = count_none p xs (none_again p r x e (λ y f. joins x y e f) xs (or_first (list_any (r x) xs) (any_pair r xs) h)) in
        omega arith
    by false e more =
        let here : count_by p (x ∷ xs) ≡ 0 + count_by p xs = count-cons p x xs ∙ ap (λ (c : Bool). weigh c + count_by p xs) e in
        omega arith

-- How many rows there are.

controlled_few : (kind : BoundaryKind) (before : List FitRow) (does : Function) (line : PinLine) (one : PinSeen) (d : Driver) (number : Option ℕ) → length (controlled_by kind before does line one d number) ≤ 2
controlled_few kind before does line one d (Some number) = omega arith
controlled_few kind before does line one d None = omega arith

output_few : (kind : BoundaryKind) (before : List FitRow) (line : PinLine) (one : PinSeen) (d : Option Driver) → length (output_rows kind before line one d) ≤ 2
output_few kind before line one None = omega arith
output_few kind before line one (Some d) = controlled_few kind before function.Output3 line one d (position (controls d) before)

inout_few : (kind : BoundaryKind) (before : List FitRow) (line : PinLine) (one : PinSeen) (d : Option Driver) → length (inout_rows kind before line one d) ≤ 2
inout_few kind before line one None = omega arith
inout_few kind before line one (Some d) = controlled_few kind before function.Bidir line one d (position (controls d) before)

line_few : (kind : BoundaryKind) (highz : Bool) (before : List FitRow) (line : PinLine) (one : PinSeen) (side : Dir) → length (rows_at kind highz before line one side) ≤ 2
line_few kind highz before line one dir.Input = omega arith
line_few kind highz before line one dir.Output = output_few kind before line one (output_driver highz one)
line_few kind highz before line one dir.Inout = inout_few kind before line one (three_state one.driver)

pub rows_few : (kind : BoundaryKind) (highz : Bool) (before : List FitRow) (lines : List PinLine) (seen : List PinSeen) → length (rows_after kind highz before lines seen) ≤ length before + 2 * length lines
rows_few kind highz before [] seen = omega arith
rows_few kind highz before (line ∷ lines) [] = omega arith
rows_few kind highz before (line ∷ lines) (one ∷ seen) =
    let new = rows_at kind highz before line one one.side in
    let rest : length (rows_after kind highz (before ++ new) lines seen) ≤ length (before ++ new) + 2 * length lines = rows_few kind highz (before ++ new) lines seen in
    let joined : length (before ++ new) ≡ length before + length new = length-append before new in
    let here : length new ≤ 2 = line_few kind highz before line one one.side in
    omega arith
