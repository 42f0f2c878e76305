-- The rows of a plan don't depend on the words of its lines, nor on the kind of control cells where it has none.
use Rattle.std.proofs.Common.{◌≡◌, ℕ, suc, Bool, true, false, ◌||◌, List, [], ◌∷◌, ◌++◌, map, position, refl, sym, ◌∙◌, ap, Option, Some, None, slice_get, append_assoc}
use Rattle.std.specs.List.{list_any}
use Rattle.std.proofs.lemmas.List.{append-nil}
use Rattle.list_laws.proofs.Tests.{or_first, or_second}
use Rattle.cell_library.specs.declared.codes.BoundaryKind.{BoundaryKind}
use Rattle.cell_library.specs.declared.codes.Function.{Function}
use Rattle.cell_library.specs.declared.codes.Function.TheVariants as function
use Rattle.netlist_model.specs.declared.Dir.{Dir}
use Rattle.netlist_model.specs.declared.Dir.TheVariants as dir
use Rattle.netlist_link.specs.Linked.{LinkedView}
use Rattle.bsdl_device.specs.RowRules.{is_function}
use Rattle.plan_texts.specs.declared.plan.PinLine.{PinLine}
use Rattle.plan_fitting.specs.declared.fitted.FitRow.{FitRow}
use Rattle.plan_fitting.specs.declared.fitted.Fitted.{Fitted}
use Rattle.plan_fitting.specs.Pins.{PinSeen}
use Rattle.plan_fitting.specs.Rows.{Driver, controls, three_state, output_driver, controlled_by, output_rows, inout_rows, rows_at, rows_after}
use Rattle.plan_fitting.specs.Devices.{cell_row}
use Rattle.strip_model.specs.Plans.{control_of}
use Rattle.strip_model.specs.PlansTold.{word_at, told_lines}

-- Words.

abbrev other_word : PinLine → List ℕ → PinLine
other_word line word = record { port = word; pin = line.pin; cell = line.cell }

controlled_word : (kind : BoundaryKind) (before : List FitRow) (does : Function) (line : PinLine) (word : List ℕ) (one : PinSeen) (d : Driver) (found : Option ℕ)
    → controlled_by kind before does (other_word line word) one d found ≡ controlled_by kind before does line one d found
controlled_word kind before does line word one d None = refl
controlled_word kind before does line word one d (Some number) = refl

rows_word : (kind : BoundaryKind) (highz : Bool) (before : List FitRow) (line : PinLine) (word : List ℕ) (one : PinSeen) (side : Dir)
    → rows_at kind highz before (other_word line word) one side ≡ rows_at kind highz before line one side
rows_word kind highz before line word one dir.Input = refl
rows_word kind highz before line word one dir.Output = by (output_driver highz one)
  where
    by : (d : Option Driver) → output_rows kind before (other_word line word) one d ≡ output_rows kind before line one d
    by None = refl
    by (Some d) = controlled_word kind before function.Output3 line word one d (position (controls d) before)
rows_word kind highz before line word one dir.Inout = by (three_state one.driver)
  where
    by : (d : Option Driver) → inout_rows kind before (other_word line word) one d ≡ inout_rows kind before line one d
    by None = refl
    by (Some d) = controlled_word kind before function.Bidir line word one d (position (controls d) before)

pub after_words : (L : LinkedView) (kind : BoundaryKind) (highz : Bool) (before : List FitRow) (lines : List PinLine) (seen : List PinSeen)
    → rows_after kind highz before (told_lines L lines seen) seen ≡ rows_after kind highz before lines seen
after_words L kind highz before [] seen = refl
after_words L kind highz before (line ∷ lines) [] = refl
after_words L kind highz before (line ∷ lines) (one ∷ seen) =
    ap (λ (here : List FitRow). rows_after kind highz (before ++ here) (told_lines L lines seen) seen) (rows_word kind highz before line (word_at L one.pin) one one.side)
    ∙ after_words L kind highz (before ++ rows_at kind highz before line one one.side) lines seen

-- Kinds.

abbrev pub is_control : FitRow → Bool
is_control row = is_function function.Control row.function

any_front : (xs ys : List FitRow) → list_any is_control (xs ++ ys) ≡ false → list_any is_control ys ≡ false
any_front [] ys none = none
any_front (x ∷ xs) ys none = any_front xs ys (or_second (is_control x) (list_any is_control (xs ++ ys)) none)

-- the rows before are the first of all
pub after_front : (kind : BoundaryKind) (highz : Bool) (before : List FitRow) (lines : List PinLine) (seen : List PinSeen)
    → (more : List FitRow) × (rows_after kind highz before lines seen ≡ before ++ more)
after_front kind highz before [] seen = ([], sym (append-nil before))
after_front kind highz before (line ∷ lines) [] = ([], sym (append-nil before))
after_front kind highz before (line ∷ lines) (one ∷ seen) =
    let here : List FitRow = rows_at kind highz before line one one.side in
    let rest = after_front kind highz (before ++ here) lines seen in
    (here ++ rest.0, rest.1 ∙ append_assoc before here rest.0)

any_back : (xs ys : List FitRow) → list_any is_control (xs ++ ys) ≡ false → list_any is_control xs ≡ false
any_back [] ys none = refl
any_back (x ∷ xs) ys none =
    let here = or_first (is_control x) (list_any is_control (xs ++ ys)) none in
    let rest = any_back xs ys (or_second (is_control x) (list_any is_control (xs ++ ys)) none) in rw (here) rest

controlled_kind : (kind other : BoundaryKind) (before : List FitRow) (does : Function) (line : PinLine) (one : PinSeen) (d : Driver) (found : Option ℕ)
    → list_any is_control (controlled_by kind before does line one d found) ≡ false → controlled_by other before does line one d found ≡ controlled_by kind before does line one d found
controlled_kind kind other before does line one d (Some number) none = refl
controlled_kind kind other before does line one d None none =
    absurd (let bad : true ≡ false = or_second (is_function function.Control does) true none in cc)

rows_kind : (kind other : BoundaryKind) (highz : Bool) (before : List FitRow) (line : PinLine) (one : PinSeen) (side : Dir) → list_any is_control (rows_at kind highz before line one side) ≡ false
    → rows_at other highz before line one side ≡ rows_at kind highz before line one side
rows_kind kind other highz before line one dir.Input none = refl
rows_kind kind other highz before line one dir.Output none = by (output_driver highz one) none
  where
    by : (d : Option Driver) → list_any is_control (output_rows kind before line one d) ≡ false → output_rows other before line one d ≡ output_rows kind before line one d
    by None none = refl
    by (Some d) none = controlled_kind kind other before function.Output3 line one d (position (controls d) before) none
rows_kind kind other highz before line one dir.Inout none = by (three_state one.driver) none
  where
    by : (d : Option Driver) → list_any is_control (inout_rows kind before line one d) ≡ false → inout_rows other before line one d ≡ inout_rows kind before line one d
    by None none = refl
    by (Some d) none = controlled_kind kind other before function.Bidir line one d (position (controls d) before) none

pub after_kind : (kind other : BoundaryKind) (highz : Bool) (before : List FitRow) (lines : List PinLine) (seen : List PinSeen)
    → list_any is_control (rows_after kind highz before lines seen) ≡ false → rows_after other highz before lines seen ≡ rows_after kind highz before lines seen
after_kind kind other highz before [] seen none = refl
after_kind kind other highz before (line ∷ lines) [] none = refl
after_kind kind other highz before (line ∷ lines) (one ∷ seen) none =
    let here : List FitRow = rows_at kind highz before line one one.side in
    let front = after_front kind highz (before ++ here) lines seen in
    let all : list_any is_control ((before ++ here) ++ front.0) ≡ false = ap (list_any is_control) (sym front.1) ∙ none in
    let own = any_front before here (any_back (before ++ here) front.0 all) in
    ap (λ (added : List FitRow). rows_after other highz (before ++ added) lines seen) (rows_kind kind other highz before line one one.side own)
    ∙ after_kind kind other highz (before ++ here) lines seen none

-- own: each control cell is of this kind
abbrev pub AreOfKind : BoundaryKind → List FitRow → Type 0
AreOfKind kind rs = (k : ℕ) (row : FitRow) → slice_get rs k ≡ Some row → is_control row ≡ true → row.cell ≡ kind

-- the kind that is told
pub control_told : (kind : BoundaryKind) (f : Fitted) (rs : List FitRow) → AreOfKind kind rs → (list_any is_control rs ≡ true → control_of (map (cell_row f) rs) ≡ kind)
control_told kind f [] are some = absurd (cc)
control_told kind f (row ∷ rs) are some = by (is_control row) refl (λ e. control_told kind f rs (λ k r at. are (suc k) r at) e)
  where
    by : (b : Bool) → is_control row ≡ b → (list_any is_control rs ≡ true → control_of (map (cell_row f) rs) ≡ kind) → control_of (map (cell_row f) (row ∷ rs)) ≡ kind
    by true e rest = rw e (are 0 row refl e)
    by false e rest = rw e (rest (let some' : (false || list_any is_control rs) ≡ true = ap (λ (b : Bool). b || list_any is_control rs) (sym e) ∙ some in some'))
