-- Lines in order, and those of each form.
use Rattle.std.proofs.Common.{◌≡◌, ℕ, ◌+◌, Bool, true, false, cond, List, [], ◌∷◌, ◌++◌, map, filter, length, Option, Some, None, All, refl, sym, ap, ◌∙◌, arith, append-nil, length-append}
use Rattle.std.proofs.lemmas.List.Elements.{All-nil, All-cons, All-head, All-tail, filter-append}
use Rattle.cell_text.specs.Words.{Words}
use Rattle.cell_text.specs.Lines.{is_cell_line}
use Rattle.cell_text.specs.Faults.{words_in}
use Rattle.box_texts.specs.declared.forms.LineForm.{LineForm}
use Rattle.box_texts.specs.declared.forms.LineForm.TheVariants.{Cell, Box, Cut}
use Rattle.box_texts.specs.Forms.{is_box_line, is_cut_line, form_of, may_follow, form_behind}
use Rattle.box_texts.specs.Rules.{cells_of, boxes_of, cuts_of}
use Rattle.box_texts.specs.Faults.{misplaced, misplaced_by}
use Rattle.box_texts.proofs.Keyed.{IsOf, is_of, form_told, told_behind}

-- Those of a list that pass.

pub passes_first : {X : Type 0} (p : X → Bool) (x : X) (xs : List X) → p x ≡ true → filter p (x ∷ xs) ≡ x ∷ filter p xs
passes_first {X = X} p x xs pass = ap (λ (b : Bool). cond b (x ∷ filter p xs) (filter p xs)) pass

pub fails_first : {X : Type 0} (p : X → Bool) (x : X) (xs : List X) → p x ≡ false → filter p (x ∷ xs) ≡ filter p xs
fails_first {X = X} p x xs fail = ap (λ (b : Bool). cond b (x ∷ filter p xs) (filter p xs)) fail

pub passes_last : {X : Type 0} (p : X → Bool) (xs : List X) (x : X) → p x ≡ true → filter p (xs ++ x ∷ []) ≡ filter p xs ++ x ∷ []
passes_last {X = X} p xs x pass = filter-append p xs (x ∷ []) ∙ ap (λ (l : List X). filter p xs ++ l) (passes_first p x [] pass)

pub fails_last : {X : Type 0} (p : X → Bool) (xs : List X) (x : X) → p x ≡ false → filter p (xs ++ x ∷ []) ≡ filter p xs
fails_last {X = X} p xs x fail = filter-append p xs (x ∷ []) ∙ ap (λ (l : List X). filter p xs ++ l) (fails_first p x [] fail) ∙ append-nil (filter p xs)

pub all_pass : {X : Type 0} (p : X → Bool) (xs : List X) → All (λ (x : X). p x ≡ true) xs → filter p xs ≡ xs
all_pass p [] all = refl
all_pass {X = X} p (x ∷ xs) all =
    passes_first p x xs (All-head (λ (x : X). p x ≡ true) x xs all) ∙ ap (λ (l : List X). x ∷ l) (all_pass p xs (All-tail (λ (x : X). p x ≡ true) x xs all))

pub none_pass : {X : Type 0} (p : X → Bool) (xs : List X) → All (λ (x : X). p x ≡ false) xs → filter p xs ≡ []
none_pass p [] all = refl
none_pass {X = X} p (x ∷ xs) all =
    fails_first p x xs (All-head (λ (x : X). p x ≡ false) x xs all) ∙ none_pass p xs (All-tail (λ (x : X). p x ≡ false) x xs all)

pub passed : {X : Type 0} (p : X → Bool) (xs : List X) → All (λ (x : X). p x ≡ true) (filter p xs)
passed {X = X} p [] = All-nil (λ (x : X). p x ≡ true)
passed {X = X} p (x ∷ xs) = by (p x) refl (passed p xs)
  where
    by : (b : Bool) → p x ≡ b → All (λ (x : X). p x ≡ true) (filter p xs) → All (λ (x : X). p x ≡ true) (cond b (x ∷ filter p xs) (filter p xs))
    by true e rest = All-cons (λ (x : X). p x ≡ true) x (filter p xs) e rest
    by false e rest = rest

pub All-map : {X : Type 0} (P Q : X → Type 0) (xs : List X) → ((x : X) → P x → Q x) → All P xs → All Q xs
All-map P Q [] f all = All-nil Q
All-map P Q (x ∷ xs) f all = All-cons Q x xs (f x (All-head P x xs all)) (All-map P Q xs f (All-tail P x xs all))

-- Lines in order are those of cells, those of boxes, and those of cuts.

record IsSorted (before : LineForm) (rows : List Words) : Type 0 where
  sorted : rows ≡ cells_of rows ++ boxes_of rows ++ cuts_of rows
  cells : may_follow Cell before ≡ false → cells_of rows ≡ []
  boxes : may_follow Box before ≡ false → boxes_of rows ≡ []

cell_step : (before : LineForm) (words : Words) (rows : List Words) → may_follow Cell before ≡ true → may_follow Box before ≡ true → IsOf Cell words → IsSorted Cell rows → IsSorted before (words ∷ rows)
cell_step before words rows may more is so_far =
    let c = passes_first is_cell_line words rows is.0 in
    let b = fails_first is_box_line words rows is.1 in
    let k = fails_first is_cut_line words rows is.2 in
    record {
      sorted = ap (λ (l : List Words). words ∷ l) so_far.sorted
          ∙ ap (λ (l : List Words). l ++ boxes_of rows ++ cuts_of rows) (sym c)
          ∙ ap (λ (l : List Words). cells_of (words ∷ rows) ++ l ++ cuts_of rows) (sym b)
          ∙ ap (λ (l : List Words). cells_of (words ∷ rows) ++ boxes_of (words ∷ rows) ++ l) (sym k);
      cells = λ e. absurd (let clash : true ≡ false = sym may ∙ e in cc);
      boxes = λ e. absurd (let clash : true ≡ false = sym more ∙ e in cc);
    }

box_step : (before : LineForm) (words : Words) (rows : List Words) → may_follow Box before ≡ true → IsOf Box words → IsSorted Box rows → IsSorted before (words ∷ rows)
box_step before words rows may is so_far =
    let c = fails_first is_cell_line words rows is.0 in
    let b = passes_first is_box_line words rows is.1 in
    let k = fails_first is_cut_line words rows is.2 in
    let none : cells_of rows ≡ [] = so_far.cells refl in
    let none_here : cells_of (words ∷ rows) ≡ [] = c ∙ none in
    record {
      sorted = ap (λ (l : List Words). words ∷ l) (so_far.sorted ∙ ap (λ (l : List Words). l ++ boxes_of rows ++ cuts_of rows) none)
          ∙ ap (λ (l : List Words). l ++ cuts_of rows) (sym b)
          ∙ ap (λ (l : List Words). l ++ boxes_of (words ∷ rows) ++ cuts_of rows) (sym none_here)
          ∙ ap (λ (l : List Words). cells_of (words ∷ rows) ++ boxes_of (words ∷ rows) ++ l) (sym k);
      cells = λ e. none_here;
      boxes = λ e. absurd (let clash : true ≡ false = sym may ∙ e in cc);
    }

cut_step : (before : LineForm) (words : Words) (rows : List Words) → IsOf Cut words → IsSorted Cut rows → IsSorted before (words ∷ rows)
cut_step before words rows is so_far =
    let c = fails_first is_cell_line words rows is.0 ∙ so_far.cells refl in
    let b = fails_first is_box_line words rows is.1 ∙ so_far.boxes refl in
    let k = passes_first is_cut_line words rows is.2 in
    let same : rows ≡ cuts_of rows = so_far.sorted ∙ ap (λ (l : List Words). l ++ boxes_of rows ++ cuts_of rows) (so_far.cells refl) ∙ ap (λ (l : List Words). l ++ cuts_of rows) (so_far.boxes refl) in
    record {
      sorted = ap (λ (l : List Words). words ∷ l) same ∙ sym k
          ∙ ap (λ (l : List Words). l ++ cuts_of (words ∷ rows)) (sym b)
          ∙ ap (λ (l : List Words). l ++ boxes_of (words ∷ rows) ++ cuts_of (words ∷ rows)) (sym c);
      cells = λ e. c;
      boxes = λ e. b;
    }

step : (before form : LineForm) (words : Words) (rows : List Words) → may_follow form before ≡ true → IsOf form words → IsSorted form rows → IsSorted before (words ∷ rows)
step Cell Cell words rows may is so_far = cell_step Cell words rows refl refl is so_far
step Box Cell words rows may is so_far = absurd (let clash : false ≡ true = may in cc)
step Cut Cell words rows may is so_far = absurd (let clash : false ≡ true = may in cc)
step before Box words rows may is so_far = box_step before words rows may is so_far
step before Cut words rows may is so_far = cut_step before words rows is so_far

none_sorted : (before : LineForm) → IsSorted before []
none_sorted before = record { sorted = refl; cells = λ e. refl; boxes = λ e. refl }

sorted_behind : (before : LineForm) (rows : List (ℕ × Words)) → misplaced before rows ≡ None → IsSorted before (map words_in rows)
sorted_behind before [] none = none_sorted before
sorted_behind before (row ∷ rows) none = by (form_behind before row.1) refl none (λ form h. sorted_behind form rows h)
  where
    by : (o : Option LineForm) → form_behind before row.1 ≡ o → misplaced_by row.0 (λ (form : LineForm). misplaced form rows) o ≡ None
        → ((form : LineForm) → misplaced form rows ≡ None → IsSorted form (map words_in rows)) → IsSorted before (row.1 ∷ map words_in rows)
    by None e none next = absurd (let some : Some row.0 ≡ None = none in cc)
    by (Some form) e none next =
        let told = form_told before form row.1 e in
        step before form row.1 (map words_in rows) told.1 (is_of form row.1 told.0) (next form none)

pub rows_sorted : (rows : List (ℕ × Words)) → misplaced Cell rows ≡ None → map words_in rows ≡ cells_of (map words_in rows) ++ boxes_of (map words_in rows) ++ cuts_of (map words_in rows)
rows_sorted rows none = (sorted_behind Cell rows none).sorted

-- Lines that are put in order.

abbrev pub Form : LineForm → Words → Type 0
Form form words = form_of words ≡ Some form

placed_cuts : (before : LineForm) (rows : List (ℕ × Words)) (cuts : List Words) → map words_in rows ≡ cuts → All (Form Cut) cuts → misplaced before rows ≡ None
placed_cuts before [] cuts same forms = refl
placed_cuts before (row ∷ rows) [] same forms = absurd (cc)
placed_cuts before (row ∷ rows) (c ∷ cuts) same forms =
    let here : row.1 ≡ c = cc in
    let more : map words_in rows ≡ cuts = cc in
    ap (misplaced_by row.0 (λ (form : LineForm). misplaced form rows)) (told_behind before Cut row.1 (ap form_of here ∙ All-head (Form Cut) c cuts forms) refl)
    ∙ placed_cuts Cut rows cuts more (All-tail (Form Cut) c cuts forms)

placed_boxes : (before : LineForm) (rows : List (ℕ × Words)) (boxes cuts : List Words) → may_follow Box before ≡ true → map words_in rows ≡ boxes ++ cuts → All (Form Box) boxes → All (Form Cut) cuts
    → misplaced before rows ≡ None
placed_boxes before rows [] cuts may same forms cut_forms = placed_cuts before rows cuts same cut_forms
placed_boxes before [] (b ∷ boxes) cuts may same forms cut_forms = refl
placed_boxes before (row ∷ rows) (b ∷ boxes) cuts may same forms cut_forms =
    let here : row.1 ≡ b = cc in
    let more : map words_in rows ≡ boxes ++ cuts = cc in
    ap (misplaced_by row.0 (λ (form : LineForm). misplaced form rows)) (told_behind before Box row.1 (ap form_of here ∙ All-head (Form Box) b boxes forms) may)
    ∙ placed_boxes Box rows boxes cuts refl more (All-tail (Form Box) b boxes forms) cut_forms

pub placed_rows : (rows : List (ℕ × Words)) (cells boxes cuts : List Words) → map words_in rows ≡ cells ++ boxes ++ cuts → All (Form Cell) cells → All (Form Box) boxes → All (Form Cut) cuts
    → misplaced Cell rows ≡ None
placed_rows rows [] boxes cuts same forms box_forms cut_forms = placed_boxes Cell rows boxes cuts refl same box_forms cut_forms
placed_rows [] (c ∷ cells) boxes cuts same forms box_forms cut_forms = refl
placed_rows (row ∷ rows) (c ∷ cells) boxes cuts same forms box_forms cut_forms =
    let here : row.1 ≡ c = cc in
    let more : map words_in rows ≡ cells ++ boxes ++ cuts = cc in
    ap (misplaced_by row.0 (λ (form : LineForm). misplaced form rows)) (told_behind Cell Cell row.1 (ap form_of here ∙ All-head (Form Cell) c cells forms) refl)
    ∙ placed_rows rows cells boxes cuts more (All-tail (Form Cell) c cells forms) box_forms cut_forms

-- The parts of lines that are put in order.

pub record AreFormed (cells boxes cuts : List Words) : Type 0 where
  pub each_cell : All (Form Cell) cells
  pub each_box : All (Form Box) boxes
  pub each_cut : All (Form Cut) cuts

-- those of three lists that pass a test
three : (p : Words → Bool) (cells boxes cuts : List Words) → filter p (cells ++ boxes ++ cuts) ≡ filter p cells ++ filter p boxes ++ filter p cuts
three p cells boxes cuts = filter-append p (cells ++ boxes) cuts ∙ ap (λ (l : List Words). l ++ filter p cuts) (filter-append p cells boxes)

tests : (form : LineForm) (p : Words → Bool) (b : Bool) (rows : List Words) → ((words : Words) → IsOf form words → p words ≡ b) → All (Form form) rows → All (λ (words : Words). p words ≡ b) rows
tests form p b rows each forms = All-map (Form form) (λ (words : Words). p words ≡ b) rows (λ words is. each words (is_of form words is)) forms

pub parted_cells : (cells boxes cuts : List Words) → AreFormed cells boxes cuts → cells_of (cells ++ boxes ++ cuts) ≡ cells
parted_cells cells boxes cuts are =
    three is_cell_line cells boxes cuts
    ∙ ap (λ (l : List Words). l ++ filter is_cell_line boxes ++ filter is_cell_line cuts) (all_pass is_cell_line cells (tests Cell is_cell_line true cells (λ words is. is.0) are.each_cell))
    ∙ ap (λ (l : List Words). cells ++ l ++ filter is_cell_line cuts) (none_pass is_cell_line boxes (tests Box is_cell_line false boxes (λ words is. is.0) are.each_box))
    ∙ ap (λ (l : List Words). cells ++ [] ++ l) (none_pass is_cell_line cuts (tests Cut is_cell_line false cuts (λ words is. is.0) are.each_cut))
    ∙ append-nil (cells ++ []) ∙ append-nil cells

pub parted_boxes : (cells boxes cuts : List Words) → AreFormed cells boxes cuts → boxes_of (cells ++ boxes ++ cuts) ≡ boxes
parted_boxes cells boxes cuts are =
    three is_box_line cells boxes cuts
    ∙ ap (λ (l : List Words). l ++ filter is_box_line boxes ++ filter is_box_line cuts) (none_pass is_box_line cells (tests Cell is_box_line false cells (λ words is. is.1) are.each_cell))
    ∙ ap (λ (l : List Words). l ++ filter is_box_line cuts) (all_pass is_box_line boxes (tests Box is_box_line true boxes (λ words is. is.1) are.each_box))
    ∙ ap (λ (l : List Words). boxes ++ l) (none_pass is_box_line cuts (tests Cut is_box_line false cuts (λ words is. is.1) are.each_cut))
    ∙ append-nil boxes

pub parted_cuts : (cells boxes cuts : List Words) → AreFormed cells boxes cuts → cuts_of (cells ++ boxes ++ cuts) ≡ cuts
parted_cuts cells boxes cuts are =
    three is_cut_line cells boxes cuts
    ∙ ap (λ (l : List Words). l ++ filter is_cut_line boxes ++ filter is_cut_line cuts) (none_pass is_cut_line cells (tests Cell is_cut_line false cells (λ words is. is.2) are.each_cell))
    ∙ ap (λ (l : List Words). l ++ filter is_cut_line cuts) (none_pass is_cut_line boxes (tests Box is_cut_line false boxes (λ words is. is.2) are.each_box))
    ∙ all_pass is_cut_line cuts (tests Cut is_cut_line true cuts (λ words is. is.2) are.each_cut)

-- no more lines are of cells and boxes than there are
pub parts_few : (rows : List (ℕ × Words)) → misplaced Cell rows ≡ None
    → length (map words_in rows) ≡ length (cells_of (map words_in rows)) + length (boxes_of (map words_in rows)) + length (cuts_of (map words_in rows))
parts_few rows none =
    let all = map words_in rows in
    let l : length all ≡ length (cells_of all ++ boxes_of all ++ cuts_of all) = ap length (rows_sorted rows none) in
    let m = length-append (cells_of all ++ boxes_of all) (cuts_of all) in
    let n = length-append (cells_of all) (boxes_of all) in
    omega arith
