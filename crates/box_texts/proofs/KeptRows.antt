-- Lines that are kept, and what is read of them.
use Rattle.std.proofs.Common.{◌≡◌, ◌≢◌, ◌≤◌, ◌<◌, ℕ, suc, ◌+◌, true, false, if◌then◌else◌, List, [], ◌∷◌, ◌++◌, map, take, drop, length, slice_get, is_none, Option, Some, None, Result, Ok, Err, IfOk, All, Bor, refl, sym, ap, ◌∙◌, subst, inl, inr, arith, append_assoc, append-nil, length-append, take-append-drop}
use Rattle.std.specs.Option.{option_map}
use Rattle.std.proofs.lemmas.List.{length-map, map-append}
use Rattle.list_laws.specs.Options.{or_else, first_in}
use Rattle.list_laws.proofs.Lists.{taken_more, left_at, map_push, front_all}
use Rattle.list_laws.proofs.Options.{or_else-parts, first_in-append}
use Rattle.word_cutter.specs.LinesWords.{words_of, kept_lines}
use Rattle.word_cutter.specs.Ahead.{rest_of}
use Rattle.texts.specs.Repeated.{texts, bytes_of}
use Rattle.cell_library.specs.declared.listed.ListedCell.{ListedCell}
use Rattle.cell_library.specs.Laws.{OwnNamesAreExact}
use Rattle.cell_library.specs.Sound.{IsLibrary}
use Rattle.cell_text.specs.declared.fault.LibFault.{LibFault}
use Rattle.cell_text.specs.declared.fault.LibFault.TheVariants as fault
use Rattle.cell_text.specs.Words.{Words}
use Rattle.cell_text.specs.Lines.{is_cell_line}
use Rattle.cell_text.specs.Cells.{cell_in}
use Rattle.cell_text.specs.Rules.{name_in, barred_after, body_fault}
use Rattle.cell_text.specs.Faults.{words_in}
use Rattle.cell_text.specs.Faults as cell_faults
use Rattle.cell_text.specs.Grammar.{SpellsLibrary}
use Rattle.cell_text.specs.Reader.{rows_of, IsFirst, CanBeCells}
use Rattle.cell_text.proofs.Borrowed.{texts_append}
use Rattle.cell_text.proofs.Counts.{kept_within}
use Rattle.cell_text.proofs.Gathered.{rows_push}
use Rattle.cell_text.proofs.Loop.{row_at, rows_take}
use Rattle.box_model.specs.declared.boxes.BoxCell.{BoxCell}
use Rattle.box_model.specs.declared.boxes.BoxLibrary.{BoxLibrary}
use Rattle.box_texts.specs.declared.forms.LineForm.{LineForm}
use Rattle.box_texts.specs.declared.forms.LineForm.TheVariants.{Cell, Box, Cut}
use Rattle.box_texts.specs.declared.reader.Kept.{Kept}
use Rattle.box_texts.specs.Forms.{is_box_line, is_cut_line, form_behind}
use Rattle.box_texts.specs.Boxes.{box_in, bare_of}
use Rattle.box_texts.specs.Rules.{cells_of, boxes_of, cuts_of, barred_cut, barred_name, box_fault, bodies_fault, rule_fault}
use Rattle.box_texts.specs.Faults.{is_begun, later_lines, later_rows, misplaced, misplaced_by, line_fault, first_fault, IsFault}
use Rattle.box_texts.specs.Grammar.{SpellsBoxes}
use Rattle.box_texts.specs.Reader as reading
use Rattle.box_texts.specs.Reader.{AreParts, Keeps, IsAdded, IsNoted, Going, IsKept, CanBeBoxes, IsReadFrom, IsReadOf}
use Rattle.box_texts.proofs.Keyed.{is_of, form_told}
use Rattle.box_texts.proofs.Sorting.{passes_last, fails_last, passed, parts_few}
use Rattle.box_texts.proofs.Named.{front_free}
use Rattle.box_texts.proofs.Spelled.{IsOrderly, begun_fault, plain_fault, told_rules, told_many, told_name, told_body, library_read, boxed_spelled, no_box_fault}

-- One line more.

pub cell_added : (words : Words) (line : Bor (List ℕ)) (old new : Kept) → words ≡ words_of line.now → new.cells.items ≡ old.cells.items ++ line ∷ [] → new.boxes ≡ old.boxes → new.cuts ≡ old.cuts
    → IsAdded Cell words old new
cell_added words line old new is c b k form rows parts =
    let of = is_of Cell words form in
    record {
      cells = ap rows_of c ∙ rows_push old.cells.items line ∙ ap (λ (l : List Words). l ++ words_of line.now ∷ []) parts.cells ∙ ap (λ (w : Words). cells_of rows ++ w ∷ []) (sym is)
          ∙ sym (passes_last is_cell_line rows words of.0);
      boxes = ap (λ v. rows_of v.items) b ∙ parts.boxes ∙ sym (fails_last is_box_line rows words of.1);
      cuts = ap (λ v. texts v.items) k ∙ parts.cuts ∙ ap (map name_in) (sym (fails_last is_cut_line rows words of.2));
    }

pub box_added : (words : Words) (line : Bor (List ℕ)) (old new : Kept) → words ≡ words_of line.now → new.cells ≡ old.cells → new.boxes.items ≡ old.boxes.items ++ line ∷ [] → new.cuts ≡ old.cuts
    → IsAdded Box words old new
box_added words line old new is c b k form rows parts =
    let of = is_of Box words form in
    record {
      cells = ap (λ v. rows_of v.items) c ∙ parts.cells ∙ sym (fails_last is_cell_line rows words of.0);
      boxes = ap rows_of b ∙ rows_push old.boxes.items line ∙ ap (λ (l : List Words). l ++ words_of line.now ∷ []) parts.boxes ∙ ap (λ (w : Words). boxes_of rows ++ w ∷ []) (sym is)
          ∙ sym (passes_last is_box_line rows words of.1);
      cuts = ap (λ v. texts v.items) k ∙ parts.cuts ∙ ap (map name_in) (sym (fails_last is_cut_line rows words of.2));
    }

pub cut_added : (words : Words) (name : Bor (List ℕ)) (old new : Kept) → name.now ≡ name_in words → new.cells ≡ old.cells → new.boxes ≡ old.boxes → new.cuts.items ≡ old.cuts.items ++ name ∷ []
    → IsAdded Cut words old new
cut_added words name old new is c b k form rows parts =
    let of = is_of Cut words form in
    record {
      cells = ap (λ v. rows_of v.items) c ∙ parts.cells ∙ sym (fails_last is_cell_line rows words of.0);
      boxes = ap (λ v. rows_of v.items) b ∙ parts.boxes ∙ sym (fails_last is_box_line rows words of.1);
      cuts = ap texts k ∙ texts_append old.cuts.items (name ∷ []) ∙ ap (λ (l : Words). l ++ name.now ∷ []) parts.cuts ∙ ap (λ (n : List ℕ). map name_in (cuts_of rows) ++ n ∷ []) is
          ∙ sym (map_push name_in (cuts_of rows) words) ∙ ap (map name_in) (sym (passes_last is_cut_line rows words of.2));
    }

pub noted_there : (form : LineForm) (words : Words) (old mid new : Kept) → old.count < 4096 → mid.count ≡ old.count → new.count ≡ mid.count + 1 → new.cells ≡ mid.cells → new.boxes ≡ mid.boxes → new.cuts ≡ mid.cuts
    → IsAdded form words old mid → IsNoted form words old new
noted_there form words old mid new low same more c b k added is rows keeps =
    let count = keeps.count in
    let l = length-append rows (words ∷ []) in
    record {
      parts = λ few.
          let parts = added is rows (keeps.parts (omega arith)) in
          record { cells = ap (λ v. rows_of v.items) c ∙ parts.cells; boxes = ap (λ v. rows_of v.items) b ∙ parts.boxes; cuts = ap (λ v. texts v.items) k ∙ parts.cuts };
      count = omega arith;
    }

pub noted_full : (form : LineForm) (words : Words) (old new : Kept) → 4096 ≤ old.count → new.count ≡ old.count + 1 → IsNoted form words old new
noted_full form words old new full more is rows keeps =
    let count = keeps.count in
    let l = length-append rows (words ∷ []) in
    record { parts = λ few. absurd (omega arith); count = omega arith }

-- The loop over the kept lines.

pub begins : (rows : List (ℕ × Words)) (kept : Kept) → Keeps [] kept → Going rows rows Cell kept
begins rows kept keeps = record { passed = []; split = refl; order = refl; keeps = keeps }

pub goes_on : (all left rest : List (ℕ × Words)) (number : ℕ) (words : Words) (before form : LineForm) (old new : Kept) → Going all left before old → left ≡ (number, words) ∷ rest
    → form_behind before words ≡ Some form → IsNoted form words old new → Going all rest form new
goes_on all left rest number words before form old new going here told noted = record {
  passed = going.passed ++ (number, words) ∷ [];
  split = going.split ∙ ap (λ (l : List (ℕ × Words)). going.passed ++ l) here ∙ sym (append_assoc going.passed ((number, words) ∷ []) rest);
  order = going.order ∙ ap (misplaced before) here ∙ ap (misplaced_by number (λ (f : LineForm). misplaced f rest)) told;
  keeps = subst (λ (rows : List Words). Keeps rows new) (sym (map_push words_in going.passed (number, words))) (noted (form_told before form words told).0 (map words_in going.passed) going.keeps);
}

pub ends : (all left : List (ℕ × Words)) (before : LineForm) (kept : Kept) → Going all left before kept → left ≡ [] → IsKept all kept
ends all left before kept going none =
    let same : all ≡ going.passed = going.split ∙ ap (λ (l : List (ℕ × Words)). going.passed ++ l) none ∙ append-nil going.passed in
    record { order = going.order ∙ ap (misplaced before) none; keeps = subst (λ (rows : List (ℕ × Words)). Keeps (map words_in rows) kept) (sym same) going.keeps }

pub bad_line : (all left rest : List (ℕ × Words)) (number : ℕ) (words : Words) (before : LineForm) (kept : Kept) → Going all left before kept → left ≡ (number, words) ∷ rest → form_behind before words ≡ None
    → line_fault all ≡ Some (fault.LibLine number)
bad_line all left rest number words before kept going here none =
    ap (option_map fault.LibLine) (going.order ∙ ap (misplaced before) here ∙ ap (misplaced_by number (λ (f : LineForm). misplaced f rest)) none)

pub room : (all left : List (ℕ × Words)) (before : LineForm) (kept : Kept) → Going all left before kept → left ≢ [] → kept.count < length all
room all left before kept going some =
    let a : length all ≡ length (going.passed ++ left) = ap length going.split in
    let b = length-append going.passed left in
    let c : length (map words_in going.passed) ≡ length going.passed = length-map going.passed words_in in
    let d = going.keeps.count in
    let e = positive left some in
    omega arith
  where
    positive : (left : List (ℕ × Words)) → left ≢ [] → 1 ≤ length left
    positive [] some = absurd (some refl)
    positive (row ∷ rows) some = omega arith

-- The first of faults.

pub first_or : (f : LibFault) (o more : Option LibFault) → IsFirst f o → IsFirst f (or_else o more)
first_or (fault.LibLine line) o more first = ap (λ (p : Option LibFault). or_else p more) first
first_or (fault.TooMany count) o more first = ap (λ (p : Option LibFault). or_else p more) first
first_or (fault.LibName name) o more first = ap (λ (p : Option LibFault). or_else p more) first
first_or (fault.LibBody name) o more first = ap (λ (p : Option LibFault). or_else p more) first
first_or fault.OutOfMemory o more first = tt

pub first_later : (f : LibFault) (o more : Option LibFault) → o ≡ None → IsFirst f more → IsFirst f (or_else o more)
first_later f o more none first = subst (λ (p : Option LibFault). IsFirst f (or_else p more)) (sym none) first

pub told_first : (f : LibFault) (o : Option LibFault) → o ≡ Some f → IsFirst f o
told_first (fault.LibLine line) o told = told
told_first (fault.TooMany count) o told = told
told_first (fault.LibName name) o told = told
told_first (fault.LibBody name) o told = told
told_first fault.OutOfMemory o told = tt

pub plain_told : (bytes : List ℕ) (f : LibFault) → is_begun (kept_lines bytes) ≡ false → cell_faults.IsFault bytes f → IsFault bytes f
plain_told bytes f other is = subst (IsFirst f) (sym (plain_fault bytes other)) (by f is)
  where
    by : (f : LibFault) → cell_faults.IsFault bytes f → IsFirst f (cell_faults.first_fault bytes)
    by (fault.LibLine line) is = is
    by (fault.TooMany count) is = is
    by (fault.LibName name) is = is
    by (fault.LibBody name) is = is
    by fault.OutOfMemory is = tt

pub plain_spelled : (bytes : List ℕ) (library : BoxLibrary) → SpellsLibrary bytes library.cells → library.boxes ≡ [] → library.cuts ≡ [] → SpellsBoxes bytes library
plain_spelled bytes library cells boxes cuts = inl (record { cells = cells; no_boxes = boxes; no_cuts = cuts })

pub line_told : (bytes : List ℕ) (f : LibFault) → is_begun (kept_lines bytes) ≡ true → IsFirst f (line_fault (later_lines bytes)) → IsFault bytes f
line_told bytes f begun first = subst (IsFirst f) (sym (begun_fault bytes begun)) (first_or f (line_fault (later_lines bytes)) (rule_fault (later_rows bytes)) first)

-- The rules.

parts_are : (bytes : List ℕ) (kept : Kept) → IsKept (later_lines bytes) kept → kept.count ≤ 4096 → AreParts (later_rows bytes) kept
parts_are bytes kept is few = let count = is.keeps.count in is.keeps.parts (omega arith)

pub many_told : (bytes : List ℕ) (kept : Kept) → is_begun (kept_lines bytes) ≡ true → IsKept (later_lines bytes) kept → 4096 < kept.count → first_fault bytes ≡ Some (fault.TooMany kept.count)
many_told bytes kept begun is many = told_rules bytes (fault.TooMany kept.count) begun is.order (told_many (later_rows bytes) kept.count is.keeps.count many)

-- the first name that is barred among lines that are kept
abbrev pub kept_name : Kept → Option (List ℕ)
kept_name kept = barred_name (map name_in (rows_of kept.cells.items ++ rows_of kept.boxes.items)) (texts kept.cuts.items)

pub name_found : (kept : Kept) (cells boxes cuts : List (Bor (List ℕ))) (found : Option (Bor (List ℕ))) → cells ≡ kept.cells.items → boxes ≡ kept.boxes.items → cuts ≡ kept.cuts.items
    → bytes_of found ≡ or_else (barred_after [] (map name_in (rows_of cells ++ rows_of boxes))) (barred_cut [] (texts cuts)) → bytes_of found ≡ kept_name kept
name_found kept cells boxes cuts found a b c is =
    is
    ∙ ap (λ (l : List (Bor (List ℕ))). barred_name (map name_in (rows_of l ++ rows_of boxes)) (texts cuts)) a
    ∙ ap (λ (l : List (Bor (List ℕ))). barred_name (map name_in (rows_of kept.cells.items ++ rows_of l)) (texts cuts)) b
    ∙ ap (λ (l : List (Bor (List ℕ))). barred_name (map name_in (rows_of kept.cells.items ++ rows_of kept.boxes.items)) (texts l)) c

names_are : (bytes : List ℕ) (kept : Kept) → AreParts (later_rows bytes) kept
    → kept_name kept ≡ barred_name (map name_in (cells_of (later_rows bytes) ++ boxes_of (later_rows bytes))) (map name_in (cuts_of (later_rows bytes)))
names_are bytes kept parts =
    ap (λ (l : List Words). barred_name (map name_in (l ++ rows_of kept.boxes.items)) (texts kept.cuts.items)) parts.cells
    ∙ ap (λ (l : List Words). barred_name (map name_in (cells_of (later_rows bytes) ++ l)) (texts kept.cuts.items)) parts.boxes
    ∙ ap (barred_name (map name_in (cells_of (later_rows bytes) ++ boxes_of (later_rows bytes)))) parts.cuts

few_rows : (bytes : List ℕ) (kept : Kept) → IsKept (later_lines bytes) kept → kept.count ≤ 4096 → length (later_rows bytes) ≤ 4096
few_rows bytes kept is few = let count = is.keeps.count in omega arith

pub name_told : (bytes : List ℕ) (kept : Kept) (name : List ℕ) → is_begun (kept_lines bytes) ≡ true → IsKept (later_lines bytes) kept → kept.count ≤ 4096 → Some name ≡ kept_name kept
    → first_fault bytes ≡ Some (fault.LibName name)
name_told bytes kept name begun is few barred =
    told_rules bytes (fault.LibName name) begun is.order
    (told_name (later_rows bytes) name (few_rows bytes kept is few) (sym (names_are bytes kept (parts_are bytes kept is few)) ∙ sym barred))

orderly : (bytes : List ℕ) (kept : Kept) → is_begun (kept_lines bytes) ≡ true → IsKept (later_lines bytes) kept → kept.count ≤ 4096 → None ≡ kept_name kept → IsOrderly bytes
orderly bytes kept begun is few none =
    let rows = later_rows bytes in
    let both = or_else-parts (barred_after [] (map name_in (cells_of rows ++ boxes_of rows))) (barred_cut [] (map name_in (cuts_of rows))) (sym (names_are bytes kept (parts_are bytes kept is few)) ∙ sym none) in
    record { begun = begun; order = is.order; few = few_rows bytes kept is few; names = both.0; cuts = both.1 }

pub can_be : (bytes : List ℕ) (kept : Kept) → is_begun (kept_lines bytes) ≡ true → IsKept (later_lines bytes) kept → kept.count ≤ 4096 → None ≡ kept_name kept → CanBeBoxes kept
can_be bytes kept begun is few none =
    let rows = later_rows bytes in
    let parts = parts_are bytes kept is few in
    let ordered = orderly bytes kept begun is few none in
    let l = parts_few (later_lines bytes) is.order in
    let short = ordered.few in
    let a : length (rows_of kept.cells.items) ≡ length (cells_of rows) = ap length parts.cells in
    let b : length (rows_of kept.boxes.items) ≡ length (boxes_of rows) = ap length parts.boxes in
    record {
      few = omega arith;
      cell_forms = subst (All (λ (w : Words). is_cell_line w ≡ true)) (sym parts.cells) (passed is_cell_line rows);
      box_forms = subst (All (λ (w : Words). is_box_line w ≡ true)) (sym parts.boxes) (passed is_box_line rows);
      names = ap (λ (l : List Words). barred_after [] (map name_in (l ++ rows_of kept.boxes.items))) parts.cells
          ∙ ap (λ (l : List Words). barred_after [] (map name_in (cells_of rows ++ l))) parts.boxes ∙ ordered.names;
    }

library_told : OwnNamesAreExact → (bytes : List ℕ) (kept : Kept) (library : BoxLibrary) → is_begun (kept_lines bytes) ≡ true → IsKept (later_lines bytes) kept → kept.count ≤ 4096 → None ≡ kept_name kept
    → IsReadOf kept library → SpellsBoxes bytes library
library_told exact bytes kept library begun is few none read =
    let parts = parts_are bytes kept is few in
    inr (boxed_spelled exact bytes library (orderly bytes kept begun is few none) (record {
      own = read.own;
      cells_are = ap (map cell_in) (sym parts.cells) ∙ read.cells_are;
      boxes_are = ap (map box_in) (sym parts.boxes) ∙ read.boxes_are;
      library_is = read.library_is;
      cuts_are = read.cuts_are ∙ parts.cuts;
    }))

pub all_told : OwnNamesAreExact → (bytes : List ℕ) (kept : Kept) (r : Result BoxLibrary LibFault) → is_begun (kept_lines bytes) ≡ true → IsKept (later_lines bytes) kept → kept.count ≤ 4096 → None ≡ kept_name kept
    → IfOk r (IsReadOf kept) → IfOk r (SpellsBoxes bytes)
all_told exact bytes kept (Err e) begun is few none read = tt
all_told exact bytes kept (Ok library) begun is few none read = library_told exact bytes kept library begun is few none read

pub body_told : (bytes : List ℕ) (kept : Kept) (f : LibFault) → is_begun (kept_lines bytes) ≡ true → IsKept (later_lines bytes) kept → kept.count ≤ 4096 → None ≡ kept_name kept
    → IsFirst f (reading.body_fault kept) → IsFault bytes f
body_told bytes kept f begun is few none first =
    let rows = later_rows bytes in
    let parts = parts_are bytes kept is few in
    let bodies : reading.body_fault kept ≡ bodies_fault (cells_of rows) (boxes_of rows) =
    ap (λ (l : List Words). bodies_fault l (rows_of kept.boxes.items)) parts.cells ∙ ap (bodies_fault (cells_of rows)) parts.boxes in
    let rules : rule_fault rows ≡ bodies_fault (cells_of rows) (boxes_of rows) =
    told_body rows (few_rows bytes kept is few) (sym (names_are bytes kept parts) ∙ sym none) in
    let all : first_fault bytes ≡ bodies_fault (cells_of rows) (boxes_of rows) =
    begun_fault bytes begun ∙ ap (λ (o : Option ℕ). or_else (option_map fault.LibLine o) (rule_fault rows)) is.order ∙ rules in
    subst (IsFirst f) (bodies ∙ sym all) first

-- What is read of lines.

pub cells_can : (kept : Kept) → CanBeBoxes kept → CanBeCells (rows_of kept.cells.items)
cells_can kept can =
    let cells = rows_of kept.cells.items in
    let boxes = rows_of kept.boxes.items in
    let few = can.few in
    record {
      few = omega arith;
      forms = can.cell_forms;
      names = front_free [] (map name_in cells) (map name_in boxes) (ap (barred_after []) (sym (map-append name_in cells boxes)) ∙ can.names);
    }

pub library_can : OwnNamesAreExact → (kept : Kept) (own : List ListedCell) (found : List BoxCell) → CanBeBoxes kept → map cell_in (rows_of kept.cells.items) ≡ map (λ (c : ListedCell). Some c) own
    → map box_in (rows_of kept.boxes.items) ≡ map (λ (b : BoxCell). Some b) found → IsLibrary (own ++ map bare_of found)
library_can exact kept own found can same is =
    library_read exact (rows_of kept.cells.items) (rows_of kept.boxes.items) own found (cells_can kept can) can.box_forms can.few can.names same is

no_cell_fault : (rows : List Words) (own : List ListedCell) → map cell_in rows ≡ map (λ (c : ListedCell). Some c) own → first_in body_fault rows ≡ None
no_cell_fault [] own same = refl
no_cell_fault (w ∷ rows) [] same = absurd (cc)
no_cell_fault (w ∷ rows) (c ∷ own) same =
    let here : cell_in w ≡ Some c = cc in
    let more : map cell_in rows ≡ map (λ (c : ListedCell). Some c) own = cc in
    ap (λ (o : Option ListedCell). or_else (if is_none o then Some (fault.LibBody (name_in w)) else None) (first_in body_fault rows)) here ∙ no_cell_fault rows own more

pub cell_body : (kept : Kept) (f : LibFault) → IsFirst f (first_in body_fault (rows_of kept.cells.items)) → IsFirst f (reading.body_fault kept)
cell_body kept f first = first_or f (first_in body_fault (rows_of kept.cells.items)) (first_in box_fault (rows_of kept.boxes.items)) first

pub box_body : (kept : Kept) (own : List ListedCell) (f : LibFault) → map cell_in (rows_of kept.cells.items) ≡ map (λ (c : ListedCell). Some c) own
    → IsFirst f (first_in box_fault (rows_of kept.boxes.items)) → IsFirst f (reading.body_fault kept)
box_body kept own f same first =
    first_later f (first_in body_fault (rows_of kept.cells.items)) (first_in box_fault (rows_of kept.boxes.items)) (no_cell_fault (rows_of kept.cells.items) own same) first

-- The loop over the lines of boxes.

abbrev pub boxes_are : List (Bor (List ℕ)) → List BoxCell → Type 0
boxes_are lines boxes = map box_in (rows_of lines) ≡ map (λ (b : BoxCell). Some b) boxes

pub next_box : (lines : List (Bor (List ℕ))) (k : ℕ) (line : Bor (List ℕ)) (words : Words) (boxes new : List BoxCell) (b : BoxCell) → slice_get lines k ≡ Some line → words ≡ words_of line.now
    → boxes_are (take k lines) boxes → Some b ≡ box_in words → new ≡ boxes ++ b ∷ [] → boxes_are (take (k + 1) lines) new
next_box lines k line words boxes new b at gathered so_far is grown =
    let taken : take k lines ++ line ∷ [] ≡ take (k + 1) lines = taken_more lines k line (take k lines) (take k lines ++ line ∷ []) at refl refl in
    ap (λ (l : List (Bor (List ℕ))). map box_in (rows_of l)) (sym taken)
    ∙ ap (map box_in) (rows_push (take k lines) line)
    ∙ map_push box_in (rows_of (take k lines)) (words_of line.now)
    ∙ ap (λ (l : List (Option BoxCell)). l ++ box_in (words_of line.now) ∷ []) so_far
    ∙ ap (λ (o : Option BoxCell). map (λ (b : BoxCell). Some b) boxes ++ o ∷ []) (ap box_in (sym gathered) ∙ sym is)
    ∙ sym (map_push (λ (b : BoxCell). Some b) boxes b)
    ∙ ap (map (λ (b : BoxCell). Some b)) (sym grown)

pub bad_box : (lines : List (Bor (List ℕ))) (k : ℕ) (line : Bor (List ℕ)) (words : Words) (boxes : List BoxCell) (name : List ℕ) → slice_get lines k ≡ Some line → words ≡ words_of line.now
    → boxes_are (take k lines) boxes → None ≡ box_in words → name ≡ name_in (words_of line.now) → first_in box_fault (rows_of lines) ≡ Some (fault.LibBody name)
bad_box lines k line words boxes name at gathered so_far none named =
    let rows = rows_of lines in
    let none_here : box_in (words_of line.now) ≡ None = ap box_in (sym gathered) ∙ sym none in
    let split : rows ≡ take k rows ++ words_of line.now ∷ drop (suc k) rows = sym (take-append-drop k rows) ∙ ap (λ (l : List Words). take k rows ++ l) (left_at rows k (words_of line.now) (row_at lines k line at)) in
    ap (first_in box_fault) split
    ∙ first_in-append box_fault (take k rows) (words_of line.now ∷ drop (suc k) rows)
    ∙ ap (λ (o : Option LibFault). or_else o (first_in box_fault (words_of line.now ∷ drop (suc k) rows))) (no_box_fault (take k rows) boxes (ap (map box_in) (sym (rows_take k lines)) ∙ so_far))
    ∙ ap (λ (o : Option BoxCell). or_else (if is_none o then Some (fault.LibBody (name_in (words_of line.now))) else None) (first_in box_fault (drop (suc k) rows))) none_here
    ∙ ap (λ (n : List ℕ). Some (fault.LibBody n)) (sym named)

pub all_boxes : (lines : List (Bor (List ℕ))) (k : ℕ) (boxes : List BoxCell) → length lines ≤ k → boxes_are (take k lines) boxes → boxes_are lines boxes
all_boxes lines k boxes all so_far = ap (λ (l : List (Bor (List ℕ))). map box_in (rows_of l)) (sym (front_all lines k all)) ∙ so_far

pub rows_fit : (bytes : List ℕ) (rows left : List (ℕ × Words)) → rows ≡ kept_lines bytes → left ≡ rest_of rows → length left ≤ length bytes
rows_fit bytes rows left are passed =
    let few = kept_within bytes in
    let same : length left ≡ length (rest_of (kept_lines bytes)) = ap length (passed ∙ ap rest_of are) in
    omega arith
