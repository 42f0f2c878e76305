-- The loop that adds the cells of lines.
use Rattle.std.proofs.Common.{◌≡◌, ◌≤◌, ◌<◌, ℕ, zero, suc, ◌+◌, true, if◌then◌else◌, List, [], ◌∷◌, ◌++◌, map, take, drop, length, slice_get, is_none, Option, Some, None, All, Bor, refl, sym, ap, ◌∙◌, take-append-drop}
use Rattle.std.proofs.lemmas.List.Elements.{All-head, All-tail}
use Rattle.list_laws.specs.Options.{or_else, first_in}
use Rattle.list_laws.proofs.Lists.{taken_more, left_at, map_push, front_all}
use Rattle.list_laws.proofs.Options.{first_in-append}
use Rattle.word_cutter.specs.LinesWords.{words_of}
use Rattle.cell_library.specs.declared.listed.ListedCell.{ListedCell}
use Rattle.cell_library.specs.Laws.{OwnNamesAreExact}
use Rattle.cell_text.specs.declared.fault.LibFault.{LibFault}
use Rattle.cell_text.specs.declared.fault.LibFault.TheVariants as fault
use Rattle.cell_text.specs.Words.{Words}
use Rattle.cell_text.specs.Lines.{is_cell_line}
use Rattle.cell_text.specs.Cells.{cell_in}
use Rattle.cell_text.specs.Rules.{name_in, body_fault}
use Rattle.cell_text.specs.Reader.{rows_of, CanBeCells}
use Rattle.cell_text.proofs.Gathered.{all_of_front}
use Rattle.cell_text.proofs.Added.{CanAdd, can_add}

abbrev pub cells_are : List (Bor (List ℕ)) → List ListedCell → Type 0
cells_are lines library = map cell_in (rows_of lines) ≡ map (λ (c : ListedCell). Some c) library

pub row_at : (lines : List (Bor (List ℕ))) (k : ℕ) (line : Bor (List ℕ)) → slice_get lines k ≡ Some line → slice_get (rows_of lines) k ≡ Some (words_of line.now)
row_at [] k line at = absurd (let none : None ≡ Some line = at in cc)
row_at (y ∷ lines) zero line at = let same : y ≡ line = cc in ap (λ (z : Bor (List ℕ)). Some (words_of z.now)) same
row_at (y ∷ lines) (suc k) line at = row_at lines k line at

pub rows_take : (k : ℕ) (lines : List (Bor (List ℕ))) → rows_of (take k lines) ≡ take k (rows_of lines)
rows_take zero lines = refl
rows_take (suc k) [] = refl
rows_take (suc k) (x ∷ lines) = ap (λ (l : List Words). words_of x.now ∷ l) (rows_take k lines)

form_at : (rows : List Words) (k : ℕ) (words : Words) → All (λ (w : Words). is_cell_line w ≡ true) rows → slice_get rows k ≡ Some words → is_cell_line words ≡ true
form_at [] k words all at = absurd (let none : None ≡ Some words = at in cc)
form_at (r ∷ rows) zero words all at = let same : r ≡ words = cc in ap is_cell_line (sym same) ∙ All-head (λ (w : Words). is_cell_line w ≡ true) r rows all
form_at (r ∷ rows) (suc k) words all at = form_at rows k words (All-tail (λ (w : Words). is_cell_line w ≡ true) r rows all) at

-- the cell of the words that were gathered is that of the line
line_cell : (lines : List (Bor (List ℕ))) (k : ℕ) (line : Bor (List ℕ)) (words : Words) → CanBeCells (rows_of lines) → slice_get lines k ≡ Some line → words ≡ take 85 (words_of line.now)
    → cell_in words ≡ cell_in (words_of line.now)
line_cell lines k line words can at gathered =
    ap cell_in (gathered ∙ all_of_front (words_of line.now) (form_at (rows_of lines) k (words_of line.now) can.forms (row_at lines k line at)))

pub next_can : OwnNamesAreExact → (lines : List (Bor (List ℕ))) (k : ℕ) (line : Bor (List ℕ)) (words : Words) (library : List ListedCell) (cell : ListedCell) → CanBeCells (rows_of lines)
    → slice_get lines k ≡ Some line → words ≡ take 85 (words_of line.now) → cells_are (take k lines) library → Some cell ≡ cell_in words → CanAdd library cell
next_can exact lines k line words library cell can at gathered so_far is =
    can_add exact (rows_of lines) k (words_of line.now) library cell can (row_at lines k line at) (ap (map cell_in) (sym (rows_take k lines)) ∙ so_far) (sym (line_cell lines k line words can at gathered) ∙ sym is)

pub next_is : (lines : List (Bor (List ℕ))) (k : ℕ) (line : Bor (List ℕ)) (words : Words) (library new : List ListedCell) (cell : ListedCell) → CanBeCells (rows_of lines)
    → slice_get lines k ≡ Some line → words ≡ take 85 (words_of line.now) → cells_are (take k lines) library → Some cell ≡ cell_in words → new ≡ library ++ cell ∷ [] → cells_are (take (k + 1) lines) new
next_is lines k line words library new cell can at gathered so_far is grown =
    let taken : take k lines ++ line ∷ [] ≡ take (k + 1) lines = taken_more lines k line (take k lines) (take k lines ++ line ∷ []) at refl refl in
    ap (λ (l : List (Bor (List ℕ))). map cell_in (rows_of l)) (sym taken)
    ∙ ap (map cell_in) (map_push (λ (l : Bor (List ℕ)). words_of l.now) (take k lines) line)
    ∙ map_push cell_in (rows_of (take k lines)) (words_of line.now)
    ∙ ap (λ (l : List (Option ListedCell)). l ++ cell_in (words_of line.now) ∷ []) so_far
    ∙ ap (λ (o : Option ListedCell). map (λ (c : ListedCell). Some c) library ++ o ∷ []) (sym (line_cell lines k line words can at gathered) ∙ sym is)
    ∙ sym (map_push (λ (c : ListedCell). Some c) library cell)
    ∙ ap (map (λ (c : ListedCell). Some c)) (sym grown)

all_cells : (rows : List Words) (library : List ListedCell) → map cell_in rows ≡ map (λ (c : ListedCell). Some c) library → first_in body_fault rows ≡ None
all_cells [] library same = refl
all_cells (w ∷ rows) [] same = absurd (cc)
all_cells (w ∷ rows) (c ∷ library) same =
    let here : cell_in w ≡ Some c = cc in
    let more : map cell_in rows ≡ map (λ (c : ListedCell). Some c) library = cc in
    ap (λ (o : Option ListedCell). or_else (if is_none o then Some (fault.LibBody (name_in w)) else None) (first_in body_fault rows)) here ∙ all_cells rows library more

pub body_is : (lines : List (Bor (List ℕ))) (k : ℕ) (line : Bor (List ℕ)) (words : Words) (library : List ListedCell) (name : List ℕ) → CanBeCells (rows_of lines) → slice_get lines k ≡ Some line
    → words ≡ take 85 (words_of line.now) → cells_are (take k lines) library → None ≡ cell_in words → name ≡ name_in (words_of line.now) → first_in body_fault (rows_of lines) ≡ Some (fault.LibBody name)
body_is lines k line words library name can at gathered so_far none named =
    let rows = rows_of lines in
    let none_here : cell_in (words_of line.now) ≡ None = sym (line_cell lines k line words can at gathered) ∙ sym none in
    let split : rows ≡ take k rows ++ words_of line.now ∷ drop (suc k) rows = sym (take-append-drop k rows) ∙ ap (λ (l : List Words). take k rows ++ l) (left_at rows k (words_of line.now) (row_at lines k line at)) in
    ap (first_in body_fault) split
    ∙ first_in-append body_fault (take k rows) (words_of line.now ∷ drop (suc k) rows)
    ∙ ap (λ (o : Option LibFault). or_else o (first_in body_fault (words_of line.now ∷ drop (suc k) rows))) (all_cells (take k rows) library (ap (map cell_in) (sym (rows_take k lines)) ∙ so_far))
    ∙ ap (λ (o : Option ListedCell). or_else (if is_none o then Some (fault.LibBody (name_in (words_of line.now))) else None) (first_in body_fault (drop (suc k) rows))) none_here
    ∙ ap (λ (n : List ℕ). Some (fault.LibBody n)) (sym named)

pub starts : (lines : List (Bor (List ℕ))) (library : List ListedCell) → library ≡ [] → cells_are (take 0 lines) library
starts lines library none = ap (map (λ (c : ListedCell). Some c)) (sym none)

pub all_added : (lines : List (Bor (List ℕ))) (k : ℕ) (library : List ListedCell) → length lines ≤ k → cells_are (take k lines) library → cells_are lines library
all_added lines k library all so_far = ap (λ (l : List (Bor (List ℕ))). map cell_in (rows_of l)) (sym (front_all lines k all)) ∙ so_far
