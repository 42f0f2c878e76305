-- What was read, and what is told of the text.
use Rattle.std.proofs.Common.{◌≡◌, ◌≤◌, ◌<◌, ℕ, ◌+◌, Bool, true, false, if◌then◌else◌, List, [], ◌∷◌, map, length, Some, None, refl, sym, ap, ◌∙◌, subst, arith}
use Rattle.list_laws.specs.Options.{first_in}
use Rattle.list_laws.proofs.Lists.{front_all}
use Rattle.word_cutter.specs.LinesWords.{kept_lines}
use Rattle.word_cutter.specs.Ahead.{first_number, rest_of}
use Rattle.cell_library.specs.declared.listed.ListedCell.{ListedCell}
use Rattle.cell_library.specs.Laws.{OwnNamesAreExact}
use Rattle.cell_text.specs.declared.fault.LibFault.{LibFault}
use Rattle.cell_text.specs.declared.fault.LibFault.TheVariants as fault
use Rattle.cell_text.specs.declared.reader.Kept.{Kept}
use Rattle.cell_text.specs.Words.{Words}
use Rattle.cell_text.specs.Cells.{cell_in}
use Rattle.cell_text.specs.Rules.{name_in, barred_after, body_fault}
use Rattle.cell_text.specs.Faults.{end_of, other_form, line_fault, cell_rows, first_fault, IsFault}
use Rattle.cell_text.specs.Grammar.{SpellsLibrary}
use Rattle.cell_text.specs.Reader.{rows_of, is_begun, IsKept, IsBadLine, AreLines, CanBeCells, IsFirst}
use Rattle.cell_text.proofs.Counts.{kept_within}
use Rattle.cell_text.proofs.Spelled.{can_be_cells, spelled, told_rules, told_line, told_many, told_name, told_body}

abbrev Rows : Type 0
Rows = List (ℕ × Words)

-- The first line.

begun_or_first : (end : ℕ) (rows : Rows) → is_begun rows ≡ false → line_fault end rows ≡ Some (first_number end rows)
begun_or_first end [] other = refl
begun_or_first end (row ∷ rows) other = ap (λ (b : Bool). if b then first_in other_form rows else Some row.0) other

pub not_begun : (bytes : List ℕ) (rows : Rows) (end number : ℕ) → rows ≡ kept_lines bytes → end ≡ end_of bytes → is_begun rows ≡ false → number ≡ first_number end rows → first_fault bytes ≡ Some (fault.LibLine number)
not_begun bytes rows end number are is other at =
    told_line bytes number (ap (line_fault (end_of bytes)) (sym are) ∙ ap (λ (n : ℕ). line_fault n rows) (sym is) ∙ begun_or_first end rows other ∙ ap (λ (n : ℕ). Some n) (sym at))

behind_begun : (end : ℕ) (rows : Rows) → is_begun rows ≡ true → line_fault end rows ≡ first_in other_form (rest_of rows)
behind_begun end [] version = absurd (let clash : false ≡ true = version in cc)
behind_begun end (row ∷ rows) version = ap (λ (b : Bool). if b then first_in other_form rows else Some row.0) version

behind_first : (bytes : List ℕ) (rows left : Rows) → rows ≡ kept_lines bytes → is_begun rows ≡ true → left ≡ rest_of rows → line_fault (end_of bytes) (kept_lines bytes) ≡ first_in other_form left
behind_first bytes rows left are version passed =
    ap (line_fault (end_of bytes)) (sym are) ∙ behind_begun (end_of bytes) rows version ∙ ap (first_in other_form) (sym passed)

pub lines_read : (bytes : List ℕ) (rows left : Rows) (kept : Kept) → rows ≡ kept_lines bytes → is_begun rows ≡ true → left ≡ rest_of rows → IsKept left kept → AreLines bytes kept
lines_read bytes rows left kept are version passed is =
    let there : IsKept (rest_of (kept_lines bytes)) kept = subst (λ (r : Rows). IsKept r kept) (passed ∙ ap rest_of are) is in
    record { forms = behind_first bytes rows left are version passed ∙ is.forms; keeps = there.keeps }

pub later_bad : (bytes : List ℕ) (rows left : Rows) (f : LibFault) → rows ≡ kept_lines bytes → is_begun rows ≡ true → left ≡ rest_of rows → IsBadLine left f → IsFault bytes f
later_bad bytes rows left (fault.LibLine line) are version passed bad = told_line bytes line (behind_first bytes rows left are version passed ∙ bad)
later_bad bytes rows left (fault.TooMany count) are version passed bad = absurd bad
later_bad bytes rows left (fault.LibName name) are version passed bad = absurd bad
later_bad bytes rows left (fault.LibBody name) are version passed bad = absurd bad
later_bad bytes rows left fault.OutOfMemory are version passed bad = tt

pub rows_fit : (bytes : List ℕ) (rows left : Rows) → rows ≡ kept_lines bytes → left ≡ rest_of rows → length left ≤ length bytes
rows_fit bytes rows left are passed =
    let few = kept_within bytes in
    let same : length left ≡ length (rest_of (kept_lines bytes)) = ap length (passed ∙ ap rest_of are) in
    omega arith

-- The rules.

rows_are : (bytes : List ℕ) (kept : Kept) → AreLines bytes kept → kept.count ≤ 4096 → rows_of kept.lines.items ≡ cell_rows bytes
rows_are bytes kept are few = let count = are.keeps.count in are.keeps.lines ∙ front_all (cell_rows bytes) 4096 (omega arith)

pub many_told : (bytes : List ℕ) (kept : Kept) → AreLines bytes kept → 4096 < kept.count → first_fault bytes ≡ Some (fault.TooMany kept.count)
many_told bytes kept are many = told_rules bytes (fault.TooMany kept.count) are.forms (told_many (cell_rows bytes) kept.count are.keeps.count many)

pub name_told : (bytes : List ℕ) (kept : Kept) (name : List ℕ) → AreLines bytes kept → kept.count ≤ 4096 → Some name ≡ barred_after [] (map name_in (rows_of kept.lines.items))
    → first_fault bytes ≡ Some (fault.LibName name)
name_told bytes kept name are few barred =
    let count = are.keeps.count in
    told_rules bytes (fault.LibName name) are.forms (told_name (cell_rows bytes) name (omega arith)
    (ap (λ (rows : List Words). barred_after [] (map name_in rows)) (sym (rows_are bytes kept are few)) ∙ sym barred))

pub can_be : (bytes : List ℕ) (kept : Kept) → AreLines bytes kept → kept.count ≤ 4096 → None ≡ barred_after [] (map name_in (rows_of kept.lines.items)) → CanBeCells (rows_of kept.lines.items)
can_be bytes kept are few none =
    let same = rows_are bytes kept are few in
    let count = are.keeps.count in
    subst CanBeCells (sym same) (can_be_cells bytes are.forms (omega arith) (ap (λ (rows : List Words). barred_after [] (map name_in rows)) (sym same) ∙ sym none))

told_first : (bytes : List ℕ) (f : LibFault) → line_fault (end_of bytes) (kept_lines bytes) ≡ None → length (cell_rows bytes) ≤ 4096 → barred_after [] (map name_in (cell_rows bytes)) ≡ None
    → first_in body_fault (cell_rows bytes) ≡ Some f → first_fault bytes ≡ Some f
told_first bytes f lines few names body = told_rules bytes f lines (told_body (cell_rows bytes) f few names body)

pub body_told : (bytes : List ℕ) (kept : Kept) (f : LibFault) → AreLines bytes kept → kept.count ≤ 4096 → None ≡ barred_after [] (map name_in (rows_of kept.lines.items))
    → IsFirst f (first_in body_fault (rows_of kept.lines.items)) → IsFault bytes f
body_told bytes kept f are few none first = by f (subst (λ (rows : List Words). IsFirst f (first_in body_fault rows)) (rows_are bytes kept are few) first)
  where
    told : (f : LibFault) → first_in body_fault (cell_rows bytes) ≡ Some f → first_fault bytes ≡ Some f
    told f body =
        let count = are.keeps.count in
        told_first bytes f are.forms (omega arith) (ap (λ (rows : List Words). barred_after [] (map name_in rows)) (sym (rows_are bytes kept are few)) ∙ sym none) body

    by : (f : LibFault) → IsFirst f (first_in body_fault (cell_rows bytes)) → IsFault bytes f
    by (fault.LibLine line) first = told (fault.LibLine line) first
    by (fault.TooMany count) first = told (fault.TooMany count) first
    by (fault.LibName name) first = told (fault.LibName name) first
    by (fault.LibBody name) first = told (fault.LibBody name) first
    by fault.OutOfMemory first = tt

pub library_told : OwnNamesAreExact → (bytes : List ℕ) (kept : Kept) (library : List ListedCell) → AreLines bytes kept → kept.count ≤ 4096 → None ≡ barred_after [] (map name_in (rows_of kept.lines.items))
    → map cell_in (rows_of kept.lines.items) ≡ map (λ (c : ListedCell). Some c) library → SpellsLibrary bytes library
library_told exact bytes kept library are few none same =
    let rows = rows_are bytes kept are few in
    spelled exact bytes library are.forms (subst CanBeCells rows (can_be bytes kept are few none)) (ap (map cell_in) (sym rows) ∙ same)
