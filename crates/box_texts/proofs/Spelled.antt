-- Spelling and faults of a library's text.
use Rattle.std.proofs.Common.{◌≡◌, ◌≤◌, ◌<◌, ℕ, ◌+◌, Bool, true, false, if◌then◌else◌, List, [], ◌∷◌, ◌++◌, map, length, codes, is_none, Option, Some, None, All, refl, sym, ap, ◌∙◌, subst, inl, inr, arith, length-append, lt-ltb}
use Rattle.std.specs.List.{list_all, AllByRecursion}
use Rattle.std.specs.Option.{option_map}
use Rattle.std.specs.Str.{bytes_eq}
use Rattle.std.proofs.lemmas.Slice.Eq.{bytes_eq-Decides}
use Rattle.std.proofs.lemmas.List.{length-map, map-append}
use Rattle.std.proofs.lemmas.List.Elements.{All-nil, All-cons, All-head, All-tail, All-append}
use Rattle.list_laws.specs.Lists.{AreAll}
use Rattle.list_laws.specs.Options.{or_else, first_in}
use Rattle.list_laws.proofs.Lists.{AreAll-length}
use Rattle.list_laws.proofs.Options.{or_else-parts}
use Rattle.list_laws.proofs.Tests.{and_left, and_right}
use Rattle.word_cutter.specs.LinesWords.{kept_lines}
use Rattle.word_cutter.specs.Ahead.{rest_of}
use Rattle.texts.specs.Repeated.{repeated}
use Rattle.cell_library.specs.declared.listed.ListedCell.{ListedCell}
use Rattle.cell_library.specs.Laws.{OwnNamesAreExact}
use Rattle.cell_library.specs.Sound.{IsSoundCell, IsLibrary}
use Rattle.cell_text.specs.declared.fault.LibFault.{LibFault}
use Rattle.cell_text.specs.declared.fault.LibFault.TheVariants as fault
use Rattle.cell_text.specs.Words.{Words}
use Rattle.cell_text.specs.Lines.{is_cell_line}
use Rattle.cell_text.specs.Cells.{cell_in}
use Rattle.cell_text.specs.Rules.{name_in, barred_after, too_many, body_fault}
use Rattle.cell_text.specs.Faults.{words_in}
use Rattle.cell_text.specs.Faults as cell_faults
use Rattle.cell_text.specs.Grammar.{cell_words, SpellsLibrary}
use Rattle.cell_text.specs.Grammar as cell_grammar
use Rattle.cell_text.specs.Reader.{CanBeCells}
use Rattle.cell_text.proofs.Added.{are_library}
use Rattle.cell_text.proofs.Again.{cell_has_form}
use Rattle.cell_text.proofs.Spelled as cell_laws
use Rattle.box_model.specs.declared.boxes.BoxCell.{BoxCell}
use Rattle.box_model.specs.declared.boxes.BoxLibrary.{BoxLibrary}
use Rattle.box_model.specs.Sound.{IsSoundBox}
use Rattle.box_texts.specs.declared.forms.LineForm.TheVariants.{Cell, Box, Cut}
use Rattle.box_texts.specs.Forms.{is_version, is_box_line, is_cut_line}
use Rattle.box_texts.specs.Boxes.{box_in, bare_of}
use Rattle.box_texts.specs.Rules.{cells_of, boxes_of, cuts_of, is_instance_name, barred_cut, barred_name, name_fault, box_fault, bodies_fault, rule_fault}
use Rattle.box_texts.specs.Faults.{is_begun, later_lines, later_rows, misplaced, line_fault, first_fault}
use Rattle.box_texts.specs.Sound.{IsTextBox}
use Rattle.box_texts.specs.Grammar.{SpellsBox, version_words, cut_words, SpellsBoxed, SpellsPlain, SpellsBoxes}
use Rattle.box_texts.specs.Reader.{IsReadFrom}
use Rattle.box_texts.specs.Laws.{SpelledOnce, SpelledIsFaultless, FaultlessIsSpelled, SpelledIsSound}
use Rattle.box_texts.proofs.Keyed.{of_box, of_cell, form_is}
use Rattle.box_texts.proofs.Sorting.{Form, AreFormed, placed_rows, parted_cells, parted_boxes, parted_cuts, rows_sorted, parts_few, passed}
use Rattle.box_texts.proofs.BoxLines.{box_again, box_has_form, box_of_line, name_of_box}
use Rattle.box_texts.proofs.Named.{Fit, cell_names, front_free, all_fit, all_left, all_right, bare_names, bare_all_sound, library_named, cuts_free, cuts_fit}

abbrev box_name : BoxCell → List ℕ
box_name b = b.name

same_somes : {X : Type 0} (one other : List X) → map (λ (x : X). Some x) one ≡ map (λ (x : X). Some x) other → one ≡ other
same_somes [] [] same = refl
same_somes [] (y ∷ other) same = absurd (cc)
same_somes (x ∷ one) [] same = absurd (cc)
same_somes {X = X} (x ∷ one) (y ∷ other) same =
    let here : x ≡ y = cc in
    let more : map (λ (x : X). Some x) one ≡ map (λ (x : X). Some x) other = cc in
    ap (λ (z : X). z ∷ one) here ∙ ap (λ (l : List X). y ∷ l) (same_somes one other more)

-- The first line.

begun_rows : (rows : List (ℕ × Words)) (more : List Words) → map words_in rows ≡ version_words ∷ more → (is_begun rows ≡ true) × (map words_in (rest_of rows) ≡ more)
begun_rows [] more same = absurd (cc)
begun_rows (row ∷ rows) more same =
    let here : row.1 ≡ version_words = cc in
    let rest : map words_in rows ≡ more = cc in
    (ap is_version here, rest)

plain_rows : (rows : List (ℕ × Words)) (more : List Words) → map words_in rows ≡ cell_grammar.version_words ∷ more → is_begun rows ≡ false
plain_rows [] more same = absurd (cc)
plain_rows (row ∷ rows) more same = let here : row.1 ≡ cell_grammar.version_words = cc in ap is_version here

version_is : (words : Words) → is_version words ≡ true → words ≡ version_words
version_is [] is = absurd (let clash : false ≡ true = is in cc)
version_is (a ∷ []) is = absurd (let clash : false ≡ true = is in cc)
version_is (a ∷ b ∷ c ∷ more) is = absurd (let clash : false ≡ true = is in cc)
version_is (a ∷ b ∷ []) is =
    let one : a ≡ codes "boxes" = (bytes_eq-Decides a (codes "boxes")).0 (and_left (bytes_eq a (codes "boxes")) (bytes_eq b (codes "1")) is) in
    let two : b ≡ codes "1" = (bytes_eq-Decides b (codes "1")).0 (and_right (bytes_eq a (codes "boxes")) (bytes_eq b (codes "1")) is) in
    rw (one, two) refl

begun_words : (rows : List (ℕ × Words)) → is_begun rows ≡ true → map words_in rows ≡ version_words ∷ map words_in (rest_of rows)
begun_words [] is = absurd (let clash : false ≡ true = is in cc)
begun_words (row ∷ rows) is = ap (λ (w : Words). w ∷ map words_in rows) (version_is row.1 is)

-- Lines of a library's cells, boxes and cuts.

cells_formed : (own : List ListedCell) → All IsSoundCell own → All (Form Cell) (map cell_words own)
cells_formed [] sound = All-nil (Form Cell)
cells_formed (c ∷ own) sound =
    All-cons (Form Cell) (cell_words c) (map cell_words own) (form_is Cell (cell_words c) (of_cell (cell_words c) (cell_has_form c (All-head IsSoundCell c own sound).body)))
    (cells_formed own (All-tail IsSoundCell c own sound))

boxes_formed : (rows : List Words) (boxes : List BoxCell) → AreAll SpellsBox rows boxes → All IsTextBox boxes → All (Form Box) rows
boxes_formed [] [] each text = All-nil (Form Box)
boxes_formed [] (b ∷ boxes) each text = absurd each
boxes_formed (w ∷ rows) [] each text = absurd each
boxes_formed (w ∷ rows) (b ∷ boxes) each text =
    All-cons (Form Box) w rows (form_is Box w (of_box w (box_has_form w b each.0 (All-head IsTextBox b boxes text)))) (boxes_formed rows boxes each.1 (All-tail IsTextBox b boxes text))

cuts_formed : (cuts : Words) → All (Form Cut) (map cut_words cuts)
cuts_formed [] = All-nil (Form Cut)
cuts_formed (n ∷ cuts) = All-cons (Form Cut) (cut_words n) (map cut_words cuts) refl (cuts_formed cuts)

boxes_again : (rows : List Words) (boxes : List BoxCell) → AreAll SpellsBox rows boxes → All IsTextBox boxes → map box_in rows ≡ map (λ (b : BoxCell). Some b) boxes
boxes_again [] [] each text = refl
boxes_again [] (b ∷ boxes) each text = absurd each
boxes_again (w ∷ rows) [] each text = absurd each
boxes_again (w ∷ rows) (b ∷ boxes) each text =
    ap (λ (o : Option BoxCell). o ∷ map box_in rows) (box_again w b each.0 (All-head IsTextBox b boxes text))
    ∙ ap (λ (l : List (Option BoxCell)). Some b ∷ l) (boxes_again rows boxes each.1 (All-tail IsTextBox b boxes text))

boxes_named : (rows : List Words) (boxes : List BoxCell) → AreAll SpellsBox rows boxes → map name_in rows ≡ map box_name boxes
boxes_named [] [] each = refl
boxes_named [] (b ∷ boxes) each = absurd each
boxes_named (w ∷ rows) [] each = absurd each
boxes_named (w ∷ rows) (b ∷ boxes) each =
    ap (λ (n : List ℕ). n ∷ map name_in rows) (name_of_box w b each.0) ∙ ap (λ (l : Words). b.name ∷ l) (boxes_named rows boxes each.1)

cuts_named : (cuts : Words) → map name_in (map cut_words cuts) ≡ cuts
cuts_named [] = refl
cuts_named (n ∷ cuts) = ap (λ (l : Words). n ∷ l) (cuts_named cuts)

-- What a text says of the library that it spells.

record IsLaid (bytes : List ℕ) (library : BoxLibrary) (is : SpellsBoxed bytes library) : Type 0 where
  begun : is_begun (kept_lines bytes) ≡ true
  rows : later_rows bytes ≡ map cell_words is.own ++ is.boxes ++ map cut_words library.cuts
  own_sound : All IsSoundCell is.own
  formed : AreFormed (map cell_words is.own) is.boxes (map cut_words library.cuts)

laid : (bytes : List ℕ) (library : BoxLibrary) (is : SpellsBoxed bytes library) → IsLaid bytes library is
laid bytes library is =
    let both = begun_rows (kept_lines bytes) (map cell_words is.own ++ is.boxes ++ map cut_words library.cuts) is.lines_are in
    let own_sound : All IsSoundCell is.own = all_left IsSoundCell is.own (map bare_of library.boxes) (subst (All IsSoundCell) is.cells_are is.can_be.cells.sound) in
    record {
      begun = both.0;
      rows = both.1;
      own_sound = own_sound;
      formed = record { each_cell = cells_formed is.own own_sound; each_box = boxes_formed is.boxes library.boxes is.boxes_are is.can_be.boxes; each_cut = cuts_formed library.cuts };
    }

-- the lines of each form
cells_laid : (bytes : List ℕ) (library : BoxLibrary) (is : SpellsBoxed bytes library) → cells_of (later_rows bytes) ≡ map cell_words is.own
cells_laid bytes library is = let l = laid bytes library is in ap cells_of l.rows ∙ parted_cells (map cell_words is.own) is.boxes (map cut_words library.cuts) l.formed

boxes_laid : (bytes : List ℕ) (library : BoxLibrary) (is : SpellsBoxed bytes library) → boxes_of (later_rows bytes) ≡ is.boxes
boxes_laid bytes library is = let l = laid bytes library is in ap boxes_of l.rows ∙ parted_boxes (map cell_words is.own) is.boxes (map cut_words library.cuts) l.formed

cuts_laid : (bytes : List ℕ) (library : BoxLibrary) (is : SpellsBoxed bytes library) → cuts_of (later_rows bytes) ≡ map cut_words library.cuts
cuts_laid bytes library is = let l = laid bytes library is in ap cuts_of l.rows ∙ parted_cuts (map cell_words is.own) is.boxes (map cut_words library.cuts) l.formed

pub no_box_fault : (rows : List Words) (boxes : List BoxCell) → map box_in rows ≡ map (λ (b : BoxCell). Some b) boxes → first_in box_fault rows ≡ None
no_box_fault [] boxes same = refl
no_box_fault (w ∷ rows) [] same = absurd (cc)
no_box_fault (w ∷ rows) (b ∷ boxes) same =
    let here : box_in w ≡ Some b = cc in
    let more : map box_in rows ≡ map (λ (b : BoxCell). Some b) boxes = cc in
    ap (λ (o : Option BoxCell). or_else (if is_none o then Some (fault.LibBody (name_in w)) else None) (first_in box_fault rows)) here ∙ no_box_fault rows boxes more

few_laid : (bytes : List ℕ) (library : BoxLibrary) (is : SpellsBoxed bytes library) → length (later_rows bytes) ≤ 4096
few_laid bytes library is =
    let l = laid bytes library is in
    let cells = map cell_words is.own in
    let cuts = map cut_words library.cuts in
    let a : length (later_rows bytes) ≡ length (cells ++ is.boxes ++ cuts) = ap length l.rows in
    let b = length-append (cells ++ is.boxes) cuts in
    let c = length-append cells is.boxes in
    let d : length cells ≡ length is.own = length-map is.own cell_words in
    let e : length cuts ≡ length library.cuts = length-map library.cuts cut_words in
    let f : length is.boxes ≡ length library.boxes = AreAll-length SpellsBox is.boxes library.boxes is.boxes_are in
    let g : length library.cells ≡ length (is.own ++ map bare_of library.boxes) = ap length is.cells_are in
    let h = length-append is.own (map bare_of library.boxes) in
    let i : length (map bare_of library.boxes) ≡ length library.boxes = length-map library.boxes bare_of in
    let few = is.can_be.few in
    omega arith

names_laid : (bytes : List ℕ) (library : BoxLibrary) (is : SpellsBoxed bytes library)
    → barred_name (map name_in (cells_of (later_rows bytes) ++ boxes_of (later_rows bytes))) (map name_in (cuts_of (later_rows bytes))) ≡ None
names_laid bytes library is =
    let rows = later_rows bytes in
    let cells = map cell_words is.own in
    let named : map name_in (cells_of rows ++ boxes_of rows) ≡ cell_names library.cells =
    ap (λ (l : List Words). map name_in (l ++ boxes_of rows)) (cells_laid bytes library is)
    ∙ ap (λ (l : List Words). map name_in (cells ++ l)) (boxes_laid bytes library is)
    ∙ map-append name_in cells is.boxes
    ∙ ap (λ (l : Words). l ++ map name_in is.boxes) (cell_laws.names_again is.own)
    ∙ ap (λ (l : Words). cell_names is.own ++ l) (boxes_named is.boxes library.boxes is.boxes_are ∙ sym (bare_names library.boxes))
    ∙ sym (map-append (λ (c : ListedCell). c.name) is.own (map bare_of library.boxes))
    ∙ ap cell_names (sym is.cells_are) in
    let cuts : map name_in (cuts_of rows) ≡ library.cuts = ap (map name_in) (cuts_laid bytes library is) ∙ cuts_named library.cuts in
    ap (λ (l : Words). or_else (barred_after [] l) (barred_cut [] (map name_in (cuts_of rows)))) named
    ∙ ap (λ (l : Words). or_else (barred_after [] (cell_names library.cells)) (barred_cut [] l)) cuts
    ∙ ap (λ (o : Option (List ℕ)). or_else o (barred_cut [] library.cuts)) (cell_laws.names_free library.cells is.can_be.cells)
    ∙ cuts_free [] library.cuts is.can_be.cuts is.can_be.once

bodies_laid : (bytes : List ℕ) (library : BoxLibrary) (is : SpellsBoxed bytes library) → bodies_fault (cells_of (later_rows bytes)) (boxes_of (later_rows bytes)) ≡ None
bodies_laid bytes library is =
    let l = laid bytes library is in
    ap (λ (rows : List Words). or_else (first_in body_fault rows) (first_in box_fault (boxes_of (later_rows bytes)))) (cells_laid bytes library is)
    ∙ ap (λ (rows : List Words). or_else (first_in body_fault (map cell_words is.own)) (first_in box_fault rows)) (boxes_laid bytes library is)
    ∙ ap (λ (o : Option LibFault). or_else o (first_in box_fault is.boxes)) (cell_laws.no_body_fault is.own l.own_sound)
    ∙ no_box_fault is.boxes library.boxes (boxes_again is.boxes library.boxes is.boxes_are is.can_be.boxes)

line_laid : (bytes : List ℕ) (library : BoxLibrary) (is : SpellsBoxed bytes library) → misplaced Cell (later_lines bytes) ≡ None
line_laid bytes library is =
    let l = laid bytes library is in
    placed_rows (later_lines bytes) (map cell_words is.own) is.boxes (map cut_words library.cuts) l.rows l.formed.each_cell l.formed.each_box l.formed.each_cut

-- Faults.

pub begun_fault : (bytes : List ℕ) → is_begun (kept_lines bytes) ≡ true → first_fault bytes ≡ or_else (line_fault (later_lines bytes)) (rule_fault (later_rows bytes))
begun_fault bytes begun = ap (λ (b : Bool). if b then or_else (line_fault (later_lines bytes)) (rule_fault (later_rows bytes)) else cell_faults.first_fault bytes) begun

pub plain_fault : (bytes : List ℕ) → is_begun (kept_lines bytes) ≡ false → first_fault bytes ≡ cell_faults.first_fault bytes
plain_fault bytes other = ap (λ (b : Bool). if b then or_else (line_fault (later_lines bytes)) (rule_fault (later_rows bytes)) else cell_faults.first_fault bytes) other

pub told_rules : (bytes : List ℕ) (f : LibFault) → is_begun (kept_lines bytes) ≡ true → misplaced Cell (later_lines bytes) ≡ None → rule_fault (later_rows bytes) ≡ Some f → first_fault bytes ≡ Some f
told_rules bytes f begun lines rules = begun_fault bytes begun ∙ ap (λ (o : Option ℕ). or_else (option_map fault.LibLine o) (rule_fault (later_rows bytes))) lines ∙ rules

abbrev later_rules : List Words → Option LibFault
later_rules rows = or_else (name_fault rows) (bodies_fault (cells_of rows) (boxes_of rows))

pub told_many : (rows : List Words) (count : ℕ) → count ≡ length rows → 4096 < count → rule_fault rows ≡ Some (fault.TooMany count)
told_many rows count same many =
    ap (λ (b : Bool). or_else (if b then Some (fault.TooMany (length rows)) else None) (later_rules rows)) (lt-ltb 4096 (length rows) (omega arith))
    ∙ ap (λ (n : ℕ). Some (fault.TooMany n)) (sym same)

pub told_name : (rows : List Words) (name : List ℕ) → length rows ≤ 4096 → barred_name (map name_in (cells_of rows ++ boxes_of rows)) (map name_in (cuts_of rows)) ≡ Some name
    → rule_fault rows ≡ Some (fault.LibName name)
told_name rows name few barred =
    ap (λ (o : Option LibFault). or_else o (later_rules rows)) (cell_laws.count_none rows few)
    ∙ ap (λ (o : Option (List ℕ)). or_else (option_map fault.LibName o) (bodies_fault (cells_of rows) (boxes_of rows))) barred

pub told_body : (rows : List Words) → length rows ≤ 4096 → barred_name (map name_in (cells_of rows ++ boxes_of rows)) (map name_in (cuts_of rows)) ≡ None
    → rule_fault rows ≡ bodies_fault (cells_of rows) (boxes_of rows)
told_body rows few barred =
    ap (λ (o : Option LibFault). or_else o (later_rules rows)) (cell_laws.count_none rows few)
    ∙ ap (λ (o : Option (List ℕ)). or_else (option_map fault.LibName o) (bodies_fault (cells_of rows) (boxes_of rows))) barred

pub spelled_is_faultless : SpelledIsFaultless
spelled_is_faultless bytes library (inl is) = plain_fault bytes (plain_rows (kept_lines bytes) (map cell_words library.cells) is.cells.lines_are) ∙ cell_laws.spelled_is_faultless bytes library.cells is.cells
spelled_is_faultless bytes library (inr is) =
    let rows = later_rows bytes in
    begun_fault bytes (laid bytes library is).begun
    ∙ ap (λ (o : Option ℕ). or_else (option_map fault.LibLine o) (rule_fault rows)) (line_laid bytes library is)
    ∙ told_body rows (few_laid bytes library is) (names_laid bytes library is)
    ∙ bodies_laid bytes library is

-- What is spelled is sound.

boxes_sound : (boxes : List BoxCell) → All IsTextBox boxes → AllByRecursion IsSoundBox boxes
boxes_sound [] text = tt
boxes_sound (b ∷ boxes) text = ((All-head IsTextBox b boxes text).ports, boxes_sound boxes (All-tail IsTextBox b boxes text))

pub spelled_is_sound : SpelledIsSound
spelled_is_sound bytes library (inl is) = record { cells = is.cells.can_be; boxes = subst (AllByRecursion IsSoundBox) (sym is.no_boxes) tt }
spelled_is_sound bytes library (inr is) = record { cells = is.can_be.cells; boxes = boxes_sound library.boxes is.can_be.boxes }

-- Spelled once.

same_library : (one other : BoxLibrary) → one.cells ≡ other.cells → one.boxes ≡ other.boxes → one.cuts ≡ other.cuts → one ≡ other
same_library one other cells boxes cuts =
    ap (λ (l : List ListedCell). record one { cells = l }) cells
    ∙ ap (λ (l : List BoxCell). record one { cells = other.cells; boxes = l }) boxes
    ∙ ap (λ (l : Words). record other { cuts = l }) cuts

own_once : (bytes : List ℕ) (one other : BoxLibrary) (is : SpellsBoxed bytes one) (like : SpellsBoxed bytes other) → is.own ≡ like.own
own_once bytes one other is like =
    same_somes is.own like.own (sym (cell_laws.cells_again is.own (laid bytes one is).own_sound)
    ∙ ap (map cell_in) (sym (cells_laid bytes one is) ∙ cells_laid bytes other like)
    ∙ cell_laws.cells_again like.own (laid bytes other like).own_sound)

boxes_once : (bytes : List ℕ) (one other : BoxLibrary) (is : SpellsBoxed bytes one) (like : SpellsBoxed bytes other) → one.boxes ≡ other.boxes
boxes_once bytes one other is like =
    same_somes one.boxes other.boxes (sym (boxes_again is.boxes one.boxes is.boxes_are is.can_be.boxes)
    ∙ ap (map box_in) (sym (boxes_laid bytes one is) ∙ boxes_laid bytes other like)
    ∙ boxes_again like.boxes other.boxes like.boxes_are like.can_be.boxes)

cuts_once : (bytes : List ℕ) (one other : BoxLibrary) (is : SpellsBoxed bytes one) (like : SpellsBoxed bytes other) → one.cuts ≡ other.cuts
cuts_once bytes one other is like =
    sym (cuts_named one.cuts) ∙ ap (map name_in) (sym (cuts_laid bytes one is) ∙ cuts_laid bytes other like) ∙ cuts_named other.cuts

boxed_once : (bytes : List ℕ) (one other : BoxLibrary) → SpellsBoxed bytes one → SpellsBoxed bytes other → one ≡ other
boxed_once bytes one other is like =
    let boxes = boxes_once bytes one other is like in
    let cells : one.cells ≡ other.cells =
    is.cells_are ∙ ap (λ (l : List ListedCell). l ++ map bare_of one.boxes) (own_once bytes one other is like)
    ∙ ap (λ (l : List BoxCell). like.own ++ map bare_of l) boxes ∙ sym like.cells_are in
    same_library one other cells boxes (cuts_once bytes one other is like)

apart : (bytes : List ℕ) (one other : BoxLibrary) → SpellsPlain bytes one → SpellsBoxed bytes other → ⊥
apart bytes one other is like =
    let no : is_begun (kept_lines bytes) ≡ false = plain_rows (kept_lines bytes) (map cell_words one.cells) is.cells.lines_are in
    let yes : is_begun (kept_lines bytes) ≡ true = (laid bytes other like).begun in
    let clash : true ≡ false = sym yes ∙ no in cc

pub spelled_once : SpelledOnce
spelled_once bytes one other (inl is) (inl like) =
    same_library one other (cell_laws.spelled_once bytes one.cells other.cells is.cells like.cells) (is.no_boxes ∙ sym like.no_boxes) (is.no_cuts ∙ sym like.no_cuts)
spelled_once bytes one other (inl is) (inr like) = absurd (apart bytes one other is like)
spelled_once bytes one other (inr is) (inl like) = absurd (apart bytes other one like is)
spelled_once bytes one other (inr is) (inr like) = boxed_once bytes one other is like

-- A library that is read is spelled.

boxes_spelled : (rows : List Words) (boxes : List BoxCell) → All (λ (w : Words). is_box_line w ≡ true) rows → map box_in rows ≡ map (λ (b : BoxCell). Some b) boxes → AreAll SpellsBox rows boxes × All IsTextBox boxes
boxes_spelled [] [] forms same = (tt, All-nil IsTextBox)
boxes_spelled [] (b ∷ boxes) forms same = absurd (cc)
boxes_spelled (w ∷ rows) [] forms same = absurd (cc)
boxes_spelled (w ∷ rows) (b ∷ boxes) forms same =
    let here : box_in w ≡ Some b = cc in
    let more : map box_in rows ≡ map (λ (b : BoxCell). Some b) boxes = cc in
    let is = box_of_line w b (All-head (λ (w : Words). is_box_line w ≡ true) w rows forms) here in
    let rest = boxes_spelled rows boxes (All-tail (λ (w : Words). is_box_line w ≡ true) w rows forms) more in
    ((is.spelled, rest.0), All-cons IsTextBox b boxes is.text rest.1)

cut_is : (words : Words) → is_cut_line words ≡ true → words ≡ cut_words (name_in words)
cut_is [] is = absurd (let clash : false ≡ true = is in cc)
cut_is (a ∷ []) is = absurd (let clash : false ≡ true = is in cc)
cut_is (a ∷ b ∷ c ∷ words) is = absurd (let clash : false ≡ true = is in cc)
cut_is (a ∷ b ∷ []) is = ap (λ (k : List ℕ). k ∷ b ∷ []) ((bytes_eq-Decides a (codes "cut")).0 is)

cuts_are : (rows : List Words) → All (λ (w : Words). is_cut_line w ≡ true) rows → rows ≡ map cut_words (map name_in rows)
cuts_are [] forms = refl
cuts_are (w ∷ rows) forms =
    ap (λ (x : Words). x ∷ rows) (cut_is w (All-head (λ (w : Words). is_cut_line w ≡ true) w rows forms))
    ∙ ap (λ (l : List Words). cut_words (name_in w) ∷ l) (cuts_are rows (All-tail (λ (w : Words). is_cut_line w ≡ true) w rows forms))

-- lines that are in order, few, and without a barred name
pub record IsOrderly (bytes : List ℕ) : Type 0 where
  pub begun : is_begun (kept_lines bytes) ≡ true
  pub order : misplaced Cell (later_lines bytes) ≡ None
  pub few : length (later_rows bytes) ≤ 4096
  pub names : barred_after [] (map name_in (cells_of (later_rows bytes) ++ boxes_of (later_rows bytes))) ≡ None
  pub cuts : barred_cut [] (map name_in (cuts_of (later_rows bytes))) ≡ None

pub can_be_cells : (bytes : List ℕ) → IsOrderly bytes → CanBeCells (cells_of (later_rows bytes))
can_be_cells bytes is =
    let rows = later_rows bytes in
    let l = parts_few (later_lines bytes) is.order in
    let few = is.few in
    record {
      few = omega arith;
      forms = passed is_cell_line rows;
      names = front_free [] (map name_in (cells_of rows)) (map name_in (boxes_of rows)) (ap (barred_after []) (sym (map-append name_in (cells_of rows) (boxes_of rows))) ∙ is.names);
    }

-- the names of what is read
names_read : OwnNamesAreExact → (cells boxes : List Words) (own : List ListedCell) (found : List BoxCell) → map cell_in cells ≡ map (λ (c : ListedCell). Some c) own → AreAll SpellsBox boxes found
    → map name_in (cells ++ boxes) ≡ cell_names (own ++ map bare_of found)
names_read exact cells boxes own found same each =
    map-append name_in cells boxes
    ∙ ap (λ (l : List Words). map name_in l ++ map name_in boxes) (cell_laws.words_of_cells exact cells own same)
    ∙ ap (λ (l : Words). l ++ map name_in boxes) (cell_laws.names_again own)
    ∙ ap (λ (l : Words). cell_names own ++ l) (boxes_named boxes found each ∙ sym (bare_names found))
    ∙ sym (map-append (λ (c : ListedCell). c.name) own (map bare_of found))

pub library_read : OwnNamesAreExact → (cells boxes : List Words) (own : List ListedCell) (found : List BoxCell) → CanBeCells cells → All (λ (w : Words). is_box_line w ≡ true) boxes → length cells + length boxes ≤ 4096
    → barred_after [] (map name_in (cells ++ boxes)) ≡ None → map cell_in cells ≡ map (λ (c : ListedCell). Some c) own → map box_in boxes ≡ map (λ (b : BoxCell). Some b) found → IsLibrary (own ++ map bare_of found)
library_read exact cells boxes own found can forms few free same is =
    let each = (boxes_spelled boxes found forms is).0 in
    let names = names_read exact cells boxes own found same each in
    let none : barred_after [] (cell_names (own ++ map bare_of found)) ≡ None = ap (barred_after []) (sym names) ∙ free in
    let fit : All Fit (cell_names own ++ cell_names (map bare_of found)) = subst (All Fit) (map-append (λ (c : ListedCell). c.name) own (map bare_of found)) (all_fit [] (cell_names (own ++ map bare_of found)) none) in
    let box_fit : All Fit (map box_name found) = subst (All Fit) (bare_names found) (all_right Fit (cell_names own) (cell_names (map bare_of found)) fit) in
    let a : length cells ≡ length own = sym (length-map cells cell_in) ∙ ap length same ∙ length-map own (λ (c : ListedCell). Some c) in
    let b : length boxes ≡ length found = AreAll-length SpellsBox boxes found each in
    let c = length-append own (map bare_of found) in
    let d : length (map bare_of found) ≡ length found = length-map found bare_of in
    library_named (own ++ map bare_of found) (omega arith)
    (All-append IsSoundCell own (map bare_of found) (are_library exact cells own can same).sound (bare_all_sound found box_fit)) none

pub boxed_spelled : OwnNamesAreExact → (bytes : List ℕ) (library : BoxLibrary) → IsOrderly bytes
    → IsReadFrom (cells_of (later_rows bytes)) (boxes_of (later_rows bytes)) (map name_in (cuts_of (later_rows bytes))) library → SpellsBoxed bytes library
boxed_spelled exact bytes library is read =
    let rows = later_rows bytes in
    let boxes = boxes_spelled (boxes_of rows) library.boxes (passed is_box_line rows) read.boxes_are in
    let cuts : cuts_of rows ≡ map cut_words library.cuts = cuts_are (cuts_of rows) (passed is_cut_line rows) ∙ ap (map cut_words) (sym read.cuts_are) in
    let cells : cells_of rows ≡ map cell_words read.own = cell_laws.words_of_cells exact (cells_of rows) read.own read.cells_are in
    let l = parts_few (later_lines bytes) is.order in
    let few = is.few in
    let library_is : IsLibrary (read.own ++ map bare_of library.boxes) =
    library_read exact (cells_of rows) (boxes_of rows) read.own library.boxes (can_be_cells bytes is) (passed is_box_line rows) (omega arith) is.names read.cells_are read.boxes_are in
    let a : length (cells_of rows) ≡ length read.own = ap length cells ∙ length-map read.own cell_words in
    let b : length (boxes_of rows) ≡ length library.boxes = AreAll-length SpellsBox (boxes_of rows) library.boxes boxes.0 in
    let c : length (cuts_of rows) ≡ length library.cuts = ap length cuts ∙ length-map library.cuts cut_words in
    let d : length library.cells ≡ length (read.own ++ map bare_of library.boxes) = ap length read.library_is in
    let e = length-append read.own (map bare_of library.boxes) in
    let f : length (map bare_of library.boxes) ≡ length library.boxes = length-map library.boxes bare_of in
    let fit = cuts_fit [] (map name_in (cuts_of rows)) is.cuts in
    record {
      own = read.own;
      boxes = boxes_of rows;
      lines_are = begun_words (kept_lines bytes) is.begun
          ∙ ap (λ (l : List Words). version_words ∷ l) (rows_sorted (later_lines bytes) is.order)
          ∙ ap (λ (l : List Words). version_words ∷ (l ++ boxes_of rows ++ cuts_of rows)) cells
          ∙ ap (λ (l : List Words). version_words ∷ (map cell_words read.own ++ boxes_of rows ++ l)) cuts;
      cells_are = read.library_is;
      boxes_are = boxes.0;
      can_be = record {
        own = read.own;
        cells_are = read.library_is;
        cells = subst IsLibrary (sym read.library_is) library_is;
        boxes = boxes.1;
        few = omega arith;
        cuts = ap (list_all is_instance_name) read.cuts_are ∙ fit.0;
        once = ap repeated read.cuts_are ∙ fit.1;
      };
    }

-- Faultless texts.

no_line : (o : Option ℕ) → option_map fault.LibLine o ≡ None → o ≡ None
no_line None e = refl
no_line (Some n) e = absurd (cc)

boxes_there : (rows : List Words) → first_in box_fault rows ≡ None → (boxes : List BoxCell) × (map box_in rows ≡ map (λ (b : BoxCell). Some b) boxes)
boxes_there [] none = ([], refl)
boxes_there (w ∷ rows) none =
    let both = or_else-parts (box_fault w) (first_in box_fault rows) none in
    let more = boxes_there rows both.1 in
    let here = there (box_in w) refl both.0 in
    (here.0 ∷ more.0, ap (λ (o : Option BoxCell). o ∷ map box_in rows) here.1 ∙ ap (λ (l : List (Option BoxCell)). Some here.0 ∷ l) more.1)
  where
    there : (o : Option BoxCell) → box_in w ≡ o → (if is_none o then Some (fault.LibBody (name_in w)) else None) ≡ None → (b : BoxCell) × (box_in w ≡ Some b)
    there None e h = absurd (let some : Some (fault.LibBody (name_in w)) ≡ None = h in cc)
    there (Some b) e h = (b, e)

boxed_there : OwnNamesAreExact → (bytes : List ℕ) → is_begun (kept_lines bytes) ≡ true → or_else (line_fault (later_lines bytes)) (rule_fault (later_rows bytes)) ≡ None
    → (library : BoxLibrary) × SpellsBoxed bytes library
boxed_there exact bytes begun none =
    let rows = later_rows bytes in
    let both = or_else-parts (line_fault (later_lines bytes)) (rule_fault rows) none in
    let rules = or_else-parts (too_many rows) (later_rules rows) both.1 in
    let more = or_else-parts (name_fault rows) (bodies_fault (cells_of rows) (boxes_of rows)) rules.1 in
    let named = cell_laws.no_name (barred_name (map name_in (cells_of rows ++ boxes_of rows)) (map name_in (cuts_of rows))) more.0 in
    let names = or_else-parts (barred_after [] (map name_in (cells_of rows ++ boxes_of rows))) (barred_cut [] (map name_in (cuts_of rows))) named in
    let bodies = or_else-parts (first_in body_fault (cells_of rows)) (first_in box_fault (boxes_of rows)) more.1 in
    let own = cell_laws.cells_there (cells_of rows) bodies.0 in
    let boxes = boxes_there (boxes_of rows) bodies.1 in
    let library : BoxLibrary = record { cells = own.0 ++ map bare_of boxes.0; boxes = boxes.0; cuts = map name_in (cuts_of rows) } in (
      library,
      boxed_spelled exact bytes library
          (record { begun = begun; order = no_line (misplaced Cell (later_lines bytes)) both.0; few = cell_laws.few_rows rows rules.0; names = names.0; cuts = names.1 })
          (record { own = own.0; cells_are = own.1; boxes_are = boxes.1; library_is = refl; cuts_are = refl }),
    )

pub faultless_is_spelled : OwnNamesAreExact → FaultlessIsSpelled
faultless_is_spelled exact bytes none = by (is_begun (kept_lines bytes)) refl
  where
    by : (b : Bool) → is_begun (kept_lines bytes) ≡ b → (library : BoxLibrary) × SpellsBoxes bytes library
    by true begun = let found = boxed_there exact bytes begun (sym (begun_fault bytes begun) ∙ none) in (found.0, inr found.1)
    by false other =
        let found = cell_laws.faultless_is_spelled exact bytes (sym (plain_fault bytes other) ∙ none) in
        let library : BoxLibrary = record { cells = found.0; boxes = []; cuts = [] } in
        (library, inl (record { cells = found.1; no_boxes = refl; no_cuts = refl }))
