-- The rows of a library's text are words, and read back.
use Rattle.std.proofs.Common.{◌≡◌, ◌≢◌, ◌≤◌, ◌<◌, ℕ, zero, suc, ◌+◌, ◌-◌, Bool, true, false, ◌&&◌, cond, not, nat_le, List, [], ◌∷◌, ◌++◌, map, take, length, codes, slice_get, is_some, Some, None, All, refl, sym, ap, ◌∙◌, subst, arith, append_assoc, append-nil, ltb-true}
use Rattle.std.specs.Str.{bytes_eq}
use Rattle.std.specs.List.{list_all, enumerate_from}
use Rattle.std.proofs.lemmas.Bool.Decides.{nat_tests}
use Rattle.std.proofs.lemmas.List.Elements.{All-nil, All-cons, All-head, All-tail, All-append}
use Rattle.std.proofs.lemmas.Grind.{flat_map-append}
use Rattle.list_laws.proofs.Lists.{slice_get_there, taken_more, front_all, map_push}
use Rattle.list_laws.proofs.Tests.{and_left, and_right}
use Rattle.verilog_lexicon.specs.Bytes.{is_name_byte, is_letter, is_simple_name}
use Rattle.verilog_lexicon.specs.Keywords.{reserved_of}
use Rattle.word_cutter.specs.LinesWords.{is_line_end, is_blank_byte}
use Rattle.word_cutter.specs.Rows.{IsWordByte, IsWord, IsRow, row_text, rows_text}
use Rattle.word_cutter.specs.LinesLaws.{ReadsBack, RowsReadBack}
use Rattle.cell_library.specs.declared.Edge.{Edge}
use Rattle.cell_library.specs.declared.Edge.TheVariants.{Rise, Fall}
use Rattle.cell_library.specs.declared.ResetTo.{ResetTo}
use Rattle.cell_library.specs.declared.ResetTo.TheVariants.{Nothing, Zero, One}
use Rattle.cell_library.specs.declared.listed.Step.{Step}
use Rattle.cell_library.specs.declared.listed.Step.TheVariants as step
use Rattle.cell_library.specs.declared.listed.Body.{Body}
use Rattle.cell_library.specs.declared.listed.Body.TheVariants as body
use Rattle.cell_library.specs.declared.listed.ListedCell.{ListedCell}
use Rattle.cell_library.specs.Library.{flop_name}
use Rattle.cell_library.specs.Sound.{is_cell_name, IsPort, wants, is_of, leaves_one, is_sound_body, IsSoundCell, IsLibrary}
use Rattle.cell_text.specs.Words.{Words, step_word}
use Rattle.cell_text.specs.Faults.{words_in}
use Rattle.cell_text.specs.Grammar.{body_words, cell_words, version_words, library_rows, SpellsLibrary, canonical_library}
use Rattle.cell_text.proofs.Borrowed.{index_at}
use Rattle.cell_text.proofs.Again.{gate_body}

-- Words of known bytes.

pub word_bytes : List ℕ → Bool
word_bytes [] = true
word_bytes (b ∷ bytes) = cond (is_blank_byte b) false (cond (is_line_end b) false (word_bytes bytes))

word_bytes-step : (b : ℕ) (s t rest : Bool) → is_blank_byte b ≡ s → is_line_end b ≡ t → cond s false (cond t false rest) ≡ true → IsWordByte b × (rest ≡ true)
word_bytes-step b true t rest e f h = absurd (cc)
word_bytes-step b false true rest e f h = absurd (cc)
word_bytes-step b false false rest e f h = (record { no_blank = e; no_end = f }, h)

each_word_byte : (bytes : List ℕ) → word_bytes bytes ≡ true → All IsWordByte bytes
unfolding word_bytes
each_word_byte [] h = All-nil IsWordByte
each_word_byte (b ∷ bytes) h =
    let both = word_bytes-step b (is_blank_byte b) (is_line_end b) (word_bytes bytes) refl refl h in
    All-cons IsWordByte b bytes both.0 (each_word_byte bytes both.1)

pub known_word : (b : ℕ) (bytes : List ℕ) → word_bytes (b ∷ bytes) ≡ true → IsWord (b ∷ bytes)
known_word b bytes h = record { some = λ e. cc; each = each_word_byte (b ∷ bytes) h }

gate_word : IsWord (codes "gate")
unfolding word_bytes
gate_word = known_word 103 (codes "ate") refl

flop_key : IsWord (codes "flop")
unfolding word_bytes
flop_key = known_word 102 (codes "lop") refl

pub colon_word : IsWord (codes ":")
unfolding word_bytes
colon_word = known_word 58 [] refl

flop_word : (e : Edge) (reset : ResetTo) → IsWord (flop_name e reset)
unfolding word_bytes
flop_word Rise Nothing = known_word 68 (codes "FF") refl
flop_word Fall Nothing = known_word 68 (codes "FFN") refl
flop_word Rise Zero = known_word 68 (codes "FFR") refl
flop_word Fall Zero = known_word 68 (codes "FFNR") refl
flop_word Rise One = known_word 68 (codes "FFS") refl
flop_word Fall One = known_word 68 (codes "FFNS") refl

-- Names.

word_byte : (b : ℕ) → 33 ≤ b → IsWordByte b
word_byte b h = record { no_blank = grind (arith, nat_tests); no_end = grind (arith, nat_tests) }

name_byte : (b : ℕ) → is_name_byte b ≡ true → IsWordByte b
name_byte b h = word_byte b (let k : 33 ≤ b = grind (arith, nat_tests) in k)

name_bytes : (bytes : List ℕ) → list_all is_name_byte bytes ≡ true → All IsWordByte bytes
name_bytes [] h = All-nil IsWordByte
name_bytes (b ∷ bytes) h =
    All-cons IsWordByte b bytes (name_byte b (and_left (is_name_byte b) (list_all is_name_byte bytes) h)) (name_bytes bytes (and_right (is_name_byte b) (list_all is_name_byte bytes) h))

simple_word : (name : List ℕ) → is_simple_name name ≡ true → IsWord name
simple_word [] h = absurd (cc)
simple_word (b ∷ bytes) h = record { some = λ e. cc; each = name_bytes (b ∷ bytes) (and_right (is_letter b) (list_all is_name_byte (b ∷ bytes)) h) }

pub name_word : (name : List ℕ) → is_cell_name name ≡ true → IsWord name
name_word name h = simple_word name (and_left (is_simple_name name) (not (is_some (reserved_of name)) && nat_le (length name) 255) h)

pub port_word : (name : List ℕ) → IsPort name → IsWord name
port_word name h = name_word name (and_left (is_cell_name name) (not (bytes_eq name (codes "mux"))) h)

port_words : (ports : Words) → All IsPort ports → All IsWord ports
port_words [] all = All-nil IsWord
port_words (p ∷ ports) all = All-cons IsWord p ports (port_word p (All-head IsPort p ports all)) (port_words ports (All-tail IsPort p ports all))

-- Steps.

word_at : (words : Words) (k : ℕ) (w : List ℕ) → All IsWord words → slice_get words k ≡ Some w → IsWord w
word_at [] k w all at = absurd (let none : None ≡ Some w = at in cc)
word_at (x ∷ words) zero w all at = let same : x ≡ w = cc in subst IsWord same (All-head IsWord x words all)
word_at (x ∷ words) (suc k) w all at = word_at words k w (All-tail IsWord x words all) at

step_is_word : (inputs : Words) (s : Step) → All IsWord inputs → is_of (length inputs) s ≡ true → IsWord (step_word inputs s)
unfolding word_bytes
step_is_word inputs (step.Input k) all of =
    let there = slice_get_there inputs k (ltb-true k (length inputs) of) in
    subst IsWord (sym (index_at inputs k there.0 there.1)) (word_at inputs k there.0 all there.1)
step_is_word inputs (step.Const false) all of = known_word 48 [] refl
step_is_word inputs (step.Const true) all of = known_word 49 [] refl
step_is_word inputs step.Not all of = known_word 110 (codes "ot") refl
step_is_word inputs step.And all of = known_word 97 (codes "nd") refl
step_is_word inputs step.Or all of = known_word 111 (codes "r") refl
step_is_word inputs step.Xor all of = known_word 120 (codes "or") refl
step_is_word inputs step.Mux all of = known_word 109 (codes "ux") refl

step_words : (inputs : Words) (depth : ℕ) (steps : List Step) → All IsWord inputs → leaves_one (length inputs) depth steps ≡ true → All IsWord (map (step_word inputs) steps)
step_words inputs depth [] all sound = All-nil IsWord
step_words inputs depth (s ∷ steps) all sound =
    let next = depth - wants s + 1 in
    let count = length inputs in
    let of = and_left (is_of count s) (nat_le (wants s) depth && (nat_le next 16 && leaves_one count next steps)) sound in
    let a = and_right (is_of count s) (nat_le (wants s) depth && (nat_le next 16 && leaves_one count next steps)) sound in
    let b = and_right (nat_le (wants s) depth) (nat_le next 16 && leaves_one count next steps) a in
    let c = and_right (nat_le next 16) (leaves_one count next steps) b in
    All-cons IsWord (step_word inputs s) (map (step_word inputs) steps) (step_is_word inputs s all of) (step_words inputs next steps all c)

-- Rows.

body_is_row : (name output : List ℕ) (inputs : Words) (b : Body) → IsWord name → IsWord output → All IsWord inputs → is_sound_body (length inputs) b ≡ true → IsRow (body_words name output inputs b)
body_is_row name output inputs (body.Gate steps) n o i sound =
    let sts = map (step_word inputs) steps in
    let behind : All IsWord (codes ":" ∷ sts) = All-cons IsWord (codes ":") sts colon_word (step_words inputs 0 steps i (gate_body (length inputs) steps sound).one) in
    record {
      kept = refl;
      each = All-cons IsWord (codes "gate") (name ∷ output ∷ inputs ++ codes ":" ∷ sts) gate_word
          (All-cons IsWord name (output ∷ inputs ++ codes ":" ∷ sts) n
          (All-cons IsWord output (inputs ++ codes ":" ∷ sts) o (All-append IsWord inputs (codes ":" ∷ sts) i behind)));
    }
body_is_row name output inputs (body.Flop kind) n o i sound = record {
  kept = refl;
  each = All-cons IsWord (codes "flop") (name ∷ flop_name kind.edge kind.reset ∷ output ∷ inputs) flop_key
      (All-cons IsWord name (flop_name kind.edge kind.reset ∷ output ∷ inputs) n
      (All-cons IsWord (flop_name kind.edge kind.reset) (output ∷ inputs) (flop_word kind.edge kind.reset) (All-cons IsWord output inputs o i)));
}

cell_is_row : (cell : ListedCell) → IsSoundCell cell → IsRow (cell_words cell)
cell_is_row cell sound =
    let words = port_words (cell.output ∷ cell.inputs) sound.ports in
    body_is_row cell.name cell.output cell.inputs cell.body (name_word cell.name sound.name) (All-head IsWord cell.output cell.inputs words) (All-tail IsWord cell.output cell.inputs words) sound.body

pub cells_are_rows : (library : List ListedCell) → All IsSoundCell library → All IsRow (map cell_words library)
cells_are_rows [] all = All-nil IsRow
cells_are_rows (c ∷ library) all =
    All-cons IsRow (cell_words c) (map cell_words library) (cell_is_row c (All-head IsSoundCell c library all)) (cells_are_rows library (All-tail IsSoundCell c library all))

version_is_row : IsRow version_words
unfolding word_bytes
version_is_row = record {
  kept = refl;
  each = All-cons IsWord (codes "cells") (codes "1" ∷ []) (known_word 99 (codes "ells") refl) (All-cons IsWord (codes "1") [] (known_word 49 [] refl) (All-nil IsWord));
}

pub words_numbered : (n : ℕ) (rows : List Words) → map words_in (enumerate_from n rows) ≡ rows
words_numbered n [] = refl
words_numbered n (row ∷ rows) = ap (λ (l : List Words). row ∷ l) (words_numbered (n + 1) rows)

pub library_spells : RowsReadBack → (library : List ListedCell) → IsLibrary library → SpellsLibrary (canonical_library library) library
library_spells law library is =
    let back : ReadsBack (library_rows library) = law (library_rows library) (All-cons IsRow version_words (map cell_words library) version_is_row (cells_are_rows library is.sound)) in
    record { lines_are = ap (map words_in) back.kept ∙ words_numbered 1 (library_rows library); can_be = is }

-- The loop over the cells.

pub rows_push : (rows : List Words) (row : Words) → rows_text (rows ++ row ∷ []) ≡ rows_text rows ++ row_text row
rows_push rows row = flat_map-append row_text rows (row ∷ []) ∙ ap (λ (l : List ℕ). rows_text rows ++ l) (append-nil (row_text row))

pub cell_put : (t text new : List ℕ) (library : List ListedCell) (k : ℕ) (cell : ListedCell) → slice_get library k ≡ Some cell → new ≡ text ++ row_text (cell_words cell)
    → text ≡ t ++ rows_text (map cell_words (take k library)) → new ≡ t ++ rows_text (map cell_words (take (k + 1) library))
cell_put t text new library k cell at grown so_far =
    let front = map cell_words (take k library) in
    let taken : take k library ++ cell ∷ [] ≡ take (k + 1) library = taken_more library k cell (take k library) (take k library ++ cell ∷ []) at refl refl in
    let words : map cell_words (take (k + 1) library) ≡ front ++ cell_words cell ∷ [] = ap (map cell_words) (sym taken) ∙ map_push cell_words (take k library) cell in
    let rows : rows_text (map cell_words (take (k + 1) library)) ≡ rows_text front ++ row_text (cell_words cell) = ap rows_text words ∙ rows_push front (cell_words cell) in
    grown ∙ ap (λ (l : List ℕ). l ++ row_text (cell_words cell)) so_far ∙ append_assoc t (rows_text front) (row_text (cell_words cell)) ∙ ap (λ (l : List ℕ). t ++ l) (sym rows)

pub cells_put : (t text : List ℕ) (library : List ListedCell) (k : ℕ) → length library ≤ k → text ≡ t ++ rows_text (map cell_words (take k library)) → text ≡ t ++ rows_text (map cell_words library)
cells_put t text library k all so_far = so_far ∙ ap (λ (l : List ListedCell). t ++ rows_text (map cell_words l)) (front_all library k all)
