-- The names of cells, boxes and cuts.
use Rattle.std.proofs.Common.{◌≡◌, ◌≤◌, ◌<◌, ℕ, zero, suc, ◌+◌, Bool, true, false, ◌||◌, not, cond, if◌then◌else◌, List, [], ◌∷◌, ◌++◌, map, take, drop, length, codes, slice_get, slice_index_or, is_some, Option, Some, None, All, Bor, refl, sym, ap, ◌∙◌, subst, inl, inr, arith, append_assoc, length-append, take-append-drop}
use Rattle.std.specs.List.{list_all, prefix_len}
use Rattle.std.proofs.lemmas.Bool.Decides.{leb_tells}
use Rattle.std.proofs.lemmas.List.{map-append}
use Rattle.std.proofs.lemmas.List.Elements.{All-nil, All-cons, All-head, All-tail}
use Rattle.list_laws.specs.Options.{or_else}
use Rattle.list_laws.proofs.Lists.{left_at, slice_get-append_left, slice_get-append_right}
use Rattle.list_laws.proofs.Tests.{and_left, and_right, and_true, neither, or_first, or_second, not_false, both_false}
use Rattle.verilog_lexicon.specs.Keywords as keys
use Rattle.texts.specs.Repeated.{has_name, repeated_after, repeated, texts, bytes_of}
use Rattle.cell_library.specs.declared.listed.ListedCell.{ListedCell}
use Rattle.cell_library.specs.Library.{own_kind_named}
use Rattle.cell_library.specs.Sound.{is_cell_name, IsPort, IsSoundCell, IsLibrary}
use Rattle.cell_text.specs.Words.{Words}
use Rattle.cell_text.specs.Rules.{is_unfit, is_barred, barred_after}
use Rattle.cell_text.proofs.Barred.{IsFree, free_at}
use Rattle.cell_text.proofs.Added.{CanAdd, kind_free}
use Rattle.cell_text.proofs.Borrowed.{texts_length, texts_take, text_at, there_at, past}
use Rattle.box_model.specs.declared.boxes.BoxCell.{BoxCell}
use Rattle.box_texts.specs.Boxes.{bare_cell, bare_of}
use Rattle.box_texts.specs.Rules.{is_instance_name, is_barred_cut, barred_cut}

-- Names of cells and boxes of which none is barred.

abbrev pub cell_names : List ListedCell → Words
cell_names cells = map (λ (c : ListedCell). c.name) cells

pub front_free : (before xs ys : Words) → barred_after before (xs ++ ys) ≡ None → barred_after before xs ≡ None
front_free before [] ys none = refl
front_free before (x ∷ xs) ys none = by (is_barred before x) refl none (λ h. front_free (before ++ x ∷ []) xs ys h)
  where
    by : (b : Bool) → is_barred before x ≡ b → (if b then Some x else barred_after (before ++ x ∷ []) (xs ++ ys)) ≡ None
        → (barred_after (before ++ x ∷ []) (xs ++ ys) ≡ None → barred_after (before ++ x ∷ []) xs ≡ None) → barred_after before (x ∷ xs) ≡ None
    by true e h next = absurd (let some : Some x ≡ None = h in cc)
    by false e h next = ap (λ (b : Bool). if b then Some x else barred_after (before ++ x ∷ []) xs) e ∙ next h

abbrev pub Fit : List ℕ → Type 0
Fit name = is_unfit name ≡ false

pub all_fit : (before names : Words) → barred_after before names ≡ None → All Fit names
all_fit before [] none = All-nil Fit
all_fit before (name ∷ names) none = by (is_barred before name) refl none (λ h. all_fit (before ++ name ∷ []) names h)
  where
    by : (b : Bool) → is_barred before name ≡ b → (if b then Some name else barred_after (before ++ name ∷ []) names) ≡ None
        → (barred_after (before ++ name ∷ []) names ≡ None → All Fit names) → All Fit (name ∷ names)
    by true e h next = absurd (let some : Some name ≡ None = h in cc)
    by false e h next = All-cons Fit name names (or_first (is_unfit name) (has_name before name) e) (next h)

pub all_left : {X : Type 0} (P : X → Type 0) (xs ys : List X) → All P (xs ++ ys) → All P xs
all_left P [] ys all = All-nil P
all_left P (x ∷ xs) ys all = All-cons P x xs (All-head P x (xs ++ ys) all) (all_left P xs ys (All-tail P x (xs ++ ys) all))

pub all_right : {X : Type 0} (P : X → Type 0) (xs ys : List X) → All P (xs ++ ys) → All P ys
all_right P [] ys all = all
all_right P (x ∷ xs) ys all = all_right P xs ys (All-tail P x (xs ++ ys) all)

all_there : {X : Type 0} (P : X → Type 0) (xs : List X) (k : ℕ) (x : X) → All P xs → slice_get xs k ≡ Some x → P x
all_there P [] k x all at = absurd (let none : None ≡ Some x = at in cc)
all_there P (y ∷ xs) zero x all at = let same : y ≡ x = cc in subst P same (All-head P y xs all)
all_there P (y ∷ xs) (suc k) x all at = all_there P xs k x (All-tail P y xs all) at

-- Cells that are named so are a library.

name_there : (cells : List ListedCell) (k : ℕ) (cell : ListedCell) → slice_get cells k ≡ Some cell → slice_get (cell_names cells) k ≡ Some cell.name
name_there [] k cell at = absurd (let none : None ≡ Some cell = at in cc)
name_there (c ∷ cells) zero cell at = let same : c ≡ cell = cc in ap (λ (x : ListedCell). Some x.name) same
name_there (c ∷ cells) (suc k) cell at = name_there cells k cell at

pub library_named : (cells : List ListedCell) → length cells ≤ 4096 → All IsSoundCell cells → barred_after [] (cell_names cells) ≡ None → IsLibrary cells
library_named cells few sound none = record {
  few = few;
  sound = sound;
  named = λ k cell at. kind_free cell.name (free k cell at).fit;
  once = λ i j cell other at there alike. elim (leb_tells i j) [
    | inl h ↦ elim (leb_tells j i) [
      | inl k ↦ omega arith
      | inr k ↦ absurd (apart i j cell other k.1 at there alike)
    ]
    | inr h ↦ absurd (apart j i other cell h.1 there at (sym alike))
  ];
}
  where
    free : (k : ℕ) (cell : ListedCell) → slice_get cells k ≡ Some cell → IsFree (cell_names cells) k cell.name
    free k cell at = free_at (cell_names cells) k cell.name none (name_there cells k cell at)

    apart : (i j : ℕ) (cell other : ListedCell) → i < j → slice_get cells i ≡ Some cell → slice_get cells j ≡ Some other → cell.name ≡ other.name → ⊥
    apart i j cell other low at there alike = (free j other there).new i cell.name low (name_there cells i cell at) alike

-- Bare cells.

y_is_port : IsPort (codes "Y")
unfolding keys.reserved_of keys.spelling_of
y_is_port = refl

bare_sound : (name : List ℕ) → is_cell_name name ≡ true → IsSoundCell (bare_cell name)
bare_sound name is = record {
  name = is;
  ports = All-cons IsPort (codes "Y") [] y_is_port (All-nil IsPort);
  apart = (tt, tt);
  body = refl;
}

pub bare_names : (boxes : List BoxCell) → cell_names (map bare_of boxes) ≡ map (λ (b : BoxCell). b.name) boxes
bare_names [] = refl
bare_names (b ∷ boxes) = ap (λ (l : Words). b.name ∷ l) (bare_names boxes)

pub bare_all_sound : (boxes : List BoxCell) → All Fit (map (λ (b : BoxCell). b.name) boxes) → All IsSoundCell (map bare_of boxes)
bare_all_sound [] fit = All-nil IsSoundCell
bare_all_sound (b ∷ boxes) fit =
    let names = map (λ (b : BoxCell). b.name) boxes in
    let here = both_false (not (is_cell_name b.name)) (is_some (own_kind_named b.name)) (All-head Fit b.name names fit) in
    All-cons IsSoundCell (bare_of b) (map bare_of boxes) (bare_sound b.name (not_false (is_cell_name b.name) here.0)) (bare_all_sound boxes (All-tail Fit b.name names fit))

next_add : (cells more : List ListedCell) (cell : ListedCell) → IsLibrary (cells ++ cell ∷ more) → CanAdd cells cell
next_add cells more cell is =
    let here : slice_get (cells ++ cell ∷ more) (length cells) ≡ Some cell = slice_get-append_right cells (cell ∷ more) (length cells) 0 (omega arith) in
    let l = length-append cells (cell ∷ more) in
    let few = is.few in
    record {
      room = omega arith;
      sound = all_there IsSoundCell (cells ++ cell ∷ more) (length cells) cell is.sound here;
      name = record {
        free = is.named (length cells) cell here;
        new = λ number other at alike.
            let low : number < length cells = within cells number other at in
            let there : slice_get (cells ++ cell ∷ more) number ≡ Some other = slice_get-append_left cells (cell ∷ more) number low ∙ at in
            let same : number ≡ length cells = is.once number (length cells) other cell there here alike in
            omega arith;
      };
    }
  where
    within : (xs : List ListedCell) (k : ℕ) (x : ListedCell) → slice_get xs k ≡ Some x → k < length xs
    within [] k x at = absurd (let none : None ≡ Some x = at in cc)
    within (y ∷ xs) zero x at = omega arith
    within (y ∷ xs) (suc k) x at = let more = within xs k x at in omega arith

pub can_add_bare : (cells : List ListedCell) (boxes : List BoxCell) (k : ℕ) (b : BoxCell) → IsLibrary (cells ++ map bare_of boxes) → slice_get boxes k ≡ Some b
    → CanAdd (cells ++ map bare_of (take k boxes)) (bare_of b)
can_add_bare cells boxes k b is at =
    let split : boxes ≡ take k boxes ++ b ∷ drop (suc k) boxes = sym (take-append-drop k boxes) ∙ ap (λ (l : List BoxCell). take k boxes ++ l) (left_at boxes k b at) in
    let more = map bare_of (drop (suc k) boxes) in
    let all : cells ++ map bare_of boxes ≡ (cells ++ map bare_of (take k boxes)) ++ bare_of b ∷ more =
    ap (λ (l : List ListedCell). cells ++ l) (ap (map bare_of) split ∙ map-append bare_of (take k boxes) (b ∷ drop (suc k) boxes)) ∙ sym (append_assoc cells (map bare_of (take k boxes)) (bare_of b ∷ more)) in
    next_add (cells ++ map bare_of (take k boxes)) more (bare_of b) (subst IsLibrary all is)

pub bare_next : (cells : List ListedCell) (boxes : List BoxCell) (k : ℕ) (b : BoxCell) (library : List ListedCell) (cell : ListedCell) (name : List ℕ) → IsLibrary (cells ++ map bare_of boxes)
    → slice_get boxes k ≡ Some b → library ≡ cells ++ map bare_of (take k boxes) → cell ≡ bare_cell name → name ≡ b.name → CanAdd library cell
bare_next cells boxes k b library cell name is at so_far made named =
    let one : cell ≡ bare_of b = made ∙ ap bare_cell named in
    subst (λ (l : List ListedCell). CanAdd l cell) (sym so_far) (subst (CanAdd (cells ++ map bare_of (take k boxes))) (sym one) (can_add_bare cells boxes k b is at))

-- Cuts.

pub cuts_free : (before names : Words) → list_all is_instance_name names ≡ true → repeated_after before names ≡ None → barred_cut before names ≡ None
cuts_free before [] fit once = refl
cuts_free before (name ∷ names) fit once =
    by (has_name before name) refl once (λ h. cuts_free (before ++ name ∷ []) names (and_right (is_instance_name name) (list_all is_instance_name names) fit) h)
  where
    by : (b : Bool) → has_name before name ≡ b → (if b then Some name else repeated_after (before ++ name ∷ []) names) ≡ None
        → (repeated_after (before ++ name ∷ []) names ≡ None → barred_cut (before ++ name ∷ []) names ≡ None) → barred_cut before (name ∷ names) ≡ None
    by true e h next = absurd (let some : Some name ≡ None = h in cc)
    by false e h next =
        ap (λ (b : Bool). if b then Some name else barred_cut (before ++ name ∷ []) names)
        (neither (not (is_instance_name name)) (has_name before name) (ap not (and_left (is_instance_name name) (list_all is_instance_name names) fit)) e)
        ∙ next h

pub cuts_fit : (before names : Words) → barred_cut before names ≡ None → (list_all is_instance_name names ≡ true) × (repeated_after before names ≡ None)
cuts_fit before [] none = (refl, refl)
cuts_fit before (name ∷ names) none = by (is_barred_cut before name) refl none (λ h. cuts_fit (before ++ name ∷ []) names h)
  where
    by : (b : Bool) → is_barred_cut before name ≡ b → (if b then Some name else barred_cut (before ++ name ∷ []) names) ≡ None
        → (barred_cut (before ++ name ∷ []) names ≡ None → (list_all is_instance_name names ≡ true) × (repeated_after (before ++ name ∷ []) names ≡ None))
        → (list_all is_instance_name (name ∷ names) ≡ true) × (repeated_after before (name ∷ names) ≡ None)
    by true e h next = absurd (let some : Some name ≡ None = h in cc)
    by false e h next =
        let more = next h in
        let fit = not_false (is_instance_name name) (or_first (not (is_instance_name name)) (has_name before name) e) in (
          and_true (is_instance_name name) (list_all is_instance_name names) fit more.0,
          ap (λ (b : Bool). if b then Some name else repeated_after (before ++ name ∷ []) names) (or_second (not (is_instance_name name)) (has_name before name) e) ∙ more.1,
        )

-- the first that is barred: one that came before, among those in front of the first that no instance has; or else that
abbrev told : Words → Words → ℕ → Option (List ℕ)
told before names count = or_else (repeated_after before (take count names)) (slice_get names count)

cut_from : (before names : Words) → barred_cut before names ≡ told before names (prefix_len is_instance_name names)
cut_from before [] = refl
cut_from before (name ∷ names) = by (is_instance_name name) (has_name before name) refl (cut_from (before ++ name ∷ []) names)
  where
    count : ℕ
    count = prefix_len is_instance_name names

    came_first : (came : Bool) → has_name before name ≡ came
        → told before (name ∷ names) (1 + count) ≡ or_else (if came then Some name else repeated_after (before ++ name ∷ []) (take count names)) (slice_get names count)
    came_first came e =
        let more : 1 + count ≡ suc count = omega arith in
        ap (told before (name ∷ names)) more ∙ ap (λ (b : Bool). or_else (if b then Some name else repeated_after (before ++ name ∷ []) (take count names)) (slice_get names count)) e

    by : (fit came : Bool) → has_name before name ≡ came → barred_cut (before ++ name ∷ []) names ≡ told (before ++ name ∷ []) names count
        → (if not fit || came then Some name else barred_cut (before ++ name ∷ []) names) ≡ told before (name ∷ names) (cond fit (1 + count) 0)
    by false came e h = refl
    by true true e h = sym (came_first true e)
    by true false e h = h ∙ sym (came_first false e)

-- so many borrowed names stand before the first that no instance has
abbrev pub AreFit : List (Bor (List ℕ)) → ℕ → Type 0
AreFit names count = count ≡ prefix_len (λ (name : Bor (List ℕ)). is_instance_name name.now) names

fit_texts : (names : List (Bor (List ℕ))) → prefix_len (λ (name : Bor (List ℕ)). is_instance_name name.now) names ≡ prefix_len is_instance_name (texts names)
fit_texts [] = refl
fit_texts (name ∷ names) = ap (λ (n : ℕ). cond (is_instance_name name.now) (1 + n) 0) (fit_texts names)

cut_or : (names : List (Bor (List ℕ))) (count : ℕ) (found : Option (Bor (List ℕ))) → AreFit names count → bytes_of found ≡ repeated (texts (take count names))
    → barred_cut [] (texts names) ≡ or_else (bytes_of found) (slice_get (texts names) count)
cut_or names count found is so =
    cut_from [] (texts names)
    ∙ ap (told [] (texts names)) (sym (is ∙ fit_texts names))
    ∙ ap (λ (l : Words). or_else (repeated l) (slice_get (texts names) count)) (sym (texts_take count names))
    ∙ ap (λ (o : Option (List ℕ)). or_else o (slice_get (texts names) count)) (sym so)

pub cut_again : (names : List (Bor (List ℕ))) (count : ℕ) (name : Bor (List ℕ)) → AreFit names count → bytes_of (Some name) ≡ repeated (texts (take count names))
    → bytes_of (Some name) ≡ barred_cut [] (texts names)
cut_again names count name is so = sym (cut_or names count (Some name) is so)

pub cut_unfit : (names : List (Bor (List ℕ))) (count : ℕ) (d : Bor (List ℕ)) → AreFit names count → bytes_of None ≡ repeated (texts (take count names)) → count < length names
    → bytes_of (Some (slice_index_or names count d)) ≡ barred_cut [] (texts names)
cut_unfit names count d is so low = sym (cut_or names count None is so ∙ text_at names count (slice_index_or names count d) (there_at names count d low))

pub no_cut_barred : (names : List (Bor (List ℕ))) (count : ℕ) → AreFit names count → bytes_of None ≡ repeated (texts (take count names)) → length names ≤ count
    → bytes_of None ≡ barred_cut [] (texts names)
no_cut_barred names count is so all =
    let l = texts_length names in
    sym (cut_or names count None is so ∙ past (texts names) count (omega arith))
