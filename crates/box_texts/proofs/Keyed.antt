-- The forms of lines, by their first words.
use Rattle.std.proofs.Common.{◌≡◌, ◌≤◌, ℕ, Bool, true, false, ◌&&◌, if◌then◌else◌, List, [], ◌∷◌, length, drop, codes, nat_le, is_some, Option, Some, None, option_and_then, Bor, refl, sym, ap, ◌∙◌, subst, arith, le-leb}
use Rattle.std.specs.Str.{bytes_eq}
use Rattle.std.specs.List.{list_any}
use Rattle.std.proofs.lemmas.Slice.Eq.{bytes_eq-Decides}
use Rattle.list_laws.proofs.Lists.{any_map}
use Rattle.list_laws.proofs.Tests.{and_left}
use Rattle.word_cutter.specs.Cut.{after_word}
use Rattle.word_cutter.specs.Forms.{one_of}
use Rattle.texts.specs.Repeated.{texts}
use Rattle.cell_text.specs.Words.{Words, is_colon}
use Rattle.cell_text.specs.Lines.{is_cell_line}
use Rattle.cell_text.proofs.Borrowed.{texts_length}
use Rattle.box_texts.specs.declared.forms.LineForm.{LineForm}
use Rattle.box_texts.specs.declared.forms.LineForm.TheVariants.{Cell, Box, Cut}
use Rattle.box_texts.specs.Forms.{is_box, is_box_line, is_cut_line, form_if, form_of, may_follow, form_behind}

-- Lines of which the first word is known.

no_cut : (words : Words) → is_cut_line (codes "box" ∷ words) ≡ false
no_cut [] = refl
no_cut (a ∷ []) = refl
no_cut (a ∷ b ∷ words) = refl

box_keyed : (rest : Words) → form_of (codes "box" ∷ rest) ≡ form_if Box (is_box rest)
box_keyed rest = by (is_box rest)
  where
    by : (b : Bool) → (if b then Some Box else if is_cut_line (codes "box" ∷ rest) then Some Cut else None) ≡ form_if Box b
    by true = refl
    by false = ap (λ (c : Bool). if c then Some Cut else None) (no_cut rest)

cut_keyed : (rest : Words) → form_of (codes "cut" ∷ rest) ≡ form_if Cut (is_some (one_of rest))
cut_keyed [] = refl
cut_keyed (a ∷ []) = refl
cut_keyed (a ∷ b ∷ rest) = refl

pub form_box : (line rest : Words) (key : List ℕ) → bytes_eq key (codes "box") ≡ true → line ≡ after_word key rest → form_of line ≡ form_if Box (is_box rest)
form_box line rest key is line_is =
    let same : key ≡ codes "box" = (bytes_eq-Decides key (codes "box")).0 is in
    ap form_of (line_is ∙ ap (λ (k : List ℕ). after_word k rest) same) ∙ box_keyed rest

pub form_cut : (line rest : Words) (key : List ℕ) → bytes_eq key (codes "cut") ≡ true → line ≡ after_word key rest → form_of line ≡ form_if Cut (is_some (one_of rest))
form_cut line rest key is line_is =
    let same : key ≡ codes "cut" = (bytes_eq-Decides key (codes "cut")).0 is in
    ap form_of (line_is ∙ ap (λ (k : List ℕ). after_word k rest) same) ∙ cut_keyed rest

cut_by : (key : List ℕ) (words : Words) → bytes_eq key (codes "cut") ≡ false → is_cut_line (key ∷ words) ≡ false
cut_by key [] other = refl
cut_by key (a ∷ []) other = other
cut_by key (a ∷ b ∷ words) other = refl

other_keyed : (key : List ℕ) (words : Words) → bytes_eq key (codes "box") ≡ false → bytes_eq key (codes "cut") ≡ false → form_of (key ∷ words) ≡ form_if Cell (is_cell_line (key ∷ words))
other_keyed key words box cut =
    ap (λ (b : Bool). if b && is_box words then Some Box else if is_cut_line (key ∷ words) then Some Cut else form_if Cell (is_cell_line (key ∷ words))) box
    ∙ ap (λ (b : Bool). if b then Some Cut else form_if Cell (is_cell_line (key ∷ words))) (cut_by key words cut)

pub form_cell : (line rest : Words) (key : List ℕ) → bytes_eq key (codes "box") ≡ false → bytes_eq key (codes "cut") ≡ false → line ≡ after_word key rest → (key ≡ [] → rest ≡ [])
    → form_of line ≡ form_if Cell (is_cell_line line)
form_cell line rest [] box cut line_is none = let empty : line ≡ [] = line_is ∙ none refl in ap form_of empty ∙ ap (λ (l : Words). form_if Cell (is_cell_line l)) (sym empty)
form_cell line rest (b ∷ bytes) box cut line_is none =
    ap form_of line_is ∙ other_keyed (b ∷ bytes) rest box cut ∙ ap (λ (l : Words). form_if Cell (is_cell_line l)) (sym line_is)

pub is_box_by : (words ports : List (Bor (List ℕ))) (b : Bool) → b ≡ list_any (λ (w : Bor (List ℕ)). is_colon w.now) ports → ports ≡ drop 1 words → 1 ≤ length words → length ports ≤ 1025 → b ≡ is_box (texts words)
is_box_by [] ports b is rest some few = absurd (omega arith)
is_box_by (a ∷ words) ports b is rest some few =
    let l : length (texts words) ≡ length ports = texts_length words ∙ ap length (sym rest) in
    let short : nat_le (length (texts words)) 1025 ≡ true = le-leb (length (texts words)) 1025 (omega arith) in
    is ∙ ap (list_any (λ (w : Bor (List ℕ)). is_colon w.now)) rest
    ∙ sym (any_map is_colon (λ (w : Bor (List ℕ)). w.now) words)
    ∙ ap (λ (c : Bool). c && list_any is_colon (texts words)) (sym short)

-- What a form says of a line.

-- of the three tests, a line passes that of its form alone
abbrev pub IsOf : LineForm → Words → Type 0
IsOf Cell words = (is_cell_line words ≡ true) × (is_box_line words ≡ false) × (is_cut_line words ≡ false)
IsOf Box words = (is_cell_line words ≡ false) × (is_box_line words ≡ true) × (is_cut_line words ≡ false)
IsOf Cut words = (is_cell_line words ≡ false) × (is_box_line words ≡ false) × (is_cut_line words ≡ true)

pub of_box : (words : Words) → is_box_line words ≡ true → IsOf Box words
of_box [] is = absurd (let clash : false ≡ true = is in cc)
of_box (key ∷ words) is =
    let same : key ≡ codes "box" = (bytes_eq-Decides key (codes "box")).0 (and_left (bytes_eq key (codes "box")) (is_box words) is) in
    (ap (λ (k : List ℕ). is_cell_line (k ∷ words)) same, is, ap (λ (k : List ℕ). is_cut_line (k ∷ words)) same ∙ no_cut words)

pub of_cut : (words : Words) → is_cut_line words ≡ true → IsOf Cut words
of_cut [] is = absurd (let clash : false ≡ true = is in cc)
of_cut (key ∷ []) is = absurd (let clash : false ≡ true = is in cc)
of_cut (key ∷ a ∷ b ∷ words) is = absurd (let clash : false ≡ true = is in cc)
of_cut (key ∷ a ∷ []) is =
    let same : key ≡ codes "cut" = (bytes_eq-Decides key (codes "cut")).0 is in
    (ap (λ (k : List ℕ). is_cell_line (k ∷ a ∷ [])) same, ap (λ (k : List ℕ). is_box_line (k ∷ a ∷ [])) same, is)

pub of_cell : (words : Words) → is_cell_line words ≡ true → IsOf Cell words
of_cell words is = (is, box (is_box_line words) refl, cut (is_cut_line words) refl)
  where
    box : (b : Bool) → is_box_line words ≡ b → is_box_line words ≡ false
    box false e = e
    box true e = absurd (let clash : true ≡ false = sym is ∙ (of_box words e).0 in cc)

    cut : (b : Bool) → is_cut_line words ≡ b → is_cut_line words ≡ false
    cut false e = e
    cut true e = absurd (let clash : true ≡ false = sym is ∙ (of_cut words e).0 in cc)

pub is_of : (form : LineForm) (words : Words) → form_of words ≡ Some form → IsOf form words
is_of form words e = by (is_box_line words) (is_cut_line words) (is_cell_line words) refl refl refl e
  where
    by : (b c l : Bool) → is_box_line words ≡ b → is_cut_line words ≡ c → is_cell_line words ≡ l → (if b then Some Box else if c then Some Cut else form_if Cell l) ≡ Some form → IsOf form words
    by true c l be ce le e = let same : Box ≡ form = cc in subst (λ (f : LineForm). IsOf f words) same (of_box words be)
    by false true l be ce le e = let same : Cut ≡ form = cc in subst (λ (f : LineForm). IsOf f words) same (of_cut words ce)
    by false false true be ce le e = let same : Cell ≡ form = cc in subst (λ (f : LineForm). IsOf f words) same (of_cell words le)
    by false false false be ce le e = absurd (let none : None ≡ Some form = e in cc)

pub form_is : (form : LineForm) (words : Words) → IsOf form words → form_of words ≡ Some form
form_is Cell words is =
    ap (λ (b : Bool). if b then Some Box else if is_cut_line words then Some Cut else form_if Cell (is_cell_line words)) is.1
    ∙ ap (λ (b : Bool). if b then Some Cut else form_if Cell (is_cell_line words)) is.2 ∙ ap (form_if Cell) is.0
form_is Box words is = ap (λ (b : Bool). if b then Some Box else if is_cut_line words then Some Cut else form_if Cell (is_cell_line words)) is.1
form_is Cut words is =
    ap (λ (b : Bool). if b then Some Box else if is_cut_line words then Some Cut else form_if Cell (is_cell_line words)) is.1
    ∙ ap (λ (b : Bool). if b then Some Cut else form_if Cell (is_cell_line words)) is.2

-- a form that is told behind another may follow it
pub form_told : (before form : LineForm) (words : Words) → form_behind before words ≡ Some form → (form_of words ≡ Some form) × (may_follow form before ≡ true)
form_told before form words e = by (form_of words) refl e
  where
    told : (f : LineForm) (b : Bool) → may_follow f before ≡ b → form_of words ≡ Some f → form_if f b ≡ Some form → (form_of words ≡ Some form) × (may_follow form before ≡ true)
    told f false m is e = absurd (let none : None ≡ Some form = e in cc)
    told f true m is e = let same : f ≡ form = cc in (is ∙ ap (λ (g : LineForm). Some g) same, ap (λ (g : LineForm). may_follow g before) (sym same) ∙ m)

    by : (o : Option LineForm) → form_of words ≡ o → option_and_then (λ (f : LineForm). form_if f (may_follow f before)) o ≡ Some form → (form_of words ≡ Some form) × (may_follow form before ≡ true)
    by None is e = absurd (let none : None ≡ Some form = e in cc)
    by (Some f) is e = told f (may_follow f before) refl is e

pub told_behind : (before form : LineForm) (words : Words) → form_of words ≡ Some form → may_follow form before ≡ true → form_behind before words ≡ Some form
told_behind before form words is may =
    ap (option_and_then (λ (f : LineForm). form_if f (may_follow f before))) is ∙ ap (form_if form) may
