-- Words that are gathered, and lines that are kept.
use Rattle.std.proofs.Common.{◌≡◌, ◌≢◌, ◌≤◌, ◌<◌, ℕ, zero, suc, ◌+◌, ◌-◌, Bool, true, false, ◌&&◌, ◌==◌, if◌then◌else◌, List, [], ◌∷◌, ◌++◌, map, take, length, is_some, codes, Option, Some, None, Bor, refl, sym, ap, ◌∙◌, inl, inr, arith, append_assoc, append-nil, length-append, subst, eqb-true}
use Rattle.std.specs.Str.{bytes_eq}
use Rattle.std.specs.Option.{option_map_or}
use Rattle.std.proofs.lemmas.Bool.Decides.{leb_tells}
use Rattle.std.proofs.lemmas.List.{length-map}
use Rattle.list_laws.specs.Options.{or_else, first_in}
use Rattle.list_laws.proofs.Lists.{front_of, front_all, map_push}
use Rattle.list_laws.proofs.Options.{first_in-append}
use Rattle.list_laws.proofs.Tests.{and_right, true_or_false}
use Rattle.word_cutter.specs.LinesWords.{words_of}
use Rattle.word_cutter.specs.Cut.{after_word}
use Rattle.texts.specs.Repeated.{texts}
use Rattle.cell_library.specs.declared.FlopKind.{FlopKind}
use Rattle.cell_library.specs.declared.ResetTo.{ResetTo}
use Rattle.cell_library.specs.declared.ResetTo.TheVariants.{Nothing, Zero, One}
use Rattle.cell_library.specs.Gates.{flop_operand_count}
use Rattle.cell_text.specs.declared.reader.Kept.{Kept}
use Rattle.cell_text.specs.Words.{Words, flop_named}
use Rattle.cell_text.specs.Lines.{parted, takes, is_gate, is_flop, is_cell_line}
use Rattle.cell_text.specs.Faults.{words_in, other_form}
use Rattle.cell_text.specs.Reader.{rows_of, Keeps, Going, IsKept}
use Rattle.cell_text.proofs.Borrowed.{texts_append, texts_length}
use Rattle.cell_text.proofs.Parts.{parts_of, length-taken}

-- Words of a line.

after_some : (w : List ℕ) (ws : Words) → w ≢ [] → after_word w ws ≡ w ∷ ws
after_some [] ws some = absurd (some refl)
after_some (b ∷ bytes) ws some = refl

pub is_word : (w : List ℕ) (b : Bool) → b ≡ (length w == 0) → b ≡ false → w ≢ []
is_word [] b is fails = λ e. absurd (let clash : false ≡ true = sym fails ∙ is in cc)
is_word (x ∷ w) b is fails = λ e. absurd (cc)

pub is_none : (w : List ℕ) (b : Bool) → b ≡ (length w == 0) → b ≡ true → w ≡ []
is_none [] b is holds = refl
is_none (x ∷ w) b is holds = absurd (let clash : suc (length w) ≡ 0 = eqb-true (suc (length w)) 0 (sym is ∙ holds) in omega arith)

pub gathered : (done new : List (Bor (List ℕ))) (w : Bor (List ℕ)) (line rest : List ℕ) (all : Words) → new ≡ done ++ w ∷ [] → words_of line ≡ after_word w.now (words_of rest) → w.now ≢ []
    → texts done ++ words_of line ≡ all → texts new ++ words_of rest ≡ all
gathered done new w line rest all grown words some so_far =
    ap (λ (l : List (Bor (List ℕ))). texts l ++ words_of rest) grown
    ∙ ap (λ (l : Words). l ++ words_of rest) (texts_append done (w ∷ []))
    ∙ append_assoc (texts done) (w.now ∷ []) (words_of rest)
    ∙ ap (λ (l : Words). texts done ++ l) (sym (words ∙ after_some w.now (words_of rest) some))
    ∙ so_far

pub gathered_all : (done : List (Bor (List ℕ))) (w : List ℕ) (line rest : List ℕ) (all : Words) → length done ≤ 85 → words_of line ≡ after_word w (words_of rest) → w ≡ [] → (w ≡ [] → words_of rest ≡ [])
    → texts done ++ words_of line ≡ all → texts done ≡ take 85 all
gathered_all done w line rest all few words none ends so_far =
    let empty : words_of line ≡ [] = words ∙ ap (λ (x : List ℕ). after_word x (words_of rest)) none ∙ ends none in
    let same : texts done ≡ all = sym (append-nil (texts done)) ∙ ap (λ (l : Words). texts done ++ l) (sym empty) ∙ so_far in
    let count = texts_length done in
    sym (ap (take 85) (sym same) ∙ front_all (texts done) 85 (omega arith))

pub gathered_most : (done : List (Bor (List ℕ))) (line : List ℕ) (all : Words) → length done ≡ 85 → texts done ++ words_of line ≡ all → texts done ≡ take 85 all
gathered_most done line all most so_far =
    let count : 85 ≡ length (texts done) = sym (texts_length done ∙ most) in
    sym (ap (take 85) (sym so_far) ∙ front_of (texts done) (words_of line) 85 count)

-- No line of a cell has more than 84 words.

few_operands : (reset : ResetTo) → flop_operand_count reset ≤ 3
few_operands Nothing = omega arith
few_operands Zero = omega arith
few_operands One = omega arith

gate_few : (words : Words) → is_gate words ≡ true → length words ≤ 83
gate_few [] is = absurd (cc)
gate_few (name ∷ []) is = absurd (cc)
gate_few (name ∷ output ∷ words) is = by (parted [] words) refl is
  where
    by : (o : Option (Words × Words)) → parted [] words ≡ o → is_some o ≡ true → suc (suc (length words)) ≤ 83
    by None e is = absurd (cc)
    by (Some parts) e is =
        let p = parts_of [] words parts e in
        let l : length words ≡ length (parts.0 ++ codes ":" ∷ parts.1) = ap length p.words_are in
        let m = length-append parts.0 (codes ":" ∷ parts.1) in
        let few = p.few in
        let short = p.short in
        omega arith

flop_few : (words : Words) → is_flop words ≡ true → length words ≤ 83
flop_few [] is = absurd (cc)
flop_few (name ∷ []) is = absurd (cc)
flop_few (name ∷ kind ∷ ports) is = by (flop_named kind) is
  where
    by : (o : Option FlopKind) → option_map_or (takes ports) o false ≡ true → suc (suc (length ports)) ≤ 83
    by None is = absurd (cc)
    by (Some k) is =
        let l : length ports ≡ 1 + flop_operand_count k.reset = eqb-true (length ports) (1 + flop_operand_count k.reset) is in
        let few = few_operands k.reset in
        omega arith

pub few_words : (words : Words) → is_cell_line words ≡ true → length words ≤ 84
few_words [] is = absurd (cc)
few_words (key ∷ words) is = by (bytes_eq key (codes "gate")) is
  where
    by : (b : Bool) → (if b then is_gate words else bytes_eq key (codes "flop") && is_flop words) ≡ true → suc (length words) ≤ 84
    by true is = let few = gate_few words is in omega arith
    by false is = let few = flop_few words (and_right (bytes_eq key (codes "flop")) (is_flop words) is) in omega arith

many_words : (words : Words) → 85 ≤ length words → is_cell_line words ≡ false
many_words words many = elim (true_or_false (is_cell_line words)) [
  | inl h ↦ let few = few_words words h in absurd (omega arith)
  | inr h ↦ h
]

pub form_of_front : (words : Words) → is_cell_line (take 85 words) ≡ is_cell_line words
form_of_front words = elim (leb_tells (length words) 85) [
  | inl h ↦ ap is_cell_line (front_all words 85 h.1)
  | inr h ↦ let l = taken words (omega arith) in many_words (take 85 words) (omega arith) ∙ sym (many_words words (omega arith))
]
  where
    taken : (words : Words) → 85 ≤ length words → length (take 85 words) ≡ 85
    taken words many = length-taken 85 words many

pub all_of_front : (words : Words) → is_cell_line words ≡ true → take 85 words ≡ words
all_of_front words is = let few = few_words words is in front_all words 85 (omega arith)

-- Lines that are kept.

pub rows_push : (lines : List (Bor (List ℕ))) (line : Bor (List ℕ)) → rows_of (lines ++ line ∷ []) ≡ rows_of lines ++ words_of line.now ∷ []
rows_push lines line = map_push (λ (l : Bor (List ℕ)). words_of l.now) lines line

pub rows_length : (lines : List (Bor (List ℕ))) → length (rows_of lines) ≡ length lines
rows_length [] = refl
rows_length (l ∷ lines) = ap suc (rows_length lines)

pub short_front : {X : Type 0} (n : ℕ) (xs : List X) → length (take n xs) < n → length xs < n
short_front zero xs low = absurd (omega arith)
short_front (suc n) [] low = omega arith
short_front (suc n) (x ∷ xs) low = let more = short_front n xs (omega arith) in omega arith

pub long_front : {X : Type 0} (n : ℕ) (xs ys : List X) → n ≤ length (take n xs) → take n (xs ++ ys) ≡ take n xs
long_front zero xs ys long = refl
long_front (suc n) [] ys long = absurd (omega arith)
long_front {X = X} (suc n) (x ∷ xs) ys long = ap (λ (l : List X). x ∷ l) (long_front n xs ys (omega arith))

pub noted_there : (lines new : List (Bor (List ℕ))) (line : Bor (List ℕ)) (rows : List Words) → length lines < 4096 → new ≡ lines ++ line ∷ [] → rows_of lines ≡ take 4096 rows
    → rows_of new ≡ take 4096 (rows ++ words_of line.now ∷ [])
noted_there lines new line rows room grown same =
    let a : length (rows_of lines) ≡ length (take 4096 rows) = ap length same in
    let b = rows_length lines in
    let few : length rows < 4096 = short_front 4096 rows (omega arith) in
    let c = length-append rows (words_of line.now ∷ []) in
    ap rows_of grown ∙ rows_push lines line ∙ ap (λ (l : List Words). l ++ words_of line.now ∷ []) (same ∙ front_all rows 4096 (omega arith))
    ∙ sym (front_all (rows ++ words_of line.now ∷ []) 4096 (omega arith))

pub noted_full : (lines : List (Bor (List ℕ))) (line : List ℕ) (rows : List Words) → 4096 ≤ length lines → rows_of lines ≡ take 4096 rows → rows_of lines ≡ take 4096 (rows ++ words_of line ∷ [])
noted_full lines line rows full same =
    let a : length (rows_of lines) ≡ length (take 4096 rows) = ap length same in
    let b = rows_length lines in
    same ∙ sym (long_front 4096 rows (words_of line ∷ []) (omega arith))

pub counted : (rows : List Words) (words : Words) (count : ℕ) → count ≡ length rows → count + 1 ≡ length (rows ++ words ∷ [])
counted rows words count same = let l = length-append rows (words ∷ []) in omega arith

-- The loop over the kept lines.

pub begins : (rows : List (ℕ × Words)) (kept : Kept) → kept.lines.items ≡ [] → kept.count ≡ 0 → Going rows rows kept
begins rows kept lines count = record { passed = []; split = refl; forms = refl; keeps = record { lines = ap rows_of lines; count = count } }

pub goes_on : (all left rest : List (ℕ × Words)) (number : ℕ) (words : Words) (old new : Kept) → Going all left old → left ≡ (number, words) ∷ rest → is_cell_line words ≡ true
    → ((rows : List Words) → Keeps rows old → Keeps (rows ++ words ∷ []) new) → Going all rest new
goes_on all left rest number words old new going here form noted = record {
  passed = going.passed ++ (number, words) ∷ [];
  split = going.split ∙ ap (λ (l : List (ℕ × Words)). going.passed ++ l) here ∙ sym (append_assoc going.passed ((number, words) ∷ []) rest);
  forms = first_in-append other_form going.passed ((number, words) ∷ [])
      ∙ ap (λ (o : Option ℕ). or_else o (first_in other_form ((number, words) ∷ []))) going.forms
      ∙ ap (λ (b : Bool). or_else (if b then None else Some number) None) form;
  keeps = subst (λ (rows : List Words). Keeps rows new) (sym (map_push words_in going.passed (number, words))) (noted (map words_in going.passed) going.keeps);
}

pub ends : (all left : List (ℕ × Words)) (kept : Kept) → Going all left kept → left ≡ [] → IsKept all kept
ends all left kept going none =
    let same : all ≡ going.passed = going.split ∙ ap (λ (l : List (ℕ × Words)). going.passed ++ l) none ∙ append-nil going.passed in
    record { forms = ap (first_in other_form) same ∙ going.forms; keeps = subst (λ (rows : List (ℕ × Words)). Keeps (map words_in rows) kept) (sym same) going.keeps }

pub bad_line : (all left rest : List (ℕ × Words)) (number : ℕ) (words : Words) (kept : Kept) → Going all left kept → left ≡ (number, words) ∷ rest → is_cell_line words ≡ false
    → first_in other_form all ≡ Some number
bad_line all left rest number words kept going here form =
    ap (first_in other_form) (going.split ∙ ap (λ (l : List (ℕ × Words)). going.passed ++ l) here)
    ∙ first_in-append other_form going.passed ((number, words) ∷ rest)
    ∙ ap (λ (o : Option ℕ). or_else o (first_in other_form ((number, words) ∷ rest))) going.forms
    ∙ ap (λ (b : Bool). or_else (if b then None else Some number) (first_in other_form rest)) form

pub room : (all left : List (ℕ × Words)) (kept : Kept) → Going all left kept → left ≢ [] → kept.count < length all
room all left kept going some =
    let a : length all ≡ length (going.passed ++ left) = ap length going.split in
    let b = length-append going.passed left in
    let c : length (map words_in going.passed) ≡ length going.passed = length-map going.passed words_in in
    let d = going.keeps.count in
    let e = positive left some in
    omega arith
  where
    positive : (left : List (ℕ × Words)) → left ≢ [] → 1 ≤ length left
    positive [] some = absurd (some refl)
    positive (row ∷ rows) some = omega arith
