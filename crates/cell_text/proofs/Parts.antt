-- Words that are parted at a colon.
use Rattle.std.proofs.Common.{◌≡◌, ◌≤◌, ◌<◌, ℕ, zero, suc, ◌+◌, ◌-◌, Bool, true, false, ◌&&◌, not, if◌then◌else◌, nat_le, List, [], ◌∷◌, ◌++◌, length, take, drop, slice_get, slice_index_or, codes, is_some, Option, Some, None, option_and_then, Result, Ok, Err, IfOk, refl, sym, ap, ◌∙◌, arith, subst, Bor, append_assoc, append-nil, length-append, length-drop, leb-true, le-leb}
use Rattle.std.specs.List.{list_all}
use Rattle.std.proofs.lemmas.Slice.Eq.{bytes_eq-Decides}
use Rattle.list_laws.proofs.Lists.{slice_get_there, left_at, taken_more, none_left, front_all}
use Rattle.list_laws.proofs.Tests.{and_left, and_right, not_true}
use Rattle.cell_text.specs.Words.{Words, is_colon, is_step_count}
use Rattle.cell_text.specs.Lines.{parted, parts_at, IsParted}
use Rattle.cell_text.specs.Cells.{flop_in, gate_in, gate_of}
use Rattle.texts.specs.Repeated.{texts}
use Rattle.cell_library.specs.declared.listed.ListedCell.{ListedCell}
use Rattle.texts.specs.declared.text.OutOfMemory.{OutOfMemory}
use Rattle.cell_text.proofs.Borrowed.{index_at, texts_take, texts_drop}

-- the loop over the words

pub length-taken : {X : Type 0} (k : ℕ) (xs : List X) → k ≤ length xs → length (take k xs) ≡ k
length-taken zero xs low = refl
length-taken (suc k) [] low = absurd (omega arith)
length-taken (suc k) (x ∷ xs) low = ap suc (length-taken k xs (omega arith))

parted_at : (ws : Words) (k : ℕ) (w : List ℕ) → slice_get ws k ≡ Some w → k < length ws
    → parted (take k ws) (drop k ws) ≡ (if parts_at ws k then Some (take k ws, drop (suc k) ws) else parted (take k ws ++ w ∷ []) (drop (suc k) ws))
parted_at ws k w at low =
    let here : slice_index_or ws k [] ≡ w = index_at ws k w at in
    let front : length (take k ws) ≡ k = length-taken k ws (omega arith) in
    let cut : length (drop (suc k) ws) ≡ length ws - suc k = length-drop (suc k) ws in
    let behind : length (drop (suc k) ws) ≡ length ws - k - 1 = omega arith in
    let same : (is_colon w && (nat_le (length (take k ws)) 16 && is_step_count (length (drop (suc k) ws)))) ≡ parts_at ws k = rw (here, front, behind) refl in
    ap (parted (take k ws)) (left_at ws k w at)
    ∙ ap (λ (b : Bool). if b then Some (take k ws, drop (suc k) ws) else parted (take k ws ++ w ∷ []) (drop (suc k) ws)) same

pub parted_here : (ws : Words) (k : ℕ) → k < length ws → parts_at ws k ≡ true → parted (take k ws) (drop k ws) ≡ parted [] ws → IsParted ws k
parted_here ws k low parts same =
    let there = slice_get_there ws k low in
    let found = parted_at ws k there.0 there.1 low in
    let chosen = ap (λ (b : Bool). if b then Some (take k ws, drop (suc k) ws) else parted (take k ws ++ there.0 ∷ []) (drop (suc k) ws)) parts in
    let all : parted [] ws ≡ Some (take k ws, drop (suc k) ws) = sym same ∙ found ∙ chosen in
    let more : suc k ≡ k + 1 = omega arith in
    record {
      within = low;
      few = leb-true k 16 (and_left (nat_le k 16) (is_step_count (length ws - k - 1)) (and_right (is_colon (slice_index_or ws k [])) (nat_le k 16 && is_step_count (length ws - k - 1)) parts));
      parts = all ∙ ap (λ (n : ℕ). Some (take k ws, drop n ws)) more;
    }

pub parted_on : (ws : Words) (k : ℕ) → k < length ws → parts_at ws k ≡ false → parted (take k ws) (drop k ws) ≡ parted [] ws
    → parted (take (k + 1) ws) (drop (k + 1) ws) ≡ parted [] ws
parted_on ws k low parts same =
    let there = slice_get_there ws k low in
    let found = parted_at ws k there.0 there.1 low in
    let chosen = ap (λ (b : Bool). if b then Some (take k ws, drop (suc k) ws) else parted (take k ws ++ there.0 ∷ []) (drop (suc k) ws)) parts in
    let taken : take k ws ++ there.0 ∷ [] ≡ take (k + 1) ws = taken_more ws k there.0 (take k ws) (take k ws ++ there.0 ∷ []) there.1 refl refl in
    let more : suc k ≡ k + 1 = omega arith in
    sym (ap (λ (front : Words). parted front (drop (suc k) ws)) taken ∙ ap (λ (n : ℕ). parted (take (k + 1) ws) (drop n ws)) more) ∙ sym (found ∙ chosen) ∙ same

pub parted_out : (ws : Words) (k : ℕ) → length ws ≤ k → parted (take k ws) (drop k ws) ≡ parted [] ws → None ≡ parted [] ws
parted_out ws k all same = sym (ap (parted (take k ws)) (none_left ws k all)) ∙ same

-- What parted words are.

pub record Parts (front words : Words) (parts : Words × Words) : Type 0 where
  pub words_are : front ++ words ≡ parts.0 ++ codes ":" ∷ parts.1
  pub few : length parts.0 ≤ 16
  pub some : 1 ≤ length parts.1
  pub short : length parts.1 ≤ 64

moved : (front : Words) (w : List ℕ) (ws : Words) (parts : Words × Words) → Parts (front ++ w ∷ []) ws parts → Parts front (w ∷ ws) parts
moved front w ws parts p = record { words_are = sym (append_assoc front (w ∷ []) ws) ∙ p.words_are; few = p.few; some = p.some; short = p.short }

pub parts_of : (front ws : Words) (parts : Words × Words) → parted front ws ≡ Some parts → Parts front ws parts
parts_of front [] parts e = absurd (let h : None ≡ Some parts = e in cc)
parts_of front (w ∷ ws) parts e =
    by (is_colon w) (nat_le (length front) 16) (nat_le 1 (length ws)) (nat_le (length ws) 64) refl refl refl refl e (λ h. moved front w ws parts (parts_of (front ++ w ∷ []) ws parts h))
  where
    by : (colon few some short : Bool) → is_colon w ≡ colon → nat_le (length front) 16 ≡ few → nat_le 1 (length ws) ≡ some → nat_le (length ws) 64 ≡ short
        → (if colon && (few && (some && short)) then Some (front, ws) else parted (front ++ w ∷ []) ws) ≡ Some parts → (parted (front ++ w ∷ []) ws ≡ Some parts → Parts front (w ∷ ws) parts) → Parts front (w ∷ ws) parts
    by true true true true c f s t h on =
        let same : (front, ws) ≡ parts = cc in
        let word : w ≡ codes ":" = (bytes_eq-Decides w (codes ":")).0 c in
        subst (λ (p : Words × Words). Parts front (w ∷ ws) p) same (record {
          words_are = ap (λ (x : List ℕ). front ++ x ∷ ws) word;
          few = leb-true (length front) 16 f;
          some = leb-true 1 (length ws) s;
          short = leb-true (length ws) 64 t;
        })
    by false few some short c f s t h on = on h
    by true false some short c f s t h on = on h
    by true true false short c f s t h on = on h
    by true true true false c f s t h on = on h

-- Where so few words, then a colon, and steps in a right count follow, the words are parted.
pub is_parted : (front inputs steps : Words) → length front + length inputs ≤ 16 → 1 ≤ length steps → length steps ≤ 64 → is_some (parted front (inputs ++ codes ":" ∷ steps)) ≡ true
is_parted front [] steps few some short = rw (le-leb (length front) 16 (omega arith), le-leb 1 (length steps) some, le-leb (length steps) 64 short) refl
is_parted front (w ∷ inputs) steps few some short =
    let l = length-append front (w ∷ []) in
    by (is_colon w && (nat_le (length front) 16 && is_step_count (length (inputs ++ codes ":" ∷ steps)))) (is_parted (front ++ w ∷ []) inputs steps (omega arith) some short)
  where
    by : (b : Bool) → is_some (parted (front ++ w ∷ []) (inputs ++ codes ":" ∷ steps)) ≡ true
        → is_some (if b then Some (front, inputs ++ codes ":" ∷ steps) else parted (front ++ w ∷ []) (inputs ++ codes ":" ∷ steps)) ≡ true
    by true on = refl
    by false on = on

-- Where besides no input is a colon, it is this one.
pub parted_there : (front inputs steps : Words) → list_all (λ w. not (is_colon w)) inputs ≡ true → length front + length inputs ≤ 16 → 1 ≤ length steps → length steps ≤ 64
    → parted front (inputs ++ codes ":" ∷ steps) ≡ Some (front ++ inputs, steps)
parted_there front [] steps none few some short =
    rw (le-leb (length front) 16 (omega arith), le-leb 1 (length steps) some, le-leb (length steps) 64 short)
    (ap (λ (l : Words). Some (l, steps)) (sym (append-nil front)))
parted_there front (w ∷ inputs) steps none few some short =
    let no : is_colon w ≡ false = not_true (is_colon w) (and_left (not (is_colon w)) (list_all (λ w. not (is_colon w)) inputs) none) in
    let left = and_right (not (is_colon w)) (list_all (λ w. not (is_colon w)) inputs) none in
    let l = length-append front (w ∷ []) in
    let more = parted_there (front ++ w ∷ []) inputs steps left (omega arith) some short in
    ap (λ (b : Bool). if b && (nat_le (length front) 16 && is_step_count (length (inputs ++ codes ":" ∷ steps))) then Some (front, inputs ++ codes ":" ∷ steps) else parted (front ++ w ∷ []) (inputs ++ codes ":" ∷ steps)) no
    ∙ more ∙ ap (λ (l : Words). Some (l, steps)) (append_assoc front (w ∷ []) inputs)

-- Behind the key of a flip-flop stand a name and a kind at least.
pub flop_short : (words : List (Bor (List ℕ))) → length words < 2 → None ≡ flop_in (texts words)
flop_short [] short = refl
flop_short (a ∷ []) short = refl
flop_short (a ∷ b ∷ words) short = absurd (omega arith)

gate_words : (name : List ℕ) (p : Bor (List ℕ)) (ps : List (Bor (List ℕ))) (place : ℕ) → IsParted (texts ps) place
    → gate_of name (texts (take (suc place) (p ∷ ps))) (texts (drop (place + 1) ps)) ≡ gate_in (name ∷ p.now ∷ texts ps)
gate_words name p ps place split =
    ap (λ (l : Words). gate_of name (p.now ∷ l) (texts (drop (place + 1) ps))) (texts_take place ps)
    ∙ ap (λ (l : Words). gate_of name (p.now ∷ take place (texts ps)) l) (texts_drop (place + 1) ps)
    ∙ sym (ap (option_and_then (λ (parts : Words × Words). gate_of name (p.now ∷ parts.0) parts.1)) split.parts)

-- The parts of a gate's line, where what stands behind the output is parted.
gate_found : (name : List ℕ) (ports : List (Bor (List ℕ))) (place : ℕ) → 1 ≤ length ports → IsParted (texts (drop 1 ports)) place
    → gate_of name (texts (take (place + 1) ports)) (texts (drop (place + 1) (drop 1 ports))) ≡ gate_in (name ∷ texts ports)
gate_found name [] place some split = absurd (omega arith)
gate_found name (p ∷ ps) place some split =
    let more : place + 1 ≡ suc place = omega arith in
    ap (λ (n : ℕ). gate_of name (texts (take n (p ∷ ps))) (texts (drop (place + 1) ps))) more ∙ gate_words name p ps place split

pub rest_all : {X : Type 0} (n : ℕ) (xs : List X) → take (length xs - n) (drop n xs) ≡ drop n xs
rest_all n xs =
    let cut : length (drop n xs) ≡ length xs - n = length-drop n xs in
    ap (λ (k : ℕ). take k (drop n xs)) (sym cut) ∙ front_all (drop n xs) (length (drop n xs)) (omega arith)

pub gate_parted : (name : List ℕ) (ports rest front back : List (Bor (List ℕ))) (place : ℕ) (r : Result (Option ListedCell) OutOfMemory) → 1 ≤ length ports → IsParted (texts rest) place
    → IfOk r (λ found. found ≡ gate_of name (texts front) (texts back)) → rest ≡ drop 1 ports → front ≡ take (place + 1) ports → back ≡ drop (place + 1) rest
    → IfOk r (λ found. found ≡ gate_in (name ∷ texts ports))
gate_parted name ports rest front back place (Err e) some split is a b d = tt
gate_parted name ports rest front back place (Ok found) some split is a b d =
    is
    ∙ ap (λ (l : List (Bor (List ℕ))). gate_of name (texts l) (texts back)) b
    ∙ ap (λ (l : List (Bor (List ℕ))). gate_of name (texts (take (place + 1) ports)) (texts l)) (d ∙ ap (drop (place + 1)) a)
    ∙ gate_found name ports place some (subst (λ (l : List (Bor (List ℕ))). IsParted (texts l) place) a split)
