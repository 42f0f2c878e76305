-- Steps of words, and the loops over them.
use Rattle.std.proofs.Common.{◌≡◌, ◌≤◌, ℕ, zero, suc, ◌+◌, ◌-◌, Bool, true, false, ◌&&◌, if◌then◌else◌, nat_le, List, [], ◌∷◌, ◌++◌, map, length, drop, slice_get, slice_index_or, get_or, position, codes, ◌<◌, Option, Some, None, refl, sym, ap, ◌∙◌, arith, append_assoc, append-nil}
use Rattle.std.specs.Str.{bytes_eq}
use Rattle.std.proofs.lemmas.Slice.Eq.{bytes_eq-Decides}
use Rattle.std.proofs.lemmas.List.Quantifiers.{position-Some}
use Rattle.list_laws.proofs.Lists.{left_at, none_left}
use Rattle.cell_library.specs.declared.listed.Step.{Step}
use Rattle.cell_library.specs.declared.listed.Step.TheVariants as step
use Rattle.cell_library.specs.Sound.{wants, is_of, leaves_one}
use Rattle.cell_text.specs.Words.{Words, step_of, step_word, step_named, input_or}
use Rattle.cell_text.specs.Cells.{steps_of, put_before}
use Rattle.cell_text.specs.Reader.{behind_those}

-- The loop over words.

joined : (done : List Step) (s : Step) (o : Option (List Step)) → behind_those done (put_before (Some s) o) ≡ behind_those (done ++ s ∷ []) o
joined done s None = refl
joined done s (Some steps) = ap (λ (l : List Step). Some l) (sym (append_assoc done (s ∷ []) steps))

behind_none : (o : Option (List Step)) → behind_those [] o ≡ o
behind_none None = refl
behind_none (Some steps) = refl

pub steps_begin : (inputs words : Words) (done : List Step) → done ≡ [] → behind_those done (steps_of inputs (drop 0 words)) ≡ steps_of inputs words
steps_begin inputs words done none = ap (λ (l : List Step). behind_those l (steps_of inputs words)) none ∙ behind_none (steps_of inputs words)

pub step_taken : (inputs words : Words) (k : ℕ) (w : List ℕ) (s : Step) (done new : List Step) → slice_get words k ≡ Some w → step_of inputs w ≡ Some s → new ≡ done ++ s ∷ []
    → behind_those done (steps_of inputs (drop k words)) ≡ steps_of inputs words → behind_those new (steps_of inputs (drop (k + 1) words)) ≡ steps_of inputs words
step_taken inputs words k w s done new at is grown same =
    let more : k + 1 ≡ suc k = omega arith in
    ap (λ (l : List Step). behind_those l (steps_of inputs (drop (k + 1) words))) grown
    ∙ ap (λ (n : ℕ). behind_those (done ++ s ∷ []) (steps_of inputs (drop n words))) more
    ∙ sym (joined done s (steps_of inputs (drop (suc k) words)))
    ∙ sym (ap (λ (l : Words). behind_those done (steps_of inputs l)) (left_at words k w at) ∙ ap (λ (o : Option Step). behind_those done (put_before o (steps_of inputs (drop (suc k) words)))) is)
    ∙ same

pub no_step : (inputs words : Words) (k : ℕ) (w : List ℕ) (done : List Step) → slice_get words k ≡ Some w → step_of inputs w ≡ None
    → behind_those done (steps_of inputs (drop k words)) ≡ steps_of inputs words → None ≡ steps_of inputs words
no_step inputs words k w done at is same =
    sym (ap (λ (l : Words). behind_those done (steps_of inputs l)) (left_at words k w at) ∙ ap (λ (o : Option Step). behind_those done (put_before o (steps_of inputs (drop (suc k) words)))) is) ∙ same

pub steps_done : (inputs words : Words) (k : ℕ) (done : List Step) → length words ≤ k → behind_those done (steps_of inputs (drop k words)) ≡ steps_of inputs words → Some done ≡ steps_of inputs words
steps_done inputs words k done all same =
    ap (λ (l : List Step). Some l) (sym (append-nil done)) ∙ sym (ap (λ (l : Words). behind_those done (steps_of inputs l)) (none_left words k all)) ∙ same

-- The loop over steps.

pub stands : (count depth k : ℕ) (steps : List Step) (s : Step) → slice_get steps k ≡ Some s
    → leaves_one count depth (drop k steps) ≡ (is_of count s && (nat_le (wants s) depth && (nat_le (depth - wants s + 1) 16 && leaves_one count (depth - wants s + 1) (drop (suc k) steps))))
stands count depth k steps s at = ap (leaves_one count depth) (left_at steps k s at)

-- What steps of words are.

index_is : (ws : Words) (k : ℕ) → k < length ws → slice_index_or ws k [] ≡ get_or ws k []
index_is [] k low = absurd (omega arith)
index_is (y ∷ ws) zero low = refl
index_is (y ∷ ws) (suc k) low = index_is ws k (omega arith)

input_is : (inputs : Words) (w : List ℕ) (o : Option ℕ) (s : Step) → position (λ (name : List ℕ). bytes_eq name w) inputs ≡ o → input_or o (step_named w) ≡ Some s → step_word inputs s ≡ w
input_is inputs w (Some k) s at e =
    let same : step.Input k ≡ s = cc in
    let found = position-Some (λ (name : List ℕ). bytes_eq name w) inputs k [] at in
    ap (step_word inputs) (sym same) ∙ index_is inputs k found.0 ∙ (bytes_eq-Decides (get_or inputs k []) w).0 found.1
input_is inputs w None s at e = named (bytes_eq w (codes "0")) (bytes_eq w (codes "1")) (bytes_eq w (codes "not")) (bytes_eq w (codes "and")) (bytes_eq w (codes "or")) (bytes_eq w (codes "xor")) (bytes_eq w (codes "mux")) refl refl refl refl refl refl refl e
  where
    word : (known : Step) (bytes : List ℕ) → step_word inputs known ≡ bytes → bytes_eq w bytes ≡ true → Some known ≡ Some s → step_word inputs s ≡ w
    word known bytes spelled same e = let is : known ≡ s = cc in ap (step_word inputs) (sym is) ∙ spelled ∙ sym ((bytes_eq-Decides w bytes).0 same)

    named : (a b c d f g h : Bool) → bytes_eq w (codes "0") ≡ a → bytes_eq w (codes "1") ≡ b → bytes_eq w (codes "not") ≡ c → bytes_eq w (codes "and") ≡ d → bytes_eq w (codes "or") ≡ f
        → bytes_eq w (codes "xor") ≡ g → bytes_eq w (codes "mux") ≡ h
        → (if a then Some (step.Const false) else if b then Some (step.Const true) else if c then Some step.Not else if d then Some step.And else if f then Some step.Or else if g then Some step.Xor
        else if h then Some step.Mux else None) ≡ Some s → step_word inputs s ≡ w
    named true b c d f g h ae be ce de fe ge he e = word (step.Const false) (codes "0") refl ae e
    named false true c d f g h ae be ce de fe ge he e = word (step.Const true) (codes "1") refl be e
    named false false true d f g h ae be ce de fe ge he e = word step.Not (codes "not") refl ce e
    named false false false true f g h ae be ce de fe ge he e = word step.And (codes "and") refl de e
    named false false false false true g h ae be ce de fe ge he e = word step.Or (codes "or") refl fe e
    named false false false false false true h ae be ce de fe ge he e = word step.Xor (codes "xor") refl ge e
    named false false false false false false true ae be ce de fe ge he e = word step.Mux (codes "mux") refl he e
    named false false false false false false false ae be ce de fe ge he e = absurd (let none : None ≡ Some s = e in cc)

step_is_word : (inputs : Words) (w : List ℕ) (s : Step) → step_of inputs w ≡ Some s → step_word inputs s ≡ w
step_is_word inputs w s e = input_is inputs w (position (λ (name : List ℕ). bytes_eq name w) inputs) s refl e

pub steps_are_words : (inputs words : Words) (steps : List Step) → steps_of inputs words ≡ Some steps → map (step_word inputs) steps ≡ words
steps_are_words inputs [] steps e = let same : [] ≡ steps = cc in ap (map (step_word inputs)) (sym same)
steps_are_words inputs (w ∷ words) steps e = by (step_of inputs w) (steps_of inputs words) refl refl e (λ more h. steps_are_words inputs words more h)
  where
    by : (o : Option Step) (p : Option (List Step)) → step_of inputs w ≡ o → steps_of inputs words ≡ p → put_before o p ≡ Some steps
        → ((more : List Step) → steps_of inputs words ≡ Some more → map (step_word inputs) more ≡ words) → map (step_word inputs) steps ≡ w ∷ words
    by None p oe pe e next = absurd (let none : None ≡ Some steps = e in cc)
    by (Some s) None oe pe e next = absurd (let none : None ≡ Some steps = e in cc)
    by (Some s) (Some more) oe pe e next =
        let same : s ∷ more ≡ steps = cc in
        ap (map (step_word inputs)) (sym same)
        ∙ ap (λ (x : List ℕ). x ∷ map (step_word inputs) more) (step_is_word inputs w s oe)
        ∙ ap (λ (l : Words). w ∷ l) (next more pe)
