-- Lines, one by one.
use Rattle.std.proofs.Common.{◌≡◌, ℕ, Bool, suc, ◌+◌, List, [], ◌∷◌, ◌++◌, take, drop, refl, ap, sym, ◌∙◌, subst, Some, None, append_assoc}
use Rattle.std.specs.Prelude.{slice_get, flat_map}
use Rattle.std.specs.List.{AllByRecursion}
use Rattle.std.proofs.lemmas.Grind.{flat_map-append}
use Rattle.std.proofs.lemmas.List.{take-append-drop}
use Rattle.std.proofs.lemmas.List.Concat.{flat_map-cons}
use Rattle.list_laws.specs.Lists.{AreAll}
use Rattle.list_laws.proofs.Lists.{all_append, left_at, map_push, taken_more}
use Rattle.cell_library.specs.declared.codes.Bits.{Bits}
use Rattle.netlist_model.specs.declared.NetId.{NetId}
use Rattle.netlist_link.specs.Linked.{LinkedView}
use Rattle.plan_texts.specs.declared.plan.Plan.{Plan}
use Rattle.status_fitting.specs.declared.register_texts.fault.StatusFault.{StatusFault}
use Rattle.status_fitting.specs.declared.register_texts.fault.StatusFault.TheVariants as fault
use Rattle.status_fitting.specs.declared.register_texts.plan.StatusRow.{StatusRow}
use Rattle.status_fitting.specs.declared.fitted.FittedRegister.{FittedRegister}
use Rattle.status_fitting.specs.Faults.{words_of}
use Rattle.status_fitting.specs.Fitted.{IsNetOf, IsRegister}
use Rattle.status_fitting.specs.Names.{Given, given_by}
use Rattle.status_fitting.specs.Opcodes.{is_taken, is_taken_behind, opcodes_of}
use Rattle.status_fitting.specs.Steps.{Finds, IsUnnamedWord, IsWordFault, IsNetFault}
use Rattle.status_fitting.specs.Wires.{NamesDriven, IsNamed, IsUnnamed}

-- Lists.

all_last : {X Y : Type 0} (Is : X → Y → Type 0) (xs : List X) (ys : List Y) (x : X) (y : Y) → AreAll Is xs ys → Is x y → AreAll Is (xs ++ x ∷ []) (ys ++ y ∷ [])
all_last Is [] [] x y all is = (is, tt)
all_last Is [] (z ∷ ys) x y all is = absurd all
all_last Is (z ∷ xs) [] x y all is = absurd all
all_last Is (z ∷ xs) (w ∷ ys) x y all is = (all.0, all_last Is xs ys x y all.1 is)

pub all_more : {X Y : Type 0} (Is : X → Y → Type 0) (xs : List X) (i : ℕ) (x : X) (y : Y) (ys new : List Y) → slice_get xs i ≡ Some x → AreAll Is (take i xs) ys → Is x y → new ≡ ys ++ y ∷ []
    → AreAll Is (take (i + 1) xs) new
all_more {X} {Y} Is xs i x y ys new at all is grown =
    let longer : take i xs ++ x ∷ [] ≡ take (i + 1) xs = taken_more xs i x (take i xs) (take i xs ++ x ∷ []) at refl refl in
    let Left : List X → Type 0 = λ ls. AreAll Is ls new in
    let Right : List Y → Type 0 = λ rs. AreAll Is (take i xs ++ x ∷ []) rs in
    subst Left longer (subst Right (sym grown) (all_last Is (take i xs) ys x y all is))

pub split_at : {X : Type 0} (xs : List X) (i : ℕ) (x : X) → slice_get xs i ≡ Some x → xs ≡ take i xs ++ x ∷ drop (suc i) xs
split_at {X} xs i x at = sym (take-append-drop i xs) ∙ ap (λ (rest : List X). take i xs ++ rest) (left_at xs i x at)

-- Words.

pub nets_named : (L : LinkedView) (words : List (List ℕ)) (nets : List NetId) → AreAll (IsNetOf L) words nets → AllByRecursion (IsNamed L) words
nets_named L [] [] all = tt
nets_named L [] (net ∷ nets) all = absurd all
nets_named L (word ∷ words) [] all = absurd all
nets_named L (word ∷ words) (net ∷ nets) all = ((net.0, all.0), nets_named L words nets all.1)

pub unnamed_word : (L : LinkedView) (word asked told : List ℕ) → asked ≡ word → told ≡ word → Finds (NamesDriven L asked) None → IsUnnamedWord L word told
unnamed_word L word asked told same is none =
    let F : List ℕ → Type 0 = λ w. (net : ℕ) → NamesDriven L w net → ⊥ in
    record { is = is; unnamed = subst F same none }

pub first_unnamed : (L : LinkedView) (words : List (List ℕ)) (i : ℕ) (word : List ℕ) (nets : List NetId) (f : StatusFault) → slice_get words i ≡ Some word → AreAll (IsNetOf L) (take i words) nets
    → IsWordFault L word f → IsNetFault L words f
first_unnamed L words i word nets (fault.StatusNet told) at so_far is =
    let U : List ℕ → Type 0 = IsUnnamed L words in
    subst U (sym is.is) (record { before = take i words; more = drop (suc i) words; split = split_at words i word at; unnamed = is.unnamed; named = nets_named L (take i words) nets so_far })
first_unnamed L words i word nets (fault.StatusLine line) at so_far is = absurd is
first_unnamed L words i word nets (fault.StatusName told) at so_far is = absurd is
first_unnamed L words i word nets (fault.StatusOpcode told) at so_far is = absurd is
first_unnamed L words i word nets fault.OutOfMemory at so_far is = tt

-- Lines.

abbrev row_words : StatusRow → List (List ℕ)
row_words row = row.words

pub rows_named : (L : LinkedView) (rows : List StatusRow) (registers : List FittedRegister) → AreAll (IsRegister L) rows registers → AllByRecursion (IsNamed L) (words_of rows)
rows_named L [] [] all = tt
rows_named L [] (r ∷ registers) all = absurd all
rows_named L (row ∷ rows) [] all = absurd all
rows_named L (row ∷ rows) (r ∷ registers) all =
    let A : List (List ℕ) → Type 0 = AllByRecursion (IsNamed L) in
    subst A (sym (flat_map-cons row_words row rows)) (all_append (IsNamed L) row.words (words_of rows) (nets_named L row.words r.nets all.0.nets) (rows_named L rows registers all.1))

pub rows_unnamed : (L : LinkedView) (rows : List StatusRow) (i : ℕ) (row : StatusRow) (registers : List FittedRegister) (f : StatusFault) → slice_get rows i ≡ Some row
    → AreAll (IsRegister L) (take i rows) registers → IsNetFault L row.words f → IsNetFault L (words_of rows) f
rows_unnamed L rows i row registers (fault.StatusNet told) at so_far is =
    let front : List (List ℕ) = words_of (take i rows) in
    let back : List (List ℕ) = words_of (drop (suc i) rows) in
    let whole : words_of rows ≡ front ++ words_of (row ∷ drop (suc i) rows) = ap words_of (split_at rows i row at) ∙ flat_map-append row_words (take i rows) (row ∷ drop (suc i) rows) in
    let here : words_of (row ∷ drop (suc i) rows) ≡ is.before ++ told ∷ (is.more ++ back) =
    flat_map-cons row_words row (drop (suc i) rows) ∙ ap (λ (ws : List (List ℕ)). ws ++ back) is.split ∙ append_assoc is.before (told ∷ is.more) back in
    record {
      before = front ++ is.before;
      more = is.more ++ back;
      split = whole ∙ ap (λ (ws : List (List ℕ)). front ++ ws) here ∙ sym (append_assoc front is.before (told ∷ (is.more ++ back)));
      unnamed = is.unnamed;
      named = all_append (IsNamed L) front is.before (rows_named L (take i rows) registers so_far) is.named;
    }
rows_unnamed L rows i row registers (fault.StatusLine line) at so_far is = absurd is
rows_unnamed L rows i row registers (fault.StatusName told) at so_far is = absurd is
rows_unnamed L rows i row registers (fault.StatusOpcode told) at so_far is = absurd is
rows_unnamed L rows i row registers fault.OutOfMemory at so_far is = tt

-- Names, line by line.

pub given_more : (rows : List StatusRow) (i : ℕ) (row : StatusRow) (front new : List Given) → slice_get rows i ≡ Some row → front ≡ flat_map given_by (take i rows) → new ≡ front ++ given_by row
    → new ≡ flat_map given_by (take (i + 1) rows)
given_more rows i row front new at so_far grown =
    let longer : take i rows ++ row ∷ [] ≡ take (i + 1) rows = taken_more rows i row (take i rows) (take i rows ++ row ∷ []) at refl refl in
    grown ∙ ap (λ (gs : List Given). gs ++ given_by row) so_far
    ∙ sym (flat_map-append given_by (take i rows) (row ∷ []))
    ∙ ap (flat_map given_by) longer

-- Opcodes, line by line.

pub taken_is : (base : Plan) (rows : List StatusRow) (i : ℕ) (row : StatusRow) (patterns : List Bits) (taken answer : Bool) → patterns ≡ opcodes_of (take i rows) → taken ≡ is_taken_behind base patterns row.bits
    → taken ≡ answer → is_taken base (take i rows) row ≡ answer
taken_is base rows i row patterns taken answer before told is = ap (λ (ps : List Bits). is_taken_behind base ps row.bits) (sym before) ∙ sym told ∙ is

pub opcodes_more : (rows : List StatusRow) (i : ℕ) (row : StatusRow) (patterns new : List Bits) → slice_get rows i ≡ Some row → patterns ≡ opcodes_of (take i rows) → new ≡ patterns ++ row.bits ∷ []
    → new ≡ opcodes_of (take (i + 1) rows)
opcodes_more rows i row patterns new at before grown =
    let longer : take i rows ++ row ∷ [] ≡ take (i + 1) rows = taken_more rows i row (take i rows) (take i rows ++ row ∷ []) at refl refl in
    grown ∙ ap (λ (ps : List Bits). ps ++ row.bits ∷ []) before ∙ sym (map_push (λ (r : StatusRow). r.bits) (take i rows) row) ∙ ap opcodes_of longer
