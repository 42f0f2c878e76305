-- The laws of steps as lemmas, for proofs of crates above.
use Rattle.std.proofs.Common.{◌≡◌, ◌≤◌, ℕ, zero, suc, Bool, true, false, not, List, [], ◌∷◌, fold, take, length, slice_index_or, is_some, IsTrue, All, refl, arith, eqb-true}
use Rattle.std.proofs.lemmas.List.Elements.{All-nil, All-cons, All-head, All-tail}
use Rattle.signal_values.specs.declared.Sig.{Sig}
use Rattle.signal_values.specs.declared.Sig.TheVariants.{Zero, Unknown}
use Rattle.signal_values.specs.Values.{bit}
use Rattle.signal_values.specs.Knowledge.{IsBelow}
use Rattle.signal_values.proofs.Laws.{below_refl, below-not, below-and, below-or, below-xor, below-mux}
use Rattle.cell_library.specs.declared.listed.Step.{Step}
use Rattle.cell_library.specs.declared.listed.Step.TheVariants as step
use Rattle.cell_library.specs.declared.listed.Body.{Body}
use Rattle.cell_library.specs.declared.listed.Body.TheVariants as body
use Rattle.cell_library.specs.Laws.{AllBelow, IsKnown}
use Rattle.cell_library.specs.Listed.{top, rest, after_step, body_flop, body_output}
use Rattle.cell_library.specs.Sound.{leaves_one}
use Rattle.cell_library.specs.ListedLaws.{StepsKeepOrder, KnownOperandsKnownSteps, SoundStepsLeaveOne}
use Rattle.cell_library.proofs.OperationLaws.{is_known-not, is_known-and, is_known-or, is_known-xor, is_known-mux}
use Rattle.cell_library.proofs.StepRuns.{step_is_sound}

below-given : (xs ys : List Sig) (place : ℕ) → AllBelow xs ys → IsBelow (slice_index_or xs place Zero) (slice_index_or ys place Zero)
below-given [] [] place k = below_refl Zero
below-given [] (b ∷ ys) place k = absurd k
below-given (a ∷ xs) [] place k = absurd k
below-given (a ∷ xs) (b ∷ ys) zero k = k.0
below-given (a ∷ xs) (b ∷ ys) (suc place) k = below-given xs ys place k.1

below-top : (xs ys : List Sig) → AllBelow xs ys → IsBelow (top xs) (top ys)
below-top [] [] k = below_refl Zero
below-top [] (b ∷ ys) k = absurd k
below-top (a ∷ xs) [] k = absurd k
below-top (a ∷ xs) (b ∷ ys) k = k.0

below-rest : (xs ys : List Sig) → AllBelow xs ys → AllBelow (rest xs) (rest ys)
below-rest [] [] k = tt
below-rest [] (b ∷ ys) k = absurd k
below-rest (a ∷ xs) [] k = absurd k
below-rest (a ∷ xs) (b ∷ ys) k = k.1

below-after_step : (xs ys us vs : List Sig) (s : Step) → AllBelow xs ys → AllBelow us vs → AllBelow (after_step xs us s) (after_step ys vs s)
below-after_step xs ys us vs (step.Input place) h k = (below-given xs ys place h, k)
below-after_step xs ys us vs (step.Const b) h k = (below_refl (bit b), k)
below-after_step xs ys us vs step.Not h k = (below-not _ _ (below-top us vs k), below-rest us vs k)
below-after_step xs ys us vs step.And h k =
    let l = below-rest us vs k in (below-and _ _ _ _ (below-top (rest us) (rest vs) l) (below-top us vs k), below-rest (rest us) (rest vs) l)
below-after_step xs ys us vs step.Or h k =
    let l = below-rest us vs k in (below-or _ _ _ _ (below-top (rest us) (rest vs) l) (below-top us vs k), below-rest (rest us) (rest vs) l)
below-after_step xs ys us vs step.Xor h k =
    let l = below-rest us vs k in (below-xor _ _ _ _ (below-top (rest us) (rest vs) l) (below-top us vs k), below-rest (rest us) (rest vs) l)
below-after_step xs ys us vs step.Mux h k =
    let l = below-rest us vs k in
    let m = below-rest (rest us) (rest vs) l in
    (below-mux _ _ _ _ _ _ (below-top (rest (rest us)) (rest (rest vs)) m) (below-top (rest us) (rest vs) l) (below-top us vs k), below-rest (rest (rest us)) (rest (rest vs)) m)

below-steps : (xs ys us vs : List Sig) (steps : List Step) → AllBelow xs ys → AllBelow us vs → AllBelow (fold (after_step xs) us steps) (fold (after_step ys) vs steps)
below-steps xs ys us vs [] h k = k
below-steps xs ys us vs (s ∷ steps) h k = below-steps xs ys (after_step xs us s) (after_step ys vs s) steps h (below-after_step xs ys us vs s h k)

pub below-body_output : (b : Body) (xs ys : List Sig) → AllBelow xs ys → IsBelow (body_output b xs) (body_output b ys)
below-body_output (body.Gate steps) xs ys k = below-top _ _ (below-steps xs ys [] [] steps k tt)
below-body_output (body.Flop kind) xs ys k = below_refl Unknown

pub steps_keep_order : StepsKeepOrder
steps_keep_order steps xs ys k = below-top _ _ (below-steps xs ys [] [] steps k tt)

is_known-zero : IsKnown Zero
is_known-zero = record { known = false; same = refl }

is_known-bit : (b : Bool) → IsKnown (bit b)
is_known-bit b = record { known = b; same = refl }

is_known-given : (xs : List Sig) (place : ℕ) → All IsKnown xs → IsKnown (slice_index_or xs place Zero)
is_known-given [] place k = is_known-zero
is_known-given (x ∷ xs) zero k = All-head IsKnown x xs k
is_known-given (x ∷ xs) (suc place) k = is_known-given xs place (All-tail IsKnown x xs k)

is_known-top : (xs : List Sig) → All IsKnown xs → IsKnown (top xs)
is_known-top [] k = is_known-zero
is_known-top (x ∷ xs) k = All-head IsKnown x xs k

is_known-rest : (xs : List Sig) → All IsKnown xs → All IsKnown (rest xs)
is_known-rest [] k = k
is_known-rest (x ∷ xs) k = All-tail IsKnown x xs k

is_known-after_step : (xs us : List Sig) (s : Step) → All IsKnown xs → All IsKnown us → All IsKnown (after_step xs us s)
is_known-after_step xs us (step.Input place) h k = All-cons IsKnown _ us (is_known-given xs place h) k
is_known-after_step xs us (step.Const b) h k = All-cons IsKnown _ us (is_known-bit b) k
is_known-after_step xs us step.Not h k = All-cons IsKnown _ _ (is_known-not _ (is_known-top us k)) (is_known-rest us k)
is_known-after_step xs us step.And h k =
    let l = is_known-rest us k in All-cons IsKnown _ _ (is_known-and _ _ (is_known-top (rest us) l) (is_known-top us k)) (is_known-rest (rest us) l)
is_known-after_step xs us step.Or h k =
    let l = is_known-rest us k in All-cons IsKnown _ _ (is_known-or _ _ (is_known-top (rest us) l) (is_known-top us k)) (is_known-rest (rest us) l)
is_known-after_step xs us step.Xor h k =
    let l = is_known-rest us k in All-cons IsKnown _ _ (is_known-xor _ _ (is_known-top (rest us) l) (is_known-top us k)) (is_known-rest (rest us) l)
is_known-after_step xs us step.Mux h k =
    let l = is_known-rest us k in
    let m = is_known-rest (rest us) l in
    All-cons IsKnown _ _ (is_known-mux _ _ _ (is_known-top (rest (rest us)) m) (is_known-top (rest us) l) (is_known-top us k)) (is_known-rest (rest (rest us)) m)

is_known-steps : (xs us : List Sig) (steps : List Step) → All IsKnown xs → All IsKnown us → All IsKnown (fold (after_step xs) us steps)
is_known-steps xs us [] h k = k
is_known-steps xs us (s ∷ steps) h k = is_known-steps xs (after_step xs us s) steps h (is_known-after_step xs us s h k)

-- a body that is no flip-flop gives 0 or 1 for operands of 0 or 1
pub is_known-body_output : (b : Body) (xs : List Sig) → IsTrue (not (is_some (body_flop b))) → All IsKnown xs → IsKnown (body_output b xs)
is_known-body_output (body.Gate steps) xs gate k = is_known-top _ (is_known-steps xs [] steps k (All-nil IsKnown))
is_known-body_output (body.Flop kind) xs gate k = cc

pub known_steps : KnownOperandsKnownSteps
known_steps steps xs k = is_known-top _ (is_known-steps xs [] steps k (All-nil IsKnown))

one_left : (count : ℕ) (xs us : List Sig) (steps : List Step) → leaves_one count (length us) steps ≡ true → length (fold (after_step xs) us steps) ≡ 1
one_left count xs us [] sound = eqb-true (length us) 1 sound
one_left count xs us (s ∷ steps) sound = one_left count xs (after_step xs us s) steps (step_is_sound count xs us s steps sound).goes_on

few_stand : (count : ℕ) (xs us : List Sig) (steps : List Step) (place : ℕ) → length us ≤ 16 → leaves_one count (length us) steps ≡ true
    → length (fold (after_step xs) us (take place steps)) ≤ 16
few_stand count xs us steps zero few sound = few
few_stand count xs us [] (suc place) few sound = few
few_stand count xs us (s ∷ steps) (suc place) few sound =
    let next = step_is_sound count xs us s steps sound in few_stand count xs (after_step xs us s) steps place next.few next.goes_on

pub sound_steps_leave_one : SoundStepsLeaveOne
sound_steps_leave_one count steps inputs sound = record { one = one_left count inputs [] steps sound; few = λ place. few_stand count inputs [] steps place (omega arith) sound }
