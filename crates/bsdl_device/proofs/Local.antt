-- What is read up to a word doesn't depend on what comes after that word.
use Rattle.std.proofs.Common.{◌≡◌, ℕ, suc, zero, ◌+◌, ◌≤◌, List, [], ◌∷◌, ◌++◌, length, Option, Some, None, refl, sym, ap, ◌∙◌, arith, append_assoc, length-append}
use Rattle.std.proofs.lemmas.List.{append_cancel_right}
use Rattle.std.specs.Option.{option_map_or}
use Rattle.list_laws.proofs.Options.{none_some}
use Rattle.bsdl_device.specs.Readers.{Read, done, after, front, rest, rest_if, take_at, either, marks_at, more_of, some_of, pair_at, skip_at, ended_at, made_at, end_at}
use Rattle.bsdl_device.proofs.Exact.{Sound, got, stays, reading}

abbrev pub LocalAt : (W X : Type 0) → (List W → Read W X) → List W → Type 0
LocalAt W X r ws = (o : Option X) (w : W) (left : List W) → r ws ≡ (o, w ∷ left) → (p : List W) × (ws ≡ p ++ w ∷ left) × ((new : List W) → r (p ++ w ∷ new) ≡ (o, w ∷ new))

pub record Local (W X : Type 0) (r : List W → Read W X) : Type 0 where
  pub at : (ws : List W) → LocalAt W X r ws

pub local_done : {W X : Type 0} (x : X) → Local W X (λ ws. done x ws)
local_done {W} {X} x = record { at = λ ws o w left h. ([], stays h, λ new. reading (got h) refl) }

-- the first part and the next are local where they stand
pub local_after : {W X Y : Type 0} {r : List W → Read W X} {next : X → List W → Read W Y} → Local W X r → ((x : X) → Local W Y (next x)) → Local W Y (λ ws. after (r ws) next)
local_after {W} {X} {Y} {r} {next} l m = record { at = λ ws o w left h. go ws o w left (r ws) refl h }
  where
    Here : (ws : List W) (o : Option Y) (w : W) (left : List W) → Type 0
    Here ws o w left = (p : List W) × (ws ≡ p ++ w ∷ left) × ((new : List W) → after (r (p ++ w ∷ new)) next ≡ (o, w ∷ new))

    joined : (ws : List W) (o : Option Y) (w : W) (left : List W) (x : X) (a : List W) → r ws ≡ (Some x, a) → (p : List W) × (a ≡ p ++ w ∷ left) × ((new : List W) → next x (p ++ w ∷ new) ≡ (o, w ∷ new)) → (p : List W) × (ws ≡ p ++ w ∷ left) × ((new : List W) → after (r (p ++ w ∷ new)) next ≡ (o, w ∷ new))
    joined ws o w left x a e ([], is, new_is) =
        let s = l.at ws (Some x) w left (e ∙ reading refl is) in
        (s.0, s.1, λ new. ap (λ (read : Read W X). after read next) (s.2 new) ∙ new_is new)
    joined ws o w left x a e (v ∷ p, is, new_is) =
        let s = l.at ws (Some x) v (p ++ w ∷ left) (e ∙ reading refl is) in (
          s.0 ++ v ∷ p,
          s.1 ∙ sym (append_assoc s.0 (v ∷ p) (w ∷ left)),
          λ new. ap (λ (q : List W). after (r q) next) (append_assoc s.0 (v ∷ p) (w ∷ new)) ∙ ap (λ (read : Read W X). after read next) (s.2 (p ++ w ∷ new)) ∙ new_is new,
        )

    go : (ws : List W) (o : Option Y) (w : W) (left : List W) (read : Read W X) → r ws ≡ read → after read next ≡ (o, w ∷ left) → (p : List W) × (ws ≡ p ++ w ∷ left) × ((new : List W) → after (r (p ++ w ∷ new)) next ≡ (o, w ∷ new))
    go ws o w left (None, a) e h = let s = l.at ws None w left (e ∙ reading refl (stays h)) in (s.0, s.1, λ new. ap (λ (read : Read W X). after read next) (s.2 new) ∙ reading (got h) refl)
    go ws o w left (Some x, a) e h = joined ws o w left x a e ((m x).at a o w left h)

take_at_is : {W X : Type 0} (view : W → Option X) (ws : List W) (o : Option X) → front view ws ≡ o → ◌≡◌ {A = Read W X} (take_at view ws) (o, rest_if o ws)
take_at_is {W} {X} view ws o e = ap (λ (q : Option X). let read : Read W X = (q, rest_if q ws) in read) e

pub local_take : {W X : Type 0} (view : W → Option X) → Local W X (λ ws. take_at view ws)
local_take {W} {X} view = record { at = at }
  where
    go : (v : W) (vs : List W) (o : Option X) (w : W) (left : List W) → view v ≡ o → rest_if o (v ∷ vs) ≡ w ∷ left → (p : List W) × (v ∷ vs ≡ p ++ w ∷ left) × ((new : List W) → ◌≡◌ {A = Read W X} (take_at view (p ++ w ∷ new)) (o, w ∷ new))
    go v vs None w left e h = ([], h, λ new. take_at_is view (w ∷ new) None (sym (ap (λ (q : List W). front view q) h) ∙ e))
    go v vs (Some x) w left e h = (v ∷ [], ap (λ (q : List W). v ∷ q) h, λ new. take_at_is view (v ∷ w ∷ new) (Some x) e)

    at : (ws : List W) → LocalAt W X (λ q. take_at view q) ws
    at [] o w left h = let e = stays h in absurd (cc)
    at (v ∷ vs) o w left h = go v vs o w left (got h) (sym (ap (λ (q : Option X). rest_if q (v ∷ vs)) (got h)) ∙ stays h)

-- one way or another, by the first word
pub local_either : {W X Y : Type 0} {there : X → List W → Read W Y} {other : List W → Read W Y} (view : W → Option X) → ((x : X) → Local W Y (there x)) → Local W Y other → Local W Y (λ ws. either view ws there other)
local_either {W} {X} {Y} {there} {other} view m l = record { at = λ ws o w left h. go ws o w left (front view ws) refl h }
  where
    chosen : List W → Option X → Read W Y
    chosen ws o = option_map_or (λ x. there x (rest ws)) o (other ws)

    seen : (ws : List W) (o : Option Y) (w : W) (left : List W) (x : X) → front view ws ≡ Some x → there x (rest ws) ≡ (o, w ∷ left) → (p : List W) × (ws ≡ p ++ w ∷ left) × ((new : List W) → chosen (p ++ w ∷ new) (front view (p ++ w ∷ new)) ≡ (o, w ∷ new))
    seen [] o w left x e h = none_some e
    seen (v ∷ vs) o w left x e h =
        let s = (m x).at vs o w left h in
        (v ∷ s.0, ap (λ (q : List W). v ∷ q) s.1, λ new. ap (λ (z : Option X). chosen (v ∷ (s.0 ++ w ∷ new)) z) e ∙ s.2 new)

    same_front : (p : List W) (w : W) (left new : List W) → front view (p ++ w ∷ new) ≡ front view (p ++ w ∷ left)
    same_front [] w left new = refl
    same_front (v ∷ p) w left new = refl

    go : (ws : List W) (o : Option Y) (w : W) (left : List W) (q : Option X) → front view ws ≡ q → chosen ws q ≡ (o, w ∷ left) → (p : List W) × (ws ≡ p ++ w ∷ left) × ((new : List W) → chosen (p ++ w ∷ new) (front view (p ++ w ∷ new)) ≡ (o, w ∷ new))
    go ws o w left None e h =
        let s = l.at ws o w left h in
        (s.0, s.1, λ new. ap (λ (z : Option X). chosen (s.0 ++ w ∷ new) z) (same_front s.0 w left new ∙ sym (ap (λ (q : List W). front view q) s.1) ∙ e) ∙ s.2 new)
    go ws o w left (Some x) e h = seen ws o w left x e h

pub local_marks : {W : Type 0} (views : List (W → Option (Unit {0}))) → Local W (Unit {0}) (λ ws. marks_at views ws)
local_marks [] = local_done tt
local_marks (view ∷ views) = local_after (local_take view) (λ _. local_marks views)

local_more : {W X : Type 0} {one : List W → Read W X} (mark : W → Option (Unit {0})) → Local W X one → (n : ℕ) → Local W (List X) (λ ws. more_of mark one n ws)
local_more mark l zero = local_done []
local_more mark l (suc n) = local_either mark (λ _. local_after l (λ x. local_after (local_more mark l n) (λ xs. local_done (x ∷ xs)))) (local_done [])

-- The fuel doesn't matter where it is enough.
more_of_enough : {W X : Type 0} {one : List W → Read W X} {S : X → List W → Type 0} (mark : W → Option (Unit {0})) → Sound W X one S → (m n : ℕ) (ws : List W) → length ws ≤ m → length ws ≤ n → more_of mark one m ws ≡ more_of mark one n ws
more_of_enough mark sound zero zero ws a b = refl
more_of_enough mark sound zero (suc n) [] a b = refl
more_of_enough mark sound (suc m) zero [] a b = refl
more_of_enough mark sound (suc m) (suc n) [] a b = refl
more_of_enough mark sound zero (suc n) (w ∷ ws) a b = absurd (omega arith)
more_of_enough mark sound (suc m) zero (w ∷ ws) a b = absurd (omega arith)
more_of_enough {W} {X} {one} {S} mark sound (suc m) (suc n) (w ∷ ws) a b = go (mark w) (one ws) refl (λ left short. more_of_enough mark sound m n left (omega arith) (omega arith))
  where
    read_by : ℕ → Option (Unit {0}) → Read W X → Read W (List X)
    read_by k o read = option_map_or (λ _. after read (λ x left. after (more_of mark one k left) (λ xs end. done (x ∷ xs) end))) o (done [] (w ∷ ws))

    go : (o : Option (Unit {0})) (read : Read W X) → one ws ≡ read → ((left : List W) → length left ≤ length ws → more_of mark one m left ≡ more_of mark one n left) → read_by m o read ≡ read_by n o read
    go None read e again = refl
    go (Some u) (None, left) e again = refl
    go (Some u) (Some x, left) e again =
        let s = sound ws x left e in
        let short : length left ≤ length ws = omega (arith, ap (λ (q : List W). length q) s.1, length-append s.0 left) in
        ap (λ (z : Read W (List X)). after z (λ xs end. done (x ∷ xs) end)) (again left short)

pub local_some : {W X : Type 0} {one : List W → Read W X} {S : X → List W → Type 0} (mark : W → Option (Unit {0})) → Local W X one → Sound W X one S → Local W (List X) (λ ws. some_of mark one ws)
local_some {W} {X} {one} {S} mark l sound = local_after l (λ x. local_after (record { at = all }) (λ xs. local_done (x ∷ xs)))
  where
    all : (ws : List W) → LocalAt W (List X) (λ q. more_of mark one (length q) q) ws
    all ws o w left h =
        let s = (local_more mark l (length ws)).at ws o w left h in (
          s.0,
          s.1,
          λ new.
              let n = length ws + length (s.0 ++ w ∷ new) in
              let t = (local_more mark l n).at ws o w left (more_of_enough mark sound n (length ws) ws (omega arith) (omega arith) ∙ h) in
              let same = append_cancel_right t.0 s.0 (w ∷ left) (sym t.1 ∙ s.1) in
              more_of_enough mark sound (length (s.0 ++ w ∷ new)) n (s.0 ++ w ∷ new) (omega arith) (omega arith) ∙ ap (λ (p : List W). more_of mark one n (p ++ w ∷ new)) (sym same) ∙ t.2 new,
        )

pub local_end : {W : Type 0} → Local W (Unit {0}) (λ ws. end_at ws)
local_end {W} = record { at = at }
  where
    at : (ws : List W) → LocalAt W (Unit {0}) (λ q. end_at q) ws
    at [] o w left h = let e = stays h in absurd (cc)
    at (v ∷ vs) o w left h = ([], stays h, λ new. reading (got h) refl)

pub local_pair : {W X Y : Type 0} {first : List W → Read W X} {second : X → List W → Read W Y} → Local W X first → ((x : X) → Local W Y (second x)) → Local W (X × Y) (λ ws. pair_at first second ws)
local_pair l m = local_after l (λ x. local_after (m x) (λ y. local_done (x, y)))

pub local_skip : {W X : Type 0} {one : List W → Read W X} (views : List (W → Option (Unit {0}))) → Local W X one → Local W X (λ ws. skip_at views one ws)
local_skip views l = local_after (local_marks views) (λ _. l)

pub local_ended : {W X : Type 0} {one : List W → Read W X} (views : List (W → Option (Unit {0}))) → Local W X one → Local W X (λ ws. ended_at one views ws)
local_ended views l = local_after l (λ x. local_after (local_marks views) (λ _. local_done x))

pub local_made : {W X Y : Type 0} {one : List W → Read W X} (make : X → Y) → Local W X one → Local W Y (λ ws. made_at make one ws)
local_made make l = local_after l (λ x. local_done (make x))
