-- Readers that choose by the first word, and readers of lists.
use Rattle.std.proofs.Common.{◌≡◌, ℕ, suc, zero, ◌≤◌, List, [], ◌∷◌, ◌++◌, length, Option, Some, None, refl, sym, subst, ap, ◌∙◌, arith, append_assoc, length-append, inl, inr, ◌⊎◌}
use Rattle.std.specs.Option.{option_map_or}
use Rattle.list_laws.proofs.Options.{none_some}
use Rattle.bsdl_device.specs.Readers.{Read, done, after, front, rest, either, more_of, some_of, end_at}
use Rattle.bsdl_device.proofs.Exact.{Sound, Exact, Anything, got, stays, reading}

-- one way or another, by the first word

abbrev pub Behind : {W X Y : Type 0} → (W → Option X) → (X → Y → List W → Type 0) → Y → List W → Type 0
Behind {W = W} {X = X} view T y p = (x : X) × (w : W) × (b : List W) × (view w ≡ Some x) × T x y b × (p ≡ w ∷ b)

abbrev pub EitherWay : {W X Y : Type 0} → (W → Option X) → (X → Y → List W → Type 0) → (Y → List W → Type 0) → Y → List W → Type 0
EitherWay view T U y p = Behind view T y p ⊎ U y p

pub exact_either : {W X Y : Type 0} {there : X → List W → Read W Y} {other : List W → Read W Y} {T : X → Y → List W → Type 0} {U : Y → List W → Type 0} {B : List W → Type 0} (view : W → Option X) → ((x : X) → Exact W Y (there x) (T x) B) → Exact W Y other U B → ((y : Y) (p left : List W) → U y p → B left → front view (p ++ left) ≡ None) → Exact W Y (λ ws. either view ws there other) (EitherWay view T U) B
exact_either {W = W} {X = X} {Y = Y} {there = there} {other = other} {T = T} {U = U} {B = B} view m l unseen = record {
  sound = λ ws y left h. sound ws y left (front view ws) refl h;
  complete = complete;
}
  where
    chosen : List W → Option X → Read W Y
    chosen ws o = option_map_or (λ x. there x (rest ws)) o (other ws)

    sound_there : (ws : List W) (y : Y) (left : List W) (x : X) → front view ws ≡ Some x → there x (rest ws) ≡ (Some y, left) → (p : List W) × (ws ≡ p ++ left) × EitherWay view T U y p
    sound_there [] y left x e h = none_some e
    sound_there (w ∷ ws) y left x e h =
        let s = (m x).sound ws y left h in
        (w ∷ s.0, ap (λ (l : List W). w ∷ l) s.1, inl (x, w, s.0, e, s.2, refl))

    sound : (ws : List W) (y : Y) (left : List W) (o : Option X) → front view ws ≡ o → chosen ws o ≡ (Some y, left) → (p : List W) × (ws ≡ p ++ left) × EitherWay view T U y p
    sound ws y left None e h = let s = l.sound ws y left h in (s.0, s.1, inr s.2)
    sound ws y left (Some x) e h = sound_there ws y left x e h

    complete : (y : Y) (p left : List W) → EitherWay view T U y p → B left → chosen (p ++ left) (front view (p ++ left)) ≡ (Some y, left)
    complete y p left (inl (x, w, b, e, t, is)) stops =
        ap (λ (q : List W). chosen (q ++ left) (front view (q ++ left))) is
        ∙ ap (λ (o : Option X). chosen (w ∷ (b ++ left)) o) e
        ∙ (m x).complete y b left t stops
    complete y p left (inr u) stops =
        ap (λ (o : Option X). chosen (p ++ left) o) (unseen y p left u stops)
        ∙ l.complete y p left u stops

-- What is listed.

-- parts with a mark before each
abbrev pub MoreOf : {W X : Type 0} → (W → Option (Unit {0})) → (X → List W → Type 0) → List X → List W → Type 0
MoreOf mark S [] p = p ≡ []
MoreOf {W = W} mark S (x ∷ xs) p = (w : W) × (a : List W) × (b : List W) × (mark w ≡ Some tt) × S x a × MoreOf mark S xs b × (p ≡ w ∷ (a ++ b))

-- one part or more, with marks between them
abbrev pub SomeOf : {W X : Type 0} → (W → Option (Unit {0})) → (X → List W → Type 0) → List X → List W → Type 0
SomeOf mark S [] p = ⊥
SomeOf {W = W} mark S (x ∷ xs) p = (a : List W) × (b : List W) × S x a × MoreOf mark S xs b × (p ≡ a ++ b)

-- the next word is no mark
abbrev pub NotNext : {W X : Type 0} → (W → Option X) → List W → Type 0
NotNext view left = front view left ≡ None

pub sound_more_of : {W X : Type 0} {one : List W → Read W X} {S : X → List W → Type 0} (mark : W → Option (Unit {0})) → Exact W X one S Anything → (n : ℕ) → Sound W (List X) (λ ws. more_of mark one n ws) (MoreOf mark S)
sound_more_of {W = W} {X = X} {one = one} {S = S} mark l n ws xs left h = go n ws xs left h
  where
    nothing : (ws : List W) (xs : List X) (left : List W) → ◌≡◌ {A = Read W (List X)} (Some [], ws) (Some xs, left) → (p : List W) × (ws ≡ p ++ left) × MoreOf mark S xs p
    nothing ws [] left e = ([], stays e, refl)
    nothing ws (y ∷ ys) left e = let k : ◌≡◌ {A = Option (List X)} (Some []) (Some (y ∷ ys)) = got e in absurd (cc)

    rest_of : ℕ → X → List W → Read W (List X)
    rest_of n x more = after (more_of mark one n more) (λ xs end. done (x ∷ xs) end)

    joined : (x : X) (read : Read W (List X)) (xs : List X) (left : List W) → after read (λ ys end. done (x ∷ ys) end) ≡ (Some xs, left) → (ys : List X) × (read ≡ (Some ys, left)) × (xs ≡ x ∷ ys)
    joined x (None, a) xs left e = none_some (got e)
    joined x (Some ys, a) xs left e = (ys, reading refl (stays e), let k = got e in cc)

    went : (n : ℕ) (w : W) (ws : List W) (read : Read W X) → one ws ≡ read → (xs : List X) (left : List W) → mark w ≡ Some tt → after read (rest_of n) ≡ (Some xs, left) → ((more : List W) (ys : List X) → more_of mark one n more ≡ (Some ys, left) → (p : List W) × (more ≡ p ++ left) × MoreOf mark S ys p) → (p : List W) × (w ∷ ws ≡ p ++ left) × MoreOf mark S xs p
    went n w ws (None, a) e xs left seen h again = none_some (got h)
    went n w ws (Some x, a) e xs left seen h again =
        let j = joined x (more_of mark one n a) xs left h in
        let s = l.sound ws x a e in
        let t = again a j.0 j.1 in
        let P : List X → Type 0 = λ zs. MoreOf mark S zs (w ∷ (s.0 ++ t.0)) in
        let words : w ∷ ws ≡ (w ∷ (s.0 ++ t.0)) ++ left = ap (λ (q : List W). w ∷ q) (s.1 ∙ ap (λ (b : List W). s.0 ++ b) t.1 ∙ sym (append_assoc s.0 t.0 left)) in
        (w ∷ (s.0 ++ t.0), words, subst P (sym j.2) (w, s.0, t.0, seen, s.2, t.2, refl))

    first : (n : ℕ) (w : W) (ws : List W) (o : Option (Unit {0})) → mark w ≡ o → (xs : List X) (left : List W) → option_map_or (λ _. after (one ws) (rest_of n)) o (done [] (w ∷ ws)) ≡ (Some xs, left) → ((more : List W) (ys : List X) → more_of mark one n more ≡ (Some ys, left) → (p : List W) × (more ≡ p ++ left) × MoreOf mark S ys p) → (p : List W) × (w ∷ ws ≡ p ++ left) × MoreOf mark S xs p
    first n w ws None e xs left h again = nothing (w ∷ ws) xs left h
    first n w ws (Some u) e xs left h again = went n w ws (one ws) refl xs left e h again

    go : (n : ℕ) (ws : List W) (xs : List X) (left : List W) → more_of mark one n ws ≡ (Some xs, left) → (p : List W) × (ws ≡ p ++ left) × MoreOf mark S xs p
    go zero ws xs left h = nothing ws xs left h
    go (suc n) [] xs left h = nothing [] xs left h
    go (suc n) (w ∷ ws) xs left h = first n w ws (mark w) refl xs left h (λ more ys k. go n more ys left k)

pub complete_more_of : {W X : Type 0} {one : List W → Read W X} {S : X → List W → Type 0} (mark : W → Option (Unit {0})) → Exact W X one S Anything → (n : ℕ) (xs : List X) (p left : List W) → MoreOf mark S xs p → length p ≤ n → NotNext mark left → more_of mark one n (p ++ left) ≡ (Some xs, left)
complete_more_of {W = W} {X = X} {one = one} {S = S} mark l n xs p left = go n xs p left
  where
    ended : (n : ℕ) (left : List W) → front mark left ≡ None → more_of mark one n left ≡ (Some [], left)
    ended zero left e = refl
    ended (suc n) left e = ap (λ (o : Option (Unit {0})). option_map_or (λ _. after (one (rest left)) (λ x more. after (more_of mark one n more) (λ xs end. done (x ∷ xs) end))) o (done [] left)) e

    go : (n : ℕ) (xs : List X) (p left : List W) → MoreOf mark S xs p → length p ≤ n → front mark left ≡ None → more_of mark one n (p ++ left) ≡ (Some xs, left)
    go n [] p left m within e = ap (λ (q : List W). more_of mark one n (q ++ left)) m ∙ ended n left e
    go zero (x ∷ xs) p left (w, a, b, seen, s, m, is) within e = absurd (omega (arith, within, ap (λ (q : List W). length q) is))
    go (suc n) (x ∷ xs) p left (w, a, b, seen, s, m, is) within e =
        let short : length b ≤ n = omega (arith, within, ap (λ (q : List W). length q) is, length-append a b) in
        ap (λ (q : List W). more_of mark one (suc n) (q ++ left)) is
        ∙ ap (λ (o : Option (Unit {0})). option_map_or (λ _. after (one ((a ++ b) ++ left)) (λ x more. after (more_of mark one n more) (λ xs end. done (x ∷ xs) end))) o (done [] (w ∷ ((a ++ b) ++ left)))) seen
        ∙ ap (λ (q : List W). after (one q) (λ x more. after (more_of mark one n more) (λ xs end. done (x ∷ xs) end))) (append_assoc a b left)
        ∙ ap (λ (read : Read W X). after read (λ x more. after (more_of mark one n more) (λ xs end. done (x ∷ xs) end))) (l.complete x a (b ++ left) s tt)
        ∙ ap (λ (read : Read W (List X)). after read (λ xs end. done (x ∷ xs) end)) (go n xs b left m short e)

pub exact_some : {W X : Type 0} {one : List W → Read W X} {S : X → List W → Type 0} (mark : W → Option (Unit {0})) → Exact W X one S Anything → Exact W (List X) (λ ws. some_of mark one ws) (SomeOf mark S) (NotNext mark)
exact_some {W = W} {X = X} {one = one} {S = S} mark l = record {
  sound = λ ws xs left h. sound ws xs left (one ws) refl h;
  complete = complete;
}
  where
    rest_of : X → List W → Read W (List X)
    rest_of x left = after (more_of mark one (length left) left) (λ xs end. done (x ∷ xs) end)

    joined : (x : X) (read : Read W (List X)) (xs : List X) (left : List W) → after read (λ ys end. done (x ∷ ys) end) ≡ (Some xs, left) → (ys : List X) × (read ≡ (Some ys, left)) × (xs ≡ x ∷ ys)
    joined x (None, a) xs left e = none_some (got e)
    joined x (Some ys, a) xs left e = (ys, reading refl (stays e), let k = got e in cc)

    sound : (ws : List W) (xs : List X) (left : List W) (read : Read W X) → one ws ≡ read → after read rest_of ≡ (Some xs, left) → (p : List W) × (ws ≡ p ++ left) × SomeOf mark S xs p
    sound ws xs left (None, a) e h = none_some (got h)
    sound ws xs left (Some x, a) e h =
        let j = joined x (more_of mark one (length a) a) xs left h in
        let s = l.sound ws x a e in
        let t = sound_more_of mark l (length a) a j.0 left j.1 in
        let P : List X → Type 0 = λ zs. SomeOf mark S zs (s.0 ++ t.0) in
        (s.0 ++ t.0, s.1 ∙ ap (λ (b : List W). s.0 ++ b) t.1 ∙ sym (append_assoc s.0 t.0 left), subst P (sym j.2) (s.0, t.0, s.2, t.2, refl))

    complete : (xs : List X) (p left : List W) → SomeOf mark S xs p → NotNext mark left → after (one (p ++ left)) rest_of ≡ (Some xs, left)
    complete [] p left none e = absurd none
    complete (x ∷ xs) p left (a, b, s, m, is) e =
        let enough : length b ≤ length (b ++ left) = omega (arith, length-append b left) in
        ap (λ (q : List W). after (one (q ++ left)) rest_of) is
        ∙ ap (λ (q : List W). after (one q) rest_of) (append_assoc a b left)
        ∙ ap (λ (read : Read W X). after read rest_of) (l.complete x a (b ++ left) s tt)
        ∙ ap (λ (read : Read W (List X)). after read (λ xs end. done (x ∷ xs) end)) (complete_more_of mark l (length (b ++ left)) xs b left m enough e)

-- the end of the words

pub exact_end : {W : Type 0} → Exact W (Unit {0}) (λ ws. end_at ws) (λ _ p. p ≡ []) (λ left. left ≡ [])
exact_end {W = W} = record {
  sound = sound;
  complete = complete;
}
  where
    sound : (ws : List W) (x : Unit {0}) (left : List W) → end_at ws ≡ (Some x, left) → (p : List W) × (ws ≡ p ++ left) × (p ≡ [])
    sound [] x left h = ([], stays h, refl)
    sound (w ∷ ws) x left h = none_some (got h)

    complete : (x : Unit {0}) (p left : List W) → p ≡ [] → left ≡ [] → end_at (p ++ left) ≡ (Some x, left)
    complete x p left e f = ap (λ (q : List W). end_at (q ++ left)) e ∙ ap (λ (q : List W). end_at q) f ∙ reading refl (sym f)
