-- Readers that take just the words of a part: what they read has those words, and those words are read as it.
use Rattle.std.proofs.Common.{◌≡◌, List, [], ◌∷◌, ◌++◌, Option, Some, None, refl, sym, ap, ◌∙◌, append_assoc}
use Rattle.list_laws.proofs.Options.{none_some}
use Rattle.bsdl_device.specs.Readers.{Read, done, after, rest_if, take_at}

-- what was read has a spelling, and those words were taken
abbrev pub Sound : (W X : Type 0) → (List W → Read W X) → (X → List W → Type 0) → Type 0
Sound W X r S = (ws : List W) (x : X) (left : List W) → r ws ≡ (Some x, left) → (p : List W) × (ws ≡ p ++ left) × S x p

-- the words of a spelling are read as it, where what follows doesn't go on with it
abbrev pub Complete : (W X : Type 0) → (List W → Read W X) → (X → List W → Type 0) → (List W → Type 0) → Type 0
Complete W X r S Stops = (x : X) (p left : List W) → S x p → Stops left → r (p ++ left) ≡ (Some x, left)

pub record Exact (W X : Type 0) (r : List W → Read W X) (S : X → List W → Type 0) (Stops : List W → Type 0) : Type 0 where
  pub sound : Sound W X r S
  pub complete : Complete W X r S Stops

abbrev pub Anything : {W : Type 0} → List W → Type 0
Anything ws = Unit {0}

-- the parts of equal readings
pub got : {W X : Type 0} {o q : Option X} {a b : List W} → ◌≡◌ {A = Read W X} (o, a) (q, b) → o ≡ q
got {W = W} {X = X} h = ap (λ (read : Read W X). read.0) h

pub stays : {W X : Type 0} {o q : Option X} {a b : List W} → ◌≡◌ {A = Read W X} (o, a) (q, b) → a ≡ b
stays {W = W} {X = X} h = ap (λ (read : Read W X). read.1) h

pub reading : {W X : Type 0} {o q : Option X} {a b : List W} → o ≡ q → a ≡ b → ◌≡◌ {A = Read W X} (o, a) (q, b)
reading {W = W} {X = X} {q = q} {a = a} e f = ap (λ (z : Option X). let read : Read W X = (z, a) in read) e ∙ ap (λ (l : List W). let read : Read W X = (q, l) in read) f

pub exact_weaker : {W X : Type 0} {r : List W → Read W X} {R : X → List W → Type 0} {S : X → List W → Type 0} {T : List W → Type 0} → Exact W X r R T → ((x : X) (p : List W) → R x p → S x p) → ((x : X) (p : List W) → S x p → R x p) → Exact W X r S T
exact_weaker {W = W} l f g = record {
  sound = λ ws x left h. let s = l.sound ws x left h in (s.0, s.1, f x s.0 s.2);
  complete = λ x p left s t. l.complete x p left (g x p s) t;
}

pub exact_done : {W X : Type 0} (x : X) → Exact W X (λ ws. done x ws) (λ y p. (y ≡ x) × (p ≡ [])) Anything
exact_done {W = W} {X = X} x = record {
  sound = λ ws y left h. let e = got h in ([], stays h, (cc, refl));
  complete = λ y p left s t. reading (ap (λ (z : X). Some z) (sym s.0)) (ap (λ (q : List W). q ++ left) s.1);
}

-- one part, then another

abbrev pub Then : {W X Y : Type 0} → (X → List W → Type 0) → (X → Y → List W → Type 0) → Y → List W → Type 0
Then {W = W} {X = X} S T y p = (x : X) × (a : List W) × (b : List W) × S x a × T x y b × (p ≡ a ++ b)

pub exact_after : {W X Y : Type 0} {r : List W → Read W X} {S : X → List W → Type 0} {next : X → List W → Read W Y} {T : X → Y → List W → Type 0} {A : List W → Type 0} {B : List W → Type 0} → Exact W X r S A → ((x : X) → Exact W Y (next x) (T x) B) → ((x : X) (y : Y) (b left : List W) → T x y b → B left → A (b ++ left)) → Exact W Y (λ ws. after (r ws) next) (Then S T) B
exact_after {W = W} {X = X} {Y = Y} {r = r} {S = S} {next = next} {T = T} {B = B} l m stop = record {
  sound = λ ws y left h. sound ws y left (r ws) refl h;
  complete = complete;
}
  where
    sound : (ws : List W) (y : Y) (left : List W) (read : Read W X) → r ws ≡ read → after read next ≡ (Some y, left) → (p : List W) × (ws ≡ p ++ left) × Then S T y p
    sound ws y left (None, a) e h = none_some (got h)
    sound ws y left (Some x, a) e h =
        let s = l.sound ws x a e in
        let t = (m x).sound a y left h in
        (s.0 ++ t.0, s.1 ∙ ap (λ (b : List W). s.0 ++ b) t.1 ∙ sym (append_assoc s.0 t.0 left), (x, s.0, t.0, s.2, t.2, refl))

    complete : (y : Y) (p left : List W) → Then S T y p → B left → after (r (p ++ left)) next ≡ (Some y, left)
    complete y p left (x, a, b, s, t, join) stops =
        let words : p ++ left ≡ a ++ (b ++ left) = ap (λ (q : List W). q ++ left) join ∙ append_assoc a b left in
        ap (λ (q : List W). after (r q) next) words
        ∙ ap (λ (read : Read W X). after read next) (l.complete x a (b ++ left) s (stop x y b left t stops))
        ∙ (m x).complete y b left t stops

-- one word

abbrev pub One : {W X : Type 0} → (W → Option X) → X → List W → Type 0
One {W = W} view x p = (w : W) × (p ≡ w ∷ []) × (view w ≡ Some x)

pub exact_take : {W X : Type 0} (view : W → Option X) → Exact W X (λ ws. take_at view ws) (One view) Anything
exact_take {W = W} {X = X} view = record {
  sound = sound;
  complete = complete;
}
  where
    sound_one : (w : W) (ws : List W) (o : Option X) → view w ≡ o → (x : X) (left : List W) → ◌≡◌ {A = Read W X} (o, rest_if o (w ∷ ws)) (Some x, left) → (p : List W) × (w ∷ ws ≡ p ++ left) × One view x p
    sound_one w ws None e x left h = none_some (got h)
    sound_one w ws (Some y) e x left h = (w ∷ [], ap (λ (l : List W). w ∷ l) (stays h), (w, refl, e ∙ got h))

    sound : (ws : List W) (x : X) (left : List W) → take_at view ws ≡ (Some x, left) → (p : List W) × (ws ≡ p ++ left) × One view x p
    sound [] x left h = none_some (got h)
    sound (w ∷ ws) x left h = sound_one w ws (view w) refl x left h

    complete : (x : X) (p left : List W) → One view x p → Anything left → take_at view (p ++ left) ≡ (Some x, left)
    complete x p left (w, is, e) t =
        ap (λ (q : List W). take_at view (q ++ left)) is
        ∙ ap (λ (o : Option X). let read : Read W X = (o, rest_if o (w ∷ left)) in read) e
