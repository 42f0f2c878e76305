-- The words before a fault begin what can be read whole.
use Rattle.std.proofs.Common.{◌≡◌, ℕ, suc, zero, ◌≤◌, List, [], ◌∷◌, ◌++◌, length, Option, Some, None, refl, sym, ap, ◌∙◌, arith, append_assoc, append-nil}
use Rattle.std.specs.Prelude.{map}
use Rattle.std.specs.List.{AllByRecursion}
use Rattle.std.specs.Option.{option_map_or}
use Rattle.list_laws.proofs.Options.{none_some}
use Rattle.bsdl_device.specs.Readers.{Read, done, after, front, rest, rest_if, take_at, either, marks_at, more_of, some_of, pair_at, skip_at, ended_at}
use Rattle.bsdl_device.proofs.Exact.{Exact, Anything, got, stays, reading, exact_take}
use Rattle.bsdl_device.proofs.Choices.{sound_more_of, complete_more_of}

-- words that are read whole as something, and begin with these
abbrev pub Begins : (W X : Type 0) → (List W → Read W X) → List W → Type 0
Begins W X r p = (t : List W) × (x : X) × (r (p ++ t) ≡ (Some x, []))

pub record Reach (W X : Type 0) (r : List W → Read W X) : Type 0 where
  pub begins : (ws left : List W) → r ws ≡ (None, left) → (p : List W) × (ws ≡ p ++ left) × Begins W X r p
  pub some : (x : X) × (p : List W) × (r p ≡ (Some x, []))

pub reach_done : {W X : Type 0} (x : X) → Reach W X (λ ws. done x ws)
reach_done {W} {X} x = record {
  begins = λ ws left h. none_some (sym (got h));
  some = (x, [], refl);
}

pub reach_map : {W X Y : Type 0} {r : List W → Read W X} (make : X → Y) → Reach W X r → Reach W Y (λ ws. after (r ws) (λ x a. done (make x) a))
reach_map {W} {X} {Y} {r} make l = record {
  begins = λ ws left h. begins ws left (r ws) refl h;
  some = (make l.some.0, l.some.1, ap (λ (read : Read W X). after read next) l.some.2);
}
  where
    next : X → List W → Read W Y
    next x a = done (make x) a

    begins : (ws left : List W) (read : Read W X) → r ws ≡ read → after read next ≡ (None, left) → (p : List W) × (ws ≡ p ++ left) × Begins W Y (λ q. after (r q) next) p
    begins ws left (None, a) e h = let b = l.begins ws left (e ∙ reading refl (stays h)) in (b.0, b.1, (b.2.0, make b.2.1, ap (λ (read : Read W X). after read next) b.2.2))
    begins ws left (Some x, a) e h = none_some (sym (got h))

pub reach_after : {W X Y : Type 0} {r : List W → Read W X} {S : X → List W → Type 0} {A : List W → Type 0} {next : X → List W → Read W Y} → Exact W X r S A → Reach W X r → ((x : X) → Reach W Y (next x)) → ((x : X) (y : Y) (b : List W) → next x b ≡ (Some y, []) → A b) → Reach W Y (λ ws. after (r ws) next)
reach_after {W} {X} {Y} {r} {S} {A} {next} e l m stop = record {
  begins = λ ws left h. begins ws left (r ws) refl h;
  some = let s = l.some in let t = (m s.0).some in (t.0, s.1 ++ t.1, whole s.1 s.0 t.1 t.0 s.2 t.2);
}
  where
    -- what is read whole is read before what may follow it
    goes_on : (p : List W) (x : X) (q : List W) → r p ≡ (Some x, []) → A q → r (p ++ q) ≡ (Some x, q)
    goes_on p x q h a =
        let s = e.sound p x [] h in
        ap (λ (z : List W). r (z ++ q)) (s.1 ∙ append-nil s.0) ∙ e.complete x s.0 q s.2 a

    whole : (p : List W) (x : X) (q : List W) (y : Y) → r p ≡ (Some x, []) → next x q ≡ (Some y, []) → after (r (p ++ q)) next ≡ (Some y, [])
    whole p x q y h k = ap (λ (read : Read W X). after read next) (goes_on p x q h (stop x y q k)) ∙ k

    begins : (ws left : List W) (read : Read W X) → r ws ≡ read → after read next ≡ (None, left) → (p : List W) × (ws ≡ p ++ left) × Begins W Y (λ q. after (r q) next) p
    begins ws left (None, a) f h =
        let b = l.begins ws left (f ∙ reading refl (stays h)) in
        let t = (m b.2.1).some in
        let is : after (r ((b.0 ++ b.2.0) ++ t.1)) next ≡ (Some t.0, []) = whole (b.0 ++ b.2.0) b.2.1 t.1 t.0 b.2.2 t.2 in
        (b.0, b.1, (b.2.0 ++ t.1, t.0, ap (λ (z : List W). after (r z) next) (sym (append_assoc b.0 b.2.0 t.1)) ∙ is))
    begins ws left (Some x, a) f h =
        let s = e.sound ws x a f in
        let b = (m x).begins a left h in
        let is : r (s.0 ++ (b.0 ++ b.2.0)) ≡ (Some x, b.0 ++ b.2.0) = e.complete x s.0 (b.0 ++ b.2.0) s.2 (stop x b.2.1 (b.0 ++ b.2.0) b.2.2) in (
          s.0 ++ b.0,
          s.1 ∙ ap (λ (z : List W). s.0 ++ z) b.1 ∙ sym (append_assoc s.0 b.0 left),
          (b.2.0, b.2.1, ap (λ (z : List W). after (r z) next) (append_assoc s.0 b.0 b.2.0) ∙ ap (λ (read : Read W X). after read next) is ∙ b.2.2),
        )

-- one word, where some word is seen so
pub reach_take : {W X : Type 0} (view : W → Option X) (x : X) (w : W) → view w ≡ Some x → Reach W X (λ ws. take_at view ws)
reach_take {W} {X} view x w seen = record {
  begins = λ ws left h. ([], sym (ap (λ (q : Option X). rest_if q ws) (got h)) ∙ stays h, (w ∷ [], x, one));
  some = (x, w ∷ [], one);
}
  where
    one : ◌≡◌ {A = Read W X} (take_at view (w ∷ [])) (Some x, [])
    one = ap (λ (q : Option X). let read : Read W X = (q, rest_if q (w ∷ [])) in read) seen

-- one way or another, by the first word
pub reach_either : {W X Y : Type 0} {there : X → List W → Read W Y} {other : List W → Read W Y} (view : W → Option X) → ((x : X) → Reach W Y (there x)) → Reach W Y other → ((y : Y) (p : List W) → other p ≡ (Some y, []) → front view p ≡ None) → Reach W Y (λ ws. either view ws there other)
reach_either {W} {X} {Y} {there} {other} view m l unseen = record {
  begins = λ ws left h. begins ws left (front view ws) refl h;
  some = (l.some.0, l.some.1, ap (λ (o : Option X). chosen l.some.1 o) (unseen l.some.0 l.some.1 l.some.2) ∙ l.some.2);
}
  where
    chosen : List W → Option X → Read W Y
    chosen ws o = option_map_or (λ x. there x (rest ws)) o (other ws)

    seen : (ws left : List W) (x : X) → front view ws ≡ Some x → there x (rest ws) ≡ (None, left) → (p : List W) × (ws ≡ p ++ left) × Begins W Y (λ q. either view q there other) p
    seen [] left x e h = none_some e
    seen (w ∷ ws) left x e h =
        let b = (m x).begins ws left h in
        (w ∷ b.0, ap (λ (z : List W). w ∷ z) b.1, (b.2.0, b.2.1, ap (λ (o : Option X). chosen (w ∷ (b.0 ++ b.2.0)) o) e ∙ b.2.2))

    begins : (ws left : List W) (o : Option X) → front view ws ≡ o → chosen ws o ≡ (None, left) → (p : List W) × (ws ≡ p ++ left) × Begins W Y (λ q. either view q there other) p
    begins ws left None e h =
        let b = l.begins ws left h in
        (b.0, b.1, (b.2.0, b.2.1, ap (λ (o : Option X). chosen (b.0 ++ b.2.0) o) (unseen b.2.1 (b.0 ++ b.2.0) b.2.2) ∙ b.2.2))
    begins ws left (Some x) e h = seen ws left x e h

-- marks, each of which some word is
pub reach_marks : {W P : Type 0} (view : P → W → Option (Unit {0})) (word : P → W) (marks : List P) → AllByRecursion (λ q. view q (word q) ≡ Some tt) marks → Reach W (Unit {0}) (λ ws. marks_at (map view marks) ws)
reach_marks view word [] all = reach_done tt
reach_marks view word (q ∷ marks) all = reach_after (exact_take (view q)) (reach_take (view q) tt (word q) all.0) (λ _. reach_marks view word marks all.1) (λ x y b h. tt)

-- what follows marks
reach_more : {W X : Type 0} {one : List W → Read W X} {S : X → List W → Type 0} (mark : W → Option (Unit {0})) → Exact W X one S Anything → Reach W X one → (n : ℕ) → Reach W (List X) (λ ws. more_of mark one n ws)
reach_more mark e l zero = reach_done []
reach_more {W} {X} mark e l (suc n) = reach_either mark (λ _. reach_after e l (λ x. reach_map (λ xs. x ∷ xs) (reach_more mark e l n)) (λ x y b h. tt)) (reach_done []) (λ y p h. ap (λ (q : List W). front mark q) (stays h))

pub reach_some : {W X : Type 0} {one : List W → Read W X} {S : X → List W → Type 0} (mark : W → Option (Unit {0})) → Exact W X one S Anything → Reach W X one → Reach W (List X) (λ ws. some_of mark one ws)
reach_some {W} {X} {one} {S} mark e l = reach_after e l (λ x. reach_map (λ xs. x ∷ xs) all) (λ x y b h. tt)
  where
    enough : (n : ℕ) (ws : List W) (xs : List X) → more_of mark one n ws ≡ (Some xs, []) → more_of mark one (length ws) ws ≡ (Some xs, [])
    enough n ws xs h =
        let s = sound_more_of mark e n ws xs [] h in
        let is : ws ≡ s.0 = s.1 ∙ append-nil s.0 in
        let within : length s.0 ≤ length ws = omega (arith, ap (λ (q : List W). length q) is) in
        ap (λ (q : List W). more_of mark one (length ws) q) s.1 ∙ complete_more_of mark e (length ws) xs s.0 [] s.2 within refl

    all : Reach W (List X) (λ ws. more_of mark one (length ws) ws)
    all = record {
      begins = λ ws left h. let b = (reach_more mark e l (length ws)).begins ws left h in (b.0, b.1, (b.2.0, b.2.1, enough (length ws) (b.0 ++ b.2.0) b.2.1 b.2.2));
      some = ([], [], refl);
    }

pub reach_pair : {W X Y : Type 0} {first : List W → Read W X} {second : X → List W → Read W Y} {S : X → List W → Type 0} {A : List W → Type 0} → Exact W X first S A → Reach W X first → ((x : X) → Reach W Y (second x)) → ((x : X) (y : Y) (b : List W) → second x b ≡ (Some y, []) → A b) → Reach W (X × Y) (λ ws. pair_at first second ws)
reach_pair {W} {X} {Y} {first} {second} {S} {A} e l m stop = reach_after e l (λ x. reach_map (λ y. (x, y)) (m x)) (λ x z b h. back x z b (second x b) refl h)
  where
    back : (x : X) (z : X × Y) (b : List W) (read : Read W Y) → second x b ≡ read → after read (λ y a. done (x, y) a) ≡ (Some z, []) → A b
    back x z b (None, a) f h = none_some (got h)
    back x z b (Some y, a) f h = stop x y b (f ∙ reading refl (stays h))

pub reach_skip : {W X : Type 0} {one : List W → Read W X} (views : List (W → Option (Unit {0}))) {S : Unit {0} → List W → Type 0} → Exact W (Unit {0}) (λ ws. marks_at views ws) S Anything → Reach W (Unit {0}) (λ ws. marks_at views ws) → Reach W X one → Reach W X (λ ws. skip_at views one ws)
reach_skip views e m l = reach_after e m (λ _. l) (λ x y b h. tt)

pub reach_ended : {W X : Type 0} {one : List W → Read W X} {S : X → List W → Type 0} {A : List W → Type 0} (views : List (W → Option (Unit {0}))) → Exact W X one S A → Reach W X one → Reach W (Unit {0}) (λ ws. marks_at views ws) → ((b : List W) → marks_at views b ≡ (Some tt, []) → A b) → Reach W X (λ ws. ended_at one views ws)
reach_ended {W} {X} {one} {S} {A} views e l m stop = reach_after e l (λ x. reach_map (λ _. x) m) (λ x y b h. back x y b (marks_at views b) refl h)
  where
    back : (x y : X) (b : List W) (read : Read W (Unit {0})) → marks_at views b ≡ read → after read (λ _ a. done x a) ≡ (Some y, []) → A b
    back x y b (None, a) f h = none_some (got h)
    back x y b (Some u, a) f h = stop b (f ∙ reading refl (stays h))
