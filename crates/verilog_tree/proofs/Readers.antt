-- Laws of the readers that parts are put together of.
use Rattle.std.proofs.Common.{◌≡◌, ℕ, ◌+◌, ◌≤◌, Bool, true, false, cond, List, [], ◌∷◌, ◌++◌, Option, Some, None, refl, sym, ap, ◌∙◌, arith, append_assoc, inl, inr, ◌⊎◌}
use Rattle.std.proofs.lemmas.List.{append_cancel_right}
use Rattle.std.specs.Option.{option_map_or}
use Rattle.verilog_lexicon.proofs.list_laws.Options.{none_some}
use Rattle.verilog_lexicon.specs.declared.word.Word.{Word}
use Rattle.verilog_lexicon.specs.Words.{front, rest, rest_if}
use Rattle.verilog_tree.specs.Reader.{Read, done, fault, after, take_at, either}

-- what was read has a spelling, and those words were taken
abbrev pub Sound : (X : Type 0) → (List Word → Read X) → (X → List Word → Type 0) → Type 0
Sound X r S = (ws : List Word) (x : X) (left : List Word) → r ws ≡ (Some x, left) → (p : List Word) × (ws ≡ p ++ left) × S x p

-- what is read up to a word doesn't depend on what comes after that word
abbrev pub LocalAt : (X : Type 0) → (List Word → Read X) → List Word → Type 0
LocalAt X r ws = (o : Option X) (w : Word) (left : List Word) → r ws ≡ (o, w ∷ left) → (p : List Word) × (ws ≡ p ++ w ∷ left) × ((new : List Word) → r (p ++ w ∷ new) ≡ (o, w ∷ new))

-- the words before a fault begin some spelling
abbrev pub Begins : (X : Type 0) → (List Word → Read X) → (X → List Word → Type 0) → Type 0
Begins X r S = (ws left : List Word) → r ws ≡ (None, left) → (p : List Word) × (t : List Word) × (x : X) × (ws ≡ p ++ left) × S x (p ++ t)

pub record Law (X : Type 0) (r : List Word → Read X) (S : X → List Word → Type 0) : Type 0 where
  pub sound : Sound X r S
  pub local : (ws : List Word) → LocalAt X r ws
  pub begins : Begins X r S
  pub some : (x : X) × (p : List Word) × S x p

-- the words that a view sees something in
pub record Seen (X : Type 0) (view : Word → Option X) (spell : X → Word) : Type 0 where
  pub is : (w : Word) (x : X) → view w ≡ Some x → w ≡ spell x

pub law_weaker : {X : Type 0} {r : List Word → Read X} {R : X → List Word → Type 0} {S : X → List Word → Type 0} → Law X r R → ((x : X) (p : List Word) → R x p → S x p) → Law X r S
law_weaker {X = X} {r = r} {R = R} {S = S} l f = record {
  sound = λ ws x left h. let s = l.sound ws x left h in (s.0, s.1, f x s.0 s.2);
  local = l.local;
  begins = λ ws left h. let b = l.begins ws left h in (b.0, b.1, b.2, b.3, f b.2 (b.0 ++ b.1) b.4);
  some = (l.some.0, l.some.1, f l.some.0 l.some.1 l.some.2);
}

-- the parts of equal readings
pub got : {X : Type 0} {o q : Option X} {a b : List Word} → ◌≡◌ {A = Read X} (o, a) (q, b) → o ≡ q
got {X = X} h = ap (λ (read : Read X). read.0) h

pub stays : {X : Type 0} {o q : Option X} {a b : List Word} → ◌≡◌ {A = Read X} (o, a) (q, b) → a ≡ b
stays {X = X} h = ap (λ (read : Read X). read.1) h

pub reading : {X : Type 0} {o q : Option X} {a b : List Word} → o ≡ q → a ≡ b → ◌≡◌ {A = Read X} (o, a) (q, b)
reading {X = X} {q = q} {a = a} e f = ap (λ (z : Option X). let read : Read X = (z, a) in read) e ∙ ap (λ (l : List Word). let read : Read X = (q, l) in read) f

-- nothing more to read

pub law_done : {X : Type 0} (x : X) → Law X (λ ws. done x ws) (λ y p. (y ≡ x) × (p ≡ []))
law_done {X = X} x = record {
  sound = λ ws y left h. let e = got h in ([], stays h, (cc, refl));
  local = λ ws o w left h. let e = got h in ([], stays h, λ new. reading e refl);
  begins = λ ws left h. none_some (sym (got h));
  some = (x, [], (refl, refl));
}

-- one part, then what it is made into

pub law_map : {X Y : Type 0} {r : List Word → Read X} {S : X → List Word → Type 0} (f : X → Y) → Law X r S → Law Y (λ ws. after (r ws) (λ x a. done (f x) a)) (λ y p. (x : X) × S x p × (y ≡ f x))
law_map {X = X} {Y = Y} {r = r} {S = S} f l = record {
  sound = λ ws y left h. sound ws y left (r ws) refl h;
  local = λ ws o w left h. local ws o w left (r ws) refl h;
  begins = λ ws left h. begins ws left (r ws) refl h;
  some = (f l.some.0, l.some.1, (l.some.0, l.some.2, refl));
}
  where
    next : X → List Word → Read Y
    next x a = done (f x) a

    sound : (ws : List Word) (y : Y) (left : List Word) (read : Read X) → r ws ≡ read → after read next ≡ (Some y, left) → (p : List Word) × (ws ≡ p ++ left) × ((x : X) × S x p × (y ≡ f x))
    sound ws y left (None, a) e h = none_some (got h)
    sound ws y left (Some x, a) e h = let s = l.sound ws x left (e ∙ reading refl (stays h)) in let g = got h in (s.0, s.1, (x, s.2, cc))

    local : (ws : List Word) (o : Option Y) (w : Word) (left : List Word) (read : Read X) → r ws ≡ read → after read next ≡ (o, w ∷ left) → (p : List Word) × (ws ≡ p ++ w ∷ left) × ((new : List Word) → after (r (p ++ w ∷ new)) next ≡ (o, w ∷ new))
    local ws o w left (None, a) e h = let s = l.local ws None w left (e ∙ reading refl (stays h)) in (s.0, s.1, λ new. ap (λ (read : Read X). after read next) (s.2 new) ∙ reading (got h) refl)
    local ws o w left (Some x, a) e h = let s = l.local ws (Some x) w left (e ∙ reading refl (stays h)) in (s.0, s.1, λ new. ap (λ (read : Read X). after read next) (s.2 new) ∙ reading (got h) refl)

    begins : (ws left : List Word) (read : Read X) → r ws ≡ read → after read next ≡ (None, left) → (p : List Word) × (t : List Word) × (y : Y) × (ws ≡ p ++ left) × ((x : X) × S x (p ++ t) × (y ≡ f x))
    begins ws left (None, a) e h = let b = l.begins ws left (e ∙ reading refl (stays h)) in (b.0, b.1, f b.2, b.3, (b.2, b.4, refl))
    begins ws left (Some x, a) e h = none_some (sym (got h))

-- one part, then another

abbrev pub Then : {X Y : Type 0} → (X → List Word → Type 0) → (X → Y → List Word → Type 0) → Y → List Word → Type 0
Then {X = X} S T y p = (x : X) × (a : List Word) × (b : List Word) × S x a × T x y b × (p ≡ a ++ b)

-- the first part and the next are local where they stand
local_after : {X Y : Type 0} (r : List Word → Read X) (next : X → List Word → Read Y) (ws : List Word) → LocalAt X r ws → ((x : X) (a : List Word) → r ws ≡ (Some x, a) → LocalAt Y (next x) a) → LocalAt Y (λ l. after (r l) next) ws
local_after {X = X} {Y = Y} r next ws first second o w left h = go (r ws) refl h
  where
    joined : (x : X) (a : List Word) → r ws ≡ (Some x, a) → (p : List Word) × (a ≡ p ++ w ∷ left) × ((new : List Word) → next x (p ++ w ∷ new) ≡ (o, w ∷ new)) → (p : List Word) × (ws ≡ p ++ w ∷ left) × ((new : List Word) → after (r (p ++ w ∷ new)) next ≡ (o, w ∷ new))
    joined x a e ([], is, new_is) =
        let s = first (Some x) w left (e ∙ reading refl is) in
        (s.0, s.1, λ new. ap (λ (read : Read X). after read next) (s.2 new) ∙ new_is new)
    joined x a e (v ∷ p, is, new_is) =
        let s = first (Some x) v (p ++ w ∷ left) (e ∙ reading refl is) in (
          s.0 ++ v ∷ p,
          s.1 ∙ sym (append_assoc s.0 (v ∷ p) (w ∷ left)),
          λ new. ap (λ (l : List Word). after (r l) next) (append_assoc s.0 (v ∷ p) (w ∷ new)) ∙ ap (λ (read : Read X). after read next) (s.2 (p ++ w ∷ new)) ∙ new_is new,
        )

    go : (read : Read X) → r ws ≡ read → after read next ≡ (o, w ∷ left) → (p : List Word) × (ws ≡ p ++ w ∷ left) × ((new : List Word) → after (r (p ++ w ∷ new)) next ≡ (o, w ∷ new))
    go (None, a) e h = let s = first None w left (e ∙ reading refl (stays h)) in (s.0, s.1, λ new. ap (λ (read : Read X). after read next) (s.2 new) ∙ reading (got h) refl)
    go (Some x, a) e h = joined x a e (second x a e o w left h)

pub law_after : {X Y : Type 0} {r : List Word → Read X} {S : X → List Word → Type 0} {next : X → List Word → Read Y} {T : X → Y → List Word → Type 0} → Law X r S → ((x : X) → Law Y (next x) (T x)) → Law Y (λ ws. after (r ws) next) (Then S T)
law_after {X = X} {Y = Y} {r = r} {S = S} {next = next} {T = T} l m = record {
  sound = λ ws y left h. sound ws y left (r ws) refl h;
  local = λ ws. local_after r next ws (l.local ws) (λ x a _. (m x).local a);
  begins = λ ws left h. begins ws left (r ws) refl h;
  some = let s = l.some in let t = (m s.0).some in (t.0, s.1 ++ t.1, (s.0, s.1, t.1, s.2, t.2, refl));
}
  where
    sound : (ws : List Word) (y : Y) (left : List Word) (read : Read X) → r ws ≡ read → after read next ≡ (Some y, left) → (p : List Word) × (ws ≡ p ++ left) × Then S T y p
    sound ws y left (None, a) e h = none_some (got h)
    sound ws y left (Some x, a) e h =
        let s = l.sound ws x a e in
        let t = (m x).sound a y left h in
        (s.0 ++ t.0, s.1 ∙ ap (λ (b : List Word). s.0 ++ b) t.1 ∙ sym (append_assoc s.0 t.0 left), (x, s.0, t.0, s.2, t.2, refl))

    begins : (ws left : List Word) (read : Read X) → r ws ≡ read → after read next ≡ (None, left) → (p : List Word) × (t : List Word) × (y : Y) × (ws ≡ p ++ left) × Then S T y (p ++ t)
    begins ws left (None, a) e h =
        let b = l.begins ws left (e ∙ reading refl (stays h)) in
        let t = (m b.2).some in
        (b.0, b.1 ++ t.1, t.0, b.3, (b.2, b.0 ++ b.1, t.1, b.4, t.2, sym (append_assoc b.0 b.1 t.1)))
    begins ws left (Some x, a) e h =
        let s = l.sound ws x a e in
        let b = (m x).begins a left h in
        (s.0 ++ b.0, b.1, b.2, s.1 ∙ ap (λ (c : List Word). s.0 ++ c) b.3 ∙ sym (append_assoc s.0 b.0 left), (x, s.0, b.0 ++ b.1, s.2, b.4, append_assoc s.0 b.0 b.1))

-- one word

rest_if_front : {X : Type 0} (view : Word → Option X) (ws left : List Word) (o : Option X) → ◌≡◌ {A = Read X} (take_at view ws) (o, left) → rest_if o ws ≡ left
rest_if_front {X = X} view ws left o h = sym (ap (λ (q : Option X). rest_if q ws) (got h)) ∙ stays h

take_at_is : {X : Type 0} (view : Word → Option X) (ws : List Word) (o : Option X) → front view ws ≡ o → ◌≡◌ {A = Read X} (take_at view ws) (o, rest_if o ws)
take_at_is {X = X} view ws o e = ap (λ (q : Option X). let read : Read X = (q, rest_if q ws) in read) e

pub front_seen : {X : Type 0} {view : Word → Option X} {spell : X → Word} → Seen X view spell → (ws : List Word) (x : X) → front view ws ≡ Some x → ws ≡ spell x ∷ rest ws
front_seen seen [] x e = none_some e
front_seen seen (w ∷ ws) x e = ap (λ (v : Word). v ∷ ws) (seen.is w x e)

-- what stands first doesn't depend on what comes after a word
pub front_append : {X : Type 0} (view : Word → Option X) (p : List Word) (w : Word) (left new : List Word) → front view (p ++ w ∷ new) ≡ front view (p ++ w ∷ left)
front_append view [] w left new = refl
front_append view (v ∷ p) w left new = refl

front_such : {X : Type 0} {view : Word → Option X} (Q : X → Type 0) → ((w : Word) (x : X) → view w ≡ Some x → Q x) → (ws : List Word) (x : X) → front view ws ≡ Some x → Q x
front_such Q such [] x e = none_some e
front_such Q such (w ∷ ws) x e = such w x e

-- a word of which more is known than what it is seen as
pub law_take_such : {X : Type 0} {view : Word → Option X} {spell : X → Word} → Seen X view spell → (Q : X → Type 0) → ((w : Word) (x : X) → view w ≡ Some x → Q x) → (any : X) → Q any → Law X (λ ws. take_at view ws) (λ x p. (p ≡ spell x ∷ []) × Q x)
law_take_such {X = X} {view = view} {spell = spell} seen Q such any good = record {
  sound = λ ws x left h. (spell x ∷ [], front_seen seen ws x (got h) ∙ ap (λ (l : List Word). spell x ∷ l) (rest_if_front view ws left (Some x) h), (refl, front_such Q such ws x (got h)));
  local = local;
  begins = λ ws left h. ([], spell any ∷ [], any, rest_if_front view ws left None h, (refl, good));
  some = (any, spell any ∷ [], (refl, good));
}
  where
    go : (v : Word) (vs : List Word) (o : Option X) (w : Word) (left : List Word) → view v ≡ o → rest_if o (v ∷ vs) ≡ w ∷ left → (p : List Word) × (v ∷ vs ≡ p ++ w ∷ left) × ((new : List Word) → ◌≡◌ {A = Read X} (take_at view (p ++ w ∷ new)) (o, w ∷ new))
    go v vs None w left e h = ([], h, λ new. take_at_is view (w ∷ new) None (sym (ap (λ (l : List Word). front view l) h) ∙ e))
    go v vs (Some x) w left e h = (v ∷ [], ap (λ (l : List Word). v ∷ l) h, λ new. take_at_is view (v ∷ w ∷ new) (Some x) e)

    local : (ws : List Word) → LocalAt X (λ l. take_at view l) ws
    local [] o w left h = let e = stays h in absurd (cc)
    local (v ∷ vs) o w left h = go v vs o w left (got h) (rest_if_front view (v ∷ vs) (w ∷ left) o h)

pub law_take : {X : Type 0} {view : Word → Option X} {spell : X → Word} → Seen X view spell → X → Law X (λ ws. take_at view ws) (λ x p. p ≡ spell x ∷ [])
law_take {X = X} seen any = law_weaker (law_take_such seen (λ (x : X). Unit {0}) (λ w x e. tt) any tt) (λ x p h. h.0)

-- a word, then another part

abbrev pub Behind : {X Y : Type 0} → (X → Word) → (X → Y → List Word → Type 0) → Y → List Word → Type 0
Behind {X = X} spell T y p = (x : X) × (b : List Word) × T x y b × (p ≡ spell x ∷ b)

pub law_word : {X Y : Type 0} {view : Word → Option X} {spell : X → Word} {next : X → List Word → Read Y} {T : X → Y → List Word → Type 0} → Seen X view spell → X → ((x : X) → Law Y (next x) (T x)) → Law Y (λ ws. after (take_at view ws) next) (Behind spell T)
law_word seen any m = law_weaker (law_after (law_take seen any) m) (λ y p h. (h.0, h.2, h.4, h.5 ∙ ap (λ (a : List Word). a ++ h.2) h.3))

-- one way or another, by the first word

abbrev pub EitherWay : {X Y : Type 0} → (X → Word) → (X → Y → List Word → Type 0) → (Y → List Word → Type 0) → Y → List Word → Type 0
EitherWay spell T U y p = Behind spell T y p ⊎ U y p

-- a way that goes on behind the first word, or is a fault at it
abbrev pub Way : (Y : Type 0) → (List Word → Read Y) → (Y → List Word → Type 0) → Type 0
Way Y there S = ((r : List Word → Read Y) × ((ws : List Word) → there ws ≡ r (rest ws)) × Law Y r S) ⊎ ((ws : List Word) → there ws ≡ fault ws)

pub law_ways : {X Y : Type 0} {view : Word → Option X} {spell : X → Word} {there : X → List Word → Read Y} {other : List Word → Read Y} {T : X → Y → List Word → Type 0} {U : Y → List Word → Type 0} → Seen X view spell → ((x : X) → Way Y (there x) (T x)) → Law Y other U → Law Y (λ ws. option_map_or (λ x. there x ws) (front view ws) (other ws)) (EitherWay spell T U)
law_ways {X = X} {Y = Y} {view = view} {spell = spell} {there = there} {other = other} {T = T} {U = U} seen ways l = record {
  sound = λ ws y left h. sound ws y left (front view ws) refl h;
  local = λ ws o w left h. local ws o w left (front view ws) refl h;
  begins = λ ws left h. begins ws left (front view ws) refl h;
  some = (l.some.0, l.some.1, inr l.some.2);
}
  where
    chosen : List Word → Option X → Read Y
    chosen ws o = option_map_or (λ x. there x ws) o (other ws)

    sound_way : (ws : List Word) (y : Y) (left : List Word) (x : X) → Way Y (there x) (T x) → front view ws ≡ Some x → there x ws ≡ (Some y, left) → (p : List Word) × (ws ≡ p ++ left) × EitherWay spell T U y p
    sound_way ws y left x (inl (r, is, m)) e h =
        let s = m.sound (rest ws) y left (sym (is ws) ∙ h) in
        (spell x ∷ s.0, front_seen seen ws x e ∙ ap (λ (b : List Word). spell x ∷ b) s.1, inl (x, s.0, s.2, refl))
    sound_way ws y left x (inr is) e h = none_some (got (sym (is ws) ∙ h))

    sound : (ws : List Word) (y : Y) (left : List Word) (o : Option X) → front view ws ≡ o → chosen ws o ≡ (Some y, left) → (p : List Word) × (ws ≡ p ++ left) × EitherWay spell T U y p
    sound ws y left None e h = let s = l.sound ws y left h in (s.0, s.1, inr s.2)
    sound ws y left (Some x) e h = sound_way ws y left x (ways x) e h

    local_way : (ws : List Word) (o : Option Y) (w : Word) (left : List Word) (x : X) → Way Y (there x) (T x) → front view ws ≡ Some x → there x ws ≡ (o, w ∷ left) → (p : List Word) × (ws ≡ p ++ w ∷ left) × ((new : List Word) → chosen (p ++ w ∷ new) (front view (p ++ w ∷ new)) ≡ (o, w ∷ new))
    local_way [] o w left x way e h = none_some e
    local_way (v ∷ vs) o w left x (inl (r, is, m)) e h =
        let s = m.local vs o w left (sym (is (v ∷ vs)) ∙ h) in
        (v ∷ s.0, ap (λ (b : List Word). v ∷ b) s.1, λ new. ap (λ (z : Option X). chosen (v ∷ s.0 ++ w ∷ new) z) e ∙ is (v ∷ s.0 ++ w ∷ new) ∙ s.2 new)
    local_way (v ∷ vs) o w left x (inr is) e h =
        let f = sym (is (v ∷ vs)) ∙ h in
        let same : v ∷ vs ≡ w ∷ left = stays f in
        ([], same, λ new. ap (λ (z : Option X). chosen (w ∷ new) z) (sym (ap (λ (b : List Word). front view b) same) ∙ e) ∙ is (w ∷ new) ∙ reading (got f) refl)

    local : (ws : List Word) (o : Option Y) (w : Word) (left : List Word) (q : Option X) → front view ws ≡ q → chosen ws q ≡ (o, w ∷ left) → (p : List Word) × (ws ≡ p ++ w ∷ left) × ((new : List Word) → chosen (p ++ w ∷ new) (front view (p ++ w ∷ new)) ≡ (o, w ∷ new))
    local ws o w left None e h =
        let s = l.local ws o w left h in
        let same : (new : List Word) → front view (s.0 ++ w ∷ new) ≡ None = λ new. front_append view s.0 w left new ∙ sym (ap (λ (b : List Word). front view b) s.1) ∙ e in
        (s.0, s.1, λ new. ap (λ (z : Option X). chosen (s.0 ++ w ∷ new) z) (same new) ∙ s.2 new)
    local ws o w left (Some x) e h = local_way ws o w left x (ways x) e h

    begins_way : (ws left : List Word) (x : X) → Way Y (there x) (T x) → front view ws ≡ Some x → there x ws ≡ (None, left) → (p : List Word) × (t : List Word) × (y : Y) × (ws ≡ p ++ left) × EitherWay spell T U y (p ++ t)
    begins_way ws left x (inl (r, is, m)) e h =
        let b = m.begins (rest ws) left (sym (is ws) ∙ h) in
        (spell x ∷ b.0, b.1, b.2, front_seen seen ws x e ∙ ap (λ (c : List Word). spell x ∷ c) b.3, inl (x, b.0 ++ b.1, b.4, refl))
    begins_way ws left x (inr is) e h = ([], l.some.1, l.some.0, stays (sym (is ws) ∙ h), inr l.some.2)

    begins : (ws left : List Word) (o : Option X) → front view ws ≡ o → chosen ws o ≡ (None, left) → (p : List Word) × (t : List Word) × (y : Y) × (ws ≡ p ++ left) × EitherWay spell T U y (p ++ t)
    begins ws left None e h = let b = l.begins ws left h in (b.0, b.1, b.2, b.3, inr b.4)
    begins ws left (Some x) e h = begins_way ws left x (ways x) e h

pub law_either : {X Y : Type 0} {view : Word → Option X} {spell : X → Word} {there : X → List Word → Read Y} {other : List Word → Read Y} {T : X → Y → List Word → Type 0} {U : Y → List Word → Type 0} → Seen X view spell → ((x : X) → Law Y (there x) (T x)) → Law Y other U → Law Y (λ ws. either view ws there other) (EitherWay spell T U)
law_either {there = there} seen m l = law_ways seen (λ x. inl (there x, λ ws. refl, m x)) l

pub law_if : {X : Type 0} {r q : List Word → Read X} {S : X → List Word → Type 0} (b : Bool) → (b ≡ true → Law X r S) → (b ≡ false → Law X q S) → Law X (λ ws. cond b (r ws) (q ws)) S
law_if true l m = l refl
law_if false l m = m refl

-- a fault at the first word

pub law_fault : {X : Type 0} {S : X → List Word → Type 0} → (x : X) × (p : List Word) × S x p → Law X (λ ws. fault ws) S
law_fault any = record {
  sound = λ ws x left h. none_some (got h);
  local = λ ws o w left h. ([], stays h, λ new. reading (got h) refl);
  begins = λ ws left h. ([], any.1, any.0, stays h, any.2);
  some = any;
}

-- The fuel doesn't matter where it is enough.

pub law_enough : {X : Type 0} {S : X → List Word → Type 0} (r : ℕ → List Word → Read X) (size : List Word → ℕ) → ((n : ℕ) → Law X (r n) S) → ((m n : ℕ) (ws : List Word) → size ws ≤ m → size ws ≤ n → r m ws ≡ r n ws) → Law X (λ ws. r (size ws) ws) S
law_enough {X = X} {S = S} r size l enough = record {
  sound = λ ws. (l (size ws)).sound ws;
  local = local;
  begins = λ ws. (l (size ws)).begins ws;
  some = (l 0).some;
}
  where
    local : (ws : List Word) → LocalAt X (λ b. r (size b) b) ws
    local ws o w left h =
        let s = (l (size ws)).local ws o w left h in (
          s.0,
          s.1,
          λ new.
              let n = size ws + size (s.0 ++ w ∷ new) in
              let t = (l n).local ws o w left (enough n (size ws) ws (omega arith) (omega arith) ∙ h) in
              let same = append_cancel_right t.0 s.0 (w ∷ left) (sym t.1 ∙ s.1) in
              enough (size (s.0 ++ w ∷ new)) n (s.0 ++ w ∷ new) (omega arith) (omega arith) ∙ ap (λ (p : List Word). r n (p ++ w ∷ new)) (sym same) ∙ t.2 new,
        )
