-- Readers whose parts are spelled by patterns: sequences of parts.
use Rattle.std.proofs.Common.{◌≡◌, List, [], ◌∷◌, ◌++◌, map, Bool, true, Option, Some, refl, sym, ap, subst, ◌∙◌, append-nil}
use Rattle.std.specs.List.{AllByRecursion}
use Rattle.bsdl_device.specs.Patterns.{MatchesBy}
use Rattle.bsdl_device.specs.Readers.{Read, done, after, take_at, marks_at, pair_at, skip_at, ended_at, made_at}
use Rattle.bsdl_device.proofs.Exact.{Exact, Anything, exact_weaker, exact_done, Then, exact_after, One, exact_take}

-- Words that match patterns.

pub matches_append : {P W : Type 0} (fits : P → W → Type 0) (a b : List P) (p q : List W) → MatchesBy fits a p → MatchesBy fits b q → MatchesBy fits (a ++ b) (p ++ q)
matches_append fits [] b [] q m n = n
matches_append fits [] b (w ∷ p) q m n = absurd m
matches_append fits (x ∷ a) b [] q m n = absurd m
matches_append fits (x ∷ a) b (w ∷ p) q m n = (m.0, matches_append fits a b p q m.1 n)

-- the words before and behind
pub record Split (P W : Type 0) (fits : P → W → Type 0) (a b : List P) (ws : List W) : Type 0 where
  pub before : List W
  pub behind : List W
  pub first : MatchesBy fits a before
  pub second : MatchesBy fits b behind
  pub are : ws ≡ before ++ behind

pub matches_split : {P W : Type 0} (fits : P → W → Type 0) (a b : List P) (ws : List W) → MatchesBy fits (a ++ b) ws → Split P W fits a b ws
matches_split fits [] b ws m = record { before = []; behind = ws; first = tt; second = m; are = refl }
matches_split fits (x ∷ a) b [] m = absurd m
matches_split {P} {W} fits (x ∷ a) b (w ∷ ws) m =
    let s : Split P W fits a b ws = matches_split fits a b ws m.1 in
    record { before = w ∷ s.before; behind = s.behind; first = (m.0, s.first); second = s.second; are = ap (λ (l : List W). w ∷ l) s.are }

-- a part that keeps a rule and is spelled by these patterns
abbrev pub Spelled : {P W X : Type 0} → (P → W → Type 0) → (X → Type 0) → (X → List P) → X → List W → Type 0
Spelled fits ok words x p = ok x × MatchesBy fits (words x) p

-- one word
pub spelled_take : {P W X : Type 0} (fits : P → W → Type 0) (view : W → Option X) (pattern : X → P) → ((x : X) (w : W) → view w ≡ Some x → fits (pattern x) w) → ((x : X) (w : W) → fits (pattern x) w → view w ≡ Some x) → Exact W X (λ ws. take_at view ws) (Spelled fits (λ x. Unit {0}) (λ x. pattern x ∷ [])) Anything
spelled_take {P} {W} {X} fits view pattern to from = exact_weaker (exact_take view) there back
  where
    there : (x : X) (p : List W) → One view x p → Spelled fits (λ (x : X). Unit {0}) (λ x. pattern x ∷ []) x p
    there x p (w, is, seen) =
        let M : List W → Type 0 = λ q. MatchesBy fits (pattern x ∷ []) q in
        (tt, subst M (sym is) (to x w seen, tt))

    back : (x : X) (p : List W) → Spelled fits (λ (x : X). Unit {0}) (λ x. pattern x ∷ []) x p → One view x p
    back x [] s = absurd s.1
    back x (w ∷ []) s = (w, refl, from x w s.1.0)
    back x (w ∷ v ∷ p) s = absurd s.1.1

-- one word, of which more is known
pub spelled_take_such : {P W X : Type 0} (fits : P → W → Type 0) (ok : X → Type 0) (view : W → Option X) (pattern : X → P) → ((x : X) (w : W) → view w ≡ Some x → ok x × fits (pattern x) w) → ((x : X) (w : W) → ok x → fits (pattern x) w → view w ≡ Some x) → Exact W X (λ ws. take_at view ws) (Spelled fits ok (λ x. pattern x ∷ [])) Anything
spelled_take_such {P} {W} {X} fits ok view pattern to from = exact_weaker (exact_take view) there back
  where
    there : (x : X) (p : List W) → One view x p → Spelled fits ok (λ x. pattern x ∷ []) x p
    there x p (w, is, seen) =
        let M : List W → Type 0 = λ q. MatchesBy fits (pattern x ∷ []) q in
        let t = to x w seen in
        (t.0, subst M (sym is) (t.1, tt))

    back : (x : X) (p : List W) → Spelled fits ok (λ x. pattern x ∷ []) x p → One view x p
    back x [] s = absurd s.1
    back x (w ∷ []) s = (w, refl, from x w s.0 s.1.0)
    back x (w ∷ v ∷ p) s = absurd s.1.1

-- a reader that stops more often stops here too
pub exact_stops : {W X : Type 0} {r : List W → Read W X} {S : X → List W → Type 0} {A : List W → Type 0} {B : List W → Type 0} → Exact W X r S A → ((left : List W) → B left → A left) → Exact W X r S B
exact_stops l f = record { sound = l.sound; complete = λ x p left s t. l.complete x p left s (f left t) }

-- both parts of a pair, and nothing behind
abbrev pub Paired : {W X Y : Type 0} → X → Y → X × Y → List W → Type 0
Paired {W} {X} {Y} x y z q = (z ≡ (x, y)) × (q ≡ [])

-- one part, then another
pub spelled_pair : {P W X Y : Type 0} (fits : P → W → Type 0) {first : List W → Read W X} {second : X → List W → Read W Y} {A : List W → Type 0} {B : List W → Type 0} (ok : X → Type 0) (fine : X → Y → Type 0) (words : X → List P) (more : X → Y → List P) → Exact W X first (Spelled fits ok words) A → ((x : X) → Exact W Y (second x) (Spelled fits (fine x) (more x)) B) → ((x : X) (y : Y) (b left : List W) → MatchesBy fits (more x y) b → B left → A (b ++ left)) → Exact W (X × Y) (λ ws. pair_at first second ws) (Spelled fits (λ z. ok z.0 × fine z.0 z.1) (λ z. words z.0 ++ more z.0 z.1)) B
spelled_pair {P} {W} {X} {Y} fits {first} {second} {A} {B} ok fine words more l m stop =
    exact_weaker (exact_after l inner outer_stops) there back
  where
    ended_stops : (x : X) (y : Y) (z : X × Y) (b left : List W) → Paired x y z b → B left → B (b ++ left)
    ended_stops x y z b left t stops = subst (λ (q : List W). B (q ++ left)) (sym t.1) stops

    inner : (x : X) → Exact W (X × Y) (λ a. after (second x a) (λ y b. done (x, y) b)) (Then (Spelled fits (fine x) (more x)) (Paired x)) B
    inner x = exact_after (m x) (λ y. exact_stops (exact_done (x, y)) (λ left t. tt)) (ended_stops x)

    only : (c e b : List W) → e ≡ [] → b ≡ c ++ e → b ≡ c
    only c e b nil join = join ∙ ap (λ (q : List W). c ++ q) nil ∙ append-nil c

    outer_stops : (x : X) (z : X × Y) (b left : List W) → Then (Spelled fits (fine x) (more x)) (Paired x) z b → B left → A (b ++ left)
    outer_stops x z b left (y, c, e, t, ended, join) stops = subst (λ (q : List W). A (q ++ left)) (sym (only c e b ended.1 join)) (stop x y c left t.1 stops)

    Both : X × Y → List W → Type 0
    Both z p = Spelled fits (λ (z : X × Y). ok z.0 × fine z.0 z.1) (λ z. words z.0 ++ more z.0 z.1) z p

    there : (z : X × Y) (p : List W) → Then (Spelled fits ok words) (λ x. Then (Spelled fits (fine x) (more x)) (Paired x)) z p → Both z p
    there z p (x, a, b, s, (y, c, e, t, ended, join2), join) =
        let here : Both (x, y) (a ++ c) = ((s.0, t.0), matches_append fits (words x) (more x y) a c s.1 t.1) in
        let are : p ≡ a ++ c = join ∙ ap (λ (q : List W). a ++ q) (only c e b ended.1 join2) in
        subst (λ (v : X × Y). Both v p) (sym ended.0) (subst (λ (q : List W). Both (x, y) q) (sym are) here)

    back : (z : X × Y) (p : List W) → Both z p → Then (Spelled fits ok words) (λ x. Then (Spelled fits (fine x) (more x)) (Paired x)) z p
    back z p both =
        let s : Split P W fits (words z.0) (more z.0 z.1) p = matches_split fits (words z.0) (more z.0 z.1) p both.1 in
        (z.0, s.before, s.behind, (both.0.0, s.first), (z.1, s.behind, [], (both.0.1, s.second), (refl, refl), sym (append-nil s.behind)), s.are)

-- a part, as something is made of it that tells the part
pub spelled_made : {P W X Y : Type 0} (fits : P → W → Type 0) {one : List W → Read W X} {A : List W → Type 0} {ok : X → Type 0} {words : X → List P} (fine : Y → Type 0) (spelling : Y → List P) (make : X → Y) (part : Y → X) → ((y : Y) → make (part y) ≡ y) → ((x : X) → ok x → fine (make x)) → ((y : Y) → fine y → ok (part y)) → ((x : X) → words x ≡ spelling (make x)) → ((y : Y) → spelling y ≡ words (part y)) → Exact W X one (Spelled fits ok words) A → Exact W Y (λ ws. made_at make one ws) (Spelled fits fine spelling) A
spelled_made {P} {W} {X} {Y} fits {one} {A} {ok} {words} fine spelling make part whole to from same again l =
    exact_weaker (exact_after l (λ x. exact_stops (exact_done (make x)) (λ left t. tt)) stops) there back
  where
    Made : X → Y → List W → Type 0
    Made x y q = (y ≡ make x) × (q ≡ [])

    stops : (x : X) (y : Y) (b left : List W) → Made x y b → A left → A (b ++ left)
    stops x y b left t stop = subst (λ (q : List W). A (q ++ left)) (sym t.1) stop

    there : (y : Y) (p : List W) → Then (Spelled fits ok words) Made y p → Spelled fits fine spelling y p
    there y p (x, a, b, s, made, join) =
        let are : p ≡ a = join ∙ ap (λ (q : List W). a ++ q) made.1 ∙ append-nil a in
        let here : Spelled fits fine spelling (make x) a = (to x s.0, subst (λ (l : List P). MatchesBy fits l a) (same x) s.1) in
        subst (λ (v : Y). Spelled fits fine spelling v p) (sym made.0) (subst (λ (q : List W). Spelled fits fine spelling (make x) q) (sym are) here)

    back : (y : Y) (p : List W) → Spelled fits fine spelling y p → Then (Spelled fits ok words) Made y p
    back y p s = (part y, p, [], (from y s.0, subst (λ (l : List P). MatchesBy fits l p) (again y) s.1), (sym (whole y), refl), sym (append-nil p))

-- Marks.

-- words that are each seen as the mark that a pattern wants
pub spelled_marks : {P W : Type 0} (fits : P → W → Type 0) (is_mark : P → Bool) (view : P → W → Option (Unit {0})) → ((q : P) (w : W) → view q w ≡ Some tt → fits q w) → ((q : P) (w : W) → is_mark q ≡ true → fits q w → view q w ≡ Some tt) → (marks : List P) → AllByRecursion (λ q. is_mark q ≡ true) marks → Exact W (Unit {0}) (λ ws. marks_at (map view marks) ws) (Spelled fits (λ _. Unit {0}) (λ _. marks)) Anything
spelled_marks {P} {W} fits is_mark view to from [] all = exact_weaker (exact_done tt) (λ u p h. (tt, subst (λ (q : List W). MatchesBy fits [] q) (sym h.1) tt)) back
  where
    back : (u : Unit {0}) (p : List W) → Spelled fits (λ (u : Unit {0}). Unit {0}) (λ u. []) u p → (u ≡ tt) × (p ≡ [])
    back u [] h = (refl, refl)
    back u (w ∷ p) h = absurd h.1
spelled_marks {P} {W} fits is_mark view to from (mark ∷ marks) all =
    exact_weaker (exact_after (exact_take (view mark)) (λ _. spelled_marks fits is_mark view to from marks all.1) (λ x y b left t stops. tt)) there back
  where
    there : (u : Unit {0}) (p : List W) → Then (One (view mark)) (λ (x : Unit {0}). Spelled fits (λ (v : Unit {0}). Unit {0}) (λ v. marks)) u p → Spelled fits (λ (v : Unit {0}). Unit {0}) (λ v. mark ∷ marks) u p
    there u p (x, a, b, (w, is, seen), s, join) =
        let are : p ≡ w ∷ b = join ∙ ap (λ (q : List W). q ++ b) is in
        (tt, subst (λ (q : List W). MatchesBy fits (mark ∷ marks) q) (sym are) (to mark w seen, s.1))

    back : (u : Unit {0}) (p : List W) → Spelled fits (λ (v : Unit {0}). Unit {0}) (λ v. mark ∷ marks) u p → Then (One (view mark)) (λ (x : Unit {0}). Spelled fits (λ (v : Unit {0}). Unit {0}) (λ v. marks)) u p
    back u [] s = absurd s.1
    back u (w ∷ p) s = (tt, w ∷ [], p, (w, refl, from mark w all.0 s.1.0), (tt, s.1.1), refl)

-- a part behind marks
pub spelled_skip : {P W X : Type 0} (fits : P → W → Type 0) (views : List (W → Option (Unit {0}))) {one : List W → Read W X} {ok : X → Type 0} {B : List W → Type 0} (marks : List P) (words : X → List P) → Exact W (Unit {0}) (λ ws. marks_at views ws) (Spelled fits (λ _. Unit {0}) (λ _. marks)) Anything → Exact W X one (Spelled fits ok words) B → Exact W X (λ ws. skip_at views one ws) (Spelled fits ok (λ x. marks ++ words x)) B
spelled_skip {P} {W} {X} fits views {one} {ok} {B} marks words m l =
    exact_weaker (exact_after m (λ _. l) (λ u y b left t stops. tt)) there back
  where
    there : (x : X) (p : List W) → Then (Spelled fits (λ (u : Unit {0}). Unit {0}) (λ u. marks)) (λ (u : Unit {0}). Spelled fits ok words) x p → Spelled fits ok (λ (y : X). marks ++ words y) x p
    there x p (u, a, b, s, t, join) = (t.0, subst (λ (q : List W). MatchesBy fits (marks ++ words x) q) (sym join) (matches_append fits marks (words x) a b s.1 t.1))

    back : (x : X) (p : List W) → Spelled fits ok (λ (y : X). marks ++ words y) x p → Then (Spelled fits (λ (u : Unit {0}). Unit {0}) (λ u. marks)) (λ (u : Unit {0}). Spelled fits ok words) x p
    back x p s =
        let t : Split P W fits marks (words x) p = matches_split fits marks (words x) p s.1 in
        (tt, t.before, t.behind, (tt, t.first), (s.0, t.second), t.are)

-- a part and marks behind it
pub spelled_ended : {P W X : Type 0} (fits : P → W → Type 0) (views : List (W → Option (Unit {0}))) {one : List W → Read W X} {ok : X → Type 0} {A : List W → Type 0} (marks : List P) (words : X → List P) → Exact W X one (Spelled fits ok words) A → Exact W (Unit {0}) (λ ws. marks_at views ws) (Spelled fits (λ _. Unit {0}) (λ _. marks)) Anything → ((b left : List W) → MatchesBy fits marks b → A (b ++ left)) → Exact W X (λ ws. ended_at one views ws) (Spelled fits ok (λ x. words x ++ marks)) Anything
spelled_ended {P} {W} {X} fits views {one} {ok} {A} marks words l m stop =
    exact_weaker (exact_after l (λ x. exact_after m (λ _. exact_done x) (λ u y b left t stops. tt)) stops) there back
  where
    Closed : X → X → List W → Type 0
    Closed x y q = Then (Spelled fits (λ (u : Unit {0}). Unit {0}) (λ u. marks)) (λ (u : Unit {0}) (z : X) (p : List W). (z ≡ x) × (p ≡ [])) y q

    only : (c e b : List W) → e ≡ [] → b ≡ c ++ e → b ≡ c
    only c e b nil join = join ∙ ap (λ (q : List W). c ++ q) nil ∙ append-nil c

    stops : (x y : X) (b left : List W) → Closed x y b → Anything left → A (b ++ left)
    stops x y b left (u, c, e, s, ended, join) any = subst (λ (q : List W). A (q ++ left)) (sym (only c e b ended.1 join)) (stop c left s.1)

    there : (y : X) (p : List W) → Then (Spelled fits ok words) Closed y p → Spelled fits ok (λ (x : X). words x ++ marks) y p
    there y p (x, a, b, s, (u, c, e, t, ended, join2), join) =
        let are : p ≡ a ++ c = join ∙ ap (λ (q : List W). a ++ q) (only c e b ended.1 join2) in
        let here : Spelled fits ok (λ (x : X). words x ++ marks) x (a ++ c) = (s.0, matches_append fits (words x) marks a c s.1 t.1) in
        subst (λ (v : X). Spelled fits ok (λ (x : X). words x ++ marks) v p) (sym ended.0) (subst (λ (q : List W). Spelled fits ok (λ (x : X). words x ++ marks) x q) (sym are) here)

    back : (y : X) (p : List W) → Spelled fits ok (λ (x : X). words x ++ marks) y p → Then (Spelled fits ok words) Closed y p
    back y p s =
        let t : Split P W fits (words y) marks p = matches_split fits (words y) marks p s.1 in
        (y, t.before, t.behind, (s.0, t.first), (tt, t.behind, [], (tt, t.second), (refl, refl), sym (append-nil t.behind)), t.are)
