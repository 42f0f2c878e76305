-- Readers that choose by a mark, and readers of a whole section.
use Rattle.std.proofs.Common.{◌≡◌, List, [], ◌∷◌, ◌++◌, Some, None, refl, sym, ap, subst, ◌∙◌, append-nil, inl, inr, ◌⊎◌}
use Rattle.list_laws.proofs.Options.{none_some}
use Rattle.bsdl_device.specs.Patterns.{MatchesBy}
use Rattle.bsdl_device.specs.Runs.{ContentWord, ContentPattern, Fits}
use Rattle.bsdl_device.specs.Readers.{Read, done, after, end_at}
use Rattle.bsdl_device.proofs.Exact.{Exact, Then, exact_after, exact_done, exact_weaker}
use Rattle.bsdl_device.proofs.Choices.{NotNext, EitherWay, exact_either}
use Rattle.bsdl_device.proofs.Matched.{Spelled, exact_stops}
use Rattle.bsdl_contents.specs.Reader.{seen_as, choice_at, whole_at}

-- what both ways make of what they read, and the patterns that spell it
pub record Ways (X Y Z : Type 0) (mark : ContentPattern) (make : X → Y) (make_other : Z → Y) (ok : X → Type 0) (fair : Z → Type 0) (fine : Y → Type 0) (words : X → List ContentPattern) (others : Z → List ContentPattern) (spelling : Y → List ContentPattern) : Type 0 where
  pub each : (y : Y) → ((x : X) × (y ≡ make x)) ⊎ ((z : Z) × (y ≡ make_other z))
  pub fine_to : (x : X) → ok x → fine (make x)
  pub fine_from : (x : X) → fine (make x) → ok x
  pub fair_to : (z : Z) → fair z → fine (make_other z)
  pub fair_from : (z : Z) → fine (make_other z) → fair z
  pub spelled : (x : X) → spelling (make x) ≡ mark ∷ words x
  pub other_spelled : (z : Z) → spelling (make_other z) ≡ others z

pub spelled_choice : {X Y Z : Type 0} {one : List ContentWord → Read ContentWord X} {other : List ContentWord → Read ContentWord Z} {ok : X → Type 0} {fair : Z → Type 0} {fine : Y → Type 0} {words : X → List ContentPattern} {others : Z → List ContentPattern} {spelling : Y → List ContentPattern} {B : List ContentWord → Type 0} (mark : ContentPattern) (make : X → Y) (make_other : Z → Y) → Ways X Y Z mark make make_other ok fair fine words others spelling → ((w : ContentWord) → seen_as mark w ≡ Some tt → Fits mark w) → ((w : ContentWord) → Fits mark w → seen_as mark w ≡ Some tt) → Exact ContentWord X one (Spelled Fits ok words) B → Exact ContentWord Z other (Spelled Fits fair others) B → ((z : Z) (p left : List ContentWord) → MatchesBy Fits (others z) p → B left → NotNext (seen_as mark) (p ++ left)) → Exact ContentWord Y (λ ws. choice_at mark make one make_other other ws) (Spelled Fits fine spelling) B
spelled_choice {X} {Y} {Z} {one} {other} {ok} {fair} {fine} {words} {others} {spelling} {B} mark make make_other ways to from l m unseen =
    exact_weaker (exact_either (seen_as mark) (λ _. first_law) other_law not_seen) there back
  where
    Made : X → Y → List ContentWord → Type 0
    Made x y q = (y ≡ make x) × (q ≡ [])

    MadeOther : Z → Y → List ContentWord → Type 0
    MadeOther z y q = (y ≡ make_other z) × (q ≡ [])

    First : Y → List ContentWord → Type 0
    First y p = Then (Spelled Fits ok words) Made y p

    Second : Y → List ContentWord → Type 0
    Second y p = Then (Spelled Fits fair others) MadeOther y p

    first_stops : (x : X) (y : Y) (b left : List ContentWord) → Made x y b → B left → B (b ++ left)
    first_stops x y b left t stop = subst (λ (q : List ContentWord). B (q ++ left)) (sym t.1) stop

    other_stops : (z : Z) (y : Y) (b left : List ContentWord) → MadeOther z y b → B left → B (b ++ left)
    other_stops z y b left t stop = subst (λ (q : List ContentWord). B (q ++ left)) (sym t.1) stop

    first_law : Exact ContentWord Y (λ a. after (one a) (λ x b. done (make x) b)) First B
    first_law = exact_after l (λ x. exact_stops (exact_done (make x)) (λ left t. tt)) first_stops

    other_law : Exact ContentWord Y (λ a. after (other a) (λ z b. done (make_other z) b)) Second B
    other_law = exact_after m (λ z. exact_stops (exact_done (make_other z)) (λ left t. tt)) other_stops

    only : (a b p : List ContentWord) → b ≡ [] → p ≡ a ++ b → p ≡ a
    only a b p nil join = join ∙ ap (λ (q : List ContentWord). a ++ q) nil ∙ append-nil a

    not_seen : (y : Y) (p left : List ContentWord) → Second y p → B left → NotNext (seen_as mark) (p ++ left)
    not_seen y p left (z, a, b, s, e, join) stop = subst (λ (q : List ContentWord). NotNext (seen_as mark) (q ++ left)) (sym (only a b p e.1 join)) (unseen z a left s.1 stop)

    S : Y → List ContentWord → Type 0
    S y p = Spelled Fits fine spelling y p

    there : (y : Y) (p : List ContentWord) → EitherWay (seen_as mark) (λ (u : Unit {0}). First) Second y p → S y p
    there y p (inl (u, w, b, seen, (x, a, c, s, e, join), is)) =
        let are : p ≡ w ∷ a = is ∙ ap (λ (q : List ContentWord). w ∷ q) (only a c b e.1 join) in
        let here : S (make x) (w ∷ a) = (ways.fine_to x s.0, subst (λ (q : List ContentPattern). MatchesBy Fits q (w ∷ a)) (sym (ways.spelled x)) (to w seen, s.1)) in
        subst (λ (v : Y). S v p) (sym e.0) (subst (λ (q : List ContentWord). S (make x) q) (sym are) here)
    there y p (inr (z, a, b, s, e, join)) =
        let here : S (make_other z) a = (ways.fair_to z s.0, subst (λ (q : List ContentPattern). MatchesBy Fits q a) (sym (ways.other_spelled z)) s.1) in
        subst (λ (v : Y). S v p) (sym e.0) (subst (λ (q : List ContentWord). S (make_other z) q) (sym (only a b p e.1 join)) here)

    first_back : (x : X) (y : Y) (p : List ContentWord) → y ≡ make x → fine (make x) → MatchesBy Fits (mark ∷ words x) p → EitherWay (seen_as mark) (λ (u : Unit {0}). First) Second y p
    first_back x y [] e ok_there n = absurd n
    first_back x y (w ∷ q) e ok_there n = inl (tt, w, q, from w n.0, (x, q, [], (ways.fine_from x ok_there, n.1), (e, refl), sym (append-nil q)), refl)

    split : (y : Y) (p : List ContentWord) → S y p → ((x : X) × (y ≡ make x)) ⊎ ((z : Z) × (y ≡ make_other z)) → EitherWay (seen_as mark) (λ (u : Unit {0}). First) Second y p
    split y p s (inl (x, e)) =
        let t : S (make x) p = subst (λ (v : Y). S v p) e s in
        first_back x y p e t.0 (subst (λ (q : List ContentPattern). MatchesBy Fits q p) (ways.spelled x) t.1)
    split y p s (inr (z, e)) =
        let t : S (make_other z) p = subst (λ (v : Y). S v p) e s in
        inr (z, p, [], (ways.fair_from z t.0, subst (λ (q : List ContentPattern). MatchesBy Fits q p) (ways.other_spelled z) t.1), (e, refl), sym (append-nil p))

    back : (y : Y) (p : List ContentWord) → S y p → EitherWay (seen_as mark) (λ (u : Unit {0}). First) Second y p
    back y p s = split y p s (ways.each y)

-- Whole sections.

-- all of the words are those of what is read
pub whole_complete : {X : Type 0} {one : List ContentWord → Read ContentWord X} (ok : X → Type 0) (words : X → List ContentPattern) {B : List ContentWord → Type 0} → Exact ContentWord X one (Spelled Fits ok words) B → B [] → (ws : List ContentWord) (x : X) → ok x → MatchesBy Fits (words x) ws → whole_at one ws ≡ (Some x, [])
whole_complete {X} {one} ok words l stop ws x keeps m =
    let read = l.complete x ws [] (keeps, m) stop in
    let here : one ws ≡ (Some x, []) = ap (λ (q : List ContentWord). one q) (sym (append-nil ws)) ∙ read in
    ap (λ (r : Read ContentWord X). after r (λ y a. after (end_at a) (λ _ b. done y b))) here

pub whole_sound : {X : Type 0} {one : List ContentWord → Read ContentWord X} (ok : X → Type 0) (words : X → List ContentPattern) {B : List ContentWord → Type 0} → Exact ContentWord X one (Spelled Fits ok words) B → (ws : List ContentWord) (x : X) → (whole_at one ws).0 ≡ Some x → Spelled Fits ok words x ws
whole_sound {X} {one} ok words l ws x h = go (one ws) refl h
  where
    ended : (y : X) (a : List ContentWord) → one ws ≡ (Some y, a) → (after (end_at a) (λ _ b. done y b)).0 ≡ Some x → Spelled Fits ok words x ws
    ended y [] e k =
        let s = l.sound ws y [] e in
        let same : y ≡ x = cc in
        let here : s.0 ≡ ws = sym (append-nil s.0) ∙ sym s.1 in
        subst (λ (z : X). Spelled Fits ok words z ws) same (subst (λ (q : List ContentWord). Spelled Fits ok words y q) here s.2)
    ended y (w ∷ a) e k = none_some k

    go : (read : Read ContentWord X) → one ws ≡ read → (after read (λ y a. after (end_at a) (λ _ b. done y b))).0 ≡ Some x → Spelled Fits ok words x ws
    go (None, a) e k = none_some k
    go (Some y, a) e k = ended y a e k
