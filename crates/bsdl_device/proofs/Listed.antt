-- Readers of lists whose parts are spelled by patterns.
use Rattle.std.proofs.Common.{◌≡◌, List, [], ◌∷◌, ◌++◌, IsTrue, Option, Some, refl, sym, ap, subst}
use Rattle.std.specs.List.{AllByRecursion}
use Rattle.bsdl_device.specs.Patterns.{MatchesBy, each_after, separated_by, is_filled}
use Rattle.bsdl_device.specs.Readers.{Read, some_of}
use Rattle.bsdl_device.proofs.Exact.{Exact, Anything, exact_weaker}
use Rattle.bsdl_device.proofs.Choices.{MoreOf, SomeOf, NotNext, exact_some}
use Rattle.bsdl_device.proofs.Matched.{Spelled, Split, matches_append, matches_split}

-- one part or more, each of which keeps the rule
abbrev pub AreSome : {X : Type 0} → (X → Type 0) → List X → Type 0
AreSome ok xs = IsTrue (is_filled xs) × AllByRecursion ok xs

pub spelled_some : {P W X : Type 0} (fits : P → W → Type 0) {one : List W → Read W X} {ok : X → Type 0} (words : X → List P) (mark : P) (view : W → Option (Unit {0})) → ((w : W) → view w ≡ Some tt → fits mark w) → ((w : W) → fits mark w → view w ≡ Some tt) → Exact W X one (Spelled fits ok words) Anything → Exact W (List X) (λ ws. some_of view one ws) (Spelled fits (AreSome ok) (λ xs. separated_by mark words xs)) (NotNext view)
spelled_some {P} {W} {X} fits {one} {ok} words mark view to from l = exact_weaker (exact_some view l) there back
  where
    more_there : (xs : List X) (p : List W) → MoreOf view (Spelled fits ok words) xs p → AllByRecursion ok xs × MatchesBy fits (each_after mark words xs) p
    more_there [] p m = (tt, subst (λ (q : List W). MatchesBy fits [] q) (sym m) tt)
    more_there (x ∷ xs) p (w, a, b, seen, s, m, is) =
        let r = more_there xs b m in
        ((s.0, r.0), subst (λ (q : List W). MatchesBy fits (mark ∷ (words x ++ each_after mark words xs)) q) (sym is) (to w seen, matches_append fits (words x) (each_after mark words xs) a b s.1 r.1))

    more_back : (xs : List X) (p : List W) → AllByRecursion ok xs → MatchesBy fits (each_after mark words xs) p → MoreOf view (Spelled fits ok words) xs p
    more_back [] [] all m = refl
    more_back [] (w ∷ p) all m = absurd m
    more_back (x ∷ xs) [] all m = absurd m
    more_back (x ∷ xs) (w ∷ p) all m =
        let s : Split P W fits (words x) (each_after mark words xs) p = matches_split fits (words x) (each_after mark words xs) p m.1 in
        (w, s.before, s.behind, from w m.0, (all.0, s.first), more_back xs s.behind all.1 s.second, ap (λ (q : List W). w ∷ q) s.are)

    there : (xs : List X) (p : List W) → SomeOf view (Spelled fits ok words) xs p → Spelled fits (AreSome ok) (λ (ys : List X). separated_by mark words ys) xs p
    there [] p none = absurd none
    there (x ∷ xs) p (a, b, s, m, is) =
        let r = more_there xs b m in
        ((refl, (s.0, r.0)), subst (λ (q : List W). MatchesBy fits (words x ++ each_after mark words xs) q) (sym is) (matches_append fits (words x) (each_after mark words xs) a b s.1 r.1))

    back : (xs : List X) (p : List W) → Spelled fits (AreSome ok) (λ (ys : List X). separated_by mark words ys) xs p → SomeOf view (Spelled fits ok words) xs p
    back [] p s = absurd (cc)
    back (x ∷ xs) p s =
        let t : Split P W fits (words x) (each_after mark words xs) p = matches_split fits (words x) (each_after mark words xs) p s.1 in
        (t.before, t.behind, (s.0.1.0, t.first), more_back xs t.behind s.0.1.1 t.second, t.are)
