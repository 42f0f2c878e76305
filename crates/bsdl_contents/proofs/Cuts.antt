-- Where a symbol that stands alone cuts joined strings and their words.
use Rattle.std.proofs.Common.{◌≡◌, ℕ, ◌==◌, Bool, true, false, cond, List, [], ◌∷◌, ◌++◌, refl, sym, ap, ◌∙◌, ◌⊎◌, inl, inr}
use Rattle.std.specs.Prelude.{◌||◌}
use Rattle.std.specs.List.{list_any}
use borrow.Author.Tests.{eqb-true}
use Rattle.list_laws.proofs.Tests.{or_first, or_second, neither}
use Rattle.bsdl_lexicon.specs.Bytes.{is_name_byte}
use Rattle.bsdl_device.specs.Runs.{ContentWord, Run, Other, content_words, lengthened, begins_run}
use Rattle.bsdl_contents.proofs.RunLengths.{words_other}

-- no byte of a run, and no blank
pub record Alone (m : ℕ) : Type 0 where
  pub apart : is_name_byte m ≡ false
  pub unblank : (m == 32) ≡ false

-- the words with one byte more before them
abbrev step : Bool → Bool → Bool → ℕ → List ContentWord → List ContentWord
step name begun blank x ws = cond name (cond begun (lengthened x ws) (Run (x ∷ []) ∷ ws)) (cond blank ws (Other x ∷ ws))

begins : (m : ℕ) → Alone m → (a b : List ℕ) → begins_run (a ++ m ∷ b) ≡ begins_run a
begins m s [] b = s.apart
begins m s (x ∷ a) b = refl

step_cut : (name begun blank : Bool) (x m : ℕ) (A B : List ContentWord) → step name begun blank x (A ++ Other m ∷ B) ≡ step name begun blank x A ++ Other m ∷ B
step_cut true true blank x m [] B = refl
step_cut true true blank x m (Run r ∷ A) B = refl
step_cut true true blank x m (Other o ∷ A) B = refl
step_cut true false blank x m A B = refl
step_cut false begun true x m A B = refl
step_cut false begun false x m A B = refl

-- the words of both sides
pub words_cut : (m : ℕ) → Alone m → (a b : List ℕ) → content_words (a ++ m ∷ b) ≡ content_words a ++ Other m ∷ content_words b
words_cut m s [] b = words_other m b s.apart s.unblank
words_cut m s (x ∷ a) b =
    ap (λ (t : Bool). step (is_name_byte x) t (x == 32) x (content_words (a ++ m ∷ b))) (begins m s a b)
    ∙ ap (λ (ws : List ContentWord). step (is_name_byte x) (begins_run a) (x == 32) x ws) (words_cut m s a b)
    ∙ step_cut (is_name_byte x) (begins_run a) (x == 32) x m (content_words a) (content_words b)

-- The bytes of both sides.

pub record CutAt (m : ℕ) (bytes : List ℕ) (A B : List ContentWord) : Type 0 where
  pub a : List ℕ
  pub b : List ℕ
  pub is : bytes ≡ a ++ m ∷ b
  pub front : content_words a ≡ A
  pub back : content_words b ≡ B

grown : (m : ℕ) → Alone m → (x : ℕ) (bytes : List ℕ) (A B C : List ContentWord) → CutAt m bytes A B → step (is_name_byte x) (begins_run bytes) (x == 32) x A ≡ C → CutAt m (x ∷ bytes) C B
grown m s x bytes A B C c e = record {
  a = x ∷ c.a;
  b = c.b;
  is = ap (λ (l : List ℕ). x ∷ l) c.is;
  front = ap (λ (t : Bool). step (is_name_byte x) t (x == 32) x (content_words c.a)) (sym (begins m s c.a c.b) ∙ ap begins_run (sym c.is)) ∙ ap (λ (ws : List ContentWord). step (is_name_byte x) (begins_run bytes) (x == 32) x ws) c.front ∙ e;
  back = c.back;
}

-- the symbol stands among the words behind the byte, or the byte is it
found : (name begun blank : Bool) (x m : ℕ) (ws A B : List ContentWord) → step name begun blank x ws ≡ A ++ Other m ∷ B
    → ((C : List ContentWord) × (ws ≡ C ++ Other m ∷ B) × (step name begun blank x C ≡ A)) ⊎ ((x ≡ m) × (A ≡ []) × (ws ≡ B))
found true true blank x m [] [] B h = absurd (cc)
found true true blank x m [] (w ∷ []) B h = absurd (cc)
found true true blank x m [] (w ∷ v ∷ A) B h = absurd (cc)
found true true blank x m (Run r ∷ ws) [] B h = absurd (cc)
found true true blank x m (Run r ∷ ws) (w ∷ A) B h =
    let rest : ws ≡ A ++ Other m ∷ B = cc in
    let first : Run (x ∷ r) ≡ w = cc in
    inl (Run r ∷ A, ap (λ (l : List ContentWord). Run r ∷ l) rest, ap (λ (v : ContentWord). v ∷ A) first)
found true true blank x m (Other o ∷ ws) [] B h = absurd (cc)
found true true blank x m (Other o ∷ ws) (w ∷ []) B h =
    let rest : Other o ∷ ws ≡ Other m ∷ B = cc in
    let first : Run (x ∷ []) ≡ w = cc in
    inl ([], rest, ap (λ (v : ContentWord). v ∷ []) first)
found true true blank x m (Other o ∷ ws) (w ∷ Run r ∷ A) B h = absurd (cc)
found true true blank x m (Other o ∷ ws) (w ∷ Other p ∷ A) B h =
    let rest : Other o ∷ ws ≡ Other p ∷ (A ++ Other m ∷ B) = cc in
    let first : Run (x ∷ []) ≡ w = cc in
    inl (Other p ∷ A, rest, ap (λ (v : ContentWord). v ∷ Other p ∷ A) first)
found true false blank x m ws [] B h = absurd (cc)
found true false blank x m ws (w ∷ A) B h =
    let rest : ws ≡ A ++ Other m ∷ B = cc in
    let first : Run (x ∷ []) ≡ w = cc in
    inl (A, rest, ap (λ (v : ContentWord). v ∷ A) first)
found false begun true x m ws A B h = inl (A, h, refl)
found false begun false x m ws [] B h =
    let rest : ws ≡ B = cc in
    let first : x ≡ m = cc in
    inr (first, refl, rest)
found false begun false x m ws (w ∷ A) B h =
    let rest : ws ≡ A ++ Other m ∷ B = cc in
    let first : Other x ≡ w = cc in
    inl (A, rest, ap (λ (v : ContentWord). v ∷ A) first)

pub cut_words : (m : ℕ) → Alone m → (bytes : List ℕ) (A B : List ContentWord) → content_words bytes ≡ A ++ Other m ∷ B → CutAt m bytes A B
cut_words m s [] [] B h = absurd (cc)
cut_words m s [] (w ∷ A) B h = absurd (cc)
cut_words m s (x ∷ bytes) A B h = by (λ C k. cut_words m s bytes C B k) (found (is_name_byte x) (begins_run bytes) (x == 32) x m (content_words bytes) A B h)
  where
    by : ((C : List ContentWord) → content_words bytes ≡ C ++ Other m ∷ B → CutAt m bytes C B)
        → ((C : List ContentWord) × (content_words bytes ≡ C ++ Other m ∷ B) × (step (is_name_byte x) (begins_run bytes) (x == 32) x C ≡ A)) ⊎ ((x ≡ m) × (A ≡ []) × (content_words bytes ≡ B))
        → CutAt m (x ∷ bytes) A B
    by again (inl (C, before, e)) = grown m s x bytes C B A (again C before) e
    by again (inr (same, none, rest)) = record { a = []; b = bytes; is = ap (λ (n : ℕ). n ∷ bytes) same; front = sym none; back = rest }

-- Bytes that aren't there.

abbrev pub is_other : ℕ → ContentWord → Bool
is_other m (Run r) = false
is_other m (Other b) = b == m

abbrev pub has_byte : ℕ → List ℕ → Bool
has_byte m bytes = list_any (λ b. b == m) bytes

any_step : (name begun blank : Bool) (x m : ℕ) (ws : List ContentWord) → list_any (is_other m) (step name begun blank x ws) ≡ (cond name false (cond blank false (x == m)) || list_any (is_other m) ws)
any_step true true blank x m [] = refl
any_step true true blank x m (Run r ∷ ws) = refl
any_step true true blank x m (Other o ∷ ws) = refl
any_step true false blank x m ws = refl
any_step false begun true x m ws = refl
any_step false begun false x m ws = refl

differs : (p : ℕ → Bool) (x m : ℕ) → p x ≡ true → p m ≡ false → (x == m) ≡ false
differs p x m here there = go (x == m) refl
  where
    go : (t : Bool) → (x == m) ≡ t → (x == m) ≡ false
    go true e = let same : x ≡ m = eqb-true x m e in let no : true ≡ false = sym here ∙ ap p same ∙ there in absurd (cc)
    go false e = e

pub none_in : (m : ℕ) → Alone m → (bytes : List ℕ) → list_any (is_other m) (content_words bytes) ≡ false → has_byte m bytes ≡ false
none_in m s [] h = refl
none_in m s (x ∷ bytes) h =
    go (is_name_byte x) (x == 32) refl refl (λ k. none_in m s bytes k) (sym (any_step (is_name_byte x) (begins_run bytes) (x == 32) x m (content_words bytes)) ∙ h)
  where
    go : (name blank : Bool) → is_name_byte x ≡ name → (x == 32) ≡ blank → (list_any (is_other m) (content_words bytes) ≡ false → has_byte m bytes ≡ false) → (cond name false (cond blank false (x == m)) || list_any (is_other m) (content_words bytes)) ≡ false → ((x == m) || has_byte m bytes) ≡ false
    go true blank e f more k = neither (x == m) (has_byte m bytes) (differs is_name_byte x m e s.apart) (more k)
    go false true e f more k = neither (x == m) (has_byte m bytes) (differs (λ n. n == 32) x m f s.unblank) (more k)
    go false false e f more k = neither (x == m) (has_byte m bytes) (or_first (x == m) (list_any (is_other m) (content_words bytes)) k) (more (or_second (x == m) (list_any (is_other m) (content_words bytes)) k))
