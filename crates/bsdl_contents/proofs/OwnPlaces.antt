-- The place of the last comma before the first `[`.
use Rattle.std.proofs.Common.{◌≡◌, ℕ, suc, ◌+◌, ◌<◌, ◌≤◌, ◌==◌, Bool, true, false, cond, List, [], ◌∷◌, ◌++◌, length, take, drop, get_or, Option, Some, None, refl, sym, ap, ◌∙◌, arith, ◌⊎◌, inl, inr}
use Rattle.std.proofs.lemmas.List.{drop_more, drop_all}
use borrow.Author.Tests.{eqb-true}
use Rattle.list_laws.proofs.Tests.{or_first, or_second}
use Rattle.bsdl_contents.specs.OwnPlaces.{place_from}
use Rattle.bsdl_contents.proofs.Cuts.{has_byte}

abbrev next : Bool → Bool → Option ℕ → ℕ → List ℕ → Option ℕ
next bracket comma last at bytes = cond bracket last (place_from (cond comma (Some at) last) (at + 1) bytes)

skips : (n y : List ℕ) (last : Option ℕ) (at : ℕ) → has_byte 91 n ≡ false → has_byte 44 n ≡ false → place_from last at (n ++ 91 ∷ y) ≡ last
skips [] y last at h k = refl
skips (b ∷ n) y last at h k =
    ap (λ (t : Bool). next t (b == 44) last at (n ++ 91 ∷ y)) (or_first (b == 91) (has_byte 91 n) h)
    ∙ ap (λ (t : Bool). next false t last at (n ++ 91 ∷ y)) (or_first (b == 44) (has_byte 44 n) k)
    ∙ skips n y last (at + 1) (or_second (b == 91) (has_byte 91 n) h) (or_second (b == 44) (has_byte 44 n) k)

pub place_there : (a n y : List ℕ) (last : Option ℕ) (at : ℕ) → has_byte 91 a ≡ false → has_byte 91 n ≡ false → has_byte 44 n ≡ false → place_from last at (a ++ 44 ∷ (n ++ 91 ∷ y)) ≡ Some (at + length a)
place_there [] n y last at h i k = skips n y (Some at) (at + 1) i k ∙ ap (λ (m : ℕ). Some m) (let same : at ≡ at + 0 = omega arith in same)
place_there (b ∷ a) n y last at h i k =
    ap (λ (t : Bool). next t (b == 44) last at (a ++ 44 ∷ (n ++ 91 ∷ y))) (or_first (b == 91) (has_byte 91 a) h)
    ∙ place_there a n y (cond (b == 44) (Some at) last) (at + 1) (or_second (b == 91) (has_byte 91 a) h) i k
    ∙ ap (λ (m : ℕ). Some m) (let same : at + 1 + length a ≡ at + suc (length a) = omega arith in same)

-- none without a `[`
pub place_none : (bytes : List ℕ) (last : Option ℕ) (at : ℕ) → has_byte 91 bytes ≡ false → place_from last at bytes ≡ None
place_none [] last at h = refl
place_none (b ∷ bytes) last at h =
    ap (λ (t : Bool). next t (b == 44) last at bytes) (or_first (b == 91) (has_byte 91 bytes) h)
    ∙ place_none bytes (cond (b == 44) (Some at) last) (at + 1) (or_second (b == 91) (has_byte 91 bytes) h)

-- a comma there
pub record CommaAt (bytes : List ℕ) (at place : ℕ) : Type 0 where
  pub a : List ℕ
  pub b : List ℕ
  pub is : bytes ≡ a ++ 44 ∷ b
  pub there : place ≡ at + length a

further : (b : ℕ) (bytes : List ℕ) (at place : ℕ) → CommaAt bytes (at + 1) place → CommaAt (b ∷ bytes) at place
further b bytes at place c = record { a = b ∷ c.a; b = c.b; is = ap (λ (l : List ℕ). b ∷ l) c.is; there = c.there ∙ (let same : at + 1 + length c.a ≡ at + suc (length c.a) = omega arith in same) }

place_sound : (bytes : List ℕ) (last : Option ℕ) (at place : ℕ) → place_from last at bytes ≡ Some place → (last ≡ Some place) ⊎ CommaAt bytes at place
place_sound [] last at place h = absurd (cc)
place_sound (b ∷ bytes) last at place h = go (b == 91) (b == 44) refl (λ o k. place_sound bytes o (at + 1) place k) h
  where
    behind : (o : Option ℕ) → (o ≡ Some place) ⊎ CommaAt bytes (at + 1) place → (o ≡ Some place → (last ≡ Some place) ⊎ CommaAt (b ∷ bytes) at place) → (last ≡ Some place) ⊎ CommaAt (b ∷ bytes) at place
    behind o (inl e) f = f e
    behind o (inr c) f = inr (further b bytes at place c)

    go : (bracket comma : Bool) → (b == 44) ≡ comma → ((o : Option ℕ) → place_from o (at + 1) bytes ≡ Some place → (o ≡ Some place) ⊎ CommaAt bytes (at + 1) place) → next bracket comma last at bytes ≡ Some place → (last ≡ Some place) ⊎ CommaAt (b ∷ bytes) at place
    go true comma e again k = inl k
    go false true e again k = behind (Some at) (again (Some at) k) (λ (f : Some at ≡ Some place).
        let here : at ≡ place = cc in
        inr (record { a = []; b = bytes; is = ap (λ (n : ℕ). n ∷ bytes) (eqb-true b 44 e); there = sym here ∙ (let same : at ≡ at + 0 = omega arith in same) }))
    go false false e again k = behind last (again last k) (λ f. inl f)

pub comma_at : (bytes : List ℕ) (place : ℕ) → place_from None 0 bytes ≡ Some place → CommaAt bytes 0 place
comma_at bytes place h = go (place_sound bytes None 0 place h)
  where
    go : (None ≡ Some place) ⊎ CommaAt bytes 0 place → CommaAt bytes 0 place
    go (inl e) = absurd (cc)
    go (inr c) = c

front_of : (a b : List ℕ) (m : ℕ) → take (length a) (a ++ m ∷ b) ≡ a
front_of [] b m = refl
front_of (x ∷ a) b m = ap (λ (l : List ℕ). x ∷ l) (front_of a b m)

back_of : (a b : List ℕ) (m : ℕ) → drop (suc (length a)) (a ++ m ∷ b) ≡ b
back_of [] b m = refl
back_of (x ∷ a) b m = back_of a b m

pub before_place : (bytes a b : List ℕ) (m place : ℕ) → bytes ≡ a ++ m ∷ b → place ≡ 0 + length a → take place bytes ≡ a
before_place bytes a b m place is there =
    ap (λ (l : List ℕ). take place l) is ∙ ap (λ (n : ℕ). take n (a ++ m ∷ b)) (let same : place ≡ length a = omega (arith, there) in same) ∙ front_of a b m

pub behind_place : (bytes a b : List ℕ) (m place : ℕ) → bytes ≡ a ++ m ∷ b → place ≡ 0 + length a → drop (place + 1) bytes ≡ b
behind_place bytes a b m place is there =
    ap (λ (l : List ℕ). drop (place + 1) l) is ∙ ap (λ (n : ℕ). drop n (a ++ m ∷ b)) (let same : place + 1 ≡ suc (length a) = omega (arith, there) in same) ∙ back_of a b m

longer : (a b : List ℕ) (m : ℕ) → length a < length (a ++ m ∷ b)
longer [] b m = omega arith
longer (x ∷ a) b m = let more : length a < length (a ++ m ∷ b) = longer a b m in omega arith

pub place_within : (bytes : List ℕ) (place : ℕ) → place_from None 0 bytes ≡ Some place → place < length bytes
place_within bytes place h =
    let c = comma_at bytes place h in
    let within : length c.a < length (c.a ++ 44 ∷ c.b) = longer c.a c.b 44 in
    let whole : length bytes ≡ length (c.a ++ 44 ∷ c.b) = ap length c.is in
    omega (arith, c.there)

-- The loop.

pub place_here : (bytes : List ℕ) (i : ℕ) (last : Option ℕ) → i < length bytes → (get_or bytes i 0 == 91) ≡ true → place_from last i (drop i bytes) ≡ last
place_here bytes i last within is = ap (place_from last i) (drop_more bytes i 0 within) ∙ ap (λ (t : Bool). next t (get_or bytes i 0 == 44) last i (drop (i + 1) bytes)) is

pub place_comma : (bytes : List ℕ) (i : ℕ) (last : Option ℕ) → i < length bytes → (get_or bytes i 0 == 91) ≡ false → (get_or bytes i 0 == 44) ≡ true → place_from last i (drop i bytes) ≡ place_from (Some i) (i + 1) (drop (i + 1) bytes)
place_comma bytes i last within other is =
    ap (place_from last i) (drop_more bytes i 0 within) ∙ ap (λ (t : Bool). next t (get_or bytes i 0 == 44) last i (drop (i + 1) bytes)) other ∙ ap (λ (t : Bool). next false t last i (drop (i + 1) bytes)) is

pub place_other : (bytes : List ℕ) (i : ℕ) (last : Option ℕ) → i < length bytes → (get_or bytes i 0 == 91) ≡ false → (get_or bytes i 0 == 44) ≡ false → place_from last i (drop i bytes) ≡ place_from last (i + 1) (drop (i + 1) bytes)
place_other bytes i last within unlike other =
    ap (place_from last i) (drop_more bytes i 0 within) ∙ ap (λ (t : Bool). next t (get_or bytes i 0 == 44) last i (drop (i + 1) bytes)) unlike ∙ ap (λ (t : Bool). next false t last i (drop (i + 1) bytes)) other

pub place_past : (bytes : List ℕ) (i : ℕ) (last : Option ℕ) → length bytes ≤ i → place_from last i (drop i bytes) ≡ None
place_past bytes i last past = ap (place_from last i) (drop_all i bytes past)
