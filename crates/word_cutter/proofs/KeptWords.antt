use Rattle.std.proofs.Common.{◌≡◌, ℕ, ◌+◌, ◌<◌, ◌≤◌, List, [], ◌∷◌, ◌++◌, length, take, get_or, Option, Some, None, Bool, true, false, cond, suc, zero, refl, sym, ap, ◌∙◌, arith, append_assoc, length-append}
use Rattle.std.specs.Prelude.{option_and_then}
use Rattle.std.specs.List.{prefix_len, AllByRecursion}
use Rattle.std.proofs.lemmas.List.{append-nil, length-take-le}
use Rattle.std.proofs.lemmas.List.Sums.{prefix_len-le-length, prefix_len_passes}
use Rattle.word_cutter.specs.Run.{run, Stops}
use Rattle.word_cutter.specs.Language.{outcome}

-- one byte more of a class
pub one_more : (v : Bool) (m n : ℕ) → suc n ≤ cond v (1 + m) 0 → (v ≡ true) × (n ≤ m)
one_more true m n h = (refl, omega arith)
one_more false m n h = absurd (omega arith)

-- A run of bytes of a class that a machine keeps, up to a limit.
pub keeps : {S : Type 0} (step : ℕ → S → ℕ → Option S) (class : ℕ → Bool) (limit : ℕ) (kept : List ℕ → S) → ((at : ℕ) (p : List ℕ) (b : ℕ) → class b ≡ true → length p < limit → step at (kept p) b ≡ Some (kept (p ++ b ∷ []))) → (bytes p : List ℕ) (n at : ℕ) → n ≤ prefix_len class bytes → length p + n ≤ limit → run step at (kept p) (take n bytes) ≡ Some (kept (p ++ take n bytes))
keeps step class limit kept one [] p zero at all short = ap (λ (l : List ℕ). Some (kept l)) (sym (append-nil p))
keeps step class limit kept one [] p (suc n) at all short = absurd (omega arith)
keeps step class limit kept one (b ∷ bytes) p zero at all short = ap (λ (l : List ℕ). Some (kept l)) (sym (append-nil p))
keeps step class limit kept one (b ∷ bytes) p (suc n) at all short =
    let is = one_more (class b) (prefix_len class bytes) n all in
    ap (option_and_then (λ t. run step (at + 1) t (take n bytes))) (one at p b is.0 (omega arith))
    ∙ keeps step class limit kept one bytes (p ++ b ∷ []) n (at + 1) is.1 (omega (arith, length-append p (b ∷ [])))
    ∙ ap (λ (l : List ℕ). Some (kept l)) (append_assoc p (b ∷ []) (take n bytes))

-- The byte past the limit.
pub too_long : {S : Type 0} (step : ℕ → S → ℕ → Option S) (class : ℕ → Bool) (limit : ℕ) (kept : List ℕ → S) → ((at : ℕ) (p : List ℕ) (b : ℕ) → class b ≡ true → length p < limit → step at (kept p) b ≡ Some (kept (p ++ b ∷ []))) → ((at : ℕ) (p : List ℕ) (b : ℕ) → class b ≡ true → limit ≤ length p → step at (kept p) b ≡ None) → (bytes p : List ℕ) (n at : ℕ) → length p + n ≡ limit → n < prefix_len class bytes → Stops step at (kept p) bytes n
too_long step class limit kept one none bytes p n at full long = record {
  within = omega (arith, long, prefix_len-le-length class bytes);
  state = kept (p ++ take n bytes);
  ran = keeps step class limit kept one bytes p n at (omega (arith, long)) (omega (arith, full));
  stops = none (at + n) (p ++ take n bytes) (get_or bytes n 0) (prefix_len_passes class bytes n 0 long) (omega (arith, length-append p (take n bytes), length-take-le n bytes (omega (arith, long, prefix_len-le-length class bytes)), full));
}

-- A run of bytes of a class at which a machine stays in its state.
pub stays : {S : Type 0} (step : ℕ → S → ℕ → Option S) (class : ℕ → Bool) (s : S) → ((at : ℕ) (b : ℕ) → class b ≡ true → step at s b ≡ Some s) → (bytes : List ℕ) (n at : ℕ) → n ≤ prefix_len class bytes → run step at s (take n bytes) ≡ Some s
stays step class s one [] zero at all = refl
stays step class s one [] (suc n) at all = absurd (omega arith)
stays step class s one (b ∷ bytes) zero at all = refl
stays step class s one (b ∷ bytes) (suc n) at all =
    let is = one_more (class b) (prefix_len class bytes) n all in
    ap (option_and_then (λ t. run step (at + 1) t (take n bytes))) (one at b is.0) ∙ stays step class s one bytes n (at + 1) is.1

-- one byte more of what was begun
pub byte_more : (begun front : List ℕ) (b c : ℕ) → begun ≡ front → b ≡ c → begun ++ b ∷ [] ≡ front ++ c ∷ []
byte_more begun front b c is same = ap (λ (l : List ℕ). l ++ b ∷ []) is ∙ ap (λ (x : ℕ). front ++ x ∷ []) same

-- The same for what the machine gives where more bytes follow.

pub kept_on : {S W : Type 0} (step : ℕ → S → ℕ → Option S) (end : S → Option W) (Is : ℕ → Type 0) (limit : ℕ) (kept : List ℕ → S) → ((at : ℕ) (p : List ℕ) (b : ℕ) → Is b → length p < limit → step at (kept p) b ≡ Some (kept (p ++ b ∷ []))) → (bytes rest p : List ℕ) (at : ℕ) → AllByRecursion Is bytes → length p + length bytes ≤ limit → outcome step end at (kept p) (bytes ++ rest) ≡ outcome step end (at + length bytes) (kept (p ++ bytes)) rest
kept_on step end Is limit kept one [] rest p at are short =
    ap (λ (x : ℕ). outcome step end x (kept p) rest) (omega arith) ∙ ap (λ (l : List ℕ). outcome step end (at + 0) (kept l) rest) (sym (append-nil p))
kept_on step end Is limit kept one (b ∷ bytes) rest p at are short =
    ap (option_and_then (λ t. outcome step end (at + 1) t (bytes ++ rest))) (one at p b are.0 (omega arith))
    ∙ kept_on step end Is limit kept one bytes rest (p ++ b ∷ []) (at + 1) are.1 (omega (arith, length-append p (b ∷ [])))
    ∙ ap (λ (x : ℕ). outcome step end x (kept ((p ++ b ∷ []) ++ bytes)) rest) (omega arith)
    ∙ ap (λ (l : List ℕ). outcome step end (at + length (b ∷ bytes)) (kept l) rest) (append_assoc p (b ∷ []) bytes)

pub stayed_on : {S W : Type 0} (step : ℕ → S → ℕ → Option S) (end : S → Option W) (Is : ℕ → Type 0) (s : S) → ((at : ℕ) (b : ℕ) → Is b → step at s b ≡ Some s) → (bytes rest : List ℕ) (at : ℕ) → AllByRecursion Is bytes → outcome step end at s (bytes ++ rest) ≡ outcome step end (at + length bytes) s rest
stayed_on step end Is s one [] rest at are = ap (λ (x : ℕ). outcome step end x s rest) (omega arith)
stayed_on step end Is s one (b ∷ bytes) rest at are =
    ap (option_and_then (λ t. outcome step end (at + 1) t (bytes ++ rest))) (one at b are.0)
    ∙ stayed_on step end Is s one bytes rest (at + 1) are.1
    ∙ ap (λ (x : ℕ). outcome step end x s rest) (omega arith)
