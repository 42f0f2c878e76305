-- The first name that is barred.
use Rattle.std.proofs.Common.{◌≡◌, ◌≢◌, ◌<◌, ◌≤◌, ℕ, zero, suc, Bool, true, false, ◌||◌, if◌then◌else◌, List, [], ◌∷◌, ◌++◌, take, drop, length, slice_get, slice_index_or, Bor, ◌+◌, Option, Some, None, refl, sym, ap, ◌∙◌, append_assoc, append-nil, arith}
use Rattle.std.specs.Str.{bytes_eq}
use Rattle.std.specs.List.{list_any}
use Rattle.std.proofs.lemmas.Slice.Eq.{bytes_eq-Decides}
use Rattle.list_laws.specs.Options.{or_else}
use Rattle.list_laws.proofs.Bytes.{bytes_eq-same}
use Rattle.list_laws.proofs.Lists.{any_at, in_front, left_at, none_left}
use Rattle.list_laws.proofs.Tests.{or_first, or_second, neither, never_true, both_false}
use Rattle.texts.specs.Repeated.{has_name, repeated_after, repeated, texts, bytes_of}
use Rattle.cell_text.specs.Words.{Words}
use Rattle.cell_text.specs.Rules.{is_unfit, is_barred, barred_after}
use Rattle.cell_text.specs.Reader.{fit_count}
use Rattle.cell_text.proofs.Borrowed.{texts_length, texts_take, past}

abbrev told : Words → List ℕ → Words → Bool → Option (List ℕ)
told before name names came = or_else (if came then Some name else repeated_after (before ++ name ∷ []) (take (fit_count names) names)) (slice_get names (fit_count names))

barred_from : (before names : Words) → barred_after before names ≡ or_else (repeated_after before (take (fit_count names) names)) (slice_get names (fit_count names))
barred_from before [] = refl
barred_from before (name ∷ names) = by (is_unfit name) (has_name before name) refl (barred_from (before ++ name ∷ []) names)
  where
    by : (unfit came : Bool) → has_name before name ≡ came
        → barred_after (before ++ name ∷ []) names ≡ or_else (repeated_after (before ++ name ∷ []) (take (fit_count names) names)) (slice_get names (fit_count names))
        → (if unfit || came then Some name else barred_after (before ++ name ∷ []) names)
        ≡ or_else (repeated_after before (take (if unfit then 0 else suc (fit_count names)) (name ∷ names))) (slice_get (name ∷ names) (if unfit then 0 else suc (fit_count names)))
    by true came e h = refl
    by false true e h = sym (ap (told before name names) e)
    by false false e h = h ∙ sym (ap (told before name names) e)

pub barred_is : (names : Words) → barred_after [] names ≡ or_else (repeated (take (fit_count names) names)) (slice_get names (fit_count names))
barred_is names = barred_from [] names

-- Names of which none is barred.

pub record IsFree (names : Words) (k : ℕ) (name : List ℕ) : Type 0 where
  pub fit : is_unfit name ≡ false
  pub new : (j : ℕ) (other : List ℕ) → j < k → slice_get names j ≡ Some other → other ≢ name

none_before : (before names : Words) (k : ℕ) (name : List ℕ) → barred_after before names ≡ None → slice_get names k ≡ Some name
    → (is_unfit name ≡ false) × (has_name (before ++ take k names) name ≡ false)
none_before before [] k name none at = absurd (cc)
none_before before (n ∷ names) k name none at = by (is_barred before n) refl none k at (λ h k at. none_before (before ++ n ∷ []) names k name h at)
  where
    by : (b : Bool) → is_barred before n ≡ b → (if b then Some n else barred_after (before ++ n ∷ []) names) ≡ None → (k : ℕ) → slice_get (n ∷ names) k ≡ Some name
        → (barred_after (before ++ n ∷ []) names ≡ None → (k : ℕ) → slice_get names k ≡ Some name → (is_unfit name ≡ false) × (has_name ((before ++ n ∷ []) ++ take k names) name ≡ false))
        → (is_unfit name ≡ false) × (has_name (before ++ take k (n ∷ names)) name ≡ false)
    by true e h k at next = absurd (let clash : Some n ≡ None = h in cc)
    by false e h zero at next =
        let same : n ≡ name = cc in (
          ap is_unfit (sym same) ∙ or_first (is_unfit n) (has_name before n) e,
          ap (λ (l : Words). has_name l name) (append-nil before) ∙ ap (has_name before) (sym same) ∙ or_second (is_unfit n) (has_name before n) e,
        )
    by false e h (suc k) at next =
        let more = next h k at in
        (more.0, ap (λ (l : Words). has_name l name) (sym (append_assoc before (n ∷ []) (take k names))) ∙ more.1)

pub free_at : (names : Words) (k : ℕ) (name : List ℕ) → barred_after [] names ≡ None → slice_get names k ≡ Some name → IsFree names k name
free_at names k name none at =
    let both = none_before [] names k name none at in
    record {
      fit = both.0;
      new = λ j other low there same.
          let here : slice_get (take k names) j ≡ Some other = in_front names k j other low there in
          let found : list_any (bytes_eq name) (take k names) ≡ true = any_at (bytes_eq name) (take k names) j other here (ap (bytes_eq name) same ∙ bytes_eq-same name) in
          let clash : true ≡ false = sym found ∙ both.1 in cc;
    }

push_none : (n name : List ℕ) (xs : Words) → has_name xs n ≡ false → bytes_eq n name ≡ false → has_name (xs ++ name ∷ []) n ≡ false
push_none n name [] none other = rw other refl
push_none n name (x ∷ xs) none other =
    let both = both_false (bytes_eq n x) (has_name xs n) none in neither (bytes_eq n x) (has_name (xs ++ name ∷ []) n) both.0 (push_none n name xs both.1 other)

suc_same : (i j : ℕ) → suc i ≡ suc j → i ≡ j
suc_same i j e = cc

-- The other way: fit names that stand once are free.
pub none_barred : (before names : Words) → ((k : ℕ) (name : List ℕ) → slice_get names k ≡ Some name → is_unfit name ≡ false)
    → ((i j : ℕ) (name : List ℕ) → slice_get names i ≡ Some name → slice_get names j ≡ Some name → i ≡ j)
    → ((k : ℕ) (name : List ℕ) → slice_get names k ≡ Some name → has_name before name ≡ false) → barred_after before names ≡ None
none_barred before [] fit once new = refl
none_barred before (name ∷ names) fit once new =
    let free : is_barred before name ≡ false = neither (is_unfit name) (has_name before name) (fit 0 name refl) (new 0 name refl) in
    ap (λ (b : Bool). if b then Some name else barred_after (before ++ name ∷ []) names) free
    ∙ none_barred (before ++ name ∷ []) names (λ k n at. fit (suc k) n at) (λ i j n at there. suc_same i j (once (suc i) (suc j) n at there))
    (λ k n at. pushed n (new (suc k) n at) (λ same. absurd (let zero_is : zero ≡ suc k = once 0 (suc k) n (ap (λ (x : List ℕ). Some x) (sym same)) at in cc)))
  where
    pushed : (n : List ℕ) → has_name before n ≡ false → (n ≡ name → ⊥) → has_name (before ++ name ∷ []) n ≡ false
    pushed n none other = push_none n name before none (never_true (bytes_eq n name) (λ e. other ((bytes_eq-Decides n name).0 e)))

-- The loop that counts fit names.

text_index : (names : List (Bor (List ℕ))) (k : ℕ) (d : Bor (List ℕ)) → k < length names → slice_get (texts names) k ≡ Some (slice_index_or names k d).now
text_index [] k d low = absurd (omega arith)
text_index (n ∷ names) zero d low = refl
text_index (n ∷ names) (suc k) d low = text_index names k d (omega arith)

fit_at : (names : List (Bor (List ℕ))) (k : ℕ) (d : Bor (List ℕ)) (unfit : Bool) → k < length names → is_unfit (slice_index_or names k d).now ≡ unfit
    → fit_count (drop k (texts names)) ≡ (if unfit then 0 else suc (fit_count (drop (suc k) (texts names))))
fit_at names k d unfit low is =
    ap fit_count (left_at (texts names) k (slice_index_or names k d).now (text_index names k d low))
    ∙ ap (λ (b : Bool). if b then 0 else suc (fit_count (drop (suc k) (texts names)))) is

pub fit_more : (names : List (Bor (List ℕ))) (k n : ℕ) (d : Bor (List ℕ)) → k < length names → is_unfit (slice_index_or names k d).now ≡ false
    → k + fit_count (drop k (texts names)) ≡ n → k + 1 + fit_count (drop (k + 1) (texts names)) ≡ n
fit_more names k n d low fit so_far =
    let here : fit_count (drop k (texts names)) ≡ suc (fit_count (drop (suc k) (texts names))) = fit_at names k d false low fit in
    let more : suc k ≡ k + 1 = omega arith in
    let there : fit_count (drop (suc k) (texts names)) ≡ fit_count (drop (k + 1) (texts names)) = ap (λ (m : ℕ). fit_count (drop m (texts names))) more in
    omega arith

pub fit_until : (names : List (Bor (List ℕ))) (k n : ℕ) (d : Bor (List ℕ)) → k < length names → is_unfit (slice_index_or names k d).now ≡ true
    → k + fit_count (drop k (texts names)) ≡ n → k ≡ n
fit_until names k n d low unfit so_far =
    let here : fit_count (drop k (texts names)) ≡ 0 = fit_at names k d true low unfit in
    omega arith

pub fit_all : (names : List (Bor (List ℕ))) (k n : ℕ) → length names ≤ k → k + fit_count (drop k (texts names)) ≡ n → k ≡ n
fit_all names k n all so_far =
    let l = texts_length names in
    let here : fit_count (drop k (texts names)) ≡ 0 = ap fit_count (none_left (texts names) k (omega arith)) in
    omega arith

-- What is told of borrowed names.

-- the first that came before, among those in front of the first that is unfit
abbrev Told : List (Bor (List ℕ)) → ℕ → Option (Bor (List ℕ)) → Type 0
Told names count found = bytes_of found ≡ repeated (texts (take count names))

barred_or : (names : List (Bor (List ℕ))) (count : ℕ) (found : Option (Bor (List ℕ))) → count ≡ fit_count (texts names) → Told names count found
    → barred_after [] (texts names) ≡ or_else (bytes_of found) (slice_get (texts names) count)
barred_or names count found is told =
    barred_is (texts names)
    ∙ ap (λ (n : ℕ). or_else (repeated (take n (texts names))) (slice_get (texts names) n)) (sym is)
    ∙ ap (λ (l : Words). or_else (repeated l) (slice_get (texts names) count)) (sym (texts_take count names))
    ∙ ap (λ (o : Option (List ℕ)). or_else o (slice_get (texts names) count)) (sym told)

pub barred_again : (names : List (Bor (List ℕ))) (count : ℕ) (name : Bor (List ℕ)) → count ≡ fit_count (texts names) → bytes_of (Some name) ≡ repeated (texts (take count names))
    → bytes_of (Some name) ≡ barred_after [] (texts names)
barred_again names count name is told = sym (barred_or names count (Some name) is told)

pub barred_unfit : (names : List (Bor (List ℕ))) (count : ℕ) (d : Bor (List ℕ)) → count ≡ fit_count (texts names) → bytes_of None ≡ repeated (texts (take count names)) → count < length names
    → bytes_of (Some (slice_index_or names count d)) ≡ barred_after [] (texts names)
barred_unfit names count d is told low = sym (barred_or names count None is told ∙ text_index names count d low)

pub none_is_barred : (names : List (Bor (List ℕ))) (count : ℕ) → count ≡ fit_count (texts names) → bytes_of None ≡ repeated (texts (take count names)) → length names ≤ count
    → bytes_of None ≡ barred_after [] (texts names)
none_is_barred names count is told all =
    let l = texts_length names in
    sym (barred_or names count None is told ∙ past (texts names) count (omega arith))
