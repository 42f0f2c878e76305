-- The bits of two numbers by which of them is captured: how many they are, what they are worth, and a loop that writes them.
use Rattle.std.proofs.Common.{◌≡◌, ℕ, zero, suc, ◌+◌, ◌-◌, ◌<◌, ◌≤◌, ◌/◌, ◌%◌, ◌==◌, Bool, true, false, not, List, [], ◌∷◌, ◌++◌, ◌∙◌, length, take, set, refl, sym, ap, arith}
use Rattle.std.specs.Prelude.{All, if◌then◌else◌}
use Rattle.std.proofs.lemmas.List.{append_assoc, append-nil, take_all, take_more_set}
use Rattle.std.proofs.lemmas.List.Elements.{All-nil, All-cons}
use Rattle.signal_values.specs.declared.Sig.{Sig}
use Rattle.signal_values.specs.Values.{bit}
use Rattle.netlist_model.specs.declared.NetId.{NetId}
use Rattle.netlist_model.specs.declared.Feed.{Feed}
use Rattle.netlist_model.specs.declared.Feed.TheVariants.{Net, Const}
use Rattle.netlist_model.specs.Settled.{feed_value, feed_values}
use Rattle.netlist_model.specs.Below.{IsFeedBelow}
use Rattle.tap_gates.specs.test_logic.Instructions.{bits_of}
use Rattle.register_gates.specs.Choices.{choice, choice_bits, ChoicesAreBits}

pub counted_choices : (count code user : ℕ) (on off : NetId) → length (choice_bits count code user on off) ≡ count
unfolding choice_bits
counted_choices zero code user on off = refl
counted_choices (suc count) code user on off = ap suc (counted_choices count (code / 2) (user / 2) on off)

-- a bit that is chosen
chosen : (v : ℕ → Sig) (a b using : Bool) (on off : NetId) → v on.0 ≡ bit using → v off.0 ≡ bit (not using) → feed_value v (choice a b on off) ≡ bit (if using then b else a)
chosen v false false true on off e f = refl
chosen v false false false on off e f = refl
chosen v true true true on off e f = refl
chosen v true true false on off e f = refl
chosen v false true true on off e f = e
chosen v false true false on off e f = e
chosen v true false true on off e f = f
chosen v true false false on off e f = f

pub valued_choices : (v : ℕ → Sig) (count code user : ℕ) (using : Bool) (on off : NetId) → v on.0 ≡ bit using → v off.0 ≡ bit (not using)
    → feed_values v (choice_bits count code user on off) ≡ (if using then bits_of count user else bits_of count code)
unfolding choice_bits bits_of
valued_choices v zero code user true on off e f = refl
valued_choices v zero code user false on off e f = refl
valued_choices v (suc count) code user true on off e f =
    ap (λ (x : Sig). x ∷ feed_values v (choice_bits count (code / 2) (user / 2) on off)) (chosen v (code % 2 == 1) (user % 2 == 1) true on off e f)
    ∙ ap (λ (xs : List Sig). bit (user % 2 == 1) ∷ xs) (valued_choices v count (code / 2) (user / 2) true on off e f)
valued_choices v (suc count) code user false on off e f =
    ap (λ (x : Sig). x ∷ feed_values v (choice_bits count (code / 2) (user / 2) on off)) (chosen v (code % 2 == 1) (user % 2 == 1) false on off e f)
    ∙ ap (λ (xs : List Sig). bit (code % 2 == 1) ∷ xs) (valued_choices v count (code / 2) (user / 2) false on off e f)

one_of : (P : Feed → Type 0) (a b : Bool) (on off : NetId) → ((c : Bool) → P (Const c)) → P (Net on) → P (Net off) → P (choice a b on off)
one_of P false false on off c x y = c false
one_of P true true on off c x y = c true
one_of P false true on off c x y = x
one_of P true false on off c x y = y

pub each_choice : (P : Feed → Type 0) (count code user : ℕ) (on off : NetId) → ((c : Bool) → P (Const c)) → P (Net on) → P (Net off) → All P (choice_bits count code user on off)
unfolding choice_bits
each_choice P zero code user on off c x y = All-nil P
each_choice P (suc count) code user on off c x y =
    All-cons P (choice (code % 2 == 1) (user % 2 == 1) on off) (choice_bits count (code / 2) (user / 2) on off) (one_of P (code % 2 == 1) (user % 2 == 1) on off c x y)
    (each_choice P count (code / 2) (user / 2) on off c x y)

pub choices : ChoicesAreBits
choices = λ count code user on off. record {
  counted = counted_choices count code user on off;
  values = λ net using e f. valued_choices net count code user using on off e f;
  below = λ nets x y. each_choice (IsFeedBelow nets) count code user on off (λ c. tt) x y;
}

none : (code user : ℕ) (on off : NetId) → choice_bits 0 code user on off ≡ []
unfolding choice_bits
none code user on off = refl

more_of : (count code user : ℕ) (on off : NetId) → 0 < count
    → choice_bits count code user on off ≡ choice (code % 2 == 1) (user % 2 == 1) on off ∷ choice_bits (count - 1) (code / 2) (user / 2) on off
unfolding choice_bits
more_of zero code user on off h = absurd (omega arith)
more_of (suc count) code user on off h = let e : suc count - 1 ≡ count = omega arith in rw e refl

-- one more bit, where those before it are written
pub choices_more : (written : List Feed) (count k code user : ℕ) (on off : NetId) (x : Feed) (all : List Feed) → x ≡ choice (code % 2 == 1) (user % 2 == 1) on off → k < count → k < length written
    → take k written ++ choice_bits (count - k) code user on off ≡ all
    → take (k + 1) (set written k x) ++ choice_bits (count - (k + 1)) (code / 2) (user / 2) on off ≡ all
choices_more written count k code user on off x all is h g e =
    let next : count - k - 1 ≡ count - (k + 1) = omega arith in
    let done : List Feed = take k written in
    ap (λ (bits : List Feed). bits ++ choice_bits (count - (k + 1)) (code / 2) (user / 2) on off) (take_more_set written k x g)
    ∙ append_assoc done (x ∷ []) (choice_bits (count - (k + 1)) (code / 2) (user / 2) on off)
    ∙ ap (λ (n : ℕ). done ++ x ∷ choice_bits n (code / 2) (user / 2) on off) (sym next)
    ∙ ap (λ (y : Feed). done ++ y ∷ choice_bits (count - k - 1) (code / 2) (user / 2) on off) is
    ∙ ap (λ (bits : List Feed). done ++ bits) (sym (more_of (count - k) code user on off (omega arith))) ∙ e

-- and all of them
pub choices_all : (written : List Feed) (count k code user : ℕ) (on off : NetId) (all : List Feed) → count ≤ k → length written ≤ k
    → take k written ++ choice_bits (count - k) code user on off ≡ all → written ≡ all
choices_all written count k code user on off all h g e =
    let zero_left : count - k ≡ 0 = omega arith in
    sym (take_all k written g) ∙ sym (append-nil (take k written))
    ∙ ap (λ (bits : List Feed). take k written ++ bits) (sym (ap (λ (n : ℕ). choice_bits n code user on off) zero_left ∙ none code user on off)) ∙ e
