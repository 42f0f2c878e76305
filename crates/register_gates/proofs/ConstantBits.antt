-- The bits of a number as constants: how many they are, what they are worth, and a loop that writes them.
use Rattle.std.proofs.Common.{◌≡◌, ℕ, zero, suc, ◌+◌, ◌-◌, ◌<◌, ◌≤◌, ◌/◌, ◌%◌, ◌==◌, List, [], ◌∷◌, ◌++◌, ◌∙◌, length, take, set, refl, sym, ap, arith}
use Rattle.std.proofs.lemmas.List.{append_assoc, append-nil, take_all, take_more_set}
use Rattle.std.proofs.lemmas.List.Elements.{All-nil, All-cons}
use Rattle.signal_values.specs.declared.Sig.{Sig}
use Rattle.signal_values.specs.Values.{bit}
use Rattle.netlist_model.specs.declared.Feed.{Feed}
use Rattle.netlist_model.specs.declared.Feed.TheVariants.{Const}
use Rattle.netlist_model.specs.Settled.{feed_values}
use Rattle.netlist_model.specs.Below.{IsFeedBelow, AreFeedsBelow}
use Rattle.tap_gates.specs.test_logic.Instructions.{bits_of}
use Rattle.register_gates.specs.Constants.{constant_bits, ConstantsAreBits}

pub counted : (count value : ℕ) → length (constant_bits count value) ≡ count
unfolding constant_bits
counted zero value = refl
counted (suc count) value = ap suc (counted count (value / 2))

pub valued : (net : ℕ → Sig) (count value : ℕ) → feed_values net (constant_bits count value) ≡ bits_of count value
unfolding constant_bits bits_of
valued net zero value = refl
valued net (suc count) value = ap (λ (bits : List Sig). bit (value % 2 == 1) ∷ bits) (valued net count (value / 2))

pub all_below : (nets count value : ℕ) → AreFeedsBelow nets (constant_bits count value)
unfolding constant_bits
all_below nets zero value = All-nil (IsFeedBelow nets)
all_below nets (suc count) value = All-cons (IsFeedBelow nets) (Const (value % 2 == 1)) (constant_bits count (value / 2)) tt (all_below nets count (value / 2))

fewer : (count value more : ℕ) → count ≤ more → take count (constant_bits more value) ≡ constant_bits count value
unfolding constant_bits
fewer zero value more h = refl
fewer (suc count) value zero h = absurd (omega arith)
fewer (suc count) value (suc more) h = ap (λ (bits : List Feed). Const (value % 2 == 1) ∷ bits) (fewer count (value / 2) more (omega arith))

pub constants : ConstantsAreBits
constants = λ count value. record {
  counted = counted count value;
  values = λ net. valued net count value;
  below = λ nets. all_below nets count value;
  fewer = λ more h. fewer count value more h;
}

none : (value : ℕ) → constant_bits 0 value ≡ []
unfolding constant_bits
none value = refl

more_of : (count value : ℕ) → 0 < count → constant_bits count value ≡ Const (value % 2 == 1) ∷ constant_bits (count - 1) (value / 2)
unfolding constant_bits
more_of zero value h = absurd (omega arith)
more_of (suc count) value h = let e : suc count - 1 ≡ count = omega arith in rw e refl

-- one more bit, where those before it are written
pub constants_more : (written : List Feed) (count k rest : ℕ) (all : List Feed) → k < count → k < length written → take k written ++ constant_bits (count - k) rest ≡ all
    → take (k + 1) (set written k (Const (rest % 2 == 1))) ++ constant_bits (count - (k + 1)) (rest / 2) ≡ all
constants_more written count k rest all h g e =
    let next : count - k - 1 ≡ count - (k + 1) = omega arith in
    let x : Feed = Const (rest % 2 == 1) in
    let done : List Feed = take k written in
    ap (λ (bits : List Feed). bits ++ constant_bits (count - (k + 1)) (rest / 2)) (take_more_set written k x g)
    ∙ append_assoc done (x ∷ []) (constant_bits (count - (k + 1)) (rest / 2))
    ∙ ap (λ (n : ℕ). done ++ x ∷ constant_bits n (rest / 2)) (sym next)
    ∙ ap (λ (bits : List Feed). done ++ bits) (sym (more_of (count - k) rest (omega arith))) ∙ e

-- and all of them
pub constants_all : (written : List Feed) (count k rest : ℕ) (all : List Feed) → count ≤ k → length written ≤ k → take k written ++ constant_bits (count - k) rest ≡ all → written ≡ all
constants_all written count k rest all h g e =
    let zero_left : count - k ≡ 0 = omega arith in
    sym (take_all k written g) ∙ sym (append-nil (take k written))
    ∙ ap (λ (bits : List Feed). take k written ++ bits) (sym (ap (λ (n : ℕ). constant_bits n rest) zero_left ∙ none rest)) ∙ e
