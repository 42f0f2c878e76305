-- Rules on lines behind starts that are added, and on the lines alone.
use Rattle.std.proofs.Common.{◌≡◌, subst, ℕ, zero, suc, ◌+◌, ◌<◌, ◌⊎◌, inl, inr, List, [], ◌∷◌, ◌++◌, length, take, refl, ap, sym, ◌∙◌, Option, Some, arith}
use Rattle.std.specs.Prelude.{slice_get}
use Rattle.std.proofs.lemmas.List.{take-append-le}
use Rattle.std.proofs.lemmas.Option.{same_Some, slice_get_within}
use Rattle.std.proofs.Math.Seq.{take-append-add}
use Rattle.list_laws.proofs.Lists.{slice_get-append_left, slice_get-append_right}
use Rattle.netlist_model.specs.declared.Dir.{Dir}
use Rattle.netlist_model.specs.declared.Dir.TheVariants as dir
use Rattle.netlist_model.specs.declared.NetId.{NetId}
use Rattle.netlist_model.specs.declared.PinBit.{PinBit}
use Rattle.netlist_model.specs.Cones.{IsControlPort}
use Rattle.netlist_model.specs.Runs.{IsKnownPin}
use Rattle.signal_values.specs.declared.PinSig.{PinSig}
use Rattle.netlist_link.specs.Linked.{LinkedView}
use Rattle.scan_vectors.specs.declared.lines.Act.TheVariants as act
use Rattle.scan_vectors.specs.declared.lines.Line.{Line}
use Rattle.scan_vectors.specs.Grammar.{value_of}
use Rattle.scan_vectors.specs.Pins.{side_of, net_of, TakesValue, IsControlBit, HasStart}
use Rattle.scan_vectors.specs.Rules.{HasEvent, BreaksRule, IsBroken, StartsAgain, LacksStart}
use Rattle.scan_vectors.specs.Rules.BreaksRule.{unknown as breaks_unknown, output as breaks_output, control as breaks_control, input as breaks_input, again as breaks_again, late as breaks_late, early as breaks_early}
use Rattle.default_starts.specs.Starts.{HiddenBit, BeginsAt, AreDefaultStarts, hidden_inputs}
use Rattle.default_starts.specs.Starts.BeginsAt.{control, plain}
use Rattle.default_starts.specs.Words.{HasHiddenWords}
use Rattle.default_starts.specs.OwnRules.{BeginsItself, WantsStart, BreaksOwnRule, IsOwnBroken}
use Rattle.default_starts.specs.OwnRules.BreaksOwnRule.{unknown as own_unknown, output as own_output, control as own_control, input as own_input, again as own_again, late as own_late, early as own_early}
use Rattle.default_starts.proofs.Ordered.{bits_are, bits_ascend, hidden_stands}
use Rattle.default_starts.proofs.Added.{IsAdded, added_at, added_apart, added_names, added_only, added_start, bit_starts}

-- Starts and events in two lists.

split_at : {X : Type 0} (xs ys : List X) (k : ℕ) (x : X) → slice_get (xs ++ ys) k ≡ Some x → (slice_get xs k ≡ Some x) ⊎ ((j : ℕ) × (slice_get ys j ≡ Some x))
split_at [] ys k x at = inr (k, at)
split_at (y ∷ xs) ys zero x at = inl at
split_at (y ∷ xs) ys (suc k) x at = split_at xs ys k x at

at_right : {X : Type 0} (xs ys : List X) (k : ℕ) (x : X) → slice_get ys k ≡ Some x → slice_get (xs ++ ys) (length xs + k) ≡ Some x
at_right xs ys k x at = slice_get-append_right xs ys (length xs + k) k refl ∙ at

at_left : {X : Type 0} (xs ys : List X) (k : ℕ) (x : X) → slice_get xs k ≡ Some x → slice_get (xs ++ ys) k ≡ Some x
at_left xs ys k x at = slice_get-append_left xs ys k (slice_get_within xs k x at) ∙ at

take_within : {X : Type 0} (xs : List X) (n k : ℕ) (x : X) → slice_get (take n xs) k ≡ Some x → (k < n) × (slice_get xs k ≡ Some x)
take_within [] zero k x at = absurd (cc)
take_within [] (suc n) k x at = absurd (cc)
take_within (y ∷ xs) zero k x at = absurd (cc)
take_within (y ∷ xs) (suc n) zero x at = (omega arith, at)
take_within (y ∷ xs) (suc n) (suc k) x at = let rest = take_within xs n k x at in let less = rest.0 in (omega (arith, less), rest.1)

pub start_in : (L : LinkedView) (starts before : List Line) (pin : PinBit) → HasStart L (starts ++ before) pin → HasStart L starts pin ⊎ HasStart L before pin
start_in L starts before pin has = elim (split_at starts before has.place has.line has.there) [
  | inl there ↦ inl (record { place = has.place; line = has.line; there = there; start = has.start; named = has.named })
  | inr there ↦ inr (record { place = there.0; line = has.line; there = there.1; start = has.start; named = has.named })
]

pub start_left : (L : LinkedView) (starts before : List Line) (pin : PinBit) → HasStart L starts pin → HasStart L (starts ++ before) pin
start_left L starts before pin has =
    record { place = has.place; line = has.line; there = at_left starts before has.place has.line has.there; start = has.start; named = has.named }

pub start_right : (L : LinkedView) (starts before : List Line) (pin : PinBit) → HasStart L before pin → HasStart L (starts ++ before) pin
start_right L starts before pin has =
    record { place = length starts + has.place; line = has.line; there = at_right starts before has.place has.line has.there; start = has.start; named = has.named }

event_right : (starts before : List Line) → HasEvent before → HasEvent (starts ++ before)
event_right starts before has = record { place = length starts + has.place; line = has.line; there = at_right starts before has.place has.line has.there; event = has.event }

-- What is added.

pub added_line : (L : LinkedView) → HasHiddenWords L → (lines starts : List Line) → AreDefaultStarts L lines starts → (k : ℕ) (line : Line) → slice_get starts k ≡ Some line → IsAdded L lines 0 0 line
added_line L words lines starts are k line at = added_at L lines (hidden_inputs L) starts 0 0 k line are (bits_are L words) (bits_ascend L) at

-- a bit that is started there begins by itself
pub begins_itself : (L : LinkedView) → HasHiddenWords L → (lines starts : List Line) → AreDefaultStarts L lines starts → (pin : PinBit) → HasStart L starts pin → BeginsItself L lines pin
begins_itself L words lines starts are pin has =
    let is = added_line L words lines starts are has.place has.line has.there in
    let same : pin ≡ is.bit.pin = added_only L lines 0 0 has.line words.named is pin has.named in
    subst (BeginsItself L lines) (sym same) (record { is = is.is.hidden; none = is.hasnt })

-- a bit that begins by itself is started there
pub is_started : (L : LinkedView) → HasHiddenWords L → (lines starts : List Line) → AreDefaultStarts L lines starts → (pin : PinBit) → BeginsItself L lines pin → TakesValue L.arena.lists pin
    → HasStart L starts pin
is_started L words lines starts are pin begins takes =
    elim (bit_starts L lines (hidden_inputs L) starts pin are (bits_are L words) (hidden_stands L pin takes.net begins.is takes.there)) [
      | inl has ↦ absurd (begins.none has)
      | inr has ↦ has
    ]

no_event : (L : LinkedView) → HasHiddenWords L → (lines starts : List Line) → AreDefaultStarts L lines starts → HasEvent starts → ⊥
no_event L words lines starts are has = has.event (added_start L lines 0 0 has.line (added_line L words lines starts are has.place has.line has.there))

event_in : (L : LinkedView) → HasHiddenWords L → (lines starts before : List Line) → AreDefaultStarts L lines starts → HasEvent (starts ++ before) → HasEvent before
event_in L words lines starts before are has = elim (split_at starts before has.place has.line has.there) [
  | inl there ↦ absurd (no_event L words lines starts are (record { place = has.place; line = has.line; there = there; event = has.event }))
  | inr there ↦ record { place = there.0; line = has.line; there = there.1; event = has.event }
]

-- Added lines break no rule.

no_blur : (L : LinkedView) (bit : HiddenBit) (value : PinSig) → net_of L.arena.lists bit.pin ≡ Some bit.net → IsControlBit L.arena.lists bit.pin → BeginsAt L.arena.lists bit.net.0 value
    → (IsKnownPin value → ⊥) → ⊥
no_blur L bit value net_is port (control is) unknown = unknown (inl refl)
no_blur L bit value net_is port (plain isnt) unknown =
    let same : port.net ≡ bit.net = same_Some port.net bit.net (sym port.there ∙ net_is) in
    isnt (subst (λ (n : NetId). IsControlPort L.arena.lists n.0) same port.control)

input_or_output : (o : Option Dir) → o ≡ Some dir.Input → o ≡ Some dir.Output → ⊥
input_or_output o e f = let no : Some dir.Input ≡ Some dir.Output = sym e ∙ f in cc

pub added_unbroken : (L : LinkedView) → HasHiddenWords L → (lines starts : List Line) → AreDefaultStarts L lines starts → (k : ℕ) (line : Line) → slice_get starts k ≡ Some line
    → BreaksRule L (take k starts) line → ⊥
added_unbroken L words lines starts are k line at broken = by broken
  where
    is : IsAdded L lines 0 0 line
    is = added_line L words lines starts are k line at

    by : BreaksRule L (take k starts) line → ⊥
    by (breaks_unknown none) = none is.bit.pin (added_names L lines 0 0 line is)
    by (breaks_output r) =
        let same : r.pin ≡ is.bit.pin = added_only L lines 0 0 line words.named is r.pin r.named in
        input_or_output (side_of L.arena.lists is.bit.pin) is.is.hidden.input (ap (side_of L.arena.lists) (sym same) ∙ r.output)
    by (breaks_control r) =
        let same : r.pin ≡ is.bit.pin = added_only L lines 0 0 line words.named is r.pin r.named in
        no_blur L is.bit is.value is.is.net_is (subst (IsControlBit L.arena.lists) same r.control) is.begins
        (λ known. r.value (subst IsKnownPin (sym (ap value_of is.line_is)) known))
    by (breaks_input r) = let no : act.Start ≡ act.Expect = sym (added_start L lines 0 0 line is) ∙ r.expects in cc
    by (breaks_again r) =
        let before = take_within starts k r.had.place r.had.line r.had.there in
        added_apart L lines (hidden_inputs L) starts 0 0 r.had.place k r.had.line line r.pin words.named are (bits_are L words) (bits_ascend L) before.0 before.1 at r.had.named r.named
    by (breaks_late r) = no_event L words lines starts are (let there = take_within starts k r.late.place r.late.line r.late.there in record { place = r.late.place; line = r.late.line; there = there.1; event = r.late.event })
    by (breaks_early r) = r.event (added_start L lines 0 0 line is)

-- Other lines break one where they did.

pub lacks_own : (L : LinkedView) → HasHiddenWords L → (lines starts before : List Line) → AreDefaultStarts L lines starts → LacksStart L (starts ++ before) → WantsStart L lines before
lacks_own L words lines starts before are lacks = record {
  pin = lacks.pin;
  takes = lacks.takes;
  own = λ begins. lacks.none (start_left L starts before lacks.pin (is_started L words lines starts are lacks.pin begins lacks.takes));
  none = λ has. lacks.none (start_right L starts before lacks.pin has);
}

pub own_lacks : (L : LinkedView) → HasHiddenWords L → (lines starts before : List Line) → AreDefaultStarts L lines starts → WantsStart L lines before → LacksStart L (starts ++ before)
own_lacks L words lines starts before are wants = record {
  pin = wants.pin;
  takes = wants.takes;
  none = λ has. elim (start_in L starts before wants.pin has) [
    | inl started ↦ wants.own (begins_itself L words lines starts are wants.pin started)
    | inr earlier ↦ wants.none earlier
  ];
}

again_alone : (L : LinkedView) → HasHiddenWords L → (lines starts before : List Line) (k : ℕ) (line : Line) → AreDefaultStarts L lines starts → slice_get lines k ≡ Some line
    → StartsAgain L (starts ++ before) line → StartsAgain L before line
again_alone L words lines starts before k line are at r = elim (start_in L starts before r.pin r.had) [
  | inl started ↦ absurd ((begins_itself L words lines starts are r.pin started).none (record { place = k; line = line; there = at; start = r.start; named = r.named }))
  | inr earlier ↦ record { pin = r.pin; named = r.named; start = r.start; had = earlier }
]

pub own_rule : (L : LinkedView) → HasHiddenWords L → (lines starts before : List Line) (k : ℕ) (line : Line) → AreDefaultStarts L lines starts → slice_get lines k ≡ Some line
    → BreaksRule L (starts ++ before) line → BreaksOwnRule L lines before line
own_rule L words lines starts before k line are at (breaks_unknown none) = own_unknown none
own_rule L words lines starts before k line are at (breaks_output r) = own_output r
own_rule L words lines starts before k line are at (breaks_control r) = own_control r
own_rule L words lines starts before k line are at (breaks_input r) = own_input r
own_rule L words lines starts before k line are at (breaks_again r) = own_again (again_alone L words lines starts before k line are at r)
own_rule L words lines starts before k line are at (breaks_late r) = own_late (record { start = r.start; late = event_in L words lines starts before are r.late })
own_rule L words lines starts before k line are at (breaks_early r) = own_early (record { event = r.event; wants = lacks_own L words lines starts before are r.lacks })

pub rule_back : (L : LinkedView) → HasHiddenWords L → (lines starts before : List Line) (line : Line) → AreDefaultStarts L lines starts → BreaksOwnRule L lines before line
    → BreaksRule L (starts ++ before) line
rule_back L words lines starts before line are (own_unknown none) = breaks_unknown none
rule_back L words lines starts before line are (own_output r) = breaks_output r
rule_back L words lines starts before line are (own_control r) = breaks_control r
rule_back L words lines starts before line are (own_input r) = breaks_input r
rule_back L words lines starts before line are (own_again r) =
    breaks_again (record { pin = r.pin; named = r.named; start = r.start; had = start_right L starts before r.pin r.had })
rule_back L words lines starts before line are (own_late r) = breaks_late (record { start = r.start; late = event_right starts before r.late })
rule_back L words lines starts before line are (own_early r) = breaks_early (record { event = r.event; lacks = own_lacks L words lines starts before are r.wants })

-- The same by places.

pub place_own : (L : LinkedView) → HasHiddenWords L → (lines starts : List Line) (k : ℕ) → AreDefaultStarts L lines starts → IsBroken L (starts ++ lines) (length starts + k) → IsOwnBroken L lines k
place_own L words lines starts k are is =
    let at : slice_get lines k ≡ Some is.line = sym (slice_get-append_right starts lines (length starts + k) k refl) ∙ is.there in
    record {
      line = is.line;
      there = at;
      rule = own_rule L words lines starts (take k lines) k is.line are at (subst (λ (b : List Line). BreaksRule L b is.line) (take-append-add starts lines k) is.rule);
    }

pub place_back : (L : LinkedView) → HasHiddenWords L → (lines starts : List Line) (k : ℕ) → AreDefaultStarts L lines starts → IsOwnBroken L lines k → IsBroken L (starts ++ lines) (length starts + k)
place_back L words lines starts k are is = record {
  line = is.line;
  there = at_right starts lines k is.line is.there;
  rule = subst (λ (b : List Line). BreaksRule L b is.line) (sym (take-append-add starts lines k)) (rule_back L words lines starts (take k lines) is.line are is.rule);
}

pub place_added : (L : LinkedView) → HasHiddenWords L → (lines starts : List Line) (k : ℕ) → AreDefaultStarts L lines starts → k < length starts → IsBroken L (starts ++ lines) k → ⊥
place_added L words lines starts k are less is =
    let at : slice_get starts k ≡ Some is.line = sym (slice_get-append_left starts lines k less) ∙ is.there in
    added_unbroken L words lines starts are k is.line at (subst (λ (b : List Line). BreaksRule L b is.line) (take-append-le k starts lines (omega (arith, less))) is.rule)
