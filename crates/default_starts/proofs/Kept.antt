-- Lines with their starts: legal or illegal just where the lines are.
use Rattle.std.proofs.Common.{◌≡◌, subst, ℕ, ◌+◌, ◌-◌, ◌<◌, ◌≤◌, ◌⊎◌, inl, inr, Bool, true, false, List, [], ◌++◌, length, replicate, refl, ap, sym, ◌∙◌, Option, Some, None, arith}
use Rattle.std.specs.Prelude.{slice_get}
use Rattle.std.proofs.lemmas.Bool.{cases_lt}
use Rattle.std.proofs.lemmas.List.{length-append, length-replicate}
use Rattle.list_laws.proofs.Lists.{slice_get-append_right}
use Rattle.netlist_model.specs.declared.Dir.{Dir}
use Rattle.netlist_model.specs.declared.Dir.TheVariants as dir
use Rattle.netlist_model.specs.declared.PinBit.{PinBit}
use Rattle.netlist_model.specs.Formed.{IsLaidOut}
use Rattle.netlist_link.specs.Linked.{LinkedView, is_straight}
use Rattle.netlist_link.specs.WellNamed.{IsWellNamed}
use Rattle.scan_vectors.specs.declared.lines.Line.{Line}
use Rattle.scan_vectors.specs.declared.lines.Lines.{Lines}
use Rattle.scan_vectors.specs.Pins.{side_of, TakesValue, HasStart}
use Rattle.scan_vectors.specs.Rules.{IsBroken, IsUnbroken, IsFirstBroken, AreIllegalAt, LacksStart}
use Rattle.scan_vectors.specs.Rules.AreIllegalAt.{broken as is_broken, unstarted as is_unstarted}
use Rattle.default_starts.specs.Starts.{hidden_inputs, AreDefaultStarts, IsWithStarts}
use Rattle.default_starts.specs.Words.{HasHiddenWords}
use Rattle.default_starts.specs.OwnRules.{IsHiddenInput, BeginsItself, IsOwnUnbroken, IsFirstOwnBroken, AreOwnIllegalAt}
use Rattle.default_starts.specs.OwnRules.AreOwnIllegalAt.{broken as own_broken, unstarted as own_unstarted}
use Rattle.default_starts.specs.Laws.{EachHasNumber, OneWithStarts, NoneHiddenNoneAdded, NoneHiddenSameRules, StartsBreakNoRule, OthersBreakAsBefore, LegalWithStarts, IllegalWithStarts, StartsAreHidden}
use Rattle.default_starts.proofs.Adds.{no_starts, no_hidden}
use Rattle.default_starts.proofs.Added.{added_only, added_start, bit_starts, starts_once}
use Rattle.default_starts.proofs.Moved.{added_line, added_unbroken, begins_itself, is_started, lacks_own, own_lacks, place_added, place_back, place_own, start_in, start_left, start_right}
use Rattle.default_starts.proofs.Ordered.{bits_are, hidden_stands}

-- The lists.

same_lines : (one other : Lines) → one.list ≡ other.list → one.numbers ≡ other.numbers → one.end ≡ other.end → one ≡ other
same_lines one other list numbers end =
    ap (λ (l : List Line). record { list = l; numbers = one.numbers; end = one.end }) list
    ∙ ap (λ (n : List ℕ). record { list = other.list; numbers = n; end = one.end }) numbers
    ∙ ap (λ (e : ℕ). record { list = other.list; numbers = other.numbers; end = e }) end

pub one_with_starts : OneWithStarts
one_with_starts L lines one other a b =
    let same : a.starts ≡ b.starts = starts_once L lines.list (hidden_inputs L) a.starts b.starts a.are b.are in
    same_lines one other
    (a.list_is ∙ ap (λ (s : List Line). s ++ lines.list) same ∙ sym b.list_is)
    (a.numbers_are ∙ ap (λ (s : List Line). replicate (length s) 0 ++ lines.numbers) same ∙ sym b.numbers_are)
    (a.end_is ∙ sym b.end_is)

pub each_has_number : EachHasNumber
each_has_number L lines new put same =
    let zeros = length-replicate {A = ℕ} (length put.starts) 0 in
    let numbers = ap length put.numbers_are ∙ length-append (replicate (length put.starts) 0) lines.numbers in
    let list = ap length put.list_is ∙ length-append put.starts lines.list in
    omega (arith, zeros, numbers, list, same)

unchanged : (L : LinkedView) (lines : Lines) → L.straight.count ≡ 0 → IsWithStarts L lines lines
unchanged L lines none = record { starts = []; are = no_starts L lines.list none; list_is = refl; numbers_are = refl; end_is = refl }

pub none_added : NoneHiddenNoneAdded
none_added L none lines new = (
  λ put. one_with_starts L lines new lines put (unchanged L lines none),
  λ same. subst (λ (l : Lines). IsWithStarts L lines l) (sym same) (unchanged L lines none),
)

-- The rules.

pub starts_break_none : StartsBreakNoRule
starts_break_none L words lines new put place less is =
    place_added L words lines.list put.starts place put.are less (subst (λ (l : List Line). IsBroken L l place) put.list_is is)

pub others_break : OthersBreakAsBefore
others_break L words lines new put place = (
  λ is. place_own L words lines.list put.starts place put.are (subst (λ (l : List Line). IsBroken L l (length put.starts + place)) put.list_is is),
  λ is. subst (λ (l : List Line). IsBroken L l (length put.starts + place)) (sym put.list_is) (place_back L words lines.list put.starts place put.are is),
)

own_unbroken : (L : LinkedView) → HasHiddenWords L → (lines new : Lines) → IsWithStarts L lines new → IsUnbroken L new.list → IsOwnUnbroken L lines.list
own_unbroken L words lines new put unbroken place is = unbroken (length put.starts + place) ((others_break L words lines new put place).1 is)

split_place : (n place : ℕ) → n ≤ place → n + (place - n) ≡ place
split_place n place le = omega (arith, le)

unbroken_back : (L : LinkedView) → HasHiddenWords L → (lines new : Lines) → IsWithStarts L lines new → IsOwnUnbroken L lines.list → IsUnbroken L new.list
unbroken_back L words lines new put unbroken place is = by (cases_lt place (length put.starts))
  where
    by : (place < length put.starts) ⊎ (length put.starts ≤ place) → ⊥
    by (inl low) = starts_break_none L words lines new put place low is
    by (inr high) =
        unbroken (place - length put.starts) ((others_break L words lines new put (place - length put.starts)).0
        (subst (IsBroken L new.list) (sym (split_place (length put.starts) place high)) is))

-- a hidden input bit, or not
straight_or : (b : Bool) → (b ≡ true) ⊎ (b ≡ true → ⊥)
straight_or true = inl refl
straight_or false = inr (λ e. absurd (cc))

input_or : (o : Option Dir) → (o ≡ Some dir.Input) ⊎ (o ≡ Some dir.Input → ⊥)
input_or None = inr (λ e. absurd (cc))
input_or (Some dir.Input) = inl refl
input_or (Some dir.Output) = inr (λ e. absurd (let no : Some dir.Output ≡ Some dir.Input = e in cc))
input_or (Some dir.Inout) = inr (λ e. absurd (let no : Some dir.Inout ≡ Some dir.Input = e in cc))

hidden_or : (L : LinkedView) (pin : PinBit) → IsHiddenInput L pin ⊎ (IsHiddenInput L pin → ⊥)
hidden_or L pin = elim (straight_or (is_straight L pin.port.0)) [
  | inl hidden ↦ elim (input_or (side_of L.arena.lists pin)) [
    | inl input ↦ inl (record { hidden = hidden; input = input })
    | inr isnt ↦ inr (λ is. isnt is.input)
  ]
  | inr isnt ↦ inr (λ is. isnt is.hidden)
]

-- Legal lines.

started_with : (L : LinkedView) → HasHiddenWords L → (lines starts : List Line) → AreDefaultStarts L lines starts → (pin : PinBit) → TakesValue L.arena.lists pin
    → ((BeginsItself L lines pin → ⊥) → HasStart L lines pin) → HasStart L (starts ++ lines) pin
started_with L words lines starts are pin takes own_start = elim (hidden_or L pin) [
  | inl is ↦ elim (bit_starts L lines (hidden_inputs L) starts pin are (bits_are L words) (hidden_stands L pin takes.net is takes.there)) [
    | inl has ↦ start_right L starts lines pin has
    | inr has ↦ start_left L starts lines pin has
  ]
  | inr isnt ↦ start_right L starts lines pin (own_start (λ begins. isnt begins.is))
]

started_alone : (L : LinkedView) → HasHiddenWords L → (lines starts : List Line) → AreDefaultStarts L lines starts → (pin : PinBit) → HasStart L (starts ++ lines) pin
    → (BeginsItself L lines pin → ⊥) → HasStart L lines pin
started_alone L words lines starts are pin has isnt = elim (start_in L starts lines pin has) [
  | inl started ↦ absurd (isnt (begins_itself L words lines starts are pin started))
  | inr own_start ↦ own_start
]

pub legal_with : LegalWithStarts
legal_with L words lines new put = (
  λ legal. record {
    unbroken = own_unbroken L words lines new put legal.unbroken;
    started = λ pin takes. started_alone L words lines.list put.starts put.are pin (subst (λ (l : List Line). HasStart L l pin) put.list_is (legal.started pin takes));
  },
  λ legal. record {
    unbroken = unbroken_back L words lines new put legal.unbroken;
    started = λ pin takes. subst (λ (l : List Line). HasStart L l pin) (sym put.list_is) (started_with L words lines.list put.starts put.are pin takes (legal.started pin takes));
  },
)

-- Illegal lines.

number_behind : (n place : ℕ) (numbers : List ℕ) → slice_get (replicate n 0 ++ numbers) (n + place) ≡ slice_get numbers place
number_behind n place numbers = let count = length-replicate {A = ℕ} n 0 in slice_get-append_right (replicate n 0) numbers (n + place) place (omega (arith, count))

number_at : (L : LinkedView) (lines new : Lines) (put : IsWithStarts L lines new) (place : ℕ) → slice_get new.numbers (length put.starts + place) ≡ slice_get lines.numbers place
number_at L lines new put place = ap (λ (ns : List ℕ). slice_get ns (length put.starts + place)) put.numbers_are ∙ number_behind (length put.starts) place lines.numbers

first_own : (L : LinkedView) → HasHiddenWords L → (lines new : Lines) (put : IsWithStarts L lines new) (place : ℕ) → IsFirstBroken L new.list (length put.starts + place) → IsFirstOwnBroken L lines.list place
first_own L words lines new put place is = record {
  here = (others_break L words lines new put place).0 is.here;
  first = λ earlier less broken. is.first (length put.starts + earlier) (omega (arith, less)) ((others_break L words lines new put earlier).1 broken);
}

first_back : (L : LinkedView) → HasHiddenWords L → (lines new : Lines) (put : IsWithStarts L lines new) (place : ℕ) → IsFirstOwnBroken L lines.list place → IsFirstBroken L new.list (length put.starts + place)
first_back L words lines new put place is = record {
  here = (others_break L words lines new put place).1 is.here;
  first = λ earlier less broken. by earlier less broken (cases_lt earlier (length put.starts));
}
  where
    by : (earlier : ℕ) → earlier < length put.starts + place → IsBroken L new.list earlier → (earlier < length put.starts) ⊎ (length put.starts ≤ earlier) → ⊥
    by earlier less broken (inl low) = starts_break_none L words lines new put earlier low broken
    by earlier less broken (inr high) =
        is.first (earlier - length put.starts) (omega (arith, less, high)) ((others_break L words lines new put (earlier - length put.starts)).0
        (subst (IsBroken L new.list) (sym (split_place (length put.starts) earlier high)) broken))

first_place : (L : LinkedView) → HasHiddenWords L → (lines new : Lines) (put : IsWithStarts L lines new) (place : ℕ) → IsFirstBroken L new.list place → length put.starts ≤ place
first_place L words lines new put place is = by (cases_lt place (length put.starts))
  where
    by : (place < length put.starts) ⊎ (length put.starts ≤ place) → length put.starts ≤ place
    by (inl low) = absurd (starts_break_none L words lines new put place low is.here)
    by (inr high) = high

illegal_own : (L : LinkedView) → HasHiddenWords L → (lines new : Lines) → IsWithStarts L lines new → (number : ℕ) → AreIllegalAt L new number → AreOwnIllegalAt L lines number
illegal_own L words lines new put number (is_broken {place = place} first at) =
    let n = length put.starts in
    let same : n + (place - n) ≡ place = split_place n place (first_place L words lines new put place first) in
    own_broken (first_own L words lines new put (place - n) (subst (IsFirstBroken L new.list) (sym same) first))
    (sym (number_at L lines new put (place - n)) ∙ ap (slice_get new.numbers) same ∙ at)
illegal_own L words lines new put number (is_unstarted unbroken lacks) =
    subst (AreOwnIllegalAt L lines) (sym put.end_is)
    (own_unstarted (own_unbroken L words lines new put unbroken) (lacks_own L words lines.list put.starts lines.list put.are (subst (LacksStart L) put.list_is lacks)))

illegal_back : (L : LinkedView) → HasHiddenWords L → (lines new : Lines) → IsWithStarts L lines new → (number : ℕ) → AreOwnIllegalAt L lines number → AreIllegalAt L new number
illegal_back L words lines new put number (own_broken {place = place} first at) =
    is_broken (first_back L words lines new put place first) (number_at L lines new put place ∙ at)
illegal_back L words lines new put number (own_unstarted unbroken wants) =
    subst (AreIllegalAt L new) put.end_is
    (is_unstarted (unbroken_back L words lines new put unbroken) (subst (LacksStart L) (sym put.list_is) (own_lacks L words lines.list put.starts lines.list put.are wants)))

pub illegal_with : IllegalWithStarts
illegal_with L words lines new put number = (illegal_own L words lines new put number, illegal_back L words lines new put number)

-- Nothing is hidden.

no_words : (L : LinkedView) → L.straight.count ≡ 0 → IsWellNamed L.names L.arena.lists → IsLaidOut L.arena.lists → HasHiddenWords L
no_words L none named laid = record {
  named = named;
  laid = laid;
  clear = λ number other bit index port name range hidden own_port port_named vector low at is. no_hidden L number none hidden;
  open_names = λ number port front hidden there is. no_hidden L number none hidden;
}

pub same_rules : NoneHiddenSameRules
same_rules L none named laid lines =
    let words = no_words L none named laid in
    (legal_with L words lines lines (unchanged L lines none), λ number. illegal_with L words lines lines (unchanged L lines none) number)

-- What is added.

pub starts_are_hidden : StartsAreHidden
starts_are_hidden L words lines starts are = record {
  are = λ place line at. added_start L lines 0 0 line (added_line L words lines starts are place line at);
  hidden = λ place line pin at named.
      let is = added_line L words lines starts are place line at in
      let same : pin ≡ is.bit.pin = added_only L lines 0 0 line words.named is pin named in
      ap (λ (p : PinBit). is_straight L p.port.0) same ∙ is.is.hidden.hidden;
  unbroken = λ place is. added_unbroken L words lines starts are place is.line is.there is.rule;
  all = λ pin begins takes. is_started L words lines starts are pin begins takes;
}
