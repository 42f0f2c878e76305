-- One line more: that it breaks a rule, or what is known after it.
use Rattle.std.proofs.Common.{◌≡◌, ◌≢◌, subst, ℕ, ◌⊎◌, inl, inr, Bool, true, false, List, [], ◌∷◌, ◌++◌, length, refl, ap, sym, ◌∙◌, Some, arith, length-set}
use Rattle.std.specs.Prelude.{slice_get, slice_set}
use Rattle.std.proofs.lemmas.Bool.{cases_eq}
use Rattle.std.proofs.lemmas.Option.{same_Some}
use Rattle.list_laws.proofs.Lists.{last_push, slice_get-set_same, slice_get-set_other}
use Rattle.signal_values.specs.declared.PinSig.{PinSig}
use Rattle.netlist_model.specs.declared.Dir.{Dir}
use Rattle.netlist_model.specs.declared.Dir.TheVariants.{Input, Output}
use Rattle.netlist_model.specs.declared.NetId.{NetId}
use Rattle.netlist_model.specs.declared.PinBit.{PinBit}
use Rattle.netlist_model.specs.Settled.{follows_pin}
use Rattle.netlist_model.specs.Cones.{IsControlPort}
use Rattle.netlist_model.specs.Runs.{IsKnownPin, IsLegal}
use Rattle.netlist_link.specs.Linked.{LinkedView}
use Rattle.scan_vectors.specs.declared.lines.Act.{Act}
use Rattle.scan_vectors.specs.declared.lines.Act.TheVariants.{Start, Set, Expect}
use Rattle.scan_vectors.specs.declared.lines.Line.{Line}
use Rattle.scan_vectors.specs.Grammar.{act_of, pin_of, value_of}
use Rattle.scan_vectors.specs.declared.scripts.bits.Bit.{Bit}
use Rattle.scan_vectors.specs.Pins.{Names, side_of, net_of, TakesValue, IsControlBit, HasStart}
use Rattle.scan_vectors.specs.Rules.{NamesNothing, HasEvent, LacksStart, BreaksRule}
use Rattle.scan_vectors.specs.Rules.BreaksRule.{unknown, output, control, input, again, late, early}
use Rattle.scan_vectors.specs.Starts.{IsWordBit, takes, gives, shows, suits, AreWanted, IsAfter, IsWaiting, HasStarted, HasRun, HasDone, TakesLine}
use Rattle.scan_vectors.proofs.Flags.{get_push, get_push_left}
use Rattle.scan_vectors.proofs.Sides as sides

-- starts and events among the lines with one more

start_before : (L : LinkedView) (before : List Line) (line : Line) (pin : PinBit) → HasStart L before pin → HasStart L (before ++ line ∷ []) pin
start_before L before line pin has = record {
  place = has.place;
  line = has.line;
  there = get_push_left before line has.place has.line has.there;
  start = has.start;
  named = has.named;
}

start_here : (L : LinkedView) (before : List Line) (line : Line) (pin : PinBit) → act_of line ≡ Start → Names L (pin_of line) pin → HasStart L (before ++ line ∷ []) pin
start_here L before line pin start named = record { place = length before; line = line; there = last_push before line; start = start; named = named }

start_split : (L : LinkedView) (before : List Line) (line : Line) (pin : PinBit) → HasStart L (before ++ line ∷ []) pin
    → HasStart L before pin ⊎ ((act_of line ≡ Start) × Names L (pin_of line) pin)
start_split L before line pin has = elim (get_push before line has.place has.line has.there) [
  | inl there ↦ inl (record { place = has.place; line = has.line; there = there; start = has.start; named = has.named })
  | inr last ↦
      let same : line ≡ has.line = same_Some line has.line last.1 in
      let P : Line → Type 0 = λ l. Names L (pin_of l) pin in
      inr (ap act_of same ∙ has.start, subst P (sym same) has.named)
]

event_split : (before : List Line) (line : Line) → HasEvent (before ++ line ∷ []) → HasEvent before ⊎ (act_of line ≢ Start)
event_split before line has = elim (get_push before line has.place has.line has.there) [
  | inl there ↦ inl (record { place = has.place; line = has.line; there = there; event = has.event })
  | inr last ↦ inr (λ e. has.event (ap act_of (sym (same_Some line has.line last.1)) ∙ e))
]

-- facts of the bit that the line names

-- what holds of a bit that the line names holds of this one
named_side : (L : LinkedView) (word : List ℕ) (bit : Bit) (pin : PinBit) (side : Dir) → IsWordBit L word bit → Names L word pin → side_of L.arena.lists pin ≡ Some side → bit.side ≡ side
named_side L word bit pin side is named at =
    same_Some bit.side side (sym is.side_is ∙ ap (side_of L.arena.lists) (sym (is.only pin named)) ∙ at)

named_control : (L : LinkedView) (word : List ℕ) (bit : Bit) (pin : PinBit) → IsWordBit L word bit → Names L word pin → IsControlBit L.arena.lists pin → bit.control ≡ true
named_control L word bit pin is named port =
    let same : port.net ≡ bit.net = same_Some port.net bit.net (sym port.there ∙ ap (net_of L.arena.lists) (is.only pin named) ∙ is.net_is) in
    let P : NetId → Type 0 = λ n. IsControlPort L.arena.lists n.0 in
    is.control.1 (subst P same port.control)

control_bit : (L : LinkedView) (word : List ℕ) (bit : Bit) → IsWordBit L word bit → bit.control ≡ true → IsControlBit L.arena.lists bit.pin
control_bit L word bit is e = record { net = bit.net; there = is.net_is; control = is.control.0 e }

bit_value : (L : LinkedView) (word : List ℕ) (bit : Bit) → IsWordBit L word bit → takes bit.side ≡ true → TakesValue L.arena.lists bit.pin
bit_value L word bit is e = record {
  net = bit.net;
  there = is.net_is;
  side = ap follows_pin is.side_is ∙ sides.takes_follows bit.side e;
}

-- a bit that may be given no value

ungiven : (L : LinkedView) (before : List Line) (line : Line) (bit : Bit) → IsWordBit L (pin_of line) bit → act_of line ≢ Expect
    → gives bit.side bit.control (value_of line) ≡ false → BreaksRule L before line
ungiven L before line bit is act e = elim (sides.gives_not bit.side bit.control (value_of line) e) [
  | inl side ↦ output (record { pin = bit.pin; named = is.named; gives = act; output = is.side_is ∙ ap Some side })
  | inr both ↦ control (record {
    pin = bit.pin;
    named = is.named;
    gives = act;
    control = control_bit L (pin_of line) bit is both.0;
    value = sides.unknown (value_of line) both.1;
  })
]

-- the line can't do this with the bit
pub unsuited : (L : LinkedView) (before : List Line) (line : Line) (bit : Bit) (act : Act) → act ≡ act_of line → IsWordBit L (pin_of line) bit
    → suits act bit.side bit.control (value_of line) ≡ false → BreaksRule L before line
unsuited L before line bit Start act_is is e = ungiven L before line bit is (λ x. absurd (let no : Start ≡ Expect = act_is ∙ x in cc)) e
unsuited L before line bit Set act_is is e = ungiven L before line bit is (λ x. absurd (let no : Set ≡ Expect = act_is ∙ x in cc)) e
unsuited L before line bit Expect act_is is e =
    input (record { pin = bit.pin; named = is.named; expects = sym act_is; input = is.side_is ∙ ap Some (sides.shows_not bit.side e) })

-- no bit has the line's word
pub unnamed : (L : LinkedView) (before : List Line) (line : Line) → NamesNothing L line → BreaksRule L before line
unnamed L before line none = unknown none

-- refused by what came before

lacks : (L : LinkedView) (before : List Line) (starts : List Bool) → IsAfter L before starts → IsWaiting starts → LacksStart L before
lacks L before starts after waiting =
    let taken = after.wanted.only waiting.net waiting.wants in
    elim (after.wanted.each taken.pin (record { 0 = waiting.net }) taken.takes taken.net_is) [
      | inl wants ↦ record { pin = taken.pin; takes = taken.takes; none = wants.1 }
      | inr has ↦ absurd (let no : Some true ≡ Some false = sym waiting.wants ∙ has.0 in cc)
    ]

had_start : (L : LinkedView) (before : List Line) (starts : List Bool) (pin : PinBit) (net : NetId) → IsAfter L before starts → TakesValue L.arena.lists pin
    → net_of L.arena.lists pin ≡ Some net → slice_get starts net.0 ≡ Some false → HasStart L before pin
had_start L before starts pin net after value there e = elim (after.wanted.each pin net value there) [
  | inl wants ↦ absurd (let no : Some true ≡ Some false = sym wants.0 ∙ e in cc)
  | inr has ↦ has.1
]

pub refused : (L : LinkedView) (before : List Line) (line : Line) (bit : Bit) (act : Act) (old new : List Bool) → act ≡ act_of line → IsWordBit L (pin_of line) bit
    → suits act bit.side bit.control (value_of line) ≡ true → HasDone act bit.net.0 old new false → IsAfter L before old → BreaksRule L before line
refused L before line bit Start old new act_is is e flag after =
    let value = bit_value L (pin_of line) bit is (sides.gives_is bit.side bit.control (value_of line) e).0 in
    again (record { pin = bit.pin; named = is.named; start = sym act_is; had = had_start L before old bit.pin bit.net after value is.net_is flag })
refused L before line bit Set old new act_is is e waiting after =
    early (record { event = λ x. absurd (let no : Set ≡ Start = act_is ∙ x in cc); lacks = lacks L before old after waiting })
refused L before line bit Expect old new act_is is e waiting after =
    early (record { event = λ x. absurd (let no : Expect ≡ Start = act_is ∙ x in cc); lacks = lacks L before old after waiting })

-- taken: what is known then

wanted_started : (L : LinkedView) (before : List Line) (line : Line) (bit : Bit) (flags : List Bool) → IsWordBit L (pin_of line) bit → act_of line ≡ Start
    → slice_get flags bit.net.0 ≡ Some true → AreWanted L before flags → AreWanted L (before ++ line ∷ []) (slice_set flags bit.net.0 false)
wanted_started L before line bit flags is start wants wanted = record {
  count = length-set flags bit.net.0 false ∙ wanted.count;
  each = λ pin net value there. elim (cases_eq net.0 bit.net.0) [
    | inl same ↦
        let at : pin ≡ bit.pin = is.alone pin (there ∙ ap (λ (n : ℕ). Some (record { 0 = n })) same) in
        let P : PinBit → Type 0 = Names L (pin_of line) in
        let count = wanted.count in
        let below = is.below in
        inr (
          ap (slice_get (slice_set flags bit.net.0 false)) same ∙ slice_get-set_same flags bit.net.0 false (omega arith),
          start_here L before line pin start (subst P (sym at) is.named),
        )
    | inr apart ↦ elim (wanted.each pin net value there) [
      | inl old ↦ inl (
        slice_get-set_other flags bit.net.0 net.0 false apart ∙ old.0,
        λ has. elim (start_split L before line pin has) [
          | inl earlier ↦ old.1 earlier
          | inr here ↦
              apart (ap (λ (n : NetId). n.0) (same_Some net bit.net (sym there ∙ ap (net_of L.arena.lists) (is.only pin here.1) ∙ is.net_is)))
        ],
      )
      | inr old ↦ inr (slice_get-set_other flags bit.net.0 net.0 false apart ∙ old.0, start_before L before line pin old.1)
    ]
  ];
  only = λ net at. elim (cases_eq net bit.net.0) [
    | inl same ↦
        let count = wanted.count in
        let below = is.below in
        absurd (let no : Some true ≡ Some false = sym at ∙ ap (slice_get (slice_set flags bit.net.0 false)) same ∙ slice_get-set_same flags bit.net.0 false (omega arith) in cc)
    | inr apart ↦ wanted.only net (sym (slice_get-set_other flags bit.net.0 net false apart) ∙ at)
  ];
}

wanted_same : (L : LinkedView) (before : List Line) (line : Line) (flags : List Bool) → act_of line ≢ Start → AreWanted L before flags → AreWanted L (before ++ line ∷ []) flags
wanted_same L before line flags event wanted = record {
  count = wanted.count;
  each = λ pin net value there. elim (wanted.each pin net value there) [
    | inl old ↦ inl (old.0, λ has. elim (start_split L before line pin has) [ inl earlier ↦ old.1 earlier | inr here ↦ event here.0 ])
    | inr old ↦ inr (old.0, start_before L before line pin old.1)
  ];
  only = wanted.only;
}

after_start : (L : LinkedView) (before : List Line) (line : Line) (bit : Bit) (old new : List Bool) → IsWordBit L (pin_of line) bit → act_of line ≡ Start
    → HasStarted old new bit.net.0 → IsAfter L before old → IsAfter L (before ++ line ∷ []) new
after_start L before line bit old new is start done after =
    let P : List Bool → Type 0 = AreWanted L (before ++ line ∷ []) in
    record {
      wanted = subst P (sym done.new_is) (wanted_started L before line bit old is start done.wants after.wanted);
      begun = λ has. elim (event_split before line has) [
        | inl earlier ↦ absurd (after.begun earlier bit.net.0 done.wants)
        | inr event ↦ absurd (event start)
      ];
    }

after_event : (L : LinkedView) (before : List Line) (line : Line) (old new : List Bool) → act_of line ≢ Start → HasRun old new → IsAfter L before old → IsAfter L (before ++ line ∷ []) new
after_event L before line old new event done after =
    let P : List Bool → Type 0 = AreWanted L (before ++ line ∷ []) in
    let Q : List Bool → Type 0 = λ flags. (net : ℕ) → slice_get flags net ≡ Some true → ⊥ in
    record {
      wanted = subst P (sym done.new_is) (wanted_same L before line old event after.wanted);
      begun = λ has. subst Q (sym done.new_is) done.complete;
    }

-- taken: no rule is broken

-- the rules on giving a value, of a line that may
given_kept : (L : LinkedView) (line : Line) (bit : Bit) → IsWordBit L (pin_of line) bit → gives bit.side bit.control (value_of line) ≡ true
    → (takes bit.side ≡ true) × (bit.control ≡ true → IsKnownPin (value_of line))
given_kept L line bit is e =
    let both = sides.gives_is bit.side bit.control (value_of line) e in
    (both.0, λ c. sides.known (value_of line) (both.1 c))

start_kept : (L : LinkedView) (before : List Line) (line : Line) (bit : Bit) (old new : List Bool) → IsWordBit L (pin_of line) bit → act_of line ≡ Start
    → gives bit.side bit.control (value_of line) ≡ true → HasStarted old new bit.net.0 → IsAfter L before old → BreaksRule L before line → ⊥
start_kept L before line bit old new is start e done after (unknown none) = none bit.pin is.named
start_kept L before line bit old new is start e done after (output r) =
    sides.takes_no_output bit.side (given_kept L line bit is e).0 (named_side L (pin_of line) bit r.pin Output is r.named r.output)
start_kept L before line bit old new is start e done after (control r) =
    r.value ((given_kept L line bit is e).1 (named_control L (pin_of line) bit r.pin is r.named r.control))
start_kept L before line bit old new is start e done after (input r) = let no : Start ≡ Expect = sym start ∙ r.expects in cc
start_kept L before line bit old new is start e done after (again r) =
    let P : PinBit → Type 0 = HasStart L before in
    let value = bit_value L (pin_of line) bit is (given_kept L line bit is e).0 in
    elim (after.wanted.each bit.pin bit.net value is.net_is) [
      | inl wants ↦ wants.1 (subst P (is.only r.pin r.named) r.had)
      | inr has ↦ let no : Some true ≡ Some false = sym done.wants ∙ has.0 in cc
    ]
start_kept L before line bit old new is start e done after (late r) = after.begun r.late bit.net.0 done.wants
start_kept L before line bit old new is start e done after (early r) = r.event start

-- each bit has its start, where none wants one
complete : (L : LinkedView) (before : List Line) (starts : List Bool) → IsAfter L before starts → ((net : ℕ) → slice_get starts net ≡ Some true → ⊥)
    → (pin : PinBit) → TakesValue L.arena.lists pin → HasStart L before pin
complete L before starts after none pin value = elim (after.wanted.each pin value.net value value.there) [
  | inl wants ↦ absurd (none value.net.0 wants.0)
  | inr has ↦ has.1
]

pub all_started : (L : LinkedView) (before : List Line) (starts : List Bool) → IsAfter L before starts → ((net : ℕ) → slice_get starts net ≡ Some true → ⊥)
    → (pin : PinBit) → TakesValue L.arena.lists pin → HasStart L before pin
all_started = complete

pub start_lacks : (L : LinkedView) (before : List Line) (starts : List Bool) → IsAfter L before starts → IsWaiting starts → LacksStart L before
start_lacks = lacks

set_kept : (L : LinkedView) (before : List Line) (line : Line) (bit : Bit) (old new : List Bool) → IsWordBit L (pin_of line) bit → act_of line ≡ Set
    → gives bit.side bit.control (value_of line) ≡ true → HasRun old new → IsAfter L before old → BreaksRule L before line → ⊥
set_kept L before line bit old new is set e done after (unknown none) = none bit.pin is.named
set_kept L before line bit old new is set e done after (output r) =
    sides.takes_no_output bit.side (given_kept L line bit is e).0 (named_side L (pin_of line) bit r.pin Output is r.named r.output)
set_kept L before line bit old new is set e done after (control r) =
    r.value ((given_kept L line bit is e).1 (named_control L (pin_of line) bit r.pin is r.named r.control))
set_kept L before line bit old new is set e done after (input r) = let no : Set ≡ Expect = sym set ∙ r.expects in cc
set_kept L before line bit old new is set e done after (again r) = let no : Set ≡ Start = sym set ∙ r.start in cc
set_kept L before line bit old new is set e done after (late r) = let no : Set ≡ Start = sym set ∙ r.start in cc
set_kept L before line bit old new is set e done after (early r) = r.lacks.none (complete L before old after done.complete r.lacks.pin r.lacks.takes)

expect_kept : (L : LinkedView) (before : List Line) (line : Line) (bit : Bit) (old new : List Bool) → IsWordBit L (pin_of line) bit → act_of line ≡ Expect
    → shows bit.side ≡ true → HasRun old new → IsAfter L before old → BreaksRule L before line → ⊥
expect_kept L before line bit old new is expect e done after (unknown none) = none bit.pin is.named
expect_kept L before line bit old new is expect e done after (output r) = r.gives expect
expect_kept L before line bit old new is expect e done after (control r) = r.gives expect
expect_kept L before line bit old new is expect e done after (input r) =
    sides.shows_no_input bit.side e (named_side L (pin_of line) bit r.pin Input is r.named r.input)
expect_kept L before line bit old new is expect e done after (again r) = let no : Expect ≡ Start = sym expect ∙ r.start in cc
expect_kept L before line bit old new is expect e done after (late r) = let no : Expect ≡ Start = sym expect ∙ r.start in cc
expect_kept L before line bit old new is expect e done after (early r) = r.lacks.none (complete L before old after done.complete r.lacks.pin r.lacks.takes)

pub taken : (L : LinkedView) (before : List Line) (line : Line) (bit : Bit) (act : Act) (old new : List Bool) → act ≡ act_of line → IsWordBit L (pin_of line) bit
    → suits act bit.side bit.control (value_of line) ≡ true → HasDone act bit.net.0 old new true → IsAfter L before old
    → (BreaksRule L before line → ⊥) × IsAfter L (before ++ line ∷ []) new
taken L before line bit Start old new act_is is e done after =
    (start_kept L before line bit old new is (sym act_is) e done after, after_start L before line bit old new is (sym act_is) done after)
taken L before line bit Set old new act_is is e done after =
    (set_kept L before line bit old new is (sym act_is) e done after, after_event L before line old new (λ x. absurd (let no : Set ≡ Start = act_is ∙ x in cc)) done after)
taken L before line bit Expect old new act_is is e done after =
    (expect_kept L before line bit old new is (sym act_is) e done after, after_event L before line old new (λ x. absurd (let no : Expect ≡ Start = act_is ∙ x in cc)) done after)

-- a start or a set is a legal event
legal_event : (L : LinkedView) (word : List ℕ) (value : PinSig) (bit : Bit) (net : NetId) → IsWordBit L word bit → gives bit.side bit.control value ≡ true
    → net_of L.arena.lists bit.pin ≡ Some net → IsLegal L.arena.lists (record { net = net.0; value = value })
legal_event L word value bit net is e there =
    let both = sides.gives_is bit.side bit.control value e in
    let same : bit.net ≡ net = same_Some bit.net net (sym is.net_is ∙ there) in
    let P : NetId → Type 0 = λ n. IsLegal L.arena.lists (record { net = n.0; value = value }) in
    subst P same (record {
      taken = ap follows_pin is.direction_is ∙ sides.takes_follows bit.side both.0;
      control = λ port. sides.known value (both.1 (is.control.1 port));
    })

suited_event : (L : LinkedView) (word : List ℕ) (act : Act) (value : PinSig) (bit : Bit) (net : NetId) → IsWordBit L word bit → suits act bit.side bit.control value ≡ true
    → act ≢ Expect → net_of L.arena.lists bit.pin ≡ Some net → IsLegal L.arena.lists (record { net = net.0; value = value })
suited_event L word Start value bit net is e act there = legal_event L word value bit net is e there
suited_event L word Set value bit net is e act there = legal_event L word value bit net is e there
suited_event L word Expect value bit net is e act there = absurd (act refl)

-- the same, by the parts of the line

at_parts : (L : LinkedView) (word : List ℕ) (line : Line) (bit : Bit) → word ≡ pin_of line → IsWordBit L word bit → IsWordBit L (pin_of line) bit
at_parts L word line bit same is = let P : List ℕ → Type 0 = λ w. IsWordBit L w bit in subst P same is

pub line_refused : (L : LinkedView) (before : List Line) (line : Line) (act : Act) (word : List ℕ) (value : PinSig) (bit : Bit) (old new : List Bool)
    → act ≡ act_of line → word ≡ pin_of line → value ≡ value_of line → IsWordBit L word bit → suits act bit.side bit.control value ≡ true
    → HasDone act bit.net.0 old new false → IsAfter L before old → BreaksRule L before line
line_refused L before line act word value bit old new act_is word_is value_is is e done after =
    refused L before line bit act old new act_is (at_parts L word line bit word_is is) (ap (suits act bit.side bit.control) (sym value_is) ∙ e) done after

pub line_taken : (L : LinkedView) (before : List Line) (line : Line) (act : Act) (word : List ℕ) (value : PinSig) (number : ℕ) (bit : Bit) (old new : List Bool)
    → act ≡ act_of line → word ≡ pin_of line → value ≡ value_of line → IsWordBit L word bit → suits act bit.side bit.control value ≡ true
    → HasDone act bit.net.0 old new true → IsAfter L before old
    → TakesLine L before line number new (record { act = act; pin = bit.pin; value = value; number = number })
line_taken L before line act word value number bit old new act_is word_is value_is is e done after =
    let here = at_parts L word line bit word_is is in
    let both = taken L before line bit act old new act_is here (ap (suits act bit.side bit.control) (sym value_is) ∙ e) done after in
    record {
      taken = record {
        found_is = record { act = act_is; pin = here.named; value = value_is; number_is = refl };
        only = here.only;
        there = rw here.net_is refl;
        legal = λ net other there. suited_event L word act value bit net is e other there;
        kept = both.0;
      };
      after = both.1;
    }
