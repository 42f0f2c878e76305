-- The lines as they are gone through, and what they come to.
use Rattle.std.proofs.Common.{◌≡◌, ◌≢◌, subst, ℕ, ◌+◌, ◌<◌, inl, inr, Bool, List, [], ◌∷◌, ◌++◌, length, take, get_or, refl, ap, sym, ◌∙◌, Some, arith}
use Rattle.std.specs.Prelude.{slice_get}
use Rattle.std.proofs.lemmas.List.{length_push, length-map, take_all}
use Rattle.std.proofs.lemmas.Bool.{cases_eq, cases_lt}
use Rattle.std.proofs.lemmas.Option.{same_Some, slice_get_within, slice_get_read, slice_get-get_or}
use Rattle.list_laws.proofs.Lists.{slice_get_there, in_front}
use Rattle.netlist_model.specs.declared.PinBit.{PinBit}
use Rattle.netlist_link.specs.Linked.{LinkedView}
use Rattle.scan_vectors.specs.declared.lines.Act.TheVariants.{Start}
use Rattle.scan_vectors.specs.declared.lines.Line.{Line}
use Rattle.scan_vectors.specs.declared.lines.Lines.{Lines}
use Rattle.scan_vectors.specs.Grammar.{act_of, pin_of}
use Rattle.scan_vectors.specs.declared.scripts.script.ScriptLine.{ScriptLine}
use Rattle.scan_vectors.specs.Pins.{Names, HasStart}
use Rattle.scan_vectors.specs.Rules.{BreaksRule, IsBroken, IsUnbroken, IsFirstBroken, AreIllegalAt, AreLegal}
use Rattle.scan_vectors.specs.Rules.BreaksRule.{output, input, again, late}
use Rattle.scan_vectors.specs.Rules.AreIllegalAt.{broken, unstarted}
use Rattle.scan_vectors.specs.Scripts.{IsFound, IsScriptOf, IsStartAt, IsPlayable, IsResolved, IsSpelled, HaveNumbers}
use Rattle.scan_vectors.specs.Starts.{IsAfter, IsWaiting, IsComplete, IsTaken, TakesLine}
use Rattle.scan_vectors.proofs.Flags.{get_push, take_push}
use Rattle.scan_vectors.proofs.ScriptsSteps.{all_started, start_lacks}

-- there are as many numbers as lines
pub spelled_lengths : (lines : Lines) → IsSpelled lines → HaveNumbers lines
spelled_lengths lines is =
    let spells = is.spells in
    ap length spells.numbers_are ∙ length-map spells.written (λ w. w.number) ∙ sym (length-map spells.written (λ w. w.line)) ∙ sym (ap length spells.list_is)

-- what a look at a place of the lines gives

pub line_there : (lines : Lines) (items : List Line) (place : ℕ) (line : Line) → items ≡ lines.list → place < length items → line ≡ get_or items place line
    → slice_get lines.list place ≡ Some line
line_there lines items place line same less read =
    let there = slice_get_read items (length items) place line refl less read in
    rw same at there

pub number_there : (lines : Lines) (items : List Line) (numbers : List ℕ) (place : ℕ) → HaveNumbers lines → items ≡ lines.list → numbers ≡ lines.numbers → place < length items
    → slice_get lines.numbers place ≡ Some (get_or numbers place 0)
number_there lines items numbers place counted same same_numbers less =
    let counts : length numbers ≡ length items = ap length same_numbers ∙ counted ∙ sym (ap length same) in
    ap (λ ns. slice_get ns place) (sym same_numbers) ∙ slice_get-get_or numbers place 0 (omega arith)

-- the line of a place in the script
pub record IsGoneLine (L : LinkedView) (lines : Lines) (place : ℕ) (found : ScriptLine) : Type 0 where
  pub line : Line
  pub number : ℕ
  pub there : slice_get lines.list place ≡ Some line
  pub numbered : slice_get lines.numbers place ≡ Some number
  pub taken : IsTaken L (take place lines.list) line number found

-- the first so many lines were gone through
pub record IsGone (L : LinkedView) (lines : Lines) (place : ℕ) (script : List ScriptLine) (starts : List Bool) : Type 0 where
  pub after : IsAfter L (take place lines.list) starts
  pub kept : (earlier : ℕ) → earlier < place → IsBroken L lines.list earlier → ⊥
  pub count : length script ≡ place
  pub each : (k : ℕ) (found : ScriptLine) → slice_get script k ≡ Some found → IsGoneLine L lines k found

pub gone_none : (L : LinkedView) (lines : Lines) (starts : List Bool) → IsAfter L [] starts → IsGone L lines 0 [] starts
gone_none L lines starts after = record {
  after = after;
  kept = λ earlier less is. omega arith;
  count = refl;
  each = λ k found at. absurd (nothing k found at);
}
  where
    nothing : (k : ℕ) (found : ScriptLine) → slice_get [] k ≡ Some found → ⊥
    nothing k found at = cc

-- one line more
pub gone_next : (L : LinkedView) (lines : Lines) (place : ℕ) (script : List ScriptLine) (old new : List Bool) (line : Line) (number : ℕ) (found : ScriptLine)
    → slice_get lines.list place ≡ Some line → slice_get lines.numbers place ≡ Some number → TakesLine L (take place lines.list) line number new found
    → IsGone L lines place script old → IsGone L lines (place + 1) (script ++ found ∷ []) new
gone_next L lines place script old new line number found there numbered takes gone =
    let P : List Line → Type 0 = λ before. IsAfter L before new in
    record {
      after = subst P (sym (take_push lines.list place line there)) takes.after;
      kept = λ earlier less is. elim (cases_lt earlier place) [
        | inl low ↦ gone.kept earlier low is
        | inr high ↦
            let at : earlier ≡ place = omega arith in
            let same : is.line ≡ line = same_Some is.line line (sym is.there ∙ ap (slice_get lines.list) at ∙ there) in
            let Q : ℕ → Type 0 = λ k. BreaksRule L (take k lines.list) is.line in
            let R : Line → Type 0 = λ l. BreaksRule L (take place lines.list) l in
            takes.taken.kept (subst R same (subst Q at is.rule))
      ];
      count = length_push script found ∙ ap (λ n. n + 1) gone.count;
      each = λ k other at. elim (get_push script found k other at) [
        | inl before ↦ gone.each k other before
        | inr last ↦
            let here : place ≡ k = sym (last.0 ∙ gone.count) in
            let same : found ≡ other = same_Some found other last.1 in
            let Q : ℕ → Type 0 = λ n. IsGoneLine L lines n other in
            let R : ScriptLine → Type 0 = λ f. IsGoneLine L lines place f in
            subst Q here (subst R same (record { line = line; number = number; there = there; numbered = numbered; taken = takes.taken }))
      ];
    }

-- the next line breaks a rule
pub gone_broken : (L : LinkedView) (lines : Lines) (place : ℕ) (script : List ScriptLine) (starts : List Bool) (line : Line) (number : ℕ)
    → slice_get lines.list place ≡ Some line → slice_get lines.numbers place ≡ Some number → BreaksRule L (take place lines.list) line
    → IsGone L lines place script starts → AreIllegalAt L lines number
gone_broken L lines place script starts line number there numbered rule gone =
    broken (record { here = record { line = line; there = there; rule = rule }; first = gone.kept }) numbered

-- all lines were gone through

gone_unbroken : (L : LinkedView) (lines : Lines) (place : ℕ) (script : List ScriptLine) (starts : List Bool) → place ≡ length lines.list → IsGone L lines place script starts → IsUnbroken L lines.list
gone_unbroken L lines place script starts all gone k is =
    let within = slice_get_within lines.list k is.line is.there in
    gone.kept k (omega arith) is

-- what came is all of the list
gone_after : (L : LinkedView) (lines : Lines) (place : ℕ) (script : List ScriptLine) (starts : List Bool) → place ≡ length lines.list → IsGone L lines place script starts → IsAfter L lines.list starts
gone_after L lines place script starts all gone =
    let P : List Line → Type 0 = λ before. IsAfter L before starts in
    subst P (take_all place lines.list (omega arith)) gone.after

pub gone_waiting : (L : LinkedView) (lines : Lines) (place : ℕ) (script : List ScriptLine) (starts : List Bool) → place ≡ length lines.list → IsGone L lines place script starts
    → IsWaiting starts → AreIllegalAt L lines lines.end
gone_waiting L lines place script starts all gone waiting =
    unstarted (gone_unbroken L lines place script starts all gone) (start_lacks L lines.list starts (gone_after L lines place script starts all gone) waiting)

gone_legal : (L : LinkedView) (lines : Lines) (place : ℕ) (script : List ScriptLine) (starts : List Bool) → place ≡ length lines.list → IsGone L lines place script starts
    → IsComplete starts → AreLegal L lines
gone_legal L lines place script starts all gone complete = record {
  unbroken = gone_unbroken L lines place script starts all gone;
  started = all_started L lines.list starts (gone_after L lines place script starts all gone) complete;
}

gone_same : (L : LinkedView) (lines : Lines) (place : ℕ) (script : List ScriptLine) (starts : List Bool) → place ≡ length lines.list → IsGone L lines place script starts → IsScriptOf L lines script
gone_same L lines place script starts all gone = record {
  count = gone.count ∙ all;
  each = λ k line number found there numbered at.
      let is = gone.each k found at in
      let same : is.line ≡ line = same_Some is.line line (sym is.there ∙ there) in
      let count : is.number ≡ number = same_Some is.number number (sym is.numbered ∙ numbered) in
      let P : Line → Type 0 = λ l. IsFound L l is.number found in
      let Q : ℕ → Type 0 = λ n. IsFound L line n found in
      subst Q count (subst P same is.taken.found_is);
}

-- the rules, by the lines of the script

gone_once : (L : LinkedView) (lines : Lines) (place : ℕ) (script : List ScriptLine) (starts : List Bool) → IsGone L lines place script starts
    → (one other : ℕ) (pin : PinBit) → one < other → IsStartAt script one pin → IsStartAt script other pin → ⊥
gone_once L lines place script starts gone one other pin less first second =
    let early = gone.each one first.line first.there in
    let late = gone.each other second.line second.there in
    let P : PinBit → Type 0 = Names L (pin_of early.line) in
    let Q : PinBit → Type 0 = Names L (pin_of late.line) in
    late.taken.kept (again (record {
      pin = pin;
      named = subst Q second.pin_is late.taken.found_is.pin;
      start = sym late.taken.found_is.act ∙ second.start;
      had = record {
        place = one;
        line = early.line;
        there = in_front lines.list other one early.line less early.there;
        start = sym early.taken.found_is.act ∙ first.start;
        named = subst P first.pin_is early.taken.found_is.pin;
      };
    }))

gone_first : (L : LinkedView) (lines : Lines) (place : ℕ) (script : List ScriptLine) (starts : List Bool) → IsGone L lines place script starts
    → (start event : ℕ) (pin : PinBit) (line : ScriptLine) → IsStartAt script start pin → slice_get script event ≡ Some line → line.act ≢ Start → event < start → ⊥
gone_first L lines place script starts gone start event pin line is at act less =
    let one = gone.each start is.line is.there in
    let before = gone.each event line at in
    one.taken.kept (late (record {
      start = sym one.taken.found_is.act ∙ is.start;
      late = record {
        place = event;
        line = before.line;
        there = in_front lines.list start event before.line less before.there;
        event = λ e. act (before.taken.found_is.act ∙ e);
      };
    }))

-- a start of the lines is one of the script
gone_start : (L : LinkedView) (lines : Lines) (place : ℕ) (script : List ScriptLine) (starts : List Bool) → place ≡ length lines.list → IsGone L lines place script starts
    → (pin : PinBit) → HasStart L lines.list pin → (at : ℕ) × IsStartAt script at pin
gone_start L lines place script starts all gone pin has =
    let within = slice_get_within lines.list has.place has.line has.there in
    let count = gone.count in
    let found = slice_get_there script has.place (omega arith) in
    let is = gone.each has.place found.0 found.1 in
    let same : has.line ≡ is.line = same_Some has.line is.line (sym has.there ∙ is.there) in
    let P : Line → Type 0 = λ l. Names L (pin_of l) pin in (
      has.place,
      record {
        line = found.0;
        there = found.1;
        start = is.taken.found_is.act ∙ ap act_of (sym same) ∙ has.start;
        pin_is = sym (is.taken.only pin (subst P same has.named));
      },
    )

gone_playable : (L : LinkedView) (lines : Lines) (place : ℕ) (script : List ScriptLine) (starts : List Bool) → place ≡ length lines.list → IsGone L lines place script starts
    → IsComplete starts → IsPlayable L.arena.lists script
gone_playable L lines place script starts all gone complete = record {
  there = λ k line at. (gone.each k line at).taken.there;
  starts_first = λ start event pin line is at act. elim (cases_lt start event) [
    | inl less ↦ less
    | inr not_less ↦ elim (cases_eq start event) [
      | inl same ↦
          let here : is.line ≡ line = same_Some is.line line (sym is.there ∙ ap (slice_get script) same ∙ at) in
          absurd (act (ap (λ (l : ScriptLine). l.act) (sym here) ∙ is.start))
      | inr apart ↦ absurd (gone_first L lines place script starts gone start event pin line is at act (omega (arith, apart)))
    ]
  ];
  each_started = λ pin takes. gone_start L lines place script starts all gone pin ((gone_legal L lines place script starts all gone complete).started pin takes);
  once = λ one other pin first second. elim (cases_eq one other) [
    | inl same ↦ same
    | inr apart ↦ elim (cases_lt one other) [
      | inl less ↦ absurd (gone_once L lines place script starts gone one other pin less first second)
      | inr not_less ↦ absurd (gone_once L lines place script starts gone other one pin (omega (arith, apart)) second first)
    ]
  ];
  legal = λ k line net at. (gone.each k line at).taken.legal net;
  outputs = λ k line at act side.
      let gone_line = gone.each k line at in
      let found = gone_line.taken.found_is in
      gone_line.taken.kept (output (record { pin = line.pin; named = found.pin; gives = λ e. act (found.act ∙ e); output = side }));
  inputs = λ k line at act side.
      let gone_line = gone.each k line at in
      let found = gone_line.taken.found_is in
      gone_line.taken.kept (input (record { pin = line.pin; named = found.pin; expects = sym found.act ∙ act; input = side }));
}

pub gone_all : (L : LinkedView) (lines : Lines) (place : ℕ) (script : List ScriptLine) (starts : List Bool) → place ≡ length lines.list → IsGone L lines place script starts
    → IsComplete starts → IsResolved L lines script
gone_all L lines place script starts all gone complete = record {
  legal = gone_legal L lines place script starts all gone complete;
  same = gone_same L lines place script starts all gone;
  playable = gone_playable L lines place script starts all gone complete;
}

-- legal or illegal, and where

pub legal_is_not_illegal : (L : LinkedView) (lines : Lines) (number : ℕ) → AreLegal L lines → AreIllegalAt L lines number → ⊥
legal_is_not_illegal L lines number legal (broken {place = place} first at) = legal.unbroken place first.here
legal_is_not_illegal L lines number legal (unstarted none lacks) = lacks.none (legal.started lacks.pin lacks.takes)

one_first : (L : LinkedView) (lines : List Line) (one other : ℕ) → IsFirstBroken L lines one → IsFirstBroken L lines other → one ≡ other
one_first L lines one other a b = elim (cases_lt one other) [
  | inl less ↦ absurd (b.first one less a.here)
  | inr not_less ↦ elim (cases_lt other one) [
    | inl less ↦ absurd (a.first other less b.here)
    | inr same ↦ omega arith
  ]
]

pub illegal_at_one_line : (L : LinkedView) (lines : Lines) (one other : ℕ) → AreIllegalAt L lines one → AreIllegalAt L lines other → one ≡ other
illegal_at_one_line L lines one other (broken {place = p} first at) (broken {place = q} second here) =
    same_Some one other (sym at ∙ ap (slice_get lines.numbers) (one_first L lines.list p q first second) ∙ here)
illegal_at_one_line L lines one other (broken {place = p} first at) (unstarted none lacks) = absurd (none p first.here)
illegal_at_one_line L lines one other (unstarted none lacks) (broken {place = q} second here) = absurd (none q second.here)
illegal_at_one_line L lines one other (unstarted none lacks) (unstarted none_too lacks_too) = refl
