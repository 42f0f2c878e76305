-- How far a script was judged: the moments so far are those of its run.
use Rattle.std.proofs.Common.{◌≡◌, ◌≢◌, ℕ, suc, ◌+◌, ◌<◌, ◌≤◌, nat_le, true, false, Bool, List, [], ◌∷◌, ◌++◌, length, take, filter, refl, sym, ◌∙◌, ap, arith, append-nil, Some, None, inl, inr}
use Rattle.std.specs.Prelude.{if◌then◌else◌}
use Rattle.std.specs.List.{slice_get}
use Rattle.std.proofs.lemmas.Bool.{cases_lt}
use Rattle.std.proofs.lemmas.List.{length_push, length-append}
use Rattle.std.proofs.lemmas.List.Elements.{filter-append}
use Rattle.std.proofs.lemmas.Option.{same_Some, slice_get_within}
use Rattle.list_laws.proofs.Lists.{slice_get-append_left, slice_get-append_right, taken_more, front_all}
use Rattle.netlist_model.specs.declared.NetId.{NetId}
use Rattle.netlist_model.specs.Lists.{NetlistView}
use Rattle.netlist_model.specs.Runs.{Moment, PinEvent, IsStep, reading_at}
use Rattle.scan_vectors.specs.declared.lines.Act.{Act}
use Rattle.scan_vectors.specs.declared.lines.Act.TheVariants.{Start, Set, Expect}
use Rattle.scan_vectors.specs.declared.scripts.script.ScriptLine.{ScriptLine}
use Rattle.netlist_meaning.specs.Pins.{net_of}
use Rattle.sim_runs.specs.Runs.{net_number, event_of, events_of}
use Rattle.sim_runs.specs.Outputs.{sets_with}
use Rattle.sim_runs.specs.PlayedScript.{IsFirst, Moves}
use Rattle.conformance_report.specs.declared.verdict.Missed.{Missed}
use Rattle.conformance_report.specs.declared.verdict.Verdict.{Verdict}
use Rattle.conformance_report.specs.Verdicts.{Judges, IsVerdict, expected_by, expected, expectation, is_met, is_missed}
use Rattle.conformance_report.proofs.Expected.{expected_more, expected_same, events_more}

-- a run of these lines, which ends at this moment
pub record IsRunTo (N : NetlistView) (script lines : List ScriptLine) (sets : ℕ) (m : Moment) (moment : ℕ → Moment) : Type 0 where
  pub first : IsFirst N script (moment 0)
  pub steps : (t : ℕ) (event : PinEvent) → slice_get (events_of N lines) t ≡ Some event → IsStep N event (moment t) (moment (suc t))
  pub sets_are : sets ≡ length (events_of N lines)
  pub last : moment sets ≡ m

-- so many lines were judged
pub record IsJudged (N : NetlistView) (script : List ScriptLine) (count : ℕ) (m : Moment) (verdict : Verdict) : Type 0 where
  pub moment : ℕ → Moment
  pub run : IsRunTo N script (take count script) verdict.sets m moment
  pub met_are : verdict.met ≡ length (filter is_met (expected N moment 0 (take count script)))
  pub missed_are : verdict.missed ≡ filter is_missed (expected N moment 0 (take count script))

pub none_judged : (N : NetlistView) (script : List ScriptLine) (m : Moment) (verdict : Verdict) → IsFirst N script m → verdict.sets ≡ 0 → verdict.met ≡ 0 → verdict.missed ≡ [] → IsJudged N script 0 m verdict
none_judged N script m verdict first sets met missed = record {
  moment = λ t. m;
  run = record {
    first = first;
    steps = λ t event at. absurd (let no : None ≡ Some event = at in cc);
    sets_are = sets;
    last = refl;
  };
  met_are = met;
  missed_are = missed;
}

-- One line more of a run.

-- the moments up to this one, and from there on another
abbrev extended : (ℕ → Moment) → ℕ → Moment → ℕ → Moment
extended moment sets m t = if nat_le t sets then moment t else m

extended_before : (moment : ℕ → Moment) (sets : ℕ) (m : Moment) (t : ℕ) → t ≤ sets → extended moment sets m t ≡ moment t
extended_before moment sets m t within = let le : nat_le t sets ≡ true = grind arith in rw le refl

extended_behind : (moment : ℕ → Moment) (sets : ℕ) (m : Moment) (t : ℕ) → sets < t → extended moment sets m t ≡ m
extended_behind moment sets m t past = let le : nat_le t sets ≡ false = grind arith in rw le refl

-- the moments that were there stay, and the run goes on to the next
record GoesOn (N : NetlistView) (script lines : List ScriptLine) (sets : ℕ) (m' : Moment) (moment : ℕ → Moment) (sets' : ℕ) : Type 0 where
  moment' : ℕ → Moment
  same : (t : ℕ) → t ≤ sets → moment t ≡ moment' t
  run : IsRunTo N script lines sets' m' moment'

event_is : (N : NetlistView) (line : ScriptLine) (net : NetId) → net_of N.ports line.pin ≡ Some net → net_number N line.pin ≡ net.0
event_is N line net named = rw named refl

stays : (N : NetlistView) (script lines lines' : List ScriptLine) (sets : ℕ) (m m' : Moment) (moment : ℕ → Moment) → m' ≡ m → events_of N lines' ≡ events_of N lines
    → IsRunTo N script lines sets m moment → GoesOn N script lines' sets m' moment sets
stays N script lines lines' sets m m' moment moves events run = record {
  moment' = moment;
  same = λ t within. refl;
  run = record {
    first = run.first;
    steps = λ t event at. run.steps t event (rw events at at);
    sets_are = run.sets_are ∙ ap (λ (es : List PinEvent). length es) (sym events);
    last = run.last ∙ sym moves;
  };
}

steps_to : (N : NetlistView) (script lines lines' : List ScriptLine) (sets : ℕ) (m m' : Moment) (moment : ℕ → Moment) (event : PinEvent) → IsStep N event m m'
    → events_of N lines' ≡ events_of N lines ++ event ∷ [] → IsRunTo N script lines sets m moment → GoesOn N script lines' sets m' moment (suc sets)
steps_to N script lines lines' sets m m' moment event step events run = record {
  moment' = extended moment sets m';
  same = λ t within. sym (extended_before moment sets m' t within);
  run = record {
    first = rw (extended_before moment sets m' 0 (omega arith)) run.first;
    steps = λ t found at. elim (cases_lt t sets) [
      | inl early ↦ (let count = run.sets_are in
          let old : slice_get (events_of N lines) t ≡ Some found =
          sym (slice_get-append_left (events_of N lines) (event ∷ []) t (omega (arith, early, count))) ∙ ap (λ (es : List PinEvent). slice_get es t) (sym events) ∙ at in
          rw (extended_before moment sets m' t (omega (arith, early)), extended_before moment sets m' (suc t) (omega (arith, early))) (run.steps t found old))
      | inr late ↦ (let count = run.sets_are in
          let within = slice_get_within (events_of N lines') t found at in
          let long : length (events_of N lines') ≡ length (events_of N lines) + 1 = ap (λ (es : List PinEvent). length es) events ∙ length_push (events_of N lines) event in
          let here : t ≡ sets = omega (arith, within, long, count, late) in
          let is : Some event ≡ Some found =
          sym (slice_get-append_right (events_of N lines) (event ∷ []) t 0 (omega (arith, here, count))) ∙ ap (λ (es : List PinEvent). slice_get es t) (sym events) ∙ at in
          let same : event ≡ found = same_Some event found is in
          rw (extended_before moment sets m' t (omega (arith, here)), extended_behind moment sets m' (suc t) (omega (arith, here)))
          (rw (ap moment here ∙ run.last, sym same) step))
    ];
    sets_are = (let count = run.sets_are in let long : length (events_of N lines') ≡ length (events_of N lines) + 1 = ap (λ (es : List PinEvent). length es) events ∙ length_push (events_of N lines) event in
        omega (arith, count, long));
    last = extended_behind moment sets m' (suc sets) (omega arith);
  };
}

goes_on : (N : NetlistView) (script lines : List ScriptLine) (sets : ℕ) (m m' : Moment) (moment : ℕ → Moment) (line : ScriptLine) (act : Act) → line.act ≡ act → Moves act N line m m'
    → IsRunTo N script lines sets m moment → GoesOn N script (lines ++ line ∷ []) sets m' moment (sets_with act sets)
goes_on N script lines sets m m' moment line Start is moves run =
    stays N script lines (lines ++ line ∷ []) sets m m' moment moves (events_more N lines line ∙ rw is (append-nil (events_of N lines))) run
goes_on N script lines sets m m' moment line Expect is moves run =
    stays N script lines (lines ++ line ∷ []) sets m m' moment moves (events_more N lines line ∙ rw is (append-nil (events_of N lines))) run
goes_on N script lines sets m m' moment line Set is moves run =
    let own : IsStep N (event_of N line) m m' = rw (event_is N line moves.net moves.named) moves.step in
    steps_to N script lines (lines ++ line ∷ []) sets m m' moment (event_of N line) own (events_more N lines line ∙ rw is refl) run

-- One line more of the script.

count_two : {X : Type 0} (p : X → Bool) (xs ys : List X) → length (filter p (xs ++ ys)) ≡ length (filter p xs) + length (filter p ys)
count_two {X = X} p xs ys = ap (λ (zs : List X). length zs) (filter-append p xs ys) ∙ length-append (filter p xs) (filter p ys)

pub line_judged : (N : NetlistView) (script : List ScriptLine) (count : ℕ) (m m' : Moment) (old new : Verdict) (line : ScriptLine) → slice_get script count ≡ Some line
    → Moves line.act N line m m' → new.sets ≡ sets_with line.act old.sets → Judges (expected_by line.act N line m) old new → IsJudged N script count m old → IsJudged N script (count + 1) m' new
line_judged N script count m m' old new line at moves sets judges so_far =
    let lines : List ScriptLine = take count script in
    let next : take (count + 1) script ≡ lines ++ line ∷ [] = sym (taken_more script count line lines (lines ++ line ∷ []) at refl refl) in
    let on = goes_on N script lines old.sets m m' so_far.moment line line.act refl moves so_far.run in
    let events = so_far.run.sets_are in
    let before : expected N on.moment' 0 lines ≡ expected N so_far.moment 0 lines =
    sym (expected_same N so_far.moment on.moment' 0 lines (λ t within. on.same t (omega (arith, within, events)))) in
    let now : on.moment' (0 + length (events_of N lines)) ≡ m =
    ap on.moment' (let n : 0 + length (events_of N lines) ≡ old.sets = omega (arith, events) in n) ∙ sym (on.same old.sets (omega arith)) ∙ so_far.run.last in
    let all : expected N on.moment' 0 (take (count + 1) script) ≡ expected N so_far.moment 0 lines ++ expected_by line.act N line m =
    ap (λ (ls : List ScriptLine). expected N on.moment' 0 ls) next ∙ expected_more N on.moment' 0 lines line
    ∙ ap (λ (es : List Missed). es ++ expected_by line.act N line (on.moment' (0 + length (events_of N lines)))) before
    ∙ ap (λ (at_end : Moment). expected N so_far.moment 0 lines ++ expected_by line.act N line at_end) now in
    record {
      moment = on.moment';
      run = rw (next, sets) on.run;
      met_are = judges.met ∙ ap (λ n. n + length (filter is_met (expected_by line.act N line m))) so_far.met_are
          ∙ sym (count_two is_met (expected N so_far.moment 0 lines) (expected_by line.act N line m)) ∙ ap (λ (es : List Missed). length (filter is_met es)) (sym all);
      missed_are = judges.missed ∙ ap (λ (es : List Missed). es ++ filter is_missed (expected_by line.act N line m)) so_far.missed_are
          ∙ sym (filter-append is_missed (expected N so_far.moment 0 lines) (expected_by line.act N line m)) ∙ ap (λ (es : List Missed). filter is_missed es) (sym all);
    }

-- all lines were judged
pub all_judged : (N : NetlistView) (script : List ScriptLine) (count : ℕ) (m : Moment) (verdict : Verdict) → length script ≤ count → IsJudged N script count m verdict → IsVerdict N script verdict
all_judged N script count m verdict long judged =
    let all : take count script ≡ script = front_all script count long in
    let run : IsRunTo N script script verdict.sets m judged.moment = rw all at judged.run in
    record {
      moment = judged.moment;
      run = record { starts = run.first.starts; run = record { start = run.first.start; steps = run.steps } };
      sets_are = run.sets_are;
      met_are = rw all at judged.met_are;
      missed_are = rw all at judged.missed_are;
    }

-- Bounds, and that each line can be played.

count_one : (e : Missed) → length (filter is_met (e ∷ [])) ≤ 1
count_one e = go (is_met e) refl
  where
    go : (met : Bool) → is_met e ≡ met → length (filter is_met (e ∷ [])) ≤ 1
    go true is = rw is (omega arith)
    go false is = rw is (omega arith)

pub met_most : (N : NetlistView) (line : ScriptLine) (m : Moment) (act : Act) → length (filter is_met (expected_by act N line m)) ≤ 1
met_most N line m Start = omega arith
met_most N line m Set = omega arith
met_most N line m Expect = count_one (expectation line (reading_at N m (net_number N line.pin)))
