-- The expectations of the front of a script.
use Rattle.std.proofs.Common.{◌≡◌, ℕ, ◌+◌, ◌≤◌, List, [], ◌∷◌, ◌++◌, length, refl, sym, ◌∙◌, ap, arith, append_assoc, append-nil}
use Rattle.std.proofs.lemmas.Grind.{flat_map-append}
use Rattle.netlist_model.specs.Lists.{NetlistView}
use Rattle.netlist_model.specs.Runs.{Moment, PinEvent}
use Rattle.scan_vectors.specs.declared.lines.Act.{Act}
use Rattle.scan_vectors.specs.declared.lines.Act.TheVariants.{Start, Set, Expect}
use Rattle.scan_vectors.specs.declared.scripts.script.ScriptLine.{ScriptLine}
use Rattle.sim_runs.specs.Runs.{event_of, events_at, events_of}
use Rattle.sim_runs.specs.Outputs.{sets_with}
use Rattle.conformance_report.specs.declared.verdict.Missed.{Missed}
use Rattle.conformance_report.specs.Verdicts.{expected_by, expected}

-- how many sets there are behind a line and these
sets_behind : (act : Act) (event : PinEvent) (sets : ℕ) (rest : List PinEvent) → sets_with act sets + length rest ≡ sets + length (events_at act event ++ rest)
sets_behind Start event sets rest = refl
sets_behind Set event sets rest = omega arith
sets_behind Expect event sets rest = refl

-- the expectations of one line more
pub expected_more : (N : NetlistView) (moment : ℕ → Moment) (sets : ℕ) (script : List ScriptLine) (line : ScriptLine)
    → expected N moment sets (script ++ line ∷ []) ≡ expected N moment sets script ++ expected_by line.act N line (moment (sets + length (events_of N script)))
expected_more N moment sets [] line =
    append-nil (expected_by line.act N line (moment sets)) ∙ (let none : sets ≡ sets + 0 = omega arith in ap (λ n. expected_by line.act N line (moment n)) none)
expected_more N moment sets (first ∷ script) line =
    let head : List Missed = expected_by first.act N first (moment sets) in
    let rest : List Missed = expected N moment (sets_with first.act sets) script in
    ap (λ (es : List Missed). head ++ es) (expected_more N moment (sets_with first.act sets) script line
    ∙ ap (λ n. rest ++ expected_by line.act N line (moment n)) (sets_behind first.act (event_of N first) sets (events_of N script)))
    ∙ sym (append_assoc head rest (expected_by line.act N line (moment (sets + length (events_of N (first ∷ script))))))

-- they hang on the moments of these lines alone
pub expected_same : (N : NetlistView) (moment moment' : ℕ → Moment) (sets : ℕ) (script : List ScriptLine)
    → ((t : ℕ) → t ≤ sets + length (events_of N script) → moment t ≡ moment' t) → expected N moment sets script ≡ expected N moment' sets script
expected_same N moment moment' sets [] same = refl
expected_same N moment moment' sets (first ∷ script) same =
    let behind = sets_behind first.act (event_of N first) sets (events_of N script) in
    let here : moment sets ≡ moment' sets = same sets (omega arith) in
    rw (here, expected_same N moment moment' (sets_with first.act sets) script (λ t within. same t (omega (arith, within, behind)))) refl

-- the events of one line more
pub events_more : (N : NetlistView) (script : List ScriptLine) (line : ScriptLine) → events_of N (script ++ line ∷ []) ≡ events_of N script ++ events_at line.act (event_of N line)
events_more N script line =
    flat_map-append (λ (l : ScriptLine). events_at l.act (event_of N l)) script (line ∷ [])
    ∙ ap (λ (es : List PinEvent). events_of N script ++ es) (append-nil (events_at line.act (event_of N line)))
