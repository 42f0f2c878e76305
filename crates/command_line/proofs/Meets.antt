-- A check of a netlist that keeps and realises, by the program of its device, misses nothing.
use Rattle.std.proofs.Common.{◌≡◌, ◌≢◌, ℕ, List, [], ◌∷◌, length, Option, Some, None, inr, sym, subst, ap, ◌∙◌}
use Rattle.cell_library.specs.declared.listed.ListedCell.{ListedCell}
use Rattle.cell_text.specs.Grammar.{SpellsLibrary}
use Rattle.cell_text.specs.Laws as libraries
use Rattle.command_faults.specs.declared.status.Status.{Status}
use Rattle.command_faults.specs.declared.status.Status.TheVariants as status
use Rattle.command_edges.specs.Ends.{IsEnd, run_status}
use Rattle.command_edges.specs.Seen.{ShelfSeen, SinkSeen}
use Rattle.command_edges.specs.Libraries.{names_if, IsLibraryOf}
use Rattle.command_edges.specs.Texts.{AreRead}
use Rattle.command_edges.specs.Tasks as tasks
use Rattle.command_edges.proofs.Outcome.{told_same}
use Rattle.play_command.specs.Checks.{IsCheck}
use Rattle.play_command.specs.CheckTasks.{IsChecked, AreChecked, check_task}
use Rattle.insertion_laws.specs.ChecksLaws.{WrittenProgramsMissNothing}
use Rattle.insertion_laws.proofs.Marks.{misses_nothing_there}
use Rattle.command_line.specs.Forms.{Form}
use Rattle.command_line.specs.Tasks.{task_of}
use Rattle.command_line.specs.Causes.{Finishes}
use Rattle.command_line.specs.Meets.{AreOfChip, HoldsLibrary, MissesNothing}
use Rattle.command_line.proofs.FormLaws.{form_once}

none_missed : WrittenProgramsMissNothing → (library : List ListedCell) (net text lines put : List ℕ) (missed : ℕ) → AreOfChip library net text lines → IsCheck library net text lines put missed → missed ≡ 0
none_missed law library net text lines put missed of c =
    let n = c.netlist in
    c.checked.missed_is
    ∙ ap length (misses_nothing_there law library net text lines of.together of.program c.linked n.tree n.spells n.listed n.library_is n.links c.lines c.spells_lines c.checked.script c.checked.resolved c.checked.verdict c.checked.judged)

done_missed : status.Done ≢ status.Missed
done_missed e = cc

status_apart : (missed : ℕ) → missed ≡ 0 → run_status missed ≢ status.Missed
status_apart missed none = subst (λ (n : ℕ). run_status n ≢ status.Missed) (sym none) done_missed

-- the texts behind the three come to the library that is held
library_told : libraries.SpelledOnce → (held : List ℕ → Option (List ℕ)) (name : Option (List ℕ)) (library other : List ListedCell) (more : List (List ℕ)) → HoldsLibrary held name library
    → AreRead held (names_if name) more → IsLibraryOf more other → other ≡ library
library_told law held None library other [] holds read is = is ∙ sym holds
library_told law held None library other (text ∷ more) holds read is = absurd read
library_told law held (Some name) library other [] holds read is = absurd read
library_told law held (Some name) library other (text ∷ more) holds read is =
    law text other library is (subst (λ (t : List ℕ). SpellsLibrary t library) (sym (told_same (held name) text holds.0 read.0.0 holds.1.0)) holds.1.1)

-- texts that were read are those that are told
checked_told : libraries.SpelledOnce → (held : List ℕ → Option (List ℕ)) (netlist bsdl events net text lines put : List ℕ) (name : Option (List ℕ)) (library : List ListedCell) (texts outputs : List (List ℕ)) (end : Status)
    → held netlist ≡ Some net → held bsdl ≡ Some text → held events ≡ Some lines → HoldsLibrary held name library → AreRead held (netlist ∷ bsdl ∷ events ∷ names_if name) texts
    → AreChecked texts outputs put end → IsChecked library net text lines put end
checked_told law held netlist bsdl events net text lines put name library [] outputs end one two three holds read made = absurd read
checked_told law held netlist bsdl events net text lines put name library (a ∷ []) outputs end one two three holds read made = absurd made
checked_told law held netlist bsdl events net text lines put name library (a ∷ b ∷ []) outputs end one two three holds read made = absurd made
checked_told law held netlist bsdl events net text lines put name library (a ∷ b ∷ c ∷ more) outputs end one two three holds read (other, (is, made)) =
    subst (λ (l : List ListedCell). IsChecked l net text lines put end) (library_told law held name library other more holds read.1.1.1 is)
    (subst (λ (x : List ℕ). IsChecked other net text x put end) (told_same (held events) c lines read.1.1.0.0 three)
    (subst (λ (x : List ℕ). IsChecked other net x c put end) (told_same (held bsdl) b text read.1.0.0 two)
    (subst (λ (x : List ℕ). IsChecked other x b c put end) (told_same (held netlist) a net read.0.0 one) made)))

reported : WrittenProgramsMissNothing → libraries.SpelledOnce → (netlist bsdl events net text lines : List ℕ) (name : Option (List ℕ)) (library : List ListedCell) (shelf : ShelfSeen) (sink : SinkSeen) (end : Status)
    → shelf.held netlist ≡ Some net → shelf.held bsdl ≡ Some text → shelf.held events ≡ Some lines → HoldsLibrary shelf.held name library → AreOfChip library net text lines
    → tasks.Finishes (check_task netlist bsdl events name) shelf sink end → end ≢ status.Missed
reported law once netlist bsdl events net text lines name library shelf sink end one two three holds of done =
    let check = checked_told once shelf.held netlist bsdl events net text lines done.put name library done.made.texts done.outputs end one two three holds done.made.read done.made.made in
    subst (λ (s : Status). s ≢ status.Missed) (sym check.1.1) (status_apart check.0 (none_missed law library net text lines done.put check.0 of check.1.0))

pub misses_nothing : WrittenProgramsMissNothing → libraries.SpelledOnce → (words : List (List ℕ)) (shelf : ShelfSeen) (sink : SinkSeen) (end : Status) → Finishes words shelf sink end → MissesNothing words shelf end
misses_nothing law once words shelf sink end f = λ netlist bsdl events net text lines name library runs one two three holds of.
    reported law once netlist bsdl events net text lines name library shelf sink end one two three holds of
    (subst (λ (k : Form). tasks.Finishes (task_of k) shelf sink end) (form_once words f.form (Form.Checks netlist bsdl events name) f.runs.has runs.has) f.finishes)

-- a status that is no end isn't that of a miss
pub no_end_misses : (words : List (List ℕ)) (shelf : ShelfSeen) (end : Status) → (IsEnd end → ⊥) → MissesNothing words shelf end
no_end_misses words shelf end no_end = λ netlist bsdl events net text lines name library runs one two three holds of missed. no_end (inr missed)
