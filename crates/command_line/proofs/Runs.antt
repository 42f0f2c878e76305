-- What a command comes to is what its words come to.
use Rattle.std.proofs.Common.{◌≡◌, ◌≢◌, ℕ, ◌≤◌, Result, Ok, Err, OnOk, OnErr, IfOk, IfErr, ◌⊎◌, List, Option, inl, inr, sym, subst, ◌∙◌, arith}
use Rattle.edge_io.specs.Shelf.{SameTold}
use Rattle.command_faults.specs.declared.fault.Fault.{Fault}
use Rattle.command_faults.specs.declared.status.Status.{Status}
use Rattle.command_faults.specs.declared.status.Status.TheVariants as status
use Rattle.command_faults.specs.Statuses.{status_of}
use Rattle.command_edges.specs.Names.{IsOneOf}
use Rattle.command_edges.specs.Seen.{ShelfSeen, SinkSeen, SinkRose}
use Rattle.command_edges.specs.Ends.{IsEnd}
use Rattle.command_edges.specs.Tasks as tasks
use Rattle.command_edges.proofs.Outcome as outcome
use Rattle.command_line.specs.Forms.{Form, HasForm, IsNoCommand}
use Rattle.command_line.specs.Tasks.{task_of}
use Rattle.command_line.specs.Names.{Runs, Writes, IsRepeated, inputs, outputs}
use Rattle.command_line.specs.Outcomes.{CameTo}
use Rattle.command_line.specs.Causes.{Finishes, Stands, Completes}
use Rattle.command_line.proofs.FormLaws.{form_once}
use Rattle.command_line.proofs.NameLaws.{apart_none}

pub run_done : (r : Result Status Fault) (words : List (List ℕ)) (form : Form) (shelf : ShelfSeen) (sink : SinkSeen) → Runs words form → IfOk r (tasks.Finishes (task_of form) shelf sink)
    → IfOk r (Finishes words shelf sink)
run_done (Ok end) words form shelf sink runs finishes = record { form = form; runs = runs; finishes = finishes }
run_done (Err f) words form shelf sink runs finishes = tt

pub run_fault : (r : Result Status Fault) (words : List (List ℕ)) (form : Form) (shelf : ShelfSeen) (sink : SinkSeen) (before : Option (List ℕ)) → Runs words form
    → IfErr r (λ f. tasks.Stands (task_of form) shelf sink f before) → IfErr r (λ f. Stands words shelf sink f before)
run_fault (Ok end) words form shelf sink before runs stands = tt
run_fault (Err f) words form shelf sink before runs stands = inr (record { form = form; runs = runs; stands = stands })

-- words have one form, so its completeness is theirs
pub run_completes : (r : Result Status Fault) (words : List (List ℕ)) (form : Form) (shelf : ShelfSeen) (sink : SinkSeen) → Runs words form
    → IfErr r (λ f. tasks.Completes (task_of form) shelf sink (status_of f)) → IfErr r (λ f. Completes words shelf sink (status_of f))
run_completes (Ok end) words form shelf sink runs completes = tt
run_completes (Err f) words form shelf sink runs completes = λ other also.
    subst (λ (k : Form). tasks.Completes (task_of k) shelf sink (status_of f)) (form_once words form other runs.has also.has) completes

pub usage_completes : (words : List (List ℕ)) (shelf : ShelfSeen) (sink : SinkSeen) (end : Status) → IsNoCommand words → Completes words shelf sink end
usage_completes words shelf sink end none = λ form runs. absurd (none form runs.has)

pub name_completes : (words : List (List ℕ)) (form : Form) (name : List ℕ) (shelf : ShelfSeen) (sink : SinkSeen) (end : Status) → HasForm words form → IsRepeated name (inputs form) (outputs form)
    → Completes words shelf sink end
name_completes words form name shelf sink end has repeated = λ other runs.
    absurd (apart_none name (inputs other) (outputs other) runs.apart (subst (λ (k : Form). IsRepeated name (inputs k) (outputs k)) (form_once words form other has runs.has) repeated))

-- a name under which the words don't write is no output's
pub run_keeps : (words : List (List ℕ)) (form : Form) (shelf : ShelfSeen) (sink : SinkSeen) → Runs words form → tasks.Keeps (λ name. IsOneOf name (outputs form)) shelf sink
    → tasks.Keeps (Writes words) shelf sink
run_keeps words form shelf sink runs k = record {
  others = λ name none. k.others name (λ one. none (record { form = form; runs = runs; is_one = one }));
  held = k.held;
  later = k.later;
  puts_later = k.puts_later;
}

-- What came of the task of a command is what comes of its words.

pub came_done : (r : Result Status Fault) (words : List (List ℕ)) (form : Form) (shelf : ShelfSeen) (sink : SinkSeen) → HasForm words form → CameTo (task_of form) shelf sink r
    → IfOk r (Finishes words shelf sink)
came_done r words form shelf sink has (inl s) = subst (λ (x : Result Status Fault). IfOk x (Finishes words shelf sink)) (sym s.is) tt
came_done r words form shelf sink has (inr t) = run_done r words form shelf sink (record { has = has; apart = t.apart }) t.done

pub came_ended : (r : Result Status Fault) (form : Form) (shelf : ShelfSeen) (sink : SinkSeen) → CameTo (task_of form) shelf sink r → IfOk r IsEnd
came_ended r form shelf sink (inl s) = subst (λ (x : Result Status Fault). IfOk x IsEnd) (sym s.is) tt
came_ended r form shelf sink (inr t) = t.ended

pub came_fault : (r : Result Status Fault) (words : List (List ℕ)) (form : Form) (shelf : ShelfSeen) (sink : SinkSeen) → HasForm words form → CameTo (task_of form) shelf sink r
    → IfErr r (λ f. Stands words shelf sink f sink.given_after)
came_fault r words form shelf sink has (inl s) =
    subst (λ (x : Result Status Fault). IfErr x (λ f. Stands words shelf sink f sink.given_after)) (sym s.is)
    (inl (record { form = form; has = has; repeated = s.repeated }, ((λ name. s.keeps.others name (λ none. none)), s.given)))
came_fault r words form shelf sink has (inr t) = run_fault r words form shelf sink sink.given_after (record { has = has; apart = t.apart }) t.stands

pub came_completes : (r : Result Status Fault) (words : List (List ℕ)) (form : Form) (shelf : ShelfSeen) (sink : SinkSeen) → HasForm words form → CameTo (task_of form) shelf sink r
    → IfErr r (λ f. Completes words shelf sink (status_of f))
came_completes r words form shelf sink has (inl s) =
    subst (λ (x : Result Status Fault). IfErr x (λ f. Completes words shelf sink (status_of f))) (sym s.is)
    (name_completes words form s.name.now shelf sink status.Usage has s.repeated)
came_completes r words form shelf sink has (inr t) = run_completes r words form shelf sink (record { has = has; apart = t.apart }) t.complete

pub came_keeps : (r : Result Status Fault) (words : List (List ℕ)) (form : Form) (shelf : ShelfSeen) (sink : SinkSeen) → HasForm words form → CameTo (task_of form) shelf sink r
    → tasks.Keeps (Writes words) shelf sink
came_keeps r words form shelf sink has (inl s) = record {
  others = λ name none. s.keeps.others name (λ no. no);
  held = s.keeps.held;
  later = s.keeps.later;
  puts_later = s.keeps.puts_later;
}
came_keeps r words form shelf sink has (inr t) = run_keeps words form shelf sink (record { has = has; apart = t.apart }) t.keeps

-- A sink's count that rose goes on as risen.

pub fault_later : (words : List (List ℕ)) (shelf : ShelfSeen) (a b : SinkSeen) (f : Fault) (before : Option (List ℕ)) → a.given ≡ b.given → (SinkRose a → SinkRose b) → Stands words shelf a f before
    → Stands words shelf b f before
fault_later words shelf a b f before same later (inl (stands, nothing)) = inl (stands, (nothing.0, nothing.1 ∙ same))
fault_later words shelf a b f before same later (inr s) =
    inr (record { form = s.form; runs = s.runs; stands = outcome.stands_later (task_of s.form) shelf a b f before same later s.stands })

pub completes_later : (words : List (List ℕ)) (shelf : ShelfSeen) (a b : SinkSeen) (f end : Status) → end ≡ f → (SinkRose a → SinkRose b) → Completes words shelf a f → Completes words shelf b end
completes_later words shelf a b f end same later completes = λ form runs.
    subst (λ (s : Status). tasks.Completes (task_of form) shelf b s) (sym same) (outcome.completes_later (task_of form) shelf a b f later (completes form runs))

count_later : (a b c : ℕ) → a ≤ b → b ≤ c → a ≤ c
count_later a b c h k = omega (arith, h, k)

pub keeps_later : (Under : List ℕ → Type 0) (shelf : ShelfSeen) (a b : SinkSeen) → a.faults ≡ b.faults → a.faults_after ≤ b.faults_after → tasks.Keeps Under shelf a → tasks.Keeps Under shelf b
keeps_later Under shelf a b same later k = record {
  others = k.others;
  held = k.held;
  later = k.later;
  puts_later = subst (λ (n : ℕ). n ≤ b.faults_after) same (count_later a.faults a.faults_after b.faults_after k.puts_later later);
}

-- a fault that isn't one of writing leaves all as it was written
pub unwritten : (words : List (List ℕ)) (shelf : ShelfSeen) (sink : SinkSeen) (f : Fault) (before : Option (List ℕ)) → Stands words shelf sink f before → status_of f ≢ status.WriteFault
    → SameTold shelf.written shelf.written_after
unwritten words shelf sink f before (inl (stands, nothing)) other = nothing.0
unwritten words shelf sink f before (inr s) other = outcome.stands_unwritten (task_of s.form) shelf sink f before s.stands other

-- a line was put, or a front of it where the sink's count rose
pub line_put : {T E : Type 0} {A B C D : Type 0} (r : Result T E) → (C → D) → OnOk r A → OnErr r B → OnErr r C → A ⊎ (D × B)
line_put (Ok x) later a b c = inl a
line_put (Err e) later a b c = inr (later c, b)
