-- What comes of a task, from what was read, made and given.
use Rattle.std.proofs.Common.{◌≢◌, take, ◌≡◌, ℕ, suc, length, Bool, true, List, [], ◌∷◌, Option, Some, Result, Ok, Err, IfOk, IfErr, OnOk, inl, inr, sym, subst, ap, ◌∙◌, refl}
use Rattle.edge_io.specs.Shelf.{appended, Access, SameTold, WhereTold}
use Rattle.command_faults.specs.declared.fault.Fault.{Fault}
use Rattle.command_faults.specs.declared.status.Status.{Status}
use Rattle.command_faults.specs.declared.status.Status.TheVariants as status
use Rattle.command_faults.specs.Statuses.{status_of}
use Rattle.command_edges.specs.Seen.{ShelfSeen, SinkSeen, SinkRose}
use Rattle.command_edges.specs.Texts.{AreRead, AreHeld, StandsInReadings, AreWritten, StandsInWritings, NoneRose}
use Rattle.command_edges.specs.Tasks.{Task, AreMade, IsPut, Finishes, StandsInGiving, Stands, Completes}
use Rattle.command_edges.proofs.Told.{reading_memory, write_rose}
use Rattle.command_edges.proofs.Written.{put_rose, is_write, is_put, putting_later}
use Rattle.command_edges.proofs.TextsWritten.{Wider, stands_wider, written_wider}

-- Where no count rises.

pub readings_memory : (names texts : List (List ℕ)) (shelf : ShelfSeen) (f : Fault) → AreHeld shelf.held names texts → NoneRose Access.reading names shelf → StandsInReadings names shelf f
    → status_of f ≡ status.Memory
readings_memory [] texts shelf f held calm stands = absurd stands
readings_memory (n ∷ ns) [] shelf f held calm stands = absurd held
readings_memory (n ∷ ns) (t ∷ ts) shelf f held calm (inl s) = reading_memory n t shelf f held.0.0 held.0.1 (calm n (inl refl)) s
readings_memory (n ∷ ns) (t ∷ ts) shelf f held calm (inr s) = readings_memory ns ts shelf f held.1 (λ name is. calm name (inr is)) s.1

-- texts that were read are those that are told
pub told_same : (o : Option (List ℕ)) (text other : List ℕ) → WhereTold o (λ bytes. text ≡ bytes) → o ≡ Some other → text ≡ other
told_same o text other is told = subst (λ (x : Option (List ℕ)). WhereTold x (λ bytes. text ≡ bytes)) told is

read_held : (held : List ℕ → Option (List ℕ)) (names texts others : List (List ℕ)) → AreRead held names texts → AreHeld held names others → texts ≡ others
read_held held [] [] [] read told = refl
read_held held [] [] (o ∷ os) read told = absurd told
read_held held [] (t ∷ ts) others read told = absurd read
read_held held (n ∷ ns) [] others read told = absurd read
read_held held (n ∷ ns) (t ∷ ts) [] read told = absurd told
read_held held (n ∷ ns) (t ∷ ts) (o ∷ os) read told =
    ap (λ (x : List ℕ). x ∷ ts) (told_same (held n) t o read.0.0 told.0.0) ∙ ap (λ (xs : List (List ℕ)). o ∷ xs) (read_held held ns ts os read.1 told.1)

-- as many were read as there are names
pub read_count : (held : List ℕ → Option (List ℕ)) (names texts : List (List ℕ)) → AreRead held names texts → length texts ≡ length names
read_count held [] [] read = refl
read_count held [] (t ∷ ts) read = absurd read
read_count held (n ∷ ns) [] read = absurd read
read_count held (n ∷ ns) (t ∷ ts) read = ap (λ (k : ℕ). suc k) (read_count held ns ts read.1)

writings_rose : (names texts : List (List ℕ)) (shelf : ShelfSeen) (f : Fault) → NoneRose Access.writing names shelf → StandsInWritings names texts shelf f → ⊥
writings_rose [] texts shelf f calm stands = absurd stands
writings_rose (n ∷ ns) [] shelf f calm stands = absurd stands
writings_rose (n ∷ ns) (t ∷ ts) shelf f calm (inl s) = calm n (inl refl) (write_rose n shelf f s.0)
writings_rose (n ∷ ns) (t ∷ ts) shelf f calm (inr s) = writings_rose ns ts shelf f (λ name is. calm name (inr is)) s.1

pub giving_rose : (names outputs : List (List ℕ)) (puts : Bool) (put : List ℕ) (shelf : ShelfSeen) (sink : SinkSeen) (f : Fault) (given : Option (List ℕ)) → NoneRose Access.writing names shelf
    → (puts ≡ true → SinkRose sink → ⊥) → StandsInGiving names outputs puts put shelf sink f given → ⊥
giving_rose names outputs puts put shelf sink f given calm still (inl s) = writings_rose names outputs shelf f calm s.0
giving_rose names outputs puts put shelf sink f given calm still (inr s) = still s.1.does_put (put_rose sink f s.1.fault_is)

-- A refusal, and when it is want of memory.

pub reading_completes : (t : Task) (shelf : ShelfSeen) (sink : SinkSeen) (f : Fault) → StandsInReadings t.reads shelf f → Completes t shelf sink (status_of f)
reading_completes t shelf sink f stands = λ texts held free calm calm_too still. readings_memory t.reads texts shelf f held calm stands

pub refusal_completes : (t : Task) (shelf : ShelfSeen) (sink : SinkSeen) (f : Fault) (texts : List (List ℕ)) → AreRead shelf.held t.reads texts → (t.AreFree texts → status_of f ≡ status.Memory)
    → Completes t shelf sink (status_of f)
refusal_completes t shelf sink f texts read law = λ others held free calm calm_too still. law (subst t.AreFree (sym (read_held shelf.held t.reads texts others read held)) free)

pub giving_completes : (t : Task) (shelf : ShelfSeen) (sink : SinkSeen) (f : Fault) (outputs : List (List ℕ)) (put : List ℕ) (given : Option (List ℕ))
    → StandsInGiving t.writes outputs t.puts put shelf sink f given → Completes t shelf sink (status_of f)
giving_completes t shelf sink f outputs put given stands = λ texts held free calm calm_too still.
    absurd (giving_rose t.writes outputs t.puts put shelf sink f given calm_too still stands)

-- What is seen over a longer time.

giving_wider : (short long : ShelfSeen) (sink : SinkSeen) (names outputs : List (List ℕ)) (puts : Bool) (put : List ℕ) (f : Fault) (given : Option (List ℕ)) → Wider short long names
    → StandsInGiving names outputs puts put short sink f given → StandsInGiving names outputs puts put long sink f given
giving_wider short long sink names outputs puts put f given w (inl s) = inl (stands_wider short long names outputs f w s.0, s.1)
giving_wider short long sink names outputs puts put f given w (inr s) = inr (written_wider short long names outputs w.tells w.after s.0, s.1)

-- What was given of a task, in whose beginning its texts were read and made.
pub record IsGiven (t : Task) (names : List (List ℕ)) (puts : Bool) (early shelf : ShelfSeen) (outputs : List (List ℕ)) (put : List ℕ) (end : Status) : Type 0 where
  pub names_are : names ≡ t.writes
  pub puts_is : puts ≡ t.puts
  pub made : AreMade t shelf outputs put end
  pub wider : Wider early shelf names

pub given_done : {E : Type 0} (r : Result Status E) (t : Task) (names : List (List ℕ)) (puts : Bool) (early shelf : ShelfSeen) (sink : SinkSeen) (outputs : List (List ℕ)) (put : List ℕ) (end : Status)
    → IsGiven t names puts early shelf outputs put end → IfOk r (λ s. s ≡ end) → OnOk r (AreWritten names outputs early) → OnOk r (IsPut puts put sink) → IfOk r (Finishes t shelf sink)
given_done (Err e) t names puts early shelf sink outputs put end g is written given = tt
given_done (Ok s) t names puts early shelf sink outputs put end g is written given = record {
  outputs = outputs;
  put = put;
  made = subst (AreMade t shelf outputs put) (sym is) g.made;
  written = subst (λ (ns : List (List ℕ)). AreWritten ns outputs shelf) g.names_are (written_wider early shelf names outputs g.wider.tells g.wider.after written);
  is_put = subst (λ (b : Bool). IsPut b put sink) g.puts_is given;
}

-- the fault stands in giving what is the task's
given_stands : (t : Task) (names : List (List ℕ)) (puts : Bool) (early shelf : ShelfSeen) (sink : SinkSeen) (outputs : List (List ℕ)) (put : List ℕ) (end : Status) (f : Fault) (given : Option (List ℕ))
    → IsGiven t names puts early shelf outputs put end → StandsInGiving names outputs puts put early sink f given → StandsInGiving t.writes outputs t.puts put shelf sink f given
given_stands t names puts early shelf sink outputs put end f given g stands =
    subst (λ (b : Bool). StandsInGiving t.writes outputs b put shelf sink f given) g.puts_is
    (subst (λ (ns : List (List ℕ)). StandsInGiving ns outputs puts put shelf sink f given) g.names_are (giving_wider early shelf sink names outputs puts put f given g.wider stands))

pub given_fault : (r : Result Status Fault) (t : Task) (names : List (List ℕ)) (puts : Bool) (early shelf : ShelfSeen) (sink : SinkSeen) (outputs : List (List ℕ)) (put : List ℕ) (end : Status)
    (given : Option (List ℕ)) → IsGiven t names puts early shelf outputs put end → IfErr r (λ f. StandsInGiving names outputs puts put early sink f given) → IfErr r (λ f. Stands t shelf sink f given)
given_fault (Ok s) t names puts early shelf sink outputs put end given g stands = tt
given_fault (Err f) t names puts early shelf sink outputs put end given g stands =
    inr (record { outputs = outputs; put = put; end = end; made = g.made; stands = given_stands t names puts early shelf sink outputs put end f given g stands })

pub given_completes : (r : Result Status Fault) (t : Task) (names : List (List ℕ)) (puts : Bool) (early shelf : ShelfSeen) (sink : SinkSeen) (outputs : List (List ℕ)) (put : List ℕ) (end : Status)
    (given : Option (List ℕ)) → IsGiven t names puts early shelf outputs put end → IfErr r (λ f. StandsInGiving names outputs puts put early sink f given)
    → IfErr r (λ f. Completes t shelf sink (status_of f))
given_completes (Ok s) t names puts early shelf sink outputs put end given g stands = tt
given_completes (Err f) t names puts early shelf sink outputs put end given g stands =
    giving_completes t shelf sink f outputs put given (given_stands t names puts early shelf sink outputs put end f given g stands)

-- A fault that isn't one of writing leaves all as it was written.

writings_fail : (names texts : List (List ℕ)) (shelf : ShelfSeen) (f : Fault) → StandsInWritings names texts shelf f → status_of f ≡ status.WriteFault
writings_fail [] texts shelf f stands = absurd stands
writings_fail (n ∷ ns) [] shelf f stands = absurd stands
writings_fail (n ∷ ns) (t ∷ ts) shelf f (inl s) = is_write n shelf f s.0
writings_fail (n ∷ ns) (t ∷ ts) shelf f (inr s) = writings_fail ns ts shelf f s.1

giving_fails : (names outputs : List (List ℕ)) (puts : Bool) (put : List ℕ) (shelf : ShelfSeen) (sink : SinkSeen) (f : Fault) (given : Option (List ℕ))
    → StandsInGiving names outputs puts put shelf sink f given → status_of f ≡ status.WriteFault
giving_fails names outputs puts put shelf sink f given (inl s) = writings_fail names outputs shelf f s.0
giving_fails names outputs puts put shelf sink f given (inr s) = is_put sink f s.1.fault_is

pub stands_unwritten : (t : Task) (shelf : ShelfSeen) (sink : SinkSeen) (f : Fault) (given : Option (List ℕ)) → Stands t shelf sink f given → status_of f ≢ status.WriteFault
    → SameTold shelf.written shelf.written_after
stands_unwritten t shelf sink f given (inl s) other = s.1.0
stands_unwritten t shelf sink f given (inr s) other = absurd (other (giving_fails t.writes s.outputs t.puts s.put shelf sink f given s.stands))

-- A sink's count that rose goes on as risen, and what was given before stays.

giving_later : (names outputs : List (List ℕ)) (puts : Bool) (put : List ℕ) (shelf : ShelfSeen) (a b : SinkSeen) (f : Fault) (given : Option (List ℕ)) → a.given ≡ b.given → (SinkRose a → SinkRose b)
    → StandsInGiving names outputs puts put shelf a f given → StandsInGiving names outputs puts put shelf b f given
giving_later names outputs puts put shelf a b f given same later (inl s) = inl (s.0, s.1 ∙ same)
giving_later names outputs puts put shelf a b f given same later (inr s) = inr (
  s.0,
  record { does_put = s.1.does_put; fault_is = putting_later a b f later s.1.fault_is; count = s.1.count; front = s.1.front ∙ ap (appended (take s.1.count put)) same },
)

pub stands_later : (t : Task) (shelf : ShelfSeen) (a b : SinkSeen) (f : Fault) (given : Option (List ℕ)) → a.given ≡ b.given → (SinkRose a → SinkRose b) → Stands t shelf a f given → Stands t shelf b f given
stands_later t shelf a b f given same later (inl s) = inl (s.0, (s.1.0, s.1.1 ∙ same))
stands_later t shelf a b f given same later (inr s) =
    inr (record { outputs = s.outputs; put = s.put; end = s.end; made = s.made; stands = giving_later t.writes s.outputs t.puts s.put shelf a b f given same later s.stands })

pub completes_later : (t : Task) (shelf : ShelfSeen) (a b : SinkSeen) (end : Status) → (SinkRose a → SinkRose b) → Completes t shelf a end → Completes t shelf b end
completes_later t shelf a b end later completes texts held free calm calm_too still = completes texts held free calm calm_too (λ puts rose. still puts (later rose))
