-- What is written along a list of names, and where writing stops.
use Rattle.std.proofs.Common.{◌≡◌, ◌⊎◌, ℕ, ◌-◌, ◌≤◌, length, drop, slice_get, slice_index_or, Bor, Bool, List, [], ◌∷◌, take, Option, Some, subst, sym, ◌∙◌, refl, inl, inr, arith}
use Rattle.std.specs.Prelude.{Result, Ok, Err, OnOk}
use Rattle.std.proofs.lemmas.Option.{same_Some}
use Rattle.list_laws.proofs.Lists.{front_all}
use Rattle.edge_io.specs.Shelf.{Access, RoseAt, ChangesOne, told_if}
use Rattle.command_faults.specs.declared.fault.Fault.{Fault}
use Rattle.command_faults.specs.declared.fault.Fault.TheVariants as fault
use Rattle.command_edges.specs.Seen.{ShelfSeen, IsCutOff}
use Rattle.command_edges.specs.EdgeFaults.{StandsInWriting}
use Rattle.command_edges.specs.Names.{IsOneOf, StandOnce, names_of}
use Rattle.command_edges.specs.Texts.{AreKept, AreWritten, StandsInWritings}
use Rattle.command_edges.proofs.Told.{rose_earlier}

-- the whole time, of which the last part began later
pub record Wider (short long : ShelfSeen) (names : List (List ℕ)) : Type 0 where
  pub tells : short.tells ≡ long.tells
  pub after : short.written_after ≡ long.written_after
  pub kept : (name : List ℕ) → IsOneOf name names → short.written name ≡ long.written name
  pub now : short.faults_after ≡ long.faults_after
  pub later : (access : Access) (name : List ℕ) → long.faults access name ≤ short.faults access name

wider_rest : (short long : ShelfSeen) (n : List ℕ) (ns : List (List ℕ)) → Wider short long (n ∷ ns) → Wider short long ns
wider_rest short long n ns w = record { tells = w.tells; after = w.after; kept = λ name is. w.kept name (inr is); now = w.now; later = w.later }

fault_wider : (name : List ℕ) (short long : ShelfSeen) (f : Fault) → short.faults_after ≡ long.faults_after → ((access : Access) (n : List ℕ) → long.faults access n ≤ short.faults access n)
    → StandsInWriting name short f → StandsInWriting name long f
fault_wider name short long (fault.WriteFault n) now later s =
    (s.0, subst (λ (t : Access → List ℕ → ℕ). RoseAt long.faults t Access.writing name) now (rose_earlier (long.faults Access.writing name) (short.faults Access.writing name) (short.faults_after Access.writing name) (later Access.writing name) s.1))
fault_wider name short long f now later s = absurd s

kept_wider : (short long : ShelfSeen) (names : List (List ℕ)) → Wider short long names → AreKept names short → AreKept names long
kept_wider short long names w k = λ name is. subst (λ (t : List ℕ → Option (List ℕ)). t name ≡ long.written name) w.after (k name is ∙ w.kept name is)

cut_wider : (name text : List ℕ) (short long : ShelfSeen) → short.tells ≡ long.tells → short.written_after ≡ long.written_after → short.written name ≡ long.written name → IsCutOff name text short → IsCutOff name text long
cut_wider name text short long tells after same (inl k) = inl (subst (λ (t : List ℕ → Option (List ℕ)). t name ≡ long.written name) after (k ∙ same))
cut_wider name text short long tells after same (inr (k, e)) =
    inr (k, subst (λ (b : Bool). long.written_after name ≡ told_if b (take k text)) tells (subst (λ (t : List ℕ → Option (List ℕ)). t name ≡ told_if short.tells (take k text)) after e))

pub stands_wider : (short long : ShelfSeen) (names texts : List (List ℕ)) (f : Fault) → Wider short long names → StandsInWritings names texts short f → StandsInWritings names texts long f
stands_wider short long [] texts f w s = absurd s
stands_wider short long (n ∷ ns) [] f w s = absurd s
stands_wider short long (n ∷ ns) (t ∷ ts) f w (inl s) =
    inl (fault_wider n short long f w.now w.later s.0, (cut_wider n t short long w.tells w.after (w.kept n (inl refl)) s.1.0, kept_wider short long ns (wider_rest short long n ns w) s.1.1))
stands_wider short long (n ∷ ns) (t ∷ ts) f w (inr s) =
    inr (subst (λ (b : Bool). long.written_after n ≡ told_if b t) w.tells (subst (λ (a : List ℕ → Option (List ℕ)). a n ≡ told_if short.tells t) w.after s.0), stands_wider short long ns ts f (wider_rest short long n ns w) s.1)

-- a name of the rest isn't the first
pub not_first : (n : List ℕ) (ns : List (List ℕ)) (name : List ℕ) → (IsOneOf n ns → ⊥) → IsOneOf name ns → name ≡ n → ⊥
not_first n ns name apart is same = apart (subst (λ (x : List ℕ). IsOneOf x ns) same is)

-- writing stops at the first text
pub first_stops : (names : List (Bor (List ℕ))) (texts : List (List ℕ)) (shelf : ShelfSeen) (f : Fault) (d : Bor (List ℕ)) (text : List ℕ) → 1 ≤ length names → slice_get texts 0 ≡ Some text → StandOnce (names_of names)
    → StandsInWriting (slice_index_or names 0 d).now shelf f
    → ChangesOne shelf.written shelf.written_after (slice_index_or names 0 d).now (λ before after. (after ≡ before) ⊎ ((k : ℕ) × (after ≡ told_if shelf.tells (take k text)))) → StandsInWritings (names_of names) texts shelf f
first_stops [] texts shelf f d text some at apart stands changes = absurd (omega arith)
first_stops (n ∷ ns) [] shelf f d text some at apart stands changes = absurd (cc)
first_stops (n ∷ ns) (t ∷ ts) shelf f d text some at apart stands changes =
    inl (stands, (subst (λ (x : List ℕ). IsCutOff n.now x shelf) (sym (same_Some t text at)) changes.there, λ name is. changes.others name (not_first n.now (names_of ns) name apart.0 is)))

-- or at one behind it
pub rest_stops : (names : List (Bor (List ℕ))) (texts : List (List ℕ)) (short long : ShelfSeen) (f : Fault) (d : Bor (List ℕ)) (text : List ℕ) → 1 ≤ length names → slice_get texts 0 ≡ Some text → StandOnce (names_of names)
    → short.tells ≡ long.tells → short.written_after ≡ long.written_after → short.faults_after ≡ long.faults_after → ((access : Access) (name : List ℕ) → long.faults access name ≤ short.faults access name)
    → ChangesOne long.written short.written (slice_index_or names 0 d).now (λ before after. after ≡ told_if long.tells text)
    → ((name : List ℕ) → (IsOneOf name (names_of (take (length names - 1) (drop 1 names))) → ⊥) → short.written_after name ≡ short.written name)
    → StandsInWritings (names_of (take (length names - 1) (drop 1 names))) (take (length texts - 1) (drop 1 texts)) short f → StandsInWritings (names_of names) texts long f
rest_stops [] texts short long f d text some at apart tells after now later changes others stands = absurd (omega arith)
rest_stops (n ∷ ns) [] short long f d text some at apart tells after now later changes others stands = absurd (cc)
rest_stops (n ∷ ns) (t ∷ ts) short long f d text some at apart tells after now later changes others stands =
    let all : take (length (n ∷ ns) - 1) ns ≡ ns = front_all ns (length (n ∷ ns) - 1) (omega arith) in
    let every : take (length (t ∷ ts) - 1) ts ≡ ts = front_all ts (length (t ∷ ts) - 1) (omega arith) in
    let beside : (name : List ℕ) → (IsOneOf name (names_of ns) → ⊥) → short.written_after name ≡ short.written name =
    subst (λ (xs : List (Bor (List ℕ))). (name : List ℕ) → (IsOneOf name (names_of xs) → ⊥) → short.written_after name ≡ short.written name) all others in
    let first : long.written_after n.now ≡ told_if long.tells text = subst (λ (a : List ℕ → Option (List ℕ)). a n.now ≡ told_if long.tells text) after (beside n.now apart.0 ∙ changes.there) in
    let wider : Wider short long (names_of ns) = record { tells = tells; after = after; kept = λ name is. changes.others name (not_first n.now (names_of ns) name apart.0 is); now = now; later = later } in
    inr (
      subst (λ (x : List ℕ). long.written_after n.now ≡ told_if long.tells x) (sym (same_Some t text at)) first,
      stands_wider short long (names_of ns) ts f wider (subst (λ (xs : List (Bor (List ℕ))). StandsInWritings (names_of xs) ts short f) all (subst (λ (ys : List (List ℕ)). StandsInWritings (names_of (take (length (n ∷ ns) - 1) ns)) ys short f) every stands)),
    )

pub written_wider : (short long : ShelfSeen) (names texts : List (List ℕ)) → short.tells ≡ long.tells → short.written_after ≡ long.written_after → AreWritten names texts short → AreWritten names texts long
written_wider short long [] [] tells after w = tt
written_wider short long [] (t ∷ ts) tells after w = absurd w
written_wider short long (n ∷ ns) [] tells after w = absurd w
written_wider short long (n ∷ ns) (t ∷ ts) tells after w =
    (subst (λ (b : Bool). long.written_after n ≡ told_if b t) tells (subst (λ (a : List ℕ → Option (List ℕ)). a n ≡ told_if short.tells t) after w.0), written_wider short long ns ts tells after w.1)

-- or each is written
pub rest_written : {T E : Type 0} (r : Result T E) (names : List (Bor (List ℕ))) (texts : List (List ℕ)) (short long : ShelfSeen) (d : Bor (List ℕ)) (text : List ℕ) → 1 ≤ length names → slice_get texts 0 ≡ Some text
    → StandOnce (names_of names) → short.tells ≡ long.tells → short.written_after ≡ long.written_after
    → ChangesOne long.written short.written (slice_index_or names 0 d).now (λ before after. after ≡ told_if long.tells text)
    → ((name : List ℕ) → (IsOneOf name (names_of (take (length names - 1) (drop 1 names))) → ⊥) → short.written_after name ≡ short.written name)
    → OnOk r (AreWritten (names_of (take (length names - 1) (drop 1 names))) (take (length texts - 1) (drop 1 texts)) short) → OnOk r (AreWritten (names_of names) texts long)
rest_written (Err e) names texts short long d text some at apart tells after changes others written = tt
rest_written (Ok x) [] texts short long d text some at apart tells after changes others written = absurd (omega arith)
rest_written (Ok x) (n ∷ ns) [] short long d text some at apart tells after changes others written = absurd (cc)
rest_written (Ok x) (n ∷ ns) (t ∷ ts) short long d text some at apart tells after changes others written =
    let all : take (length (n ∷ ns) - 1) ns ≡ ns = front_all ns (length (n ∷ ns) - 1) (omega arith) in
    let every : take (length (t ∷ ts) - 1) ts ≡ ts = front_all ts (length (t ∷ ts) - 1) (omega arith) in
    let beside : (name : List ℕ) → (IsOneOf name (names_of ns) → ⊥) → short.written_after name ≡ short.written name =
    subst (λ (xs : List (Bor (List ℕ))). (name : List ℕ) → (IsOneOf name (names_of xs) → ⊥) → short.written_after name ≡ short.written name) all others in
    let first : long.written_after n.now ≡ told_if long.tells text = subst (λ (a : List ℕ → Option (List ℕ)). a n.now ≡ told_if long.tells text) after (beside n.now apart.0 ∙ changes.there) in (
      subst (λ (x : List ℕ). long.written_after n.now ≡ told_if long.tells x) (sym (same_Some t text at)) first,
      written_wider short long (names_of ns) ts tells after
          (subst (λ (xs : List (Bor (List ℕ))). AreWritten (names_of xs) ts short) all (subst (λ (ys : List (List ℕ)). AreWritten (names_of (take (length (n ∷ ns) - 1) ns)) ys short) every written)),
    )
