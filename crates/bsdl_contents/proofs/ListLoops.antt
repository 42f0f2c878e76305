-- A loop over entries with commas between them, against the reading of such a list.
use Rattle.std.proofs.Common.{◌≡◌, ℕ, suc, zero, true, false, ◌<◌, ◌≤◌, List, [], ◌∷◌, ◌++◌, length, Option, Some, None, is_some, refl, sym, ap, ◌∙◌, arith, append_assoc, append-nil, Result, Ok, Err, IsErrAnd}
use Rattle.std.specs.Option.{option_map_or}
use Rattle.list_laws.proofs.Options.{unit_there, unit_absent}
use Rattle.bsdl_device.specs.Runs.{ContentWord, mark_in}
use Rattle.bsdl_device.specs.Readers.{Read, done, after, front, rest, rest_if, more_of}
use Rattle.bsdl_contents.specs.declared.fault.PartFault.{PartFault}
use Rattle.bsdl_contents.specs.declared.fault.PartFault.TheVariants as fault
use Rattle.bsdl_contents.specs.Outcomes.{Gives}
use Rattle.bsdl_contents.specs.Reader.{list_at}

abbrev comma_next : List ContentWord → Option (Unit {0})
comma_next ws = front (mark_in 44) ws

-- The loop stands at ws, with the list now, and what more it reads completes what was to be read in all.
pub record Continues {X : Type 0} (one : List ContentWord → Read ContentWord X) (now : List X) (ws : List ContentWord) (all : Read ContentWord (List X)) : Type 0 where
  pub fuel : ℕ
  pub enough : length ws ≤ fuel
  pub complete : (xs : List X) (left : List ContentWord) → more_of (mark_in 44) one fuel ws ≡ (Some xs, left) → all ≡ (Some (now ++ xs), left)
  pub faulty : (left : List ContentWord) → more_of (mark_in 44) one fuel ws ≡ (None, left) → all ≡ (None, left)

-- The first entry was read.
pub starts : {X : Type 0} (one : List ContentWord → Read ContentWord X) (now : List X) (ws left : List ContentWord) (x : X) → one ws ≡ (Some x, left) → now ≡ [] ++ x ∷ [] → Continues one now left (list_at one ws)
starts {X} one now ws left x first push = record {
  fuel = length left;
  enough = omega arith;
  complete = λ xs end h. read ∙ ap (λ (r : Read ContentWord (List X)). after r (λ ys e. done (x ∷ ys) e)) h ∙ ap (λ (l : List X). let r : Read ContentWord (List X) = (Some (l ++ xs), end) in r) (sym push);
  faulty = λ end h. read ∙ ap (λ (r : Read ContentWord (List X)). after r (λ ys e. done (x ∷ ys) e)) h;
}
  where
    read : list_at one ws ≡ after (more_of (mark_in 44) one (length left) left) (λ ys e. done (x ∷ ys) e)
    read = ap (λ (r : Read ContentWord X). after r (λ z more. after (more_of (mark_in 44) one (length more) more) (λ ys e. done (z ∷ ys) e))) first

-- A comma stands there, and what follows it was read.
more_behind : {X : Type 0} (one : List ContentWord → Read ContentWord X) (fuel : ℕ) (ws behind : List ContentWord) (read : Read ContentWord X) → is_some (comma_next ws) ≡ true → behind ≡ rest_if (comma_next ws) ws → one behind ≡ read → more_of (mark_in 44) one (suc fuel) ws ≡ after read (λ x more. after (more_of (mark_in 44) one fuel more) (λ xs end. done (x ∷ xs) end))
more_behind {X} one fuel ws behind read there moved is = go (comma_next ws) (unit_there (comma_next ws) there) moved
  where
    rest_of : Read ContentWord X → Read ContentWord (List X)
    rest_of r = after r (λ x more. after (more_of (mark_in 44) one fuel more) (λ xs end. done (x ∷ xs) end))

    go : (o : Option (Unit {0})) → o ≡ Some tt → behind ≡ rest_if o ws → option_map_or (λ _. after (one (rest ws)) (λ x more. after (more_of (mark_in 44) one fuel more) (λ xs end. done (x ∷ xs) end))) o (done [] ws) ≡ after read (λ x more. after (more_of (mark_in 44) one fuel more) (λ xs end. done (x ∷ xs) end))
    go None e m = absurd (cc)
    go (Some u) e m = ap (λ (l : List ContentWord). after (one l) (λ x more. after (more_of (mark_in 44) one fuel more) (λ xs end. done (x ∷ xs) end))) (sym m) ∙ ap (λ (r : Read ContentWord X). after r (λ x more. after (more_of (mark_in 44) one fuel more) (λ xs end. done (x ∷ xs) end))) is

pushed : {X : Type 0} (now new xs : List X) (x : X) → new ≡ now ++ x ∷ [] → now ++ x ∷ xs ≡ new ++ xs
pushed {X} now new xs x push = sym (append_assoc now (x ∷ []) xs) ∙ ap (λ (l : List X). l ++ xs) (sym push)

-- One entry more was read.
pub goes_on : {X : Type 0} (one : List ContentWord → Read ContentWord X) (now new : List X) (ws behind left : List ContentWord) (all : Read ContentWord (List X)) (x : X) → Continues one now ws all → is_some (comma_next ws) ≡ true → behind ≡ rest_if (comma_next ws) ws → length behind < length ws → length left ≤ length behind → one behind ≡ (Some x, left) → new ≡ now ++ x ∷ [] → Continues one new left all
goes_on {X} one now new ws behind left all x k there moved less short read push = by k.fuel k.enough k.complete k.faulty
  where
    by : (fuel : ℕ) → length ws ≤ fuel → ((xs : List X) (end : List ContentWord) → more_of (mark_in 44) one fuel ws ≡ (Some xs, end) → all ≡ (Some (now ++ xs), end)) → ((end : List ContentWord) → more_of (mark_in 44) one fuel ws ≡ (None, end) → all ≡ (None, end)) → Continues one new left all
    by zero enough complete faulty = absurd (omega (arith, less))
    by (suc fuel) enough complete faulty = record {
      fuel = fuel;
      enough = omega (arith, less, short);
      complete = λ xs end h.
          complete (x ∷ xs) end (more_behind one fuel ws behind (Some x, left) there moved read ∙ ap (λ (r : Read ContentWord (List X)). after r (λ ys e. done (x ∷ ys) e)) h)
          ∙ ap (λ (l : List X). let r : Read ContentWord (List X) = (Some l, end) in r) (pushed now new xs x push);
      faulty = λ end h. faulty end (more_behind one fuel ws behind (Some x, left) there moved read ∙ ap (λ (r : Read ContentWord (List X)). after r (λ ys e. done (x ∷ ys) e)) h);
    }

-- The entry behind the comma is at fault.
pub stops : {X : Type 0} (one : List ContentWord → Read ContentWord X) (now : List X) (ws behind left : List ContentWord) (all : Read ContentWord (List X)) → Continues one now ws all → is_some (comma_next ws) ≡ true → behind ≡ rest_if (comma_next ws) ws → length behind < length ws → one behind ≡ (None, left) → all ≡ (None, left)
stops {X} one now ws behind left all k there moved less read = by k.fuel k.enough k.faulty
  where
    by : (fuel : ℕ) → length ws ≤ fuel → ((end : List ContentWord) → more_of (mark_in 44) one fuel ws ≡ (None, end) → all ≡ (None, end)) → all ≡ (None, left)
    by zero enough faulty = absurd (omega (arith, less))
    by (suc fuel) enough faulty = faulty left (more_behind one fuel ws behind (None, left) there moved read)

-- The list ends.
pub ends : {X : Type 0} (one : List ContentWord → Read ContentWord X) (now : List X) (ws left : List ContentWord) (all : Read ContentWord (List X)) → Continues one now ws all → is_some (comma_next ws) ≡ false → left ≡ rest_if (comma_next ws) ws → all ≡ (Some now, left)
ends {X} one now ws left all k absent moved =
    let none : comma_next ws ≡ None = unit_absent (comma_next ws) absent in
    let here : left ≡ ws = moved ∙ ap (λ (o : Option (Unit {0})). rest_if o ws) none in
    k.complete [] ws (no_more k.fuel none)
    ∙ ap (λ (l : List X). let r : Read ContentWord (List X) = (Some l, ws) in r) (append-nil now)
    ∙ ap (λ (w : List ContentWord). let r : Read ContentWord (List X) = (Some now, w) in r) (sym here)
  where
    no_more : (fuel : ℕ) → comma_next ws ≡ None → more_of (mark_in 44) one fuel ws ≡ (Some [], ws)
    no_more zero e = refl
    no_more (suc fuel) e = ap (λ (o : Option (Unit {0})). option_map_or (λ _. after (one (rest ws)) (λ x more. after (more_of (mark_in 44) one fuel more) (λ xs end. done (x ∷ xs) end))) o (done [] ws)) e

-- The same, as the code answers it.
pub faults : {X : Type 0} (one : List ContentWord → Read ContentWord X) (now : List X) (ws behind left : List ContentWord) (all : Read ContentWord (List X)) (result : Result (List X) PartFault) (e : PartFault) → Continues one now ws all → is_some (comma_next ws) ≡ true → behind ≡ rest_if (comma_next ws) ws → length behind < length ws → IsErrAnd result (λ f. f ≡ e) → Gives {X = X} (Err e) left (one behind) → Gives result left all
faults one now ws behind left all (Ok x) e k there moved less same read = absurd same
faults one now ws behind left all (Err fault.OutOfMemory) e k there moved less same read = tt
faults one now ws behind left all (Err fault.Wrong) fault.OutOfMemory k there moved less same read = absurd (cc)
faults one now ws behind left all (Err fault.Wrong) fault.Wrong k there moved less same read = stops one now ws behind left all k there moved less read
