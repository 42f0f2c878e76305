-- The first that can't stand behind those before it, by a walk along the list.
use Rattle.std.proofs.Common.{◌≡◌, ℕ, suc, ◌+◌, ◌≤◌, Bool, true, false, List, [], ◌∷◌, ◌++◌, refl, ap, sym, ◌∙◌, Option, Some, None, IsTrue, if◌then◌else◌, length, append_assoc, append-nil, take, drop, arith}
use Rattle.std.specs.Prelude.{slice_get}
use Rattle.std.specs.Bool.{IsFalse}
use Rattle.std.proofs.lemmas.Option.{same_Some}
use Rattle.list_laws.proofs.Lists.{left_at, none_left, taken_more}
use Rattle.status_fitting.specs.declared.register_texts.fault.StatusFault.{StatusFault}
use Rattle.status_fitting.specs.First.{Stands, IsFirst}
use Rattle.status_fitting.specs.Steps.{fault_behind}

nothing_split : {A : Type 0} (mid more : List A) (x : A) → [] ≡ mid ++ x ∷ more → ⊥
nothing_split [] more x e = cc
nothing_split (y ∷ mid) more x e = cc

pub same_front : {A : Type 0} (x y : A) (xs ys : List A) → x ∷ xs ≡ y ∷ ys → x ≡ y
same_front x y xs ys e = cc

pub same_rest : {A : Type 0} (x y : A) (xs ys : List A) → x ∷ xs ≡ y ∷ ys → xs ≡ ys
same_rest x y xs ys e = cc

-- each of the list can stand behind these and those before it
abbrev StandsBehind : {A : Type 0} → (List A → A → Bool) → List A → List A → Type 0
StandsBehind {A} cannot before list = (mid more : List A) (x : A) → list ≡ mid ++ x ∷ more → IsFalse (cannot (before ++ mid) x)

one_more : {A : Type 0} (cannot : List A → A → Bool) (before list : List A) (h : A) → cannot before h ≡ false → StandsBehind cannot (before ++ h ∷ []) list → StandsBehind cannot before (h ∷ list)
one_more {A} cannot before list h fresh rest = λ mid more x e. by mid more x e
  where
    by : (mid more : List A) (x : A) → h ∷ list ≡ mid ++ x ∷ more → IsFalse (cannot (before ++ mid) x)
    by [] more x e = ap (λ (b : List A). cannot b x) (append-nil before) ∙ ap (cannot before) (sym (same_front h x list more e)) ∙ fresh
    by (y ∷ mid) more x e =
        ap (λ (z : A). cannot (before ++ z ∷ mid) x) (sym (same_front h y list (mid ++ x ∷ more) e))
        ∙ ap (λ (b : List A). cannot b x) (sym (append_assoc before (h ∷ []) mid))
        ∙ rest mid more x (same_rest h y list (mid ++ x ∷ more) e)

none_stands : {A : Type 0} (cannot : List A → A → Bool) (told : A → StatusFault) (before list : List A) → fault_behind cannot told before list ≡ None → StandsBehind cannot before list
none_stands cannot told before [] none = λ mid more x e. absurd (nothing_split mid more x e)
none_stands {A} cannot told before (h ∷ list) none = by (cannot before h) refl none (none_stands cannot told (before ++ h ∷ []) list)
  where
    by : (b : Bool) → cannot before h ≡ b → (if b then Some (told h) else fault_behind cannot told (before ++ h ∷ []) list) ≡ None
        → (fault_behind cannot told (before ++ h ∷ []) list ≡ None → StandsBehind cannot (before ++ h ∷ []) list) → StandsBehind cannot before (h ∷ list)
    by true e is rest = absurd (cc)
    by false e is rest = one_more cannot before list h e (rest is)

pub no_fault_stands : {A : Type 0} (cannot : List A → A → Bool) (told : A → StatusFault) (list : List A) → fault_behind cannot told [] list ≡ None → Stands cannot list
no_fault_stands cannot told list none = none_stands cannot told [] list none

-- the first one at fault, behind these and those before it
record FoundBehind {A : Type 0} (cannot : List A → A → Bool) (told : A → StatusFault) (before list : List A) (f : StatusFault) : Type 0 where
  pub it : A
  pub fault : told it ≡ f
  pub mid : List A
  pub more : List A
  pub split : list ≡ mid ++ it ∷ more
  pub cannot_be : IsTrue (cannot (before ++ mid) it)
  pub stand : StandsBehind cannot before mid

found_behind : {A : Type 0} (cannot : List A → A → Bool) (told : A → StatusFault) (before list : List A) (f : StatusFault) → fault_behind cannot told before list ≡ Some f
    → FoundBehind cannot told before list f
found_behind cannot told before [] f some = absurd (cc)
found_behind {A} cannot told before (h ∷ list) f some = by (cannot before h) refl some (found_behind cannot told (before ++ h ∷ []) list f)
  where
    by : (b : Bool) → cannot before h ≡ b → (if b then Some (told h) else fault_behind cannot told (before ++ h ∷ []) list) ≡ Some f
        → (fault_behind cannot told (before ++ h ∷ []) list ≡ Some f → FoundBehind cannot told (before ++ h ∷ []) list f) → FoundBehind cannot told before (h ∷ list) f
    by true e is rest = record {
      it = h;
      fault = (let same : told h ≡ f = cc in same);
      mid = [];
      more = list;
      split = refl;
      cannot_be = ap (λ (b : List A). cannot b h) (append-nil before) ∙ e;
      stand = λ mid more x none. absurd (nothing_split mid more x none);
    }
    by false e is rest =
        let found = rest is in
        record {
          it = found.it;
          fault = found.fault;
          mid = h ∷ found.mid;
          more = found.more;
          split = ap (λ (xs : List A). h ∷ xs) found.split;
          cannot_be = ap (λ (b : List A). cannot b found.it) (sym (append_assoc before (h ∷ []) found.mid)) ∙ found.cannot_be;
          stand = one_more cannot before found.mid h e found.stand;
        }

pub record FirstFault {A : Type 0} (cannot : List A → A → Bool) (told : A → StatusFault) (list : List A) (f : StatusFault) : Type 0 where
  pub it : A
  pub fault : told it ≡ f
  pub first : IsFirst cannot list it

pub first_fault : {A : Type 0} (cannot : List A → A → Bool) (told : A → StatusFault) (list : List A) (f : StatusFault) → fault_behind cannot told [] list ≡ Some f → FirstFault cannot told list f
first_fault cannot told list f some =
    let found = found_behind cannot told [] list f some in
    record {
      it = found.it;
      fault = found.fault;
      first = record { before = found.mid; more = found.more; split = found.split; cannot_be = found.cannot_be; stand = found.stand };
    }

-- Where one is at fault and none before it, it is the first.

told_behind : {A : Type 0} (cannot : List A → A → Bool) (told : A → StatusFault) (before mid more : List A) (x : A) → IsTrue (cannot (before ++ mid) x) → StandsBehind cannot before mid
    → fault_behind cannot told before (mid ++ x ∷ more) ≡ Some (told x)
told_behind {A} cannot told before [] more x e stand =
    ap (λ (b : Bool). if b then Some (told x) else fault_behind cannot told (before ++ x ∷ []) more) (ap (λ (b : List A). cannot b x) (sym (append-nil before)) ∙ e)
told_behind {A} cannot told before (h ∷ mid) more x e stand =
    let fresh : cannot before h ≡ false = ap (λ (b : List A). cannot b h) (sym (append-nil before)) ∙ stand [] mid h refl in
    ap (λ (b : Bool). if b then Some (told h) else fault_behind cannot told (before ++ h ∷ []) (mid ++ x ∷ more)) fresh
    ∙ told_behind cannot told (before ++ h ∷ []) mid more x (ap (λ (b : List A). cannot b x) (append_assoc before (h ∷ []) mid) ∙ e)
    (λ m n y is. ap (λ (b : List A). cannot b y) (append_assoc before (h ∷ []) m) ∙ stand (h ∷ m) n y (ap (λ (xs : List A). h ∷ xs) is))

told_first : {A : Type 0} (cannot : List A → A → Bool) (told : A → StatusFault) (list : List A) (x : A) → IsFirst cannot list x → fault_behind cannot told [] list ≡ Some (told x)
told_first cannot told list x first = ap (fault_behind cannot told []) first.split ∙ told_behind cannot told [] first.before first.more x first.cannot_be first.stand

pub same_first_fault : {A : Type 0} (cannot : List A → A → Bool) (told : A → StatusFault) (list : List A) (x y : A) → IsFirst cannot list x → IsFirst cannot list y → told x ≡ told y
same_first_fault cannot told list x y one two = same_Some (told x) (told y) (sym (told_first cannot told list x one) ∙ told_first cannot told list y two)

-- The walk, one by one.

walked : {A : Type 0} (cannot : List A → A → Bool) (told : A → StatusFault) (xs : List A) (i : ℕ) (x : A) (b : Bool) → slice_get xs i ≡ Some x → cannot (take i xs) x ≡ b
    → fault_behind cannot told (take i xs) (drop i xs) ≡ (if b then Some (told x) else fault_behind cannot told (take i xs ++ x ∷ []) (drop (suc i) xs))
walked {A} cannot told xs i x b at is =
    ap (fault_behind cannot told (take i xs)) (left_at xs i x at)
    ∙ ap (λ (t : Bool). if t then Some (told x) else fault_behind cannot told (take i xs ++ x ∷ []) (drop (suc i) xs)) is

pub walked_on : {A : Type 0} (cannot : List A → A → Bool) (told : A → StatusFault) (xs : List A) (i : ℕ) (x : A) (found : Option StatusFault) → slice_get xs i ≡ Some x → cannot (take i xs) x ≡ false
    → fault_behind cannot told (take i xs) (drop i xs) ≡ found → fault_behind cannot told (take (i + 1) xs) (drop (i + 1) xs) ≡ found
walked_on {A} cannot told xs i x found at can so_far =
    let longer : take i xs ++ x ∷ [] ≡ take (i + 1) xs = taken_more xs i x (take i xs) (take i xs ++ x ∷ []) at refl refl in
    let next : i + 1 ≡ suc i = omega arith in
    ap (λ (front : List A). fault_behind cannot told front (drop (i + 1) xs)) (sym longer)
    ∙ ap (λ (k : ℕ). fault_behind cannot told (take i xs ++ x ∷ []) (drop k xs)) next
    ∙ sym (walked cannot told xs i x false at can)
    ∙ so_far

pub walked_to : {A : Type 0} (cannot : List A → A → Bool) (told : A → StatusFault) (xs : List A) (i : ℕ) (x : A) (found : Option StatusFault) → slice_get xs i ≡ Some x → cannot (take i xs) x ≡ true
    → fault_behind cannot told (take i xs) (drop i xs) ≡ found → Some (told x) ≡ found
walked_to cannot told xs i x found at cannot_be so_far = sym (walked cannot told xs i x true at cannot_be) ∙ so_far

pub walked_all : {A : Type 0} (cannot : List A → A → Bool) (told : A → StatusFault) (xs : List A) (i : ℕ) (found : Option StatusFault) → length xs ≤ i
    → fault_behind cannot told (take i xs) (drop i xs) ≡ found → None ≡ found
walked_all cannot told xs i found done so_far = ap (fault_behind cannot told (take i xs)) (sym (none_left xs i done)) ∙ so_far
