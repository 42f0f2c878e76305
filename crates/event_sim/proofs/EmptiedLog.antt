-- The log is emptied net after net.
use Rattle.std.proofs.Common.{◌≡◌, ◌≢◌, ◌⊎◌, ◌↔◌, ℕ, ◌+◌, ◌*◌, ◌<◌, ◌≤◌, List, length, set, Option, Some, refl, sym, ap, ◌∙◌, inl, inr, arith, get_or-set_same, get_or-set_other, length-set}
use Rattle.std.proofs.lemmas.Bool.{cases_eq}
use Rattle.std.proofs.lemmas.List.{ext_get_or}
use Rattle.signal_values.specs.declared.Sig.{Sig}
use Rattle.signal_values.specs.declared.Sig.TheVariants.{Unknown}
use Rattle.netlist_settling.specs.Values.{value_at}
use Rattle.event_parts.specs.QueuesLaws.{IsIn, Pops}
use Rattle.event_sim.specs.Shown.{place_at}

-- what is left in the log begins here, and all other nets are up to date
pub record IsEmptied (values : List Sig) (places : List (Option ℕ)) (old log noted changed : List ℕ) (before : List Sig) (from : ℕ) : Type 0 where
  pub long : length before ≡ length values
  pub left : (net : ℕ) → IsIn log net → from ≤ net
  pub was : (net : ℕ) → IsIn log net → IsIn old net
  pub same : (net : ℕ) → (IsIn log net → ⊥) → value_at before net ≡ value_at values net
  pub log_long : length log ≡ length old
  pub changed_long : length changed ≡ length noted
  pub kept : (place : ℕ) → IsIn noted place → IsIn changed place
  pub each : (net place : ℕ) → IsIn old net → (IsIn log net → ⊥) → place_at places net ≡ Some place → IsIn changed place

pub none_emptied : (values : List Sig) (places : List (Option ℕ)) (log changed : List ℕ) (before : List Sig) → length before ≡ length values → ((net : ℕ) → (IsIn log net → ⊥) → value_at before net ≡ value_at values net)
    → IsEmptied values places log log changed changed before 0
none_emptied values places log changed before long same = record {
  long = long;
  left = λ net is. omega arith;
  was = λ net is. is;
  same = same;
  log_long = refl;
  changed_long = refl;
  kept = λ place is. is;
  each = λ net place is not at. absurd (not is);
}

pub one_emptied : (values : List Sig) (places : List (Option ℕ)) (old log log' noted changed changed' : List ℕ) (before : List Sig) (from net : ℕ) (value : Sig) → net < length values → Pops net log log' → value ≡ value_at values net
    → length changed' ≡ length changed → ((place : ℕ) → IsIn changed place → IsIn changed' place) → ((place : ℕ) → place_at places net ≡ Some place → IsIn changed' place)
    → IsEmptied values places old log noted changed before from → IsEmptied values places old log' noted changed' (set before net value) (net + 1)
one_emptied values places old log log' noted changed changed' before from net value below pops is long keeps notes so_far = record {
  long = length-set before net value ∙ so_far.long;
  left = λ other there. (let both = (pops.each other).0 there in let least = pops.least.least other both.1 in let ne = both.0 in omega arith);
  was = λ other there. so_far.was other ((pops.each other).0 there).1;
  same = λ other not.
      elim (cases_eq other net) [
        | inl here ↦ rw here (get_or-set_same before net value Unknown room ∙ is)
        | inr apart ↦ get_or-set_other before net other value Unknown apart ∙ so_far.same other (λ there. not ((pops.each other).1 (apart, there)))
      ];
  log_long = pops.long ∙ so_far.log_long;
  changed_long = long ∙ so_far.changed_long;
  kept = λ place there. keeps place (so_far.kept place there);
  each = λ other place in_old not at.
      elim (cases_eq other net) [
        | inl here ↦ notes place (ap (place_at places) (sym here) ∙ at)
        | inr apart ↦ keeps place (so_far.each other place in_old (λ there. not ((pops.each other).1 (apart, there))) at)
      ];
}
  where
    room : net < length before
    room = (let long_before = so_far.long in omega arith)

-- with an empty log all is up to date
pub record AllEmptied (values : List Sig) (places : List (Option ℕ)) (old log noted changed : List ℕ) (before : List Sig) : Type 0 where
  pub before_is : before ≡ values
  pub each : (net place : ℕ) → IsIn old net → place_at places net ≡ Some place → IsIn changed place

pub all_emptied : (values : List Sig) (places : List (Option ℕ)) (old log noted changed : List ℕ) (before : List Sig) (from : ℕ) → ((net : ℕ) → IsIn log net → ⊥)
    → IsEmptied values places old log noted changed before from → AllEmptied values places old log noted changed before
all_emptied values places old log noted changed before from none all = record {
  before_is = ext_get_or Unknown before values all.long (λ k below. all.same k (none k));
  each = λ net place is at. all.each net place is (none net) at;
}

-- past the last net nothing is left
pub none_left : (values : List Sig) (places : List (Option ℕ)) (old log noted changed : List ℕ) (before : List Sig) (from : ℕ) → length values ≤ from → ((net : ℕ) → IsIn old net → net < length values)
    → IsEmptied values places old log noted changed before from → (net : ℕ) → IsIn log net → ⊥
none_left values places old log noted changed before from past nets all net is = (let late = all.left net is in let below = nets net (all.was net is) in omega arith)
