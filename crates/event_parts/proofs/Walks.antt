-- Walks along links, and ranges that grow.
use Rattle.std.proofs.Common.{◌≡◌, ◌≢◌, ◌⊎◌, ℕ, ◌+◌, ◌<◌, ◌≤◌, List, [], ◌∷◌, ◌++◌, length, slice_index, Option, Some, None, ap, ◌∙◌, inl, inr, arith}
use Rattle.std.proofs.lemmas.Bool.{cases_eq}
use Rattle.std.proofs.lemmas.Option.{get_or_from_slice_get}
use Rattle.std.proofs.lemmas.List.{get_or_append_left}
use Rattle.list_laws.proofs.Lists.{last_push}
use Rattle.event_parts.specs.KeysLaws.{IsKey, IsLast, link_at, Grows}

-- an element is this number or not
pub key_cases : (found : Option ℕ) (key : ℕ) → (found ≡ Some key) ⊎ (found ≢ Some key)
key_cases None key = inr (λ e. cc)
key_cases (Some n) key =
    elim (cases_eq n key) [
      | inl e ↦ inl (ap (λ (k : ℕ). Some k) e)
      | inr ne ↦ inr (λ e. ne (let unwrap : Option ℕ → ℕ = (λ o. elim o [ None ↦ 0 | Some k ↦ k ]) in ap unwrap e))
    ]

-- one place more at which the number doesn't stand
pub last_same : (keys : List (Option ℕ)) (key upto : ℕ) (last : Option ℕ) → (IsKey keys upto key → ⊥) → IsLast keys key upto last → IsLast keys key (upto + 1) last
last_same keys key upto None not so_far = λ place below is.
    elim (cases_eq place upto) [
      | inl e ↦ not (rw e at is)
      | inr ne ↦ so_far place (omega arith) is
    ]
last_same keys key upto (Some at) not so_far = (
  omega (arith, so_far.0),
  so_far.1,
  λ place above below is.
      elim (cases_eq place upto) [
        | inl e ↦ not (rw e at is)
        | inr ne ↦ so_far.2 place above (omega arith) is
      ],
)

-- one place more, at which it stands
pub last_new : (keys : List (Option ℕ)) (key upto : ℕ) → IsKey keys upto key → IsLast keys key (upto + 1) (Some upto)
last_new keys key upto is = (omega arith, is, λ place above below there. absurd (omega arith))

-- links, where one more was pushed
pub link_before : (links : List (Option ℕ)) (link : Option ℕ) (k : ℕ) → k < length links → link_at (links ++ link ∷ []) k ≡ link_at links k
link_before links link k below = get_or_append_left links (link ∷ []) None k below

pub link_here : (links : List (Option ℕ)) (link : Option ℕ) (k : ℕ) → k ≡ length links → link_at (links ++ link ∷ []) k ≡ link
link_here links link k e = get_or_from_slice_get (links ++ link ∷ []) k link None (rw e (last_push links link))

-- a walk that has come down to a place
pub record Walked (keys : List (Option ℕ)) (key : ℕ) (old new : List ℕ) (upto : ℕ) : Type 0 where
  pub grows : Grows old new
  pub only : (k : ℕ) → length old ≤ k → k < length new → IsKey keys (slice_index new k) key
  pub each : (place : ℕ) → upto ≤ place → IsKey keys place key → (k : ℕ) × (length old ≤ k) × (k < length new) × (slice_index new k ≡ place)
