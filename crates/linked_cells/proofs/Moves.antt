-- The walk that moves the readers of a net to another, one after another.
use Rattle.std.proofs.Common.{◌≡◌, ◌≢◌, inl, inr, ℕ, ◌<◌, List, [], ◌∷◌, ◌++◌, length, refl, sym, ◌∙◌, arith, ap, Option, Some, None, length-append, append_assoc, subst}
use Rattle.std.proofs.lemmas.List.{append-nil}
use Rattle.std.specs.Option.{IsSome, option_or}
use Rattle.netlist_model.specs.declared.Reader.{Reader}
use Rattle.linked_cells.specs.declared.Slot.{Slot}
use Rattle.linked_cells.specs.Links.{Slots, first_or, last_or, slot_on, Chain, Stands, AreThreaded, Threaded, walk_from, Writes, WritesFirst, SetsBefore, SetsAfter, IsMoving, MovesFeed}
use Rattle.linked_cells.proofs.Chains.{last_or-push, stands_here, stands_right, stands_split, chain_at, chain_determined, walk_is}
use Rattle.linked_cells.proofs.Threads.{net_of, chain_feed, chain_short, gap_keeps, all_moved, moved_one, last_of_stands, stands_or_not}

-- nothing has moved
pub moving_start : (slots : Slots) (first : ℕ → Option Reader) (from to : ℕ) (all : List Reader) → Threaded slots first → ((r : Reader) → IsSome (slots r) → Stands all r)
    → IsMoving slots slots from to (first from) (first from) None (length all)
moving_start slots first from to all threaded within =
    let t = threaded.threads in
    let walk = threaded.walk from in
    let there : (r : Reader) → Stands walk r → Stands all r = (λ r st. let found = chain_at slots from None walk None r (t.linked from) st in within r (rw found refl)) in
    record {
      moved = [];
      rest = walk;
      was = t.linked from;
      start_is = t.starts from;
      done = tt;
      left = t.linked from;
      same = λ q out. refl;
      at_is = t.starts from;
      last_is = refl;
      short = chain_short slots from None walk all (t.linked from) there;
    }

-- the rest begins with the reader at which the walk stands
rest_is : (r : Reader) (rest : List Reader) → Some r ≡ first_or rest None → (later : List Reader) × (rest ≡ r ∷ later)
rest_is r [] e = absurd (cc)
rest_is r (x ∷ later) e = let same : x ≡ r = cc in (later, ap (λ (y : Reader). y ∷ later) same)

pub moving_there : (old now : Slots) (from to : ℕ) (start last : Option Reader) (fuel : ℕ) (r : Reader) → IsMoving old now from to start (Some r) last fuel → IsSome (now r)
moving_there old now from to start last fuel r m =
    let cut = rest_is r m.rest m.at_is in
    let left = subst (λ (l : List Reader). Chain now from (last_or None m.moved) l None) cut.1 m.left in
    let found = left.0 in rw found refl

-- the slot at which the walk stands
pub moving_at : (old now : Slots) (from to : ℕ) (start last : Option Reader) (fuel : ℕ) (r : Reader) (slot : Slot) → IsMoving old now from to start (Some r) last fuel → now r ≡ Some slot
    → (later : List Reader) × (slot ≡ slot_on from last (first_or later None))
moving_at old now from to start last fuel r slot m at =
    let cut = rest_is r m.rest m.at_is in
    let left = subst (λ (l : List Reader). Chain now from (last_or None m.moved) l None) cut.1 m.left in
    let found = left.0 in
    let last_is = m.last_is in
    let same : slot ≡ slot_on from (last_or None m.moved) (first_or cut.0 None) = cc in
    (cut.0, same ∙ ap (λ (o : Option Reader). slot_on from o (first_or cut.0 None)) (sym last_is))

-- one reader more has moved
pub moving_step : (old now new : Slots) (from to : ℕ) (start last : Option Reader) (fuel : ℕ) (r : Reader) (slot : Slot) → from ≢ to → IsMoving old now from to start (Some r) last fuel → now r ≡ Some slot
    → Writes now new r (slot_on to slot.before slot.after) → IsMoving old new from to start slot.after (Some r) fuel
moving_step old now new from to start last fuel r slot differ m at writes =
    let cut = rest_is r m.rest m.at_is in
    let later = cut.0 in
    let left = subst (λ (l : List Reader). Chain now from (last_or None m.moved) l None) cut.1 m.left in
    let done = subst (λ (l : List Reader). Chain now to None m.moved (first_or l None)) cut.1 m.done in
    let found = left.0 in
    let same : slot ≡ slot_on from (last_or None m.moved) (first_or later None) = cc in
    let before_is : slot.before ≡ last_or None m.moved = ap (λ (s : Slot). s.before) same in
    let after_is : slot.after ≡ first_or later None = ap (λ (s : Slot). s.after) same in
    let writes' : Writes now new r (slot_on to (last_or None m.moved) (first_or later None)) =
    subst (λ (o : Option Reader). Writes now new r (slot_on to (last_or None m.moved) o)) after_is (subst (λ (o : Option Reader). Writes now new r (slot_on to o slot.after)) before_is writes) in
    let step = moved_one now new from to m.moved r later differ done left writes' in
    let last_now = last_or-push None m.moved r in
    let whole : (m.moved ++ r ∷ []) ++ later ≡ m.moved ++ m.rest = append_assoc m.moved (r ∷ []) later ∙ ap (λ (l : List Reader). m.moved ++ l) (sym cut.1) in
    let here : Stands (m.moved ++ m.rest) r = stands_right m.moved m.rest r (subst (λ (l : List Reader). Stands l r) (sym cut.1) (stands_here r later)) in
    record {
      moved = m.moved ++ r ∷ [];
      rest = later;
      was = subst (λ (l : List Reader). Chain old from None l None) (sym whole) m.was;
      start_is = m.start_is ∙ ap (λ (l : List Reader). first_or l None) (sym whole);
      done = step.0;
      left = subst (λ (o : Option Reader). Chain new from o later None) (sym last_now) step.1;
      same = λ q out. writes.others q (λ e. out (subst (λ (l : List Reader). Stands l q) (sym whole) (rw e here))) ∙ m.same q (λ st. out (subst (λ (l : List Reader). Stands l q) (sym whole) st));
      at_is = after_is;
      last_is = sym last_now;
      short = rw whole m.short;
    }

-- the walk that is left
pub moving_walk : (old now : Slots) (from to : ℕ) (start at last : Option Reader) (fuel : ℕ) → (m : IsMoving old now from to start at last fuel) → walk_from now fuel at ≡ m.rest
moving_walk old now from to start at last fuel m =
    let at_is = m.at_is in
    let short = m.short in
    let sum = length-append m.moved m.rest in
    rw at_is (walk_is now from (last_or None m.moved) m.rest fuel m.left (omega (arith, short, sum)))

pub moving_less : (old now new : Slots) (from to : ℕ) (start last : Option Reader) (fuel : ℕ) (r : Reader) (slot : Slot) → from ≢ to → IsMoving old now from to start (Some r) last fuel → now r ≡ Some slot
    → Writes now new r (slot_on to slot.before slot.after) → length (walk_from new fuel slot.after) < length (walk_from now fuel (Some r))
unfolding rest_is moving_step
moving_less old now new from to start last fuel r slot differ m at writes =
    let next = moving_step old now new from to start last fuel r slot differ m at writes in
    let before = moving_walk old now from to start (Some r) last fuel m in
    let after = moving_walk old new from to start slot.after (Some r) fuel next in
    let cut = rest_is r m.rest m.at_is in
    let whole : (m.moved ++ r ∷ []) ++ cut.0 ≡ m.moved ++ m.rest = append_assoc m.moved (r ∷ []) cut.0 ∙ ap (λ (l : List Reader). m.moved ++ l) (sym cut.1) in
    let longer = ap (λ (l : List Reader). length l) cut.1 in
    let rest_same : next.rest ≡ cut.0 = refl in
    rw (before, after) (omega (arith, longer))

pub moving_keeps : (old now : Slots) (from to : ℕ) (start at last : Option Reader) (fuel : ℕ) (q : Reader) → IsMoving old now from to start at last fuel → IsSome (old q) → IsSome (now q)
moving_keeps old now from to start at last fuel q m there =
    elim (stands_or_not q (m.moved ++ m.rest)) [
      | inl st ↦ in_walk st
      | inr out ↦ (let same = m.same q out in rw same there)
    ]
  where
    in_walk : Stands (m.moved ++ m.rest) q → IsSome (now q)
    in_walk st = elim (stands_split m.moved m.rest q st) [
      | inl left ↦ (let found = chain_at now to None m.moved (first_or m.rest None) q m.done left in rw found refl)
      | inr right ↦ (let found = chain_at now from (last_or None m.moved) m.rest None q m.left right in rw found refl)
    ]

pub moving_last : (old now : Slots) (from to : ℕ) (start at last : Option Reader) (fuel : ℕ) (q : Reader) → IsMoving old now from to start at last fuel → last ≡ Some q → IsSome (now q)
moving_last old now from to start at last fuel q m e =
    let st = last_of_stands m.moved q (sym m.last_is ∙ e) in
    let found = chain_at now to None m.moved (first_or m.rest None) q m.done st in rw found refl

-- the end: all readers have moved
record HasMoved (old now : Slots) (from to : ℕ) (start last : Option Reader) (walk : List Reader) : Type 0 where
  start_is : start ≡ first_or walk None
  done : Chain now to None walk None
  same : (q : Reader) → (Stands walk q → ⊥) → now q ≡ old q
  last_is : last ≡ last_or None walk

moving_end : (old now : Slots) (first : ℕ → Option Reader) (walk : ℕ → List Reader) (from to : ℕ) (last : Option Reader) (fuel : ℕ) → AreThreaded old first walk → IsMoving old now from to (first from) None last fuel
    → HasMoved old now from to (first from) last (walk from)
moving_end old now first walk from to last fuel t m =
    let none : m.rest ≡ [] = no_rest m.rest (sym m.at_is) in
    let all : walk from ≡ m.moved ++ m.rest = chain_determined old from from None None (walk from) (m.moved ++ m.rest) (t.linked from) m.was (sym (t.starts from) ∙ m.start_is) in
    let whole : walk from ≡ m.moved = all ∙ ap (λ (l : List Reader). m.moved ++ l) none ∙ append-nil m.moved in
    record {
      start_is = t.starts from;
      done = subst (λ (l : List Reader). Chain now to None l None) (sym whole) (subst (λ (l : List Reader). Chain now to None m.moved (first_or l None)) none m.done);
      same = λ q out. m.same q (λ st. out (subst (λ (l : List Reader). Stands l q) (sym all) st));
      last_is = m.last_is ∙ ap (last_or None) (sym whole);
    }
  where
    no_rest : (rest : List Reader) → first_or rest None ≡ None → rest ≡ []
    no_rest [] e = refl
    no_rest (x ∷ rest) e = absurd (cc)

-- what the links and the feeds are where all have moved and the two lists are joined
pub moving_joined : (s0 s1 s2 s3 : Slots) (first mid first' : ℕ → Option Reader) (from to : ℕ) (last : Option Reader) (fuel : ℕ) → Threaded s0 first → from ≢ to → IsMoving s0 s1 from to (first from) None last fuel
    → SetsAfter s1 s2 last (first to) → SetsBefore s2 s3 (first to) last → WritesFirst first mid from None → WritesFirst mid first' to (option_or (first from) (first to))
    → Threaded s3 first' × ((q : Reader) (slot : Slot) → s3 q ≡ Some slot → (was : Slot) × (s0 q ≡ Some was) × MovesFeed (net_of from) (net_of to) was.feed slot.feed)
moving_joined s0 s1 s2 s3 first mid first' from to last fuel threaded differ m after before none some =
    let t = threaded.threads in
    let walk = threaded.walk in
    let ended = moving_end s0 s1 first walk from to last fuel t m in
    let after' : SetsAfter s1 s2 (last_or None (walk from)) (first to) = subst (λ (o : Option Reader). SetsAfter s1 s2 o (first to)) ended.last_is after in
    let before' : SetsBefore s2 s3 (first to) (last_or None (walk from)) = subst (λ (o : Option Reader). SetsBefore s2 s3 (first to) o) ended.last_is before in
    let head : first' to ≡ first_or (walk from) (first to) = some.here ∙ ap (λ (o : Option Reader). option_or o (first to)) ended.start_is ∙ or_first (walk from) (first to) in
    let start : first to ≡ first_or (walk to) None = t.starts to in
    let keeps = gap_keeps s1 s2 s3 (walk from) (walk to) (subst (λ (o : Option Reader). SetsAfter s1 s2 (last_or None (walk from)) o) start after')
    (subst (λ (o : Option Reader). SetsBefore s2 s3 o (last_or None (walk from))) start before') in (
      all_moved s0 s1 s2 s3 first first' walk from to t differ ended.done ended.same after' before' (some.others from differ ∙ none.here) head (λ n not_from not_to. some.others n not_to ∙ none.others n not_from),
      λ q slot at. let kept = keeps q slot at in
          elim (stands_or_not q (walk from)) [
            | inl st ↦ (let was = chain_at s0 from None (walk from) None q (t.linked from) st in
                let now = chain_feed s1 to None (walk from) None q kept.0 ended.done st kept.1 in
                (slot_on from (last_or None st.front) (first_or st.back None), was, inl (refl, sym kept.2 ∙ now)))
            | inr out ↦ (let at_old = sym (ended.same q out) ∙ kept.1 in
                (kept.0, at_old, inr (λ on. out (t.each q (net_of from) kept.0 at_old on), sym kept.2)))
          ],
    )
  where
    or_first : (xs : List Reader) (o : Option Reader) → option_or (first_or xs None) o ≡ first_or xs o
    or_first [] o = refl
    or_first (x ∷ xs) o = refl
