-- Values by number, where the slab changes at one key.
use Rattle.std.proofs.Common.{◌≡◌, ◌≢◌, ◌⊎◌, inl, inr, ℕ, suc, zero, ◌+◌, ◌-◌, ◌<◌, ◌≤◌, List, [], ◌∷◌, ◌++◌, length, map, refl, sym, ◌∙◌, arith, ap, Option, Some, None, set, true, false, cond, count_by}
use Rattle.std.specs.Option.{is_some, IsSome}
use Rattle.std.specs.List.{slice_get}
use Rattle.std.proofs.lemmas.Bool.{cases_eq}
use Rattle.std.proofs.lemmas.List.{map-set, set-set, map-append, length-map}
use Rattle.std.proofs.lemmas.List.Sums.{sum_by-cons, sum_by-append}
use Rattle.std.proofs.lemmas.Option.{slice_get-map, slice_get_within, slice_get-get_or}
use Rattle.netlist_model.proofs.list_laws.Lists.{slice_get-set_same, slice_get-set_other, at_push}
use Rattle.slab.specs.Slab.{Slab, get, slab_len, Updates, with_value}
use Rattle.slab.proofs.SlabLemmas.{Updates-with_value, ContainsKey-within}
use Rattle.linked_cells.specs.PlacesLaws.{there_at, place_at, place_of, IsSound, Puts}

abbrev one : {X : Type 0} → Option X → ℕ
one o = cond (is_some o) 1 0

-- how the count of values goes with a place that is written
count_set : {X : Type 0} (xs : List (Option X)) (i : ℕ) (old new : Option X) → slice_get xs i ≡ Some old → count_by is_some (set xs i new) + one old ≡ count_by is_some xs + one new
count_set [] i old new at = absurd (cc)
count_set (x ∷ xs) zero old new at =
    let is : x ≡ old = cc in
    let before = sum_by-cons one x xs in
    let after = sum_by-cons one new xs in
    let same : one x ≡ one old = ap one is in omega (arith, before, after, same)
count_set (x ∷ xs) (suc i) old new at =
    let before = sum_by-cons one x xs in
    let after = sum_by-cons one x (set xs i new) in
    let rest = count_set xs i old new at in omega (arith, before, after, rest)

count_push : {X : Type 0} (xs : List (Option X)) (x : X) → count_by is_some (xs ++ Some x ∷ []) ≡ count_by is_some xs + 1
count_push xs x =
    let joined = sum_by-append one xs (Some x ∷ []) in
    let single = sum_by-cons one (Some x) [] in omega (arith, joined, single)

count_none : {X : Type 0} (xs : List (Option X)) → count_by is_some (xs ++ None ∷ []) ≡ count_by is_some xs
count_none {X = X} xs =
    let joined = sum_by-append one xs (None ∷ []) in
    let none : Option X = None in
    let single = sum_by-cons one none [] in omega (arith, joined, single)

is_some_of : {X : Type 0} (o : Option X) (x : X) → o ≡ Some x → IsSome o
is_some_of o x e = rw e refl

none_of : {X : Type 0} (o : Option X) → IsSome o → o ≡ None → ⊥
none_of o some e = let no_value : false ≡ true = rw e at some in absurd (cc)

there_is : {X : Type 0} (o : Option (Option X)) (x : X) → there_at o ≡ Some x → o ≡ Some (Some x)
there_is None x e = absurd (cc)
there_is {X = X} (Some place) x e = ap (λ (p : Option X). Some p) e

module _ {T : Type 0} where
  -- at keys other than one, the values stay
  pub places_same : (old new : Slab T) (key : ℕ) (keys : List (Option ℕ)) → ((other : ℕ) → other ≢ key → get new other ≡ get old other) → ((i : ℕ) → slice_get keys i ≢ Some (Some key))
      → map (place_of new) keys ≡ map (place_of old) keys
  places_same old new key [] others absent = refl
  places_same old new key (None ∷ keys) others absent = ap (λ (l : List (Option T)). None ∷ l) (places_same old new key keys others (λ i. absent (suc i)))
  places_same old new key (Some other ∷ keys) others absent =
      let here : get new other ≡ get old other = others other (λ e. absent 0 (ap (λ (k : ℕ). Some (Some k)) e)) in
      let rest = places_same old new key keys others (λ i. absent (suc i)) in
      rw (here, rest) refl

  -- where one number has the key, only its value changes
  pub places_set : (old new : Slab T) (key number : ℕ) (keys : List (Option ℕ)) (slot : Option T) → get new key ≡ slot → ((other : ℕ) → other ≢ key → get new other ≡ get old other)
      → slice_get keys number ≡ Some (Some key) → ((i : ℕ) → slice_get keys i ≡ Some (Some key) → i ≡ number) → map (place_of new) keys ≡ set (map (place_of old) keys) number slot
  places_set old new key number [] slot changed others at only = absurd (cc)
  places_set old new key zero (k ∷ keys) slot changed others at only =
      let is : k ≡ Some key = cc in
      let here : place_of new k ≡ slot = rw is changed in
      let rest = places_same old new key keys others (λ i e. let same = only (suc i) e in absurd (omega arith)) in
      rw (here, rest) refl
  places_set old new key (suc number) (k ∷ keys) slot changed others at only =
      let rest = places_set old new key number keys slot changed others at (λ i e. let same = only (suc i) e in omega arith) in
      let here : place_of new k ≡ place_of old k = first k refl in
      rw (here, rest) refl
    where
      first : (head : Option ℕ) → k ≡ head → place_of new head ≡ place_of old head
      first None e = refl
      first (Some other) e = others other (λ same. let is : Some k ≡ Some (Some key) = ap (λ (o : Option ℕ). Some o) (e ∙ ap (λ (n : ℕ). Some n) same) in let zero_is = only 0 is in absurd (omega arith))

  module _ (keys : List (Option ℕ)) (len capacity : ℕ) (old : Slab T) (spare : ℕ) (sound : IsSound keys len capacity old spare) where
    -- the key of a number that has a value
    pub key_there : (number : ℕ) → IsSome (place_at (map (place_of old) keys) number) → IsSome (place_at keys number)
    key_there number there = go (slice_get keys number) (rw (slice_get-map (place_of old) keys number) at there)
      where
        go : (o : Option (Option ℕ)) → IsSome (there_at (elim o [ None ↦ None | Some k ↦ Some (place_of old k) ])) → IsSome (there_at o)
        go None some = some
        go (Some None) some = some
        go (Some (Some key)) some = refl

    pub place_is : (number key : ℕ) → place_at keys number ≡ Some key → place_at (map (place_of old) keys) number ≡ get old key
    place_is number key at =
        let here = there_is (slice_get keys number) key at in
        let found = slice_get-map (place_of old) keys number in
        rw (found, here) refl

    -- a value is written
    pub mutated : (number key : ℕ) (w : T) → place_at keys number ≡ Some key
        → IsSound keys len capacity (with_value old key w) spare × (map (place_of (with_value old key w)) keys ≡ set (map (place_of old) keys) number (Some w))
    mutated number key w at =
        let here = there_is (slice_get keys number) key at in
        let present = sound.there number key here in
        let updates = Updates-with_value old key w present in
        let items = places_set old (with_value old key w) key number keys (Some w) updates.changed updates.others here (λ i e. sound.apart i number key e here) in
        let slot = slice_get-get_or old.slots key None (ContainsKey-within old key present) in
        let was = count_set old.slots key (get old key) (Some w) slot in
        let lone : one (get old key) ≡ 1 = rw present refl in
        let place : slice_get (map (place_of old) keys) number ≡ Some (get old key) = slice_get-map (place_of old) keys number ∙ (rw here refl) in
        let counts = count_set (map (place_of old) keys) number (get old key) (Some w) place in
        let room = sound.room in
        let counted = sound.counted in (
          record {
            key_room = sound.key_room;
            numbers_fit = sound.numbers_fit;
            room = omega (arith, was, lone, room);
            there = λ i k e. elim (cases_eq k key) [
              | inl same ↦ rw same (is_some_of (get (with_value old key w) key) w updates.changed)
              | inr other ↦ (let stays = updates.others k other in rw stays (sound.there i k e))
            ];
            apart = sound.apart;
            counted = rw items (omega (arith, was, lone, counts, counted));
          },
          items,
        )

    -- a value is removed
    pub emptied : (new : Slab T) (number key : ℕ) → place_at keys number ≡ Some key → Updates old new key None → slab_len new + 1 ≡ slab_len old → new.capacity ≡ old.capacity
        → IsSound (set keys number None) len capacity new spare × (map (place_of new) (set keys number None) ≡ set (map (place_of old) keys) number None)
    emptied new number key at updates shorter same_capacity =
        let here = there_is (slice_get keys number) key at in
        let within = slice_get_within keys number (Some key) here in
        let present = sound.there number key here in
        let values = places_set old new key number keys None updates.changed updates.others here (λ i e. sound.apart i number key e here) in
        let items : map (place_of new) (set keys number None) ≡ set (map (place_of old) keys) number None =
        map-set (place_of new) keys number None ∙ (rw (values, set-set) refl) in
        let lone : one (get old key) ≡ 1 = rw present refl in
        let place : slice_get (map (place_of old) keys) number ≡ Some (get old key) = slice_get-map (place_of old) keys number ∙ (rw here refl) in
        let counts = count_set (map (place_of old) keys) number (get old key) None place in
        let room = sound.room in
        let counted = sound.counted in
        let left : (i k : ℕ) → slice_get (set keys number None) i ≡ Some (Some k) → (i ≢ number) × (slice_get keys i ≡ Some (Some k)) = (λ i k e. elim (cases_eq i number) [
          | inl same ↦ (let gone : slice_get (set keys number None) i ≡ Some None = rw same (slice_get-set_same keys number None within) in absurd (cc))
          | inr other ↦ (other, sym (slice_get-set_other keys number i None other) ∙ e)
        ]) in (
          record {
            key_room = sound.key_room;
            numbers_fit = sound.numbers_fit;
            room = omega (arith, shorter, same_capacity, room);
            there = λ i k e. let l = left i k e in
                let differs : k ≢ key = (λ same. l.0 (sound.apart i number key (rw same at l.1) here)) in
                let stays = updates.others k differs in rw stays (sound.there i k l.1);
            apart = λ i j k e f. sound.apart i j k (left i k e).1 (left j k f).1;
            counted = rw items (omega (arith, shorter, lone, counts, counted));
          },
          items,
        )

    -- no number has a vacant key
    pub vacant_absent : (key : ℕ) → get old key ≡ None → (i : ℕ) → slice_get keys i ≢ Some (Some key)
    vacant_absent key vacant i e = none_of (get old key) (sound.there i key e) vacant

    -- a value is put in an empty place
    pub filled : (new : Slab T) (number key : ℕ) (value : T) → 0 < spare → slice_get keys number ≡ Some None → get old key ≡ None → Updates old new key (Some value) → slab_len new ≡ slab_len old + 1
        → new.capacity ≡ old.capacity
        → IsSound (set keys number (Some key)) len capacity new (spare - 1) × (map (place_of new) (set keys number (Some key)) ≡ set (map (place_of old) keys) number (Some value))
    filled new number key value some empty vacant updates longer same_capacity =
        let within = slice_get_within keys number None empty in
        let absent = vacant_absent key vacant in
        let values = places_same old new key keys updates.others absent in
        let changed = updates.changed in
        let items : map (place_of new) (set keys number (Some key)) ≡ set (map (place_of old) keys) number (Some value) =
        map-set (place_of new) keys number (Some key) ∙ (rw (values, changed) refl) in
        let place : slice_get (map (place_of old) keys) number ≡ Some None = slice_get-map (place_of old) keys number ∙ (rw empty refl) in
        let counts = count_set (map (place_of old) keys) number None (Some value) place in
        let room = sound.room in
        let counted = sound.counted in
        let key_room = sound.key_room in
        let numbers_fit = sound.numbers_fit in
        let left : (i k : ℕ) → slice_get (set keys number (Some key)) i ≡ Some (Some k) → ((i ≡ number) × (k ≡ key)) ⊎ ((k ≢ key) × (slice_get keys i ≡ Some (Some k))) = (λ i k e. elim (cases_eq i number) [
          | inl same ↦ (let put : slice_get (set keys number (Some key)) i ≡ Some (Some key) = rw same (slice_get-set_same keys number (Some key) within) in inl (same, (cc)))
          | inr other ↦ (let was = sym (slice_get-set_other keys number i (Some key) other) ∙ e in inr (λ same. absent i (rw same at was), was))
        ]) in (
          record {
            key_room = omega (arith, key_room);
            numbers_fit = omega (arith, numbers_fit);
            room = omega (arith, longer, same_capacity, room);
            there = λ i k e. elim (left i k e) [
              | inl new_one ↦ (let is = new_one.1 in rw is (is_some_of (get new key) value changed))
              | inr old_one ↦ (let stays = updates.others k old_one.0 in rw stays (sound.there i k old_one.1))
            ];
            apart = λ i j k e f. elim (left i k e) [
              | inl a ↦ elim (left j k f) [
                | inl b ↦ a.0 ∙ sym b.0
                | inr b ↦ absurd (b.0 a.1)
              ]
              | inr a ↦ elim (left j k f) [
                | inl b ↦ absurd (a.0 b.1)
                | inr b ↦ sound.apart i j k a.1 b.1
              ]
            ];
            counted = rw items (omega (arith, longer, counts, counted));
          },
          items,
        )

    -- a value is put after the others
    pub appended : (new : Slab T) (key len' capacity' : ℕ) (value : T) → 0 < spare → get old key ≡ None → Updates old new key (Some value) → slab_len new ≡ slab_len old + 1
        → new.capacity ≡ old.capacity → len' ≡ len + 1 → capacity ≤ capacity'
        → IsSound (keys ++ Some key ∷ []) len' capacity' new (spare - 1) × (map (place_of new) (keys ++ Some key ∷ []) ≡ map (place_of old) keys ++ Some value ∷ [])
    appended new key len' capacity' value some vacant updates longer same_capacity one_more no_less =
        let absent = vacant_absent key vacant in
        let values = places_same old new key keys updates.others absent in
        let changed = updates.changed in
        let items : map (place_of new) (keys ++ Some key ∷ []) ≡ map (place_of old) keys ++ Some value ∷ [] =
        map-append (place_of new) keys (Some key ∷ []) ∙ (rw (values, changed) refl) in
        let counts = count_push (map (place_of old) keys) value in
        let room = sound.room in
        let counted = sound.counted in
        let key_room = sound.key_room in
        let numbers_fit = sound.numbers_fit in
        let left : (i k : ℕ) → slice_get (keys ++ Some key ∷ []) i ≡ Some (Some k) → ((i ≡ length keys) × (k ≡ key)) ⊎ ((k ≢ key) × (slice_get keys i ≡ Some (Some k))) = (λ i k e. elim (at_push keys (Some key) (Some k) i e) [
          | inl last ↦ (let is = last.1 in inl (last.0, (cc)))
          | inr front ↦ inr (λ same. absent i (rw same at front.1), front.1)
        ]) in (
          record {
            key_room = omega (arith, key_room, one_more, no_less);
            numbers_fit = omega (arith, numbers_fit, one_more);
            room = omega (arith, longer, same_capacity, room);
            there = λ i k e. elim (left i k e) [
              | inl new_one ↦ (let is = new_one.1 in rw is (is_some_of (get new key) value changed))
              | inr old_one ↦ (let stays = updates.others k old_one.0 in rw stays (sound.there i k old_one.1))
            ];
            apart = λ i j k e f. elim (left i k e) [
              | inl a ↦ elim (left j k f) [
                | inl b ↦ a.0 ∙ sym b.0
                | inr b ↦ absurd (b.0 a.1)
              ]
              | inr a ↦ elim (left j k f) [
                | inl b ↦ absurd (a.0 b.1)
                | inr b ↦ sound.apart i j k a.1 b.1
              ]
            ];
            counted = rw items (omega (arith, longer, counts, counted));
          },
          items,
        )

    -- an item is empty where its number has no key
    empty_item : (number : ℕ) → slice_get keys number ≡ Some None → slice_get (map (place_of old) keys) number ≡ Some None
    empty_item number empty = slice_get-map (place_of old) keys number ∙ (rw empty refl)

    empty_key : (number : ℕ) → slice_get (map (place_of old) keys) number ≡ Some None → slice_get keys number ≡ Some None
    empty_key number empty = go (slice_get keys number) refl
      where
        go : (o : Option (Option ℕ)) → slice_get keys number ≡ o → slice_get keys number ≡ Some None
        go None e = (let found = slice_get-map (place_of old) keys number in let none : slice_get (map (place_of old) keys) number ≡ None = found ∙ (rw e refl) in absurd (cc))
        go (Some None) e = e
        go (Some (Some key)) e = (let found = slice_get-map (place_of old) keys number in
            let some : slice_get (map (place_of old) keys) number ≡ Some (get old key) = found ∙ (rw e refl) in
            let vacant : get old key ≡ None = cc in absurd (none_of (get old key) (sound.there number key e) vacant))

    -- a value is put under a number of its own
    pub added : (new : Slab T) (keys' : List (Option ℕ)) (free number key len' capacity' : ℕ) (value : T) → 0 < spare → Puts keys keys' free number key → get old key ≡ None → Updates old new key (Some value)
        → slab_len new ≡ slab_len old + 1 → new.capacity ≡ old.capacity → len' ≤ len + 1 → capacity ≤ capacity'
        → IsSound keys' len' capacity' new (spare - 1) × Puts (map (place_of old) keys) (map (place_of new) keys') free number value
    added new keys' free number key len' capacity' value some (inl fills) vacant updates longer same_capacity more no_less =
        let whole = filled new free key value some fills.empty vacant updates longer same_capacity in
        let places = fills.places in
        let s = whole.0 in
        let key_room = s.key_room in
        let numbers_fit = s.numbers_fit in
        let old_room = sound.key_room in
        let old_fit = sound.numbers_fit in (
          rw places (record {
            key_room = omega (arith, old_room, more, no_less, some);
            numbers_fit = omega (arith, old_fit, more, some);
            room = s.room;
            there = s.there;
            apart = s.apart;
            counted = s.counted;
          }),
          inl (record { empty = empty_item free fills.empty; is = fills.is; places = rw places whole.1 }),
        )
    added new keys' free number key len' capacity' value some (inr follows) vacant updates longer same_capacity more no_less =
        let whole = appended new key (len + 1) capacity value some vacant updates longer same_capacity refl (omega arith) in
        let places = follows.places in
        let s = whole.0 in
        let old_room = sound.key_room in
        let old_fit = sound.numbers_fit in (
          rw places (record {
            key_room = omega (arith, old_room, more, no_less, some);
            numbers_fit = omega (arith, old_fit, more, some);
            room = s.room;
            there = s.there;
            apart = s.apart;
            counted = s.counted;
          }),
          inr (record { taken = λ e. follows.taken (empty_key free e); is = follows.is ∙ sym (length-map keys (place_of old)); places = rw places whole.1 }),
        )

    -- a number without a value comes after the others
    pub holed : (len' capacity' : ℕ) → 0 < spare → len' ≡ len + 1 → capacity ≤ capacity'
        → IsSound (keys ++ None ∷ []) len' capacity' old (spare - 1) × (map (place_of old) (keys ++ None ∷ []) ≡ map (place_of old) keys ++ None ∷ [])
    holed len' capacity' some one_more no_less =
        let items : map (place_of old) (keys ++ None ∷ []) ≡ map (place_of old) keys ++ None ∷ [] = map-append (place_of old) keys (None ∷ []) in
        let counts = count_none (map (place_of old) keys) in
        let room = sound.room in
        let counted = sound.counted in
        let key_room = sound.key_room in
        let numbers_fit = sound.numbers_fit in
        let left : (i k : ℕ) → slice_get (keys ++ None ∷ []) i ≡ Some (Some k) → slice_get keys i ≡ Some (Some k) = (λ i k e. elim (at_push keys None (Some k) i e) [
          | inl last ↦ (let is = last.1 in absurd (cc))
          | inr front ↦ front.1
        ]) in (
          record {
            key_room = omega (arith, key_room, one_more, no_less);
            numbers_fit = omega (arith, numbers_fit, one_more);
            room = omega (arith, room);
            there = λ i k e. sound.there i k (left i k e);
            apart = λ i j k e f. sound.apart i j k (left i k e) (left j k f);
            counted = rw items (omega (arith, counts, counted));
          },
          items,
        )
