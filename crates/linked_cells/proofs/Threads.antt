-- What the links come to where a slot is linked or unlinked, and where readers move.
use Rattle.std.proofs.Common.{◌≡◌, ◌≢◌, ◌⊎◌, inl, inr, ℕ, ◌≤◌, List, [], ◌∷◌, ◌++◌, length, refl, sym, ◌∙◌, arith, ap, Option, Some, None, length-append, append_assoc, subst, cond, ◌==◌, eq-eqb}
use Rattle.std.proofs.lemmas.Bool.{cases_eq, ne_eqb}
use Rattle.std.specs.Option.{IsSome, MatchOption}
use Rattle.std.specs.Bool.{⊤}
use Rattle.netlist_model.specs.declared.NetId.{NetId}
use Rattle.netlist_model.specs.declared.Reader.{Reader}
use Rattle.netlist_model.specs.declared.Feed.TheVariants.{Net}
use Rattle.linked_cells.specs.Links.{Slot, Slots, first_or, last_or, slot_on, Chain, Stands, AreThreaded, Threaded, Writes, Same, SetsBefore, SetsAfter, WritesFirst, SetsFirst, LinksVisitOnce}
use Rattle.linked_cells.proofs.Chains.{reader_cases, first_or-append, last_or-push, stands_here, stands_later, stands_left, stands_right, stands_nowhere, stands_cases, stands_split, stands_last, chain_frame, chain_front, chain_back, chain_join, chain_at, chain_determined, chain_once, chain_apart, chain_rebefore, chain_reafter, last_cases, stands_at, at_stands}

abbrev pub net_of : ℕ → NetId
net_of n = record { 0 = n }

pub net_same : (m n : NetId) → Net m ≡ Net n → m.0 ≡ n.0
net_same m n e = let same : m ≡ n = cc in ap (λ (k : NetId). k.0) same

-- a slot that stands in a chain is on its net
pub chain_feed : (slots : Slots) (net : ℕ) (before : Option Reader) (xs : List Reader) (after : Option Reader) (r : Reader) (slot : Slot) → Chain slots net before xs after → Stands xs r → slots r ≡ Some slot
    → slot.feed ≡ Net (net_of net)
chain_feed slots net before xs after r slot c s at =
    let there = chain_at slots net before xs after r c s in
    let same : slot ≡ slot_on net (last_or before s.front) (first_or s.back after) = cc in
    ap (λ (found : Slot). found.feed) same

-- a slot stands in the walk of its own net alone
pub walk_of_slot : (slots : Slots) (first : ℕ → Option Reader) (walk : ℕ → List Reader) (m n : ℕ) (r : Reader) → AreThreaded slots first walk → Stands (walk m) r → Stands (walk n) r → m ≡ n
walk_of_slot slots first walk m n r t a b =
    let at = chain_at slots m None (walk m) None r (t.linked m) a in
    let on = chain_feed slots n None (walk n) None r (slot_on m (last_or None a.front) (first_or a.back None)) (t.linked n) b at in
    net_same (net_of m) (net_of n) on

-- each slot keeps its feed
abbrev pub KeepsFeeds : Slots → Slots → Type 0
KeepsFeeds old new = (r : Reader) (slot : Slot) → new r ≡ Some slot → (was : Slot) × (old r ≡ Some was) × (was.feed ≡ slot.feed)

pub same_keeps : (old new : Slots) → Same old new → KeepsFeeds old new
same_keeps old new same r slot at = (slot, sym (same r) ∙ at, refl)

pub keeps_trans : (a b c : Slots) → KeepsFeeds a b → KeepsFeeds b c → KeepsFeeds a c
keeps_trans a b c first second r slot at =
    let mid = second r slot at in
    let old = first r mid.0 mid.1 in
    (old.0, old.1, old.2 ∙ mid.2)

written_keeps : (old new : Slots) (reader : Reader) (was slot : Slot) → old reader ≡ Some was → was.feed ≡ slot.feed → Writes old new reader slot → KeepsFeeds old new
written_keeps old new reader was slot at feed writes r found here =
    elim (reader_cases r reader) [
      | inl same ↦ (let there : new reader ≡ Some found = rw same at here in
          let written = writes.here in
          let is : slot ≡ found = cc in
          (was, rw same at_it, feed ∙ ap (λ (s : Slot). s.feed) is))
      | inr other ↦ (found, sym (writes.others r other) ∙ here, refl)
    ]
  where
    at_it : old reader ≡ Some was
    at_it = at

pub before_keeps : (old new : Slots) (o before : Option Reader) → SetsBefore old new o before → KeepsFeeds old new
before_keeps old new None before sets = same_keeps old new sets
before_keeps old new (Some reader) before sets = written_keeps old new reader sets.slot (record sets.slot { before = before }) sets.was refl sets.writes

pub after_keeps : (old new : Slots) (o after : Option Reader) → SetsAfter old new o after → KeepsFeeds old new
after_keeps old new None after sets = same_keeps old new sets
after_keeps old new (Some reader) after sets = written_keeps old new reader sets.slot (record sets.slot { after = after }) sets.was refl sets.writes

pub before_others : (old new : Slots) (o before : Option Reader) (r : Reader) → SetsBefore old new o before → o ≢ Some r → new r ≡ old r
before_others old new None before r sets other = sets r
before_others old new (Some reader) before r sets other = sets.writes.others r (λ e. other (ap (λ (x : Reader). Some x) (sym e)))

pub after_others : (old new : Slots) (o after : Option Reader) (r : Reader) → SetsAfter old new o after → o ≢ Some r → new r ≡ old r
after_others old new None after r sets other = sets r
after_others old new (Some reader) after r sets other = sets.writes.others r (λ e. other (ap (λ (x : Reader). Some x) (sym e)))

pub first_stands : (xs : List Reader) (r : Reader) → first_or xs None ≡ Some r → Stands xs r
first_stands [] r e = absurd (cc)
first_stands (x ∷ xs) r e = let same : r ≡ x = cc in rw same (stands_here x xs)

pub last_of_stands : (xs : List Reader) (r : Reader) → last_or None xs ≡ Some r → Stands xs r
last_of_stands xs r e =
    elim (stands_last None xs r e) [
      | inl none ↦ absurd (cc)
      | inr there ↦ there
    ]

-- two chains are joined at a gap
pub gap_closed : (s1 s2 s3 : Slots) (net : ℕ) (xs ys : List Reader) (middle before : Option Reader) → ((r : Reader) → Stands xs r → Stands ys r → ⊥)
    → ((front : List Reader) (r : Reader) → xs ≡ front ++ r ∷ [] → Stands front r → ⊥) → Chain s1 net None xs middle → Chain s1 net before ys None
    → SetsAfter s1 s2 (last_or None xs) (first_or ys None) → SetsBefore s2 s3 (first_or ys None) (last_or None xs) → Chain s3 net None (xs ++ ys) None
gap_closed s1 s2 s3 net [] ys middle before apart once front back after sets =
    let still = chain_frame s1 s2 net before ys None (λ r s. after r) back in
    chain_rebefore s2 s3 net before ys None still sets
gap_closed s1 s2 s3 net (x ∷ xs) ys middle before apart once front back after sets =
    let end = last_cases x xs in
    let last_is : last_or None (x ∷ xs) ≡ Some end.last = ap (last_or None) end.is ∙ last_or-push None end.front end.last in
    let there = subst (λ (l : List Reader). Chain s1 net None l middle) end.is front in
    let after' = subst (λ (o : Option Reader). SetsAfter s1 s2 o (first_or ys None)) last_is after in
    let sets' = subst (λ (o : Option Reader). SetsBefore s2 s3 (first_or ys None) o) last_is sets in
    let written = chain_reafter s1 s2 net None end.front end.last middle (first_or ys None) there (once end.front end.last end.is) after' in
    let whole = subst (λ (l : List Reader). Chain s2 net None l (first_or ys None)) (sym end.is) written in
    let at_last : Stands (x ∷ xs) end.last = record { front = end.front; back = []; is = end.is } in
    let still = chain_frame s1 s2 net before ys None (λ r s. after'.writes.others r (λ e. apart end.last at_last (rw e at s))) back in
    let later : Chain s3 net (Some end.last) ys None = chain_rebefore s2 s3 net before ys (Some end.last) still sets' in
    let earlier : Chain s3 net None (x ∷ xs) (first_or ys None) = chain_frame s2 s3 net None (x ∷ xs) (first_or ys None)
    (λ r s. before_others s2 s3 (first_or ys None) (Some end.last) r sets' (λ e. apart r s (first_stands ys r e))) whole in
    chain_join s3 net None (x ∷ xs) ys None earlier (subst (λ (o : Option Reader). Chain s3 net o ys None) (sym last_is) later)

-- the slots in neither chain stay
pub gap_others : (s1 s2 s3 : Slots) (xs ys : List Reader) (r : Reader) → SetsAfter s1 s2 (last_or None xs) (first_or ys None) → SetsBefore s2 s3 (first_or ys None) (last_or None xs)
    → (Stands xs r → ⊥) → (Stands ys r → ⊥) → s3 r ≡ s1 r
gap_others s1 s2 s3 xs ys r after sets no_x no_y =
    before_others s2 s3 (first_or ys None) (last_or None xs) r sets (λ e. no_y (first_stands ys r e))
    ∙ after_others s1 s2 (last_or None xs) (first_or ys None) r after (λ e. no_x (last_of_stands xs r e))

pub gap_keeps : (s1 s2 s3 : Slots) (xs ys : List Reader) → SetsAfter s1 s2 (last_or None xs) (first_or ys None) → SetsBefore s2 s3 (first_or ys None) (last_or None xs) → KeepsFeeds s1 s3
gap_keeps s1 s2 s3 xs ys after sets =
    keeps_trans s1 s2 s3 (after_keeps s1 s2 (last_or None xs) (first_or ys None) after) (before_keeps s2 s3 (first_or ys None) (last_or None xs) sets)

-- walks where that of one net is another
abbrev with_walk : ℕ → List Reader → (ℕ → List Reader) → ℕ → List Reader
with_walk net list walk m = cond (m == net) list (walk m)

with_walk-same : (net m : ℕ) (list : List Reader) (walk : ℕ → List Reader) → m ≡ net → with_walk net list walk m ≡ list
with_walk-same net m list walk e = rw (eq-eqb m net e) refl

with_walk-other : (net m : ℕ) (list : List Reader) (walk : ℕ → List Reader) → m ≢ net → with_walk net list walk m ≡ walk m
with_walk-other net m list walk e = rw (ne_eqb m net e) refl

-- the threads where the walk of one net changes: what has to be shown
rethreaded : (old new : Slots) (first first' : ℕ → Option Reader) (walk : ℕ → List Reader) (net : ℕ) (list : List Reader) → AreThreaded old first walk
    → first' net ≡ first_or list None → ((m : ℕ) → m ≢ net → first' m ≡ first m) → Chain new net None list None → ((m : ℕ) (r : Reader) → m ≢ net → Stands (walk m) r → new r ≡ old r)
    → ((r : Reader) (n : NetId) (slot : Slot) → new r ≡ Some slot → slot.feed ≡ Net n → n.0 ≡ net → Stands list r)
    → ((r : Reader) (n : NetId) (slot : Slot) → new r ≡ Some slot → slot.feed ≡ Net n → n.0 ≢ net → Stands (walk n.0) r) → AreThreaded new first' (with_walk net list walk)
rethreaded old new first first' walk net list t start starts chain same each others = record {
  starts = λ m. elim (cases_eq m net) [
    | inl e ↦ (let w = with_walk-same net m list walk e in let there : first' m ≡ first_or list None = rw e start in rw w there)
    | inr e ↦ (let w = with_walk-other net m list walk e in rw w (starts m e ∙ t.starts m))
  ];
  linked = λ m. elim (cases_eq m net) [
    | inl e ↦ (let w = with_walk-same net m list walk e in rw (w, e) chain)
    | inr e ↦ (let w = with_walk-other net m list walk e in rw w (chain_frame old new m None (walk m) None (λ r s. same m r e s) (t.linked m)))
  ];
  each = λ r n slot at on. elim (cases_eq n.0 net) [
    | inl e ↦ (let w = with_walk-same net n.0 list walk e in rw w (each r n slot at on e))
    | inr e ↦ (let w = with_walk-other net n.0 list walk e in rw w (others r n slot at on e))
  ];
}

-- what stands in a list stands in it without another
pub left_over : (xs ys : List Reader) (r q : Reader) → q ≢ r → Stands (xs ++ r ∷ ys) q → Stands (xs ++ ys) q
left_over xs ys r q other st =
    elim (stands_split xs (r ∷ ys) q st) [
      | inl left ↦ stands_left xs ys q left
      | inr right ↦ elim (stands_cases r ys q right) [
        | inl same ↦ absurd (other same)
        | inr later ↦ stands_right xs ys q later
      ]
    ]

-- a chain that ends is no longer than a list in which each of its slots stands
pub chain_short : (slots : Slots) (net : ℕ) (before : Option Reader) (xs ys : List Reader) → Chain slots net before xs None → ((r : Reader) → Stands xs r → Stands ys r) → length xs ≤ length ys
chain_short slots net before [] ys c there = omega arith
chain_short slots net before (x ∷ xs) ys c there =
    let s = there x (stands_here x xs) in
    let rest = chain_short slots net (Some x) xs (s.front ++ s.back) c.1 (λ r st. left_over s.front s.back x r (λ e. chain_once slots net before x xs c (rw e at st)) (rw s.is at (there r (stands_later x xs r st)))) in
    let whole = ap (λ (l : List Reader). length l) s.is ∙ length-append s.front (x ∷ s.back) in
    let less = length-append s.front s.back in
    omega (arith, rest, whole, less)

pub stands_or_not : (q : Reader) (xs : List Reader) → Stands xs q ⊎ (Stands xs q → ⊥)
stands_or_not q [] = inr (λ s. stands_nowhere q s)
stands_or_not q (x ∷ xs) =
    elim (reader_cases q x) [
      | inl same ↦ inl (rw same (stands_here x xs))
      | inr other ↦ elim (stands_or_not q xs) [
        | inl later ↦ inl (stands_later x xs q later)
        | inr never ↦ inr (λ s. elim (stands_cases x xs q s) [
          | inl same ↦ other same
          | inr later ↦ never later
        ])
      ]
    ]

-- the neighbours of a linked slot are there
pub neighbours_there : (slots : Slots) (first : ℕ → Option Reader) (net : ℕ) (r : Reader) (before after : Option Reader) → Threaded slots first → slots r ≡ Some (slot_on net before after)
    → ((b : Reader) → before ≡ Some b → IsSome (slots b)) × ((a : Reader) → after ≡ Some a → IsSome (slots a))
neighbours_there slots first net r before after threaded at =
    let t = threaded.threads in
    let walk = threaded.walk in
    let s = t.each r (net_of net) (slot_on net before after) at refl in
    let here = chain_at slots net None (walk net) None r (t.linked net) s in
    let same : slot_on net before after ≡ slot_on net (last_or None s.front) (first_or s.back None) = cc in
    let before_is : before ≡ last_or None s.front = ap (λ (slot : Slot). slot.before) same in
    let after_is : after ≡ first_or s.back None = ap (λ (slot : Slot). slot.after) same in
    let there : (q : Reader) → Stands (walk net) q → IsSome (slots q) = (λ q st. let found = chain_at slots net None (walk net) None q (t.linked net) st in rw found refl) in (
      λ b e. there b (rw s.is (stands_left s.front (r ∷ s.back) b (last_of_stands s.front b (sym before_is ∙ e)))),
      λ a e. there a (rw s.is (stands_right s.front (r ∷ s.back) a (stands_later r s.back a (first_stands s.back a (sym after_is ∙ e))))),
    )

-- the first reader of a net is there
pub first_there : (slots : Slots) (first : ℕ → Option Reader) (net : ℕ) (r : Reader) → Threaded slots first → first net ≡ Some r → IsSome (slots r)
first_there slots first net r threaded e =
    let t = threaded.threads in
    let st = first_stands (threaded.walk net) r (sym (t.starts net) ∙ e) in
    let found = chain_at slots net None (threaded.walk net) None r (t.linked net) st in rw found refl

pub written_there : (old new : Slots) (r q : Reader) (slot : Slot) → Writes old new r slot → IsSome (old q) → IsSome (new q)
written_there old new r q slot writes there =
    elim (reader_cases q r) [
      | inl same ↦ (let here = writes.here in rw (same, here) refl)
      | inr other ↦ (let same = writes.others q other in rw same there)
    ]

pub after_there : (old new : Slots) (o after : Option Reader) (q : Reader) → SetsAfter old new o after → IsSome (old q) → IsSome (new q)
after_there old new None after q sets there = let same = sets q in rw same there
after_there old new (Some reader) after q sets there = written_there old new reader q (record sets.slot { after = after }) sets.writes there

pub matched_there : (slots : Slots) (o : Option Reader) → ((r : Reader) → o ≡ Some r → IsSome (slots r)) → MatchOption o ⊤ (λ r. IsSome (slots r))
matched_there slots None there = tt
matched_there slots (Some r) there = there r refl

-- a slot is unlinked
pub unlinked : (s0 s1 s2 s3 : Slots) (first first' : ℕ → Option Reader) (net : ℕ) (r : Reader) (before after : Option Reader) (loose : Slot) → Threaded s0 first
    → s0 r ≡ Some (slot_on net before after) → ((n : NetId) → loose.feed ≢ Net n) → Writes s0 s1 r loose → SetsAfter s1 s2 before after → SetsBefore s2 s3 after before
    → SetsFirst first first' net before after → Threaded s3 first' × (s3 r ≡ Some loose)
unlinked s0 s1 s2 s3 first first' net r before after loose threaded at is_loose writes sets_after sets_before sets_first =
    let t = threaded.threads in
    let walk = threaded.walk in
    let s = t.each r (net_of net) (slot_on net before after) at refl in
    let xs = s.front in
    let ys = s.back in
    let c : Chain s0 net None (xs ++ r ∷ ys) None = rw s.is at (t.linked net) in
    let front = chain_front s0 net None xs (r ∷ ys) None c in
    let back = chain_back s0 net None xs (r ∷ ys) None c in
    let here = back.0 in
    let slots_same : slot_on net before after ≡ slot_on net (last_or None xs) (first_or ys None) = cc in
    let before_is : before ≡ last_or None xs = ap (λ (slot : Slot). slot.before) slots_same in
    let after_is : after ≡ first_or ys None = ap (λ (slot : Slot). slot.after) slots_same in
    let not_left : Stands xs r → ⊥ = (λ a. chain_apart s0 net None xs (r ∷ ys) r c a (stands_here r ys)) in
    let not_right : Stands ys r → ⊥ = (λ a. chain_once s0 net (last_or None xs) r ys back a) in
    let a1 = chain_frame s0 s1 net None xs (Some r) (λ q st. writes.others q (λ e. not_left (rw e at st))) front in
    let c1 = chain_frame s0 s1 net (Some r) ys None (λ q st. writes.others q (λ e. not_right (rw e at st))) back.1 in
    let apart : (q : Reader) → Stands xs q → Stands ys q → ⊥ = (λ q a b. chain_apart s0 net None xs (r ∷ ys) q c a (stands_later r ys q b)) in
    let after2 : SetsAfter s1 s2 (last_or None xs) (first_or ys None) =
    subst (λ (o : Option Reader). SetsAfter s1 s2 (last_or None xs) o) after_is (subst (λ (o : Option Reader). SetsAfter s1 s2 o after) before_is sets_after) in
    let before3 : SetsBefore s2 s3 (first_or ys None) (last_or None xs) =
    subst (λ (o : Option Reader). SetsBefore s2 s3 (first_or ys None) o) before_is (subst (λ (o : Option Reader). SetsBefore s2 s3 o before) after_is sets_before) in
    let first3 : SetsFirst first first' net (last_or None xs) (first_or ys None) =
    subst (λ (o : Option Reader). SetsFirst first first' net (last_or None xs) o) after_is (subst (λ (o : Option Reader). SetsFirst first first' net o after) before_is sets_first) in
    let joined = gap_closed s1 s2 s3 net xs ys (Some r) (Some r) apart (once_in s0 net xs (r ∷ ys) c) a1 c1 after2 before3 in
    let others : (q : Reader) → (Stands (walk net) q → ⊥) → s3 q ≡ s0 q = (λ q never.
    gap_others s1 s2 s3 xs ys q after2 before3 (λ a. never (rw s.is (stands_left xs (r ∷ ys) q a))) (λ a. never (rw s.is (stands_right xs (r ∷ ys) q (stands_later r ys q a))))
    ∙ writes.others q (λ e. never (rw e s))) in
    let gone : s3 r ≡ Some loose = gap_others s1 s2 s3 xs ys r after2 before3 not_left not_right ∙ writes.here in
    let feeds : (q : Reader) (slot : Slot) (n : NetId) → s3 q ≡ Some slot → slot.feed ≡ Net n → (q ≢ r) × ((was : Slot) × (s0 q ≡ Some was) × (was.feed ≡ Net n)) = (λ q slot n there on.
    let differs : q ≢ r = (λ e. loose_no loose slot n is_loose (sym gone ∙ rw e at there) on) in
    let kept = gap_keeps s1 s2 s3 xs ys after2 before3 q slot there in
    (differs, (kept.0, sym (writes.others q differs) ∙ kept.1, kept.2 ∙ on))) in (
      record {
        walk = with_walk net (xs ++ ys) walk;
        threads = rethreaded s0 s3 first first' walk net (xs ++ ys) t (start_left first first' net xs ys r (t.starts net ∙ ap (λ (l : List Reader). first_or l None) s.is) first3)
            (λ m other. first_others first first' net (last_or None xs) (first_or ys None) m first3 other) joined
            (λ m q other st. others q (λ on. other (walk_of_slot s0 first walk m net q t st on)))
            (λ q n slot there on same. let f = feeds q slot n there on in
            left_over xs ys r q f.0 (rw (← s.is) (rw same at (t.each q n f.1.0 f.1.1 f.1.2))))
            (λ q n slot there on other. let f = feeds q slot n there on in t.each q n f.1.0 f.1.1 f.1.2);
      },
      gone,
    )
  where
    loose_no : (loose slot : Slot) (n : NetId) → ((m : NetId) → loose.feed ≢ Net m) → Some loose ≡ Some slot → slot.feed ≡ Net n → ⊥
    loose_no loose slot n never same on = let is : loose ≡ slot = cc in never n (ap (λ (x : Slot). x.feed) is ∙ on)

    once_in : (slots : Slots) (net : ℕ) (xs more : List Reader) → Chain slots net None (xs ++ more) None → (front : List Reader) (q : Reader) → xs ≡ front ++ q ∷ [] → Stands front q → ⊥
    once_in slots net xs more c front q is st =
        let whole : xs ++ more ≡ front ++ (q ∷ more) = rw (is, append_assoc) refl in
        chain_apart slots net None front (q ∷ more) q (rw whole at c) st (stands_here q more)

    start_left : (first first' : ℕ → Option Reader) (net : ℕ) (xs ys : List Reader) (r : Reader) → first net ≡ first_or (xs ++ r ∷ ys) None → SetsFirst first first' net (last_or None xs) (first_or ys None)
        → first' net ≡ first_or (xs ++ ys) None
    start_left first first' net [] ys r start sets = sets.here
    start_left first first' net (x ∷ xs) ys r start sets =
        let end = last_cases x xs in
        let last_is : last_or None (x ∷ xs) ≡ Some end.last = ap (last_or None) end.is ∙ last_or-push None end.front end.last in
        let kept = subst (λ (o : Option Reader). SetsFirst first first' net o (first_or ys None)) last_is sets in
        kept net ∙ start

    first_others : (first first' : ℕ → Option Reader) (net : ℕ) (before after : Option Reader) (m : ℕ) → SetsFirst first first' net before after → m ≢ net → first' m ≡ first m
    first_others first first' net None after m sets other = sets.others m other
    first_others first first' net (Some before) after m sets other = sets m

-- a loose slot stands in no walk
loose_apart : (slots : Slots) (first : ℕ → Option Reader) (walk : ℕ → List Reader) (m : ℕ) (r : Reader) → AreThreaded slots first walk
    → ((slot : Slot) (n : NetId) → slots r ≡ Some slot → slot.feed ≢ Net n) → Stands (walk m) r → ⊥
loose_apart slots first walk m r t loose st =
    loose (slot_on m (last_or None st.front) (first_or st.back None)) (net_of m) (chain_at slots m None (walk m) None r (t.linked m) st) refl

-- a loose slot is linked in front of the first reader
pub linked : (s0 s1 s2 : Slots) (first first' : ℕ → Option Reader) (net : ℕ) (r : Reader) → Threaded s0 first → ((slot : Slot) (n : NetId) → s0 r ≡ Some slot → slot.feed ≢ Net n)
    → Writes s0 s1 r (slot_on net None (first net)) → SetsBefore s1 s2 (first net) (Some r) → WritesFirst first first' net (Some r) → Threaded s2 first'
linked s0 s1 s2 first first' net r threaded loose writes sets heads =
    let t = threaded.threads in
    let walk = threaded.walk in
    let ws = walk net in
    let start : first net ≡ first_or ws None = t.starts net in
    let sets' : SetsBefore s1 s2 (first_or ws None) (Some r) = subst (λ (o : Option Reader). SetsBefore s1 s2 o (Some r)) start sets in
    let apart : (m : ℕ) → Stands (walk m) r → ⊥ = (λ m st. loose_apart s0 first walk m r t loose st) in
    let still : (m : ℕ) (q : Reader) → Stands (walk m) q → s1 q ≡ s0 q = (λ m q st. writes.others q (λ e. apart m (rw e at st))) in
    let tail = chain_rebefore s1 s2 net None ws (Some r) (chain_frame s0 s1 net None ws None (still net) (t.linked net)) sets' in
    let here : s2 r ≡ s1 r = before_others s1 s2 (first_or ws None) (Some r) r sets' (λ e. apart net (first_stands ws r e)) in
    let head : s2 r ≡ Some (slot_on net None (first_or ws None)) = here ∙ writes.here ∙ ap (λ (o : Option Reader). Some (slot_on net None o)) start in
    let feeds : (q : Reader) (slot : Slot) (n : NetId) → s2 q ≡ Some slot → slot.feed ≡ Net n → (q ≡ r) ⊎ ((was : Slot) × (s0 q ≡ Some was) × (was.feed ≡ Net n)) = (λ q slot n there on.
    let kept = before_keeps s1 s2 (first net) (Some r) sets q slot there in
    elim (reader_cases q r) [
      | inl same ↦ inl same
      | inr other ↦ inr (kept.0, sym (writes.others q other) ∙ kept.1, kept.2 ∙ on)
    ]) in
    let own : (slot : Slot) (n : NetId) → s2 r ≡ Some slot → slot.feed ≡ Net n → n.0 ≡ net = (λ slot n there on. own_net net (first_or ws None) slot n (sym head ∙ there) on) in
    record {
      walk = with_walk net (r ∷ ws) walk;
      threads = rethreaded s0 s2 first first' walk net (r ∷ ws) t heads.here heads.others (head, tail)
          (λ m q other st. before_others s1 s2 (first_or ws None) (Some r) q sets' (λ e. other (walk_of_slot s0 first walk m net q t st (first_stands ws q e))) ∙ still m q st)
          (λ q n slot there on same. elim (feeds q slot n there on) [
            | inl is ↦ rw is (stands_here r ws)
            | inr f ↦ stands_later r ws q (rw same at (t.each q n f.0 f.1 f.2))
          ])
          (λ q n slot there on other. elim (feeds q slot n there on) [
            | inl is ↦ absurd (other (own slot n (rw is at there) on))
            | inr f ↦ t.each q n f.0 f.1 f.2
          ]);
    }
  where
    own_net : (net : ℕ) (after : Option Reader) (slot : Slot) (n : NetId) → Some (slot_on net None after) ≡ Some slot → slot.feed ≡ Net n → n.0 ≡ net
    own_net net after slot n same on = let is : slot_on net None after ≡ slot = cc in sym (net_same (net_of net) n (ap (λ (s : Slot). s.feed) is ∙ on))

-- slots that are on no net change, or go
pub threaded_loosely : (old new : Slots) (first first' : ℕ → Option Reader) → Threaded old first → ((net : ℕ) → first' net ≡ first net)
    → ((r : Reader) (slot : Slot) (n : NetId) → old r ≡ Some slot → slot.feed ≡ Net n → new r ≡ old r) → ((r : Reader) (slot : Slot) (n : NetId) → new r ≡ Some slot → slot.feed ≡ Net n → new r ≡ old r) → Threaded new first'
threaded_loosely old new first first' threaded starts kept known =
    let t = threaded.threads in
    let walk = threaded.walk in
    record {
      walk = walk;
      threads = record {
        starts = λ net. starts net ∙ t.starts net;
        linked = λ net. chain_frame old new net None (walk net) None (λ r st.
            kept r (slot_on net (last_or None st.front) (first_or st.back None)) (net_of net) (chain_at old net None (walk net) None r (t.linked net) st) refl) (t.linked net);
        each = λ r n slot at on. t.each r n slot (sym (known r slot n at on) ∙ at) on;
      };
    }

-- a loose slot is written, and stays loose
pub loosely_written : (old new : Slots) (first : ℕ → Option Reader) (r : Reader) (slot : Slot) → Threaded old first → ((was : Slot) (n : NetId) → old r ≡ Some was → was.feed ≢ Net n) → ((n : NetId) → slot.feed ≢ Net n)
    → Writes old new r slot → Threaded new first
loosely_written old new first r slot threaded loose is_loose writes =
    threaded_loosely old new first first threaded (λ net. refl)
    (λ q found n at on. elim (reader_cases q r) [
      | inl same ↦ absurd (loose found n (rw same at at) on)
      | inr other ↦ writes.others q other
    ])
    (λ q found n at on. elim (reader_cases q r) [
      | inl same ↦ (let there : new r ≡ Some found = rw same at at in
          let here = writes.here in
          let is : slot ≡ found = cc in
          absurd (is_loose n (ap (λ (s : Slot). s.feed) is ∙ on)))
      | inr other ↦ writes.others q other
    ])

-- one reader more has moved to the other net
pub moved_one : (old new : Slots) (from to : ℕ) (moved : List Reader) (r : Reader) (rest : List Reader) → from ≢ to → Chain old to None moved (Some r) → Chain old from (last_or None moved) (r ∷ rest) None
    → Writes old new r (slot_on to (last_or None moved) (first_or rest None)) → Chain new to None (moved ++ r ∷ []) (first_or rest None) × Chain new from (Some r) rest None
moved_one old new from to moved r rest differ done left writes =
    let not_moved : Stands moved r → ⊥ = (λ st. let on = chain_feed old to None moved (Some r) r (slot_on from (last_or None moved) (first_or rest None)) done st left.0 in
    differ (net_same (net_of from) (net_of to) on)) in
    let not_left : Stands rest r → ⊥ = (λ st. chain_once old from (last_or None moved) r rest left st) in
    let front = chain_frame old new to None moved (Some r) (λ q st. writes.others q (λ e. not_moved (rw e at st))) done in
    let back = chain_frame old new from (Some r) rest None (λ q st. writes.others q (λ e. not_left (rw e at st))) left.1 in
    (chain_join new to None moved (r ∷ []) (first_or rest None) front (writes.here, tt), back)

-- all readers have moved to the other net, and its own come behind them
pub all_moved : (s0 s1 s2 s3 : Slots) (first first' : ℕ → Option Reader) (walk : ℕ → List Reader) (from to : ℕ) → AreThreaded s0 first walk → from ≢ to → Chain s1 to None (walk from) None
    → ((q : Reader) → (Stands (walk from) q → ⊥) → s1 q ≡ s0 q) → SetsAfter s1 s2 (last_or None (walk from)) (first to) → SetsBefore s2 s3 (first to) (last_or None (walk from))
    → first' from ≡ None → first' to ≡ first_or (walk from) (first to) → ((m : ℕ) → m ≢ from → m ≢ to → first' m ≡ first m) → Threaded s3 first'
all_moved s0 s1 s2 s3 first first' walk from to t differ moved same after before none joined starts =
    let fs = walk from in
    let ts = walk to in
    let start : first to ≡ first_or ts None = t.starts to in
    let after' : SetsAfter s1 s2 (last_or None fs) (first_or ts None) = subst (λ (o : Option Reader). SetsAfter s1 s2 (last_or None fs) o) start after in
    let before' : SetsBefore s2 s3 (first_or ts None) (last_or None fs) = subst (λ (o : Option Reader). SetsBefore s2 s3 o (last_or None fs)) start before in
    let apart : (m : ℕ) (q : Reader) → m ≢ from → Stands fs q → Stands (walk m) q → ⊥ = (λ m q other a b. other (walk_of_slot s0 first walk m from q t b a)) in
    let not_to : to ≢ from = (λ e. differ (sym e)) in
    let still : (m : ℕ) (q : Reader) → m ≢ from → Stands (walk m) q → s1 q ≡ s0 q = (λ m q other st. same q (λ a. apart m q other a st)) in
    let there = chain_frame s0 s1 to None ts None (λ q st. still to q not_to st) (t.linked to) in
    let whole = gap_closed s1 s2 s3 to fs ts None None (λ q a b. apart to q not_to a b) (once_whole s1 to fs moved) moved there after' before' in
    let keeps = gap_keeps s1 s2 s3 fs ts after' before' in
    let feeds : (q : Reader) (slot : Slot) (n : NetId) → (Stands fs q → ⊥) → s3 q ≡ Some slot → slot.feed ≡ Net n → Stands (walk n.0) q = (λ q slot n never at on.
    let kept = keeps q slot at in t.each q n kept.0 (sym (same q never) ∙ kept.1) (kept.2 ∙ on)) in
    let on_to : (q : Reader) (slot : Slot) (n : NetId) → Stands fs q → s3 q ≡ Some slot → slot.feed ≡ Net n → n.0 ≡ to = (λ q slot n st at on.
    let found = chain_feed s3 to None (fs ++ ts) None q slot whole (stands_left fs ts q st) at in
    net_same n (net_of to) (sym on ∙ found)) in
    record {
      walk = with_walk to (fs ++ ts) (with_walk from [] walk);
      threads = record {
        starts = λ m. elim (cases_eq m to) [
          | inl e ↦ (let w = with_walk-same to m (fs ++ ts) (with_walk from [] walk) e in
              let at : first' m ≡ first_or (fs ++ ts) None = rw e (joined ∙ ap (first_or fs) start ∙ sym (first_or-append fs ts None)) in rw w at)
          | inr not ↦ elim (cases_eq m from) [
            | inl e ↦ (let w = with_walk-other to m (fs ++ ts) (with_walk from [] walk) not ∙ with_walk-same from m [] walk e in
                let at : first' m ≡ None = rw e none in rw w at)
            | inr other ↦ (let w = with_walk-other to m (fs ++ ts) (with_walk from [] walk) not ∙ with_walk-other from m [] walk other in rw w (starts m other not ∙ t.starts m))
          ]
        ];
        linked = λ m. elim (cases_eq m to) [
          | inl e ↦ (let w = with_walk-same to m (fs ++ ts) (with_walk from [] walk) e in rw (w, e) whole)
          | inr not ↦ elim (cases_eq m from) [
            | inl e ↦ (let w = with_walk-other to m (fs ++ ts) (with_walk from [] walk) not ∙ with_walk-same from m [] walk e in rw w tt)
            | inr other ↦ (let w = with_walk-other to m (fs ++ ts) (with_walk from [] walk) not ∙ with_walk-other from m [] walk other in
                rw w (chain_frame s0 s3 m None (walk m) None (λ q st. gap_others s1 s2 s3 fs ts q after' before' (λ a. apart m q other a st) (λ b. not (walk_of_slot s0 first walk m to q t st b)) ∙ still m q other st) (t.linked m)))
          ]
        ];
        each = λ q n slot at on. each_moved q n slot fs ts walk from to differ (λ st. on_to q slot n st at on) (λ never. feeds q slot n never at on) (stands_or_not q fs);
      };
    }
  where
    once_whole : (slots : Slots) (net : ℕ) (xs : List Reader) → Chain slots net None xs None → (front : List Reader) (q : Reader) → xs ≡ front ++ q ∷ [] → Stands front q → ⊥
    once_whole slots net xs c front q is st =
        chain_apart slots net None front (q ∷ []) q (subst (λ (l : List Reader). Chain slots net None l None) is c) st (stands_here q [])

    each_moved : (q : Reader) (n : NetId) (slot : Slot) (fs ts : List Reader) (walk : ℕ → List Reader) (from to : ℕ) → from ≢ to → (Stands (walk from) q → n.0 ≡ to)
        → ((Stands (walk from) q → ⊥) → Stands (walk n.0) q) → Stands (walk from) q ⊎ (Stands (walk from) q → ⊥)
        → Stands (with_walk to (walk from ++ walk to) (with_walk from [] walk) n.0) q
    each_moved q n slot fs ts walk from to differ on_to on_other (inl st) =
        let w = with_walk-same to n.0 (walk from ++ walk to) (with_walk from [] walk) (on_to st) in rw w (stands_left (walk from) (walk to) q st)
    each_moved q n slot fs ts walk from to differ on_to on_other (inr never) =
        let there = on_other never in
        elim (cases_eq n.0 to) [
          | inl e ↦ (let w = with_walk-same to n.0 (walk from ++ walk to) (with_walk from [] walk) e in rw w (stands_right (walk from) (walk to) q (rw e at there)))
          | inr not ↦ elim (cases_eq n.0 from) [
            | inl e ↦ absurd (never (rw e at there))
            | inr other ↦ (let w = with_walk-other to n.0 (walk from ++ walk to) (with_walk from [] walk) not ∙ with_walk-other from n.0 [] walk other in rw w there)
          ]
        ]

-- the slots on a net stand in its walk once
pub visits_once : LinksVisitOnce
visits_once slots first walk net t = record {
  only = λ k r at. let s = stands_at (walk net) k r at in
      (slot_on net (last_or None s.0.front) (first_or s.0.back None), chain_at slots net None (walk net) None r (t.linked net) s.0, refl);
  each = λ r slot at on. let s = t.each r (net_of net) slot at on in (length s.front, at_stands (walk net) r s);
  once = λ j k r a b. once_at (walk net) (t.linked net) j k r (stands_at (walk net) j r a) (stands_at (walk net) k r b);
}
  where
    once_at : (xs : List Reader) → Chain slots net None xs None → (j k : ℕ) (r : Reader) → (s : Stands xs r) × (length s.front ≡ j) → (u : Stands xs r) × (length u.front ≡ k) → j ≡ k
    once_at xs c j k r s u =
        let a = chain_back slots net None s.0.front (r ∷ s.0.back) None (rw s.0.is at c) in
        let b = chain_back slots net None u.0.front (r ∷ u.0.back) None (rw u.0.is at c) in
        let same : r ∷ s.0.back ≡ r ∷ u.0.back = chain_determined slots net net (last_or None s.0.front) (last_or None u.0.front) (r ∷ s.0.back) (r ∷ u.0.back) a b refl in
        let lengths = ap (λ (l : List Reader). length l) same in
        let left = ap (λ (l : List Reader). length l) s.0.is ∙ length-append s.0.front (r ∷ s.0.back) in
        let right = ap (λ (l : List Reader). length l) u.0.is ∙ length-append u.0.front (r ∷ u.0.back) in
        let at_j = s.1 in
        let at_k = u.1 in
        omega (arith, lengths, left, right, at_j, at_k)
