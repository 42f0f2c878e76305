-- Each turn of a gate is one of a gate that is touched, and no gate has two.
use Rattle.std.proofs.Common.{◌≡◌, ◌≢◌, ◌⊎◌, ℕ, zero, suc, ◌+◌, ◌<◌, ◌≤◌, Bool, true, false, not, ◌&&◌, ◌||◌, List, [], ◌∷◌, length, Option, Some, None, refl, sym, ap, ◌∙◌, inl, inr, arith, if◌then◌else◌, nat_lt}
use Rattle.std.specs.Prelude.{slice_get}
use Rattle.std.proofs.lemmas.Bool.{cases_eq, lt-ltb, ltb-true}
use Rattle.list_laws.proofs.Tests.{both_true, and_true, or_more, true_or_false}
use Rattle.signal_values.specs.declared.Sig.{Sig}
use Rattle.signal_values.specs.declared.Sig.TheVariants.{Zero, One, Unknown}
use Rattle.cell_library.specs.declared.listed.ListedCell.{ListedCell}
use Rattle.cell_library.specs.Gates.{is_flop}
use Rattle.netlist_model.specs.declared.NetId.{NetId}
use Rattle.netlist_model.specs.declared.Feed.{Feed}
use Rattle.netlist_model.specs.declared.Feed.TheVariants.{Net, Const}
use Rattle.netlist_model.specs.Lists.{CellView, cell_at, live_cell, Drives}
use Rattle.event_laws.specs.Turns.{WaitsOn}
use Rattle.event_laws.specs.Work.{IsWaiting}
use Rattle.event_laws.specs.Counts.{differs, any_differs, is_gate, is_touched, passing, is_passed}
use Rattle.event_laws.specs.Laws.{CountBegins, TurnCounts, CountEnds, TouchedAreGates, NoneIsTouched}
use Rattle.event_laws.proofs.Inputs.{output_cases}

-- a test that passes wherever another does passes at least as often
more_pass : (test other : ℕ → Bool) (n : ℕ) → ((k : ℕ) → k < n → test k ≡ true → other k ≡ true) → passing test n ≤ passing other n
more_pass test other zero keeps = omega arith
more_pass test other (suc n) keeps =
    let rest = more_pass test other n (λ k h. keeps k (omega arith)) in
    elim (true_or_false (test n)) [
      | inl holds ↦ (let also = keeps n (omega arith) holds in rw (holds, also) (omega arith))
      | inr fails_it ↦ rw fails_it (omega arith)
    ]

-- and once more where it passes at a number at which the other doesn't
one_more_passes : (test other : ℕ → Bool) (n at : ℕ) → ((k : ℕ) → k < n → test k ≡ true → other k ≡ true) → at < n → test at ≡ false → other at ≡ true → passing test n + 1 ≤ passing other n
one_more_passes test other zero at keeps below fails_it holds = absurd (omega arith)
one_more_passes test other (suc n) at keeps below fails_it holds =
    elim (cases_eq at n) [
      | inl here ↦ (let rest = more_pass test other n (λ k h. keeps k (omega arith)) in
          let fails_here : test n ≡ false = rw here at fails_it in
          let holds_here : other n ≡ true = rw here at holds in
          rw (fails_here, holds_here) (omega arith))
      | inr apart ↦ (let rest = one_more_passes test other n at (λ k h. keeps k (omega arith)) (omega arith) fails_it holds in
          elim (true_or_false (test n)) [
            | inl pass ↦ (let also = keeps n (omega arith) pass in rw (pass, also) (omega arith))
            | inr fails ↦ rw fails (omega arith)
          ])
    ]

-- values that aren't one differ
differs_true : (a b : Sig) → b ≢ a → differs a b ≡ true
differs_true Zero Zero ne = absurd (ne refl)
differs_true Zero One ne = refl
differs_true Zero Unknown ne = refl
differs_true One Zero ne = refl
differs_true One One ne = absurd (ne refl)
differs_true One Unknown ne = refl
differs_true Unknown Zero ne = refl
differs_true Unknown One ne = refl
differs_true Unknown Unknown ne = absurd (ne refl)

touched_feeds : (before after : ℕ → Sig) (feeds : List Feed) (place net : ℕ) → slice_get feeds place ≡ Some (Net (record { 0 = net })) → after net ≢ before net → any_differs before after feeds ≡ true
touched_feeds before after [] place net at ne = absurd (cc)
touched_feeds before after (Net other ∷ feeds) zero net at ne =
    let same : other ≡ record { 0 = net } = cc in
    let number : NetId → ℕ = λ n. n.0 in
    let e : other.0 ≡ net = ap number same in
    rw (e, differs_true (before net) (after net) ne) refl
touched_feeds before after (Net other ∷ feeds) (suc place) net at ne = or_more (differs (before other.0) (after other.0)) (any_differs before after feeds) (touched_feeds before after feeds place net at ne)
touched_feeds before after (Const b ∷ feeds) zero net at ne = absurd (cc)
touched_feeds before after (Const b ∷ feeds) (suc place) net at ne = touched_feeds before after feeds place net at ne

-- operands that stay are touched as before
same_feeds : (before v v' : ℕ → Sig) (feeds : List Feed) → ((k net : ℕ) → slice_get feeds k ≡ Some (Net (record { 0 = net })) → v' net ≡ v net) → any_differs before v feeds ≡ any_differs before v' feeds
same_feeds before v v' [] same = refl
same_feeds before v v' (Net net ∷ feeds) same =
    rw (same 0 net.0 refl, same_feeds before v v' feeds (λ k. same (suc k))) refl
same_feeds before v v' (Const b ∷ feeds) same = same_feeds before v v' feeds (λ k. same (suc k))

live_below : (places : List (Option CellView)) (number : ℕ) (cell : CellView) → live_cell (slice_get places number) ≡ Some cell → number < length places
live_below [] number cell at = absurd (let e : None ≡ Some cell = at in cc)
live_below (p ∷ places) zero cell at = omega arith
live_below (p ∷ places) (suc number) cell at = (let rest = live_below places number cell at in omega arith)

lt_true : (a b : ℕ) → a < b → nat_lt a b ≡ true
lt_true a b h = lt-ltb a b h

lt_is : (a b : ℕ) → nat_lt a b ≡ true → a < b
lt_is a b h = ltb-true a b h

-- a gate that is touched is one
touched_gate : (library : List ListedCell) (before after : ℕ → Sig) (o : Option CellView) → is_touched library before after o ≡ true → is_gate library o ≡ true
touched_gate library before after None touched = absurd (let no : false ≡ true = touched in cc)
touched_gate library before after (Some cell) touched = (both_true (not (is_flop library cell.kind)) (any_differs before after cell.feeds) touched).0

pub touched_are_gates : TouchedAreGates
touched_are_gates N before after =
    more_pass (λ number. is_touched N.library before after (cell_at N number)) (λ number. is_gate N.library (cell_at N number)) (length N.cells)
    (λ k h touched. touched_gate N.library before after (cell_at N k) touched)

-- where no value differs no gate is touched
differs_self : (a : Sig) → differs a a ≡ false
differs_self Zero = refl
differs_self One = refl
differs_self Unknown = refl

none_differs : (before after : ℕ → Sig) (feeds : List Feed) → ((net : ℕ) → after net ≡ before net) → any_differs before after feeds ≡ false
none_differs before after [] same = refl
none_differs before after (Net net ∷ feeds) same = rw (same net.0, differs_self (before net.0)) (none_differs before after feeds same)
none_differs before after (Const b ∷ feeds) same = none_differs before after feeds same

untouched : (library : List ListedCell) (before after : ℕ → Sig) (o : Option CellView) → ((net : ℕ) → after net ≡ before net) → is_touched library before after o ≡ false
untouched library before after None same = refl
untouched library before after (Some cell) same =
    elim (true_or_false (is_flop library cell.kind)) [
      | inl flop ↦ rw flop refl
      | inr gate ↦ rw gate (none_differs before after cell.feeds same)
    ]

none_passes : (test : ℕ → Bool) (n : ℕ) → ((k : ℕ) → test k ≡ false) → passing test n ≡ 0
none_passes test zero fails = refl
none_passes test (suc n) fails = (let rest = none_passes test n fails in rw (fails n) (omega arith))

pub none_is_touched : NoneIsTouched
none_is_touched N before after same =
    none_passes (λ number. is_touched N.library before after (cell_at N number)) (length N.cells) (λ k. untouched N.library before after (cell_at N k) same)

pub count_begins : CountBegins
count_begins N turn before after from = omega arith

pub count_ends : CountEnds
count_ends N turn before after from steps counted =
    let few = more_pass (is_passed N turn before after from) (λ number. is_touched N.library before after (cell_at N number)) (length N.cells) (λ k h passed. (both_true _ _ passed).0) in
    omega arith

pub turn_counts : TurnCounts
turn_counts N turn e value state value' state' drive drive' queued from number steps cell formed turns live at_turn taken pending counted =
    elim (true_or_false (is_flop N.library cell.kind)) [
      | inl flop ↦ (let few = more_pass was is (length N.cells) still in rw flop (omega arith))
      | inr gate ↦ (let few = one_more_passes was is (length N.cells) number still (live_below N.cells number cell live) not_yet (now_it_is gate) in rw gate (omega arith))
    ]
  where
    was : ℕ → Bool
    was = is_passed N turn e.before value from

    is : ℕ → Bool
    is = is_passed N turn e.before value' (turn number + 1)

    waiting : IsWaiting N turn e value from (turn number)
    waiting = pending.queue (turn number) at_turn

    not_yet : was number ≡ false
    not_yet =
        elim (true_or_false (was number)) [
          | inl holds ↦ absurd (let both = both_true (is_touched N.library e.before value (cell_at N number)) (nat_lt (turn number) from) holds in let below : turn number < from = lt_is (turn number) from both.1 in let l = waiting.later in omega arith)
          | inr fails_it ↦ fails_it
        ]

    -- what a gate with an earlier turn, or this one, reads stays
    stays : (other : ℕ) (found : CellView) → cell_at N other ≡ Some found → is_flop N.library found.kind ≡ false → turn other ≤ turn number
        → (k net : ℕ) → slice_get found.feeds k ≡ Some (Net (record { 0 = net })) → value' net ≡ value net
    stays other found there gate upto k net at =
        elim (output_cases cell.output net) [
          | inl out ↦ absurd (let d : Drives N number cell net = record { live = live; output = out } in
              let w : WaitsOn N other net = record { cell = found; place = k; reads = record { live = there; operand = at }; trigger = inl gate } in
              let after = turns.after other number net cell w d in omega arith)
          | inr other_net ↦ taken.others net other_net
        ]

    touched_still : (other : ℕ) (o : Option CellView) → cell_at N other ≡ o → turn other ≤ turn number → is_touched N.library e.before value o ≡ true → is_touched N.library e.before value' o ≡ true
    touched_still other None at upto touched = absurd (let fails_it : false ≡ true = touched in cc)
    touched_still other (Some found) at upto touched =
        elim (true_or_false (is_flop N.library found.kind)) [
          | inl flop ↦ absurd (let fails_it : false ≡ true = rw flop at touched in cc)
          | inr gate ↦ (let both = both_true (not (is_flop N.library found.kind)) (any_differs e.before value found.feeds) touched in
              and_true (not (is_flop N.library found.kind)) (any_differs e.before value' found.feeds) both.0
              (sym (same_feeds e.before value value' found.feeds (stays other found at gate upto)) ∙ both.1))
        ]

    still : (k : ℕ) → k < length N.cells → was k ≡ true → is k ≡ true
    still k h passed =
        let both = both_true (is_touched N.library e.before value (cell_at N k)) (nat_lt (turn k) from) passed in
        let below = lt_is (turn k) from both.1 in
        let here = waiting.later in
        and_true (is_touched N.library e.before value' (cell_at N k)) (nat_lt (turn k) (turn number + 1))
        (touched_still k (cell_at N k) refl (omega arith) both.0) (lt_true (turn k) (turn number + 1) (omega arith))

    now_it_is : is_flop N.library cell.kind ≡ false → is number ≡ true
    now_it_is gate =
        let w = waiting in
        let same : w.number ≡ number = turns.apart w.number number w.waits.cell cell w.waits.reads.live live w.there in
        let cells : Some w.waits.cell ≡ Some cell = sym w.waits.reads.live ∙ ap (λ (k : ℕ). cell_at N k) same ∙ live in
        let own : w.waits.cell ≡ cell = cc in
        let at : slice_get cell.feeds w.waits.place ≡ Some (Net (record { 0 = w.net })) = ap (λ (c : CellView). slice_get c.feeds w.waits.place) (sym own) ∙ w.waits.reads.operand in
        let kept : value' w.net ≡ value w.net = stays number cell live gate (omega arith) w.waits.place w.net at in
        let touched : any_differs e.before value' cell.feeds ≡ true = touched_feeds e.before value' cell.feeds w.waits.place w.net at (λ back. w.changed (sym kept ∙ back)) in
        and_true (is_touched N.library e.before value' (cell_at N number)) (nat_lt (turn number) (turn number + 1))
        (rw (live, gate, touched) refl) (lt_true (turn number) (turn number + 1) (omega arith))
