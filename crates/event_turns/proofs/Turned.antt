-- What a cell's turn does, from what its parts do.
use Rattle.std.proofs.Common.{◌≡◌, ℕ, ◌+◌, ◌<◌, ◌≤◌, List, length, get_or, set, Option, Some, None, inl, inr, true, refl, sym, ap, ◌∙◌, arith, get_or-set_same, get_or-set_other, length-set}
use Rattle.std.proofs.lemmas.Option.{slice_get-get_or, get_or_from_slice_get}
use Rattle.signal_values.specs.declared.Sig.{Sig}
use Rattle.signal_values.specs.declared.PinSig.{PinSig}
use Rattle.netlist_model.specs.declared.Dir.{Dir}
use Rattle.netlist_model.specs.declared.NetId.{NetId}
use Rattle.netlist_model.specs.Lists.{CellView, direction}
use Rattle.signal_values.specs.declared.Sig.TheVariants.{Unknown}
use Rattle.cell_library.specs.Gates.{is_three_state}
use Rattle.netlist_model.specs.Settled.{feed_values, cell_drive}
use Rattle.netlist_model.specs.LawsRuns.{kind_next}
use Rattle.netlist_settling.specs.Values.{value_at, pin_at, side_at}
use Rattle.netlist_settling.specs.Passes.{driven_value}
use Rattle.event_laws.specs.Laws.{steps_of}
use Rattle.event_turns.specs.Logs.{drives_with}
use Rattle.event_turns.proofs.Drivers.{with_long, with_other, with_own}
use Rattle.event_turns.specs.Circuits.{CircuitView, TakesValue, HasTurn, event_from}

same_net : (net : NetId) (other : ℕ) → Some net ≡ Some (let n : NetId = record { 0 = other } in n) → net.0 ≡ other
same_net net other e = let number : Option NetId → ℕ = (λ o. elim o [ None ↦ 0 | Some n ↦ n.0 ]) in ap number e

-- a direction that was looked up in its table
pub side_is : (sides : List (Option Dir)) (net : ℕ) (side : Option Dir) → side ≡ get_or sides net side → net < length sides → side ≡ side_at sides net
side_is sides net side at below = at ∙ sym (get_or_from_slice_get sides net (get_or sides net side) None (slice_get-get_or sides net side below))

-- the turn of a cell that drives a net
pub driving : (c : CircuitView) (pins drives : List PinSig) (drive : Option PinSig) (before values values' state : List Sig) (words words' : List ℕ) (steps steps' number : ℕ) (cell : CellView) (net : NetId) (kept given : Sig)
    → cell.output ≡ Some net → number < length state
    → kept ≡ kind_next c.lists.library cell.kind (feed_values (value_at before) cell.feeds) (feed_values (value_at values) cell.feeds) (value_at state number)
    → given ≡ driven_value c.lists.library (direction c.lists.ports net.0) cell.kind (feed_values (value_at values) cell.feeds) kept (pin_at pins net.0)
    → TakesValue c net.0 given values values' words words' → steps' ≤ steps + steps_of c.lists.library cell.kind → net.0 < length drives
    → (is_three_state cell.kind ≡ true → drive ≡ Some (cell_drive cell.kind (feed_values (value_at values) cell.feeds) Unknown))
    → HasTurn c (event_from pins before state) number cell values state values' (set state number kept) drives (drives_with net.0 drive drives) words words' steps steps'
driving c pins drives drive before values values' state words words' steps steps' number cell net kept given out below keeps gives taken few room shown = record {
  long_drives = with_long net.0 drive drives;
  taken = record {
    keeps = own_state ∙ keeps;
    states = λ other ne. get_or-set_other state number other kept _ ne;
    gives = λ other is. (let e : net.0 ≡ other = same_net net other (sym out ∙ is) in
        rw (← e, own_state) (taken.sets.same ∙ gives));
    others = λ other not. taken.sets.others other (λ e. not (out ∙ ap (λ (k : ℕ). Some (let n : NetId = record { 0 = k } in n)) (sym e)));
    shows = λ other is three. (let e : net.0 ≡ other = same_net net other (sym out ∙ is) in rw (← e) (with_own net.0 drive _ drives (shown three) room));
    drives = λ other not. with_other net.0 other drive drives (λ e. not (out ∙ ap (λ (k : ℕ). Some (let n : NetId = record { 0 = k } in n)) (sym e)));
  };
  woken = λ turn. (
    λ now. elim ((taken.wakes.each turn).0 now) [
      | inl was ↦ inl was
      | inr w ↦ inr (record { net = net.0; reader = w.1.reader; output = out; changed = λ same. w.0 (sym taken.sets.same ∙ same); waits = w.1.waits; there = w.1.there })
    ],
    λ either. elim either [
      | inl was ↦ (taken.wakes.each turn).1 (inl was)
      | inr w ↦ (let e : net.0 ≡ w.net = same_net net w.net (sym out ∙ w.output) in
          (taken.wakes.each turn).1 (inr (
            (λ same. w.changed (rw (← e) (taken.sets.same ∙ same))),
            record { reader = w.reader; waits = rw e w.waits; there = w.there },
          )))
    ],
  );
  long_values = taken.sets.long;
  long_state = length-set state number kept;
  long_words = taken.wakes.long;
  counted = few;
}
  where
    own_state : value_at (set state number kept) number ≡ kept
    own_state = get_or-set_same state number kept _ below

-- the turn of a cell that isn't connected
pub idle : (c : CircuitView) (pins drives : List PinSig) (before values state : List Sig) (words : List ℕ) (steps number : ℕ) (cell : CellView) (kept : Sig)
    → cell.output ≡ None → number < length state
    → kept ≡ kind_next c.lists.library cell.kind (feed_values (value_at before) cell.feeds) (feed_values (value_at values) cell.feeds) (value_at state number)
    → HasTurn c (event_from pins before state) number cell values state values (set state number kept) drives drives words words steps steps
idle c pins drives before values state words steps number cell kept out below keeps = record {
  long_drives = refl;
  taken = record {
    keeps = get_or-set_same state number kept _ below ∙ keeps;
    states = λ other ne. get_or-set_other state number other kept _ ne;
    gives = λ other is. absurd (let no : None ≡ Some (let n : NetId = record { 0 = other } in n) = sym out ∙ is in cc);
    others = λ other not. refl;
    shows = λ other is three. absurd (let no : None ≡ Some (let n : NetId = record { 0 = other } in n) = sym out ∙ is in cc);
    drives = λ other not. refl;
  };
  woken = λ turn. (
    λ now. inl now,
    λ either. elim either [
      | inl was ↦ was
      | inr w ↦ absurd (let no : None ≡ Some (let n : NetId = record { 0 = w.net } in n) = sym out ∙ w.output in cc)
    ],
  );
  long_values = refl;
  long_state = length-set state number kept;
  long_words = refl;
  counted = omega arith;
}
