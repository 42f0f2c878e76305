-- The table of the nets that three-state gates drive.
use Rattle.std.proofs.Common.{◌≡◌, ◌≢◌, ℕ, zero, suc, ◌+◌, ◌<◌, ◌==◌, Bool, true, false, List, [], ◌∷◌, length, drop, set, length-set, get_or-set_other, get_or-set_same, if◌then◌else◌, refl, ap, sym, ◌∙◌, arith, eqb-true, Option, Some, None, inl, inr}
use Rattle.std.specs.Prelude.{slice_get, IsSome}
use Rattle.std.proofs.lemmas.Bool.{cases_eq}
use Rattle.list_laws.proofs.Numbers.{eqb_same}
use Rattle.netlist_model.specs.declared.NetId.{NetId}
use Rattle.netlist_model.specs.Lists.{CellView, NetlistView, cell_at, live_cell}
use Rattle.netlist_model.specs.Settled.{driver_of, is_driver, is_output}
use Rattle.netlist_model.specs.Formed.{IsLaidOut}
use Rattle.netlist_arena.specs.Looks.{IsLive}
use Rattle.plan_fitting.specs.Rows.{Driver, three_state}
use Rattle.pin_plan.specs.Tables.{driver_at, AreDriversAmong, with_output, with_driver}

-- no cell stands from this number on
dead_behind : (cells : List (Option CellView)) (bound net : ℕ) → ((i : ℕ) → IsSome (live_cell (slice_get cells i)) → i < bound) → driver_of (drop bound cells) net ≡ None
dead_behind [] zero net below = refl
dead_behind [] (suc bound) net below = refl
dead_behind (None ∷ cells) zero net below = dead_behind cells zero net (λ i live. let no = below (suc i) live in absurd (omega arith))
dead_behind (Some cell ∷ cells) zero net below = let no = below zero refl in absurd (omega arith)
dead_behind (place ∷ cells) (suc bound) net below = dead_behind cells bound net (λ i live. let more = below (suc i) live in omega arith)

-- so where none is noted, all cells from there on are
pub none_before : (N : NetlistView) (bound : ℕ) (drivers : List (Option Driver)) → AreDriversAmong N [] drivers → ((i : ℕ) → IsLive N i → i < bound) → AreDriversAmong N (drop bound N.cells) drivers
none_before N bound drivers none below = record {
  long = none.long;
  each = λ net inside. none.each net inside ∙ ap three_state (sym (dead_behind N.cells bound net below));
}

one_more : (cells : List (Option CellView)) (n net : ℕ)
    → driver_of (drop n cells) net ≡ (if is_driver (live_cell (slice_get cells n)) net then live_cell (slice_get cells n) else driver_of (drop (suc n) cells) net)
one_more [] zero net = refl
one_more [] (suc n) net = refl
one_more (place ∷ cells) zero net = refl
one_more (place ∷ cells) (suc n) net = one_more cells n net

pub noted_more : (N : NetlistView) (n : ℕ) (drivers new : List (Option Driver)) → IsLaidOut N → AreDriversAmong N (drop (n + 1) N.cells) drivers
    → new ≡ with_driver (cell_at N n) drivers → AreDriversAmong N (drop n N.cells) new
noted_more N n drivers new laid so_far is = rw is (by_cell (cell_at N n) refl)
  where
    behind : (net : ℕ) → net < length N.nets → driver_at drivers net ≡ three_state (driver_of (drop (suc n) N.cells) net)
    behind net inside = so_far.each net inside ∙ ap (λ (k : ℕ). three_state (driver_of (drop k N.cells) net)) (let e : n + 1 ≡ suc n = omega arith in e)

    -- where the cell doesn't drive the net
    passed : (net : ℕ) → is_driver (cell_at N n) net ≡ false → driver_of (drop n N.cells) net ≡ driver_of (drop (suc n) N.cells) net
    passed net other = one_more N.cells n net ∙ ap (λ (b : Bool). if b then cell_at N n else driver_of (drop (suc n) N.cells) net) other

    taken : (net : ℕ) → is_driver (cell_at N n) net ≡ true → driver_of (drop n N.cells) net ≡ cell_at N n
    taken net drives = one_more N.cells n net ∙ ap (λ (b : Bool). if b then cell_at N n else driver_of (drop (suc n) N.cells) net) drives

    by_output : (cell : CellView) → cell_at N n ≡ Some cell → (output : Option NetId) → cell.output ≡ output → AreDriversAmong N (drop n N.cells) (with_output output (Some cell) drivers)
    by_output cell e None none = record {
      long = so_far.long;
      each = λ net inside. behind net inside ∙ ap three_state (sym (passed net (ap (λ (o : Option CellView). is_driver o net) e ∙ ap (λ (o : Option NetId). is_output o net) none)));
    }
    by_output cell e (Some out) some = record {
      long = length-set drivers out.0 (three_state (Some cell)) ∙ so_far.long;
      each = λ net inside.
          elim (cases_eq net out.0) [
            | inl same ↦ (let long = so_far.long in let room : out.0 < length drivers = omega (arith, inside, same, long) in
                let here : driver_at (set drivers out.0 (three_state (Some cell))) out.0 ≡ three_state (Some cell) = rw get_or-set_same refl in
                ap (driver_at (set drivers out.0 (three_state (Some cell)))) same ∙ here
                ∙ ap three_state (sym (taken net (ap (λ (o : Option CellView). is_driver o net) e ∙ ap (λ (o : Option NetId). is_output o net) some ∙ ap (λ (k : ℕ). out.0 == k) same ∙ eqb_same out.0) ∙ e)))
            | inr apart ↦ (let there : driver_at (set drivers out.0 (three_state (Some cell))) net ≡ driver_at drivers net = rw get_or-set_other refl in
                there ∙ behind net inside
                ∙ ap three_state (sym (passed net (ap (λ (o : Option CellView). is_driver o net) e ∙ ap (λ (o : Option NetId). is_output o net) some ∙ unequal net out.0 apart))))
          ];
    }
      where
        unequal : (a b : ℕ) → a ≢ b → (b == a) ≡ false
        unequal a b apart = go (b == a) refl
          where
            go : (t : Bool) → (b == a) ≡ t → (b == a) ≡ false
            go true e = absurd (apart (sym (eqb-true b a e)))
            go false e = e

    by_cell : (o : Option CellView) → cell_at N n ≡ o → AreDriversAmong N (drop n N.cells) (with_driver o drivers)
    by_cell None e = record {
      long = so_far.long;
      each = λ net inside. behind net inside ∙ ap three_state (sym (passed net (ap (λ (o : Option CellView). is_driver o net) e)));
    }
    by_cell (Some cell) e = by_output cell e cell.output refl
