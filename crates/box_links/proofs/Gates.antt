-- The table of the nets that three-state gates drive.
use Rattle.std.proofs.Common.{◌≡◌, ◌≢◌, ℕ, zero, suc, ◌+◌, ◌<◌, ◌==◌, ◌&&◌, ◌||◌, Bool, true, false, List, [], ◌∷◌, length, take, set, length-set, replicate, refl, ap, sym, ◌∙◌, arith, eqb-true, Option, Some, None, inl, inr, if◌then◌else◌}
use Rattle.std.specs.Prelude.{slice_get, IsSome}
use Rattle.std.specs.Option.{option_map_or}
use Rattle.std.proofs.lemmas.List.{length-replicate}
use Rattle.list_laws.proofs.Lists.{at_set}
use Rattle.list_laws.proofs.Numbers.{eqb_same}
use Rattle.list_laws.proofs.Tests.{or_false, or_true}
use Rattle.cell_library.specs.Gates.{is_three_state}
use Rattle.netlist_model.specs.declared.NetId.{NetId}
use Rattle.netlist_model.specs.Lists.{CellView, NetlistView, cell_at, live_cell}
use Rattle.netlist_model.specs.Formed.{IsLaidOut}
use Rattle.netlist_arena.specs.Looks.{IsLive}
use Rattle.box_links.specs.ThreeState.{flag_at, is_gate_on, has_gate, FlagsGates, with_output, with_gate}

or_assoc : (a b c : Bool) → (a || (b || c)) ≡ ((a || b) || c)
or_assoc true b c = refl
or_assoc false b c = refl

and_false : (b : Bool) → (b && false) ≡ false
and_false true = refl
and_false false = refl

and_true : (b : Bool) → (b && true) ≡ b
and_true true = refl
and_true false = refl

-- No flag is set.

pub no_flags : (n net : ℕ) → flag_at (replicate n false) net ≡ false
no_flags zero net = refl
no_flags (suc n) zero = refl
no_flags (suc n) (suc net) = no_flags n net

pub none_flagged : (N : NetlistView) (n : ℕ) (flags : List Bool) → flags ≡ replicate n false → n ≡ length N.nets → FlagsGates N [] flags
none_flagged N n flags is count = record {
  long = ap (λ (l : List Bool). length l) is ∙ length-replicate n false ∙ count;
  each = λ net. ap (λ (l : List Bool). flag_at l net) is ∙ no_flags n net;
}

-- One cell more.

any_more : (cells : List (Option CellView)) (n net : ℕ) → has_gate (take (suc n) cells) net ≡ (has_gate (take n cells) net || is_gate_on net (live_cell (slice_get cells n)))
any_more [] zero net = refl
any_more [] (suc n) net = refl
any_more (place ∷ cells) zero net = or_false (is_gate_on net place)
any_more (place ∷ cells) (suc n) net =
    ap (λ (b : Bool). is_gate_on net place || b) (any_more cells n net) ∙ or_assoc (is_gate_on net place) (has_gate (take n cells) net) (is_gate_on net (live_cell (slice_get cells n)))

-- the flag of a net where a gate's output is flagged
flag_set : (flags : List Bool) (out net : ℕ) → out < length flags → flag_at (set flags out true) net ≡ (flag_at flags net || out == net)
flag_set flags out net inside =
    elim (at_set flags out net true false inside) [
      | inl h ↦ (h.1 ∙ sym (ap (λ (b : Bool). flag_at flags net || b) (ap (λ (n : ℕ). out == n) h.0 ∙ eqb_same out) ∙ or_true (flag_at flags net)))
      | inr h ↦ (h.1 ∙ sym (ap (λ (b : Bool). flag_at flags net || b) (unequal (out == net) refl h.0) ∙ or_false (flag_at flags net)))
    ]
  where
    unequal : (t : Bool) → (out == net) ≡ t → net ≢ out → (out == net) ≡ false
    unequal true e apart = absurd (apart (sym (eqb-true out net e)))
    unequal false e apart = e

pub flagged_more : (N : NetlistView) (n : ℕ) (flags new : List Bool) → IsLaidOut N → FlagsGates N (take n N.cells) flags → new ≡ with_gate (cell_at N n) flags → FlagsGates N (take (n + 1) N.cells) new
flagged_more N n flags new laid so_far is = rw is (by_cell (cell_at N n) refl)
  where
    more : (net : ℕ) → has_gate (take (n + 1) N.cells) net ≡ (flag_at flags net || is_gate_on net (cell_at N n))
    more net =
        let same : n + 1 ≡ suc n = omega arith in
        ap (λ (k : ℕ). has_gate (take k N.cells) net) same ∙ any_more N.cells n net ∙ ap (λ (b : Bool). b || is_gate_on net (cell_at N n)) (sym (so_far.each net))

    unchanged : ((net : ℕ) → is_gate_on net (cell_at N n) ≡ false) → FlagsGates N (take (n + 1) N.cells) flags
    unchanged none = record {
      long = so_far.long;
      each = λ net. sym (more net ∙ ap (λ (b : Bool). flag_at flags net || b) (none net) ∙ or_false (flag_at flags net));
    }

    on : (cell : CellView) → cell_at N n ≡ Some cell → (three : Bool) → is_three_state cell.kind ≡ three → (output : Option NetId) → cell.output ≡ output → (net : ℕ)
        → is_gate_on net (cell_at N n) ≡ (option_map_or (λ (o : NetId). o.0 == net) output false && three)
    on cell e three t output o net =
        ap (is_gate_on net) e ∙ ap (λ (x : Option NetId). option_map_or (λ (w : NetId). w.0 == net) x false && is_three_state cell.kind) o
        ∙ ap (λ (b : Bool). option_map_or (λ (w : NetId). w.0 == net) output false && b) t

    by_output : (cell : CellView) → cell_at N n ≡ Some cell → is_three_state cell.kind ≡ true → (output : Option NetId) → cell.output ≡ output → FlagsGates N (take (n + 1) N.cells) (with_output output flags)
    by_output cell e three None o = unchanged (λ net. on cell e true three None o net)
    by_output cell e three (Some out) o =
        let inside = laid.outputs n cell out.0 (record { live = e; output = o }) in
        let long = so_far.long in
        record {
          long = length-set flags out.0 true ∙ long;
          each = λ net.
              flag_set flags out.0 net (omega (arith, inside, long))
              ∙ sym (more net ∙ ap (λ (b : Bool). flag_at flags net || b) (on cell e true three (Some out) o net ∙ and_true (out.0 == net)));
        }

    by_kind : (cell : CellView) → cell_at N n ≡ Some cell → (three : Bool) → is_three_state cell.kind ≡ three → FlagsGates N (take (n + 1) N.cells) (if three then with_output cell.output flags else flags)
    by_kind cell e true t = by_output cell e t cell.output refl
    by_kind cell e false t = unchanged (λ net. on cell e false t cell.output refl net ∙ and_false (option_map_or (λ (o : NetId). o.0 == net) cell.output false))

    by_cell : (o : Option CellView) → cell_at N n ≡ o → FlagsGates N (take (n + 1) N.cells) (with_gate o flags)
    by_cell None e = unchanged (λ net. ap (is_gate_on net) e)
    by_cell (Some cell) e = by_kind cell e (is_three_state cell.kind) refl

-- All cells.

any_below : (cells : List (Option CellView)) (bound net : ℕ) → ((i : ℕ) → IsSome (live_cell (slice_get cells i)) → i < bound) → has_gate (take bound cells) net ≡ has_gate cells net
any_below [] zero net below = refl
any_below [] (suc bound) net below = refl
any_below (None ∷ cells) zero net below = any_below cells zero net (λ i live. let no = below (suc i) live in absurd (omega arith))
any_below (Some cell ∷ cells) zero net below = let no = below zero refl in absurd (omega arith)
any_below (place ∷ cells) (suc bound) net below = ap (λ (b : Bool). is_gate_on net place || b) (any_below cells bound net (λ i live. let more = below (suc i) live in omega arith))

pub flagged_all : (N : NetlistView) (bound : ℕ) (flags : List Bool) → ((i : ℕ) → IsLive N i → i < bound) → FlagsGates N (take bound N.cells) flags → FlagsGates N N.cells flags
flagged_all N bound flags below so_far = record {
  long = so_far.long;
  each = λ net. so_far.each net ∙ any_below N.cells bound net below;
}
