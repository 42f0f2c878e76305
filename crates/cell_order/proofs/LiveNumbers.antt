-- The live cells below a bound, and counts that go on from there.
use Rattle.std.proofs.Common.{zero-add, ◌≡◌, ℕ, zero, suc, ◌+◌, ◌<◌, inl, inr, Bool, true, false, cond, List, [], ◌∷◌, ◌++◌, length, drop, arith, refl, sym, ap, ◌∙◌, subst, length-append, Option, Some, None, IsSome, count_by}
use Rattle.std.specs.Option.{is_some}
use Rattle.std.specs.List.{slice_get}
use Rattle.std.proofs.lemmas.Bool.Decides.{eqb_tells}
use Rattle.std.proofs.lemmas.List.Sums.{sum_by-cons}
use Rattle.list_laws.proofs.Lists.{at_push, last_push, before_push}
use Rattle.netlist_arena.proofs.Walks.{id_of}
use Rattle.netlist_model.specs.declared.CellId.{CellId}
use Rattle.netlist_model.specs.Lists.{CellView, NetlistView, cell_at, cell_count, live_cell}
use Rattle.netlist_model.specs.Orders.{StandsAt}
use Rattle.cell_order.specs.Packed.{AreLiveCells, live_below}

same_number : (a b : ℕ) → id_of a ≡ id_of b → a ≡ b
same_number a b e = ap (λ (id : CellId). id.0) e

-- what stands in the list
record IsBelow (N : NetlistView) (bound number : ℕ) : Type 0 where
  low : number < bound
  live : IsSome (cell_at N number)

below_only : (N : NetlistView) (bound place number : ℕ) → StandsAt (live_below N bound) place number → IsBelow N bound number
below_only N zero place number stands = absurd (cc)
below_only N (suc bound) place number stands = by_live (below_only N bound place number) (is_some (cell_at N bound)) refl stands
  where
    by_live : (StandsAt (live_below N bound) place number → IsBelow N bound number) → (b : Bool) → is_some (cell_at N bound) ≡ b
        → StandsAt (cond b (live_below N bound ++ id_of bound ∷ []) (live_below N bound)) place number → IsBelow N (suc bound) number
    by_live before false is at = let rest = before at in let low = rest.low in record { low = omega (arith, low); live = rest.live }
    by_live before true is at = elim (at_push (live_below N bound) (id_of bound) (id_of number) place at) [
      | inl e ↦ let same : bound ≡ number = same_number bound number e.1 in
          record { low = omega (arith, same); live = subst (λ n. IsSome (cell_at N n)) same is }
      | inr e ↦ let rest = before e.1 in let low = rest.low in record { low = omega (arith, low); live = rest.live }
    ]

below_each : (N : NetlistView) (bound number : ℕ) → number < bound → IsSome (cell_at N number) → (place : ℕ) × StandsAt (live_below N bound) place number
below_each N zero number low live = absurd (omega arith)
below_each N (suc bound) number low live = by_live (λ less. below_each N bound number less live) (is_some (cell_at N bound)) refl
  where
    by_live : (number < bound → (place : ℕ) × StandsAt (live_below N bound) place number) → (b : Bool) → is_some (cell_at N bound) ≡ b → (place : ℕ) × StandsAt (cond b (live_below N bound ++ id_of bound ∷ []) (live_below N bound)) place number
    by_live before true is = elim (eqb_tells number bound) [
      | inl e ↦ (length (live_below N bound), last_push (live_below N bound) (id_of bound) ∙ ap (λ (n : ℕ). Some (id_of n)) (sym e.1))
      | inr e ↦ let apart = e.1 in let rest = before (omega (arith, low, apart)) in (rest.0, before_push (live_below N bound) (id_of bound ∷ []) (id_of number) rest.0 rest.1)
    ]
    by_live before false is = elim (eqb_tells number bound) [
      | inl e ↦ absurd (let no : false ≡ true = sym is ∙ subst (λ n. IsSome (cell_at N n)) e.1 live in cc)
      | inr e ↦ let apart = e.1 in before (omega (arith, low, apart))
    ]

below_once : (N : NetlistView) (bound j k number : ℕ) → StandsAt (live_below N bound) j number → StandsAt (live_below N bound) k number → j ≡ k
below_once N zero j k number at_j at_k = absurd (cc)
below_once N (suc bound) j k number at_j at_k = by_live (below_once N bound j k number) (is_some (cell_at N bound)) at_j at_k
  where
    by_live : (StandsAt (live_below N bound) j number → StandsAt (live_below N bound) k number → j ≡ k) → (b : Bool) → StandsAt (cond b (live_below N bound ++ id_of bound ∷ []) (live_below N bound)) j number
        → StandsAt (cond b (live_below N bound ++ id_of bound ∷ []) (live_below N bound)) k number → j ≡ k
    by_live before false a b = before a b
    by_live before true a b = elim (at_push (live_below N bound) (id_of bound) (id_of number) j a) [
      | inl e ↦ elim (at_push (live_below N bound) (id_of bound) (id_of number) k b) [
        | inl f ↦ e.0 ∙ sym f.0
        | inr f ↦ absurd (let low = (below_only N bound k number f.1).low in let same = same_number bound number e.1 in omega (arith, low, same))
      ]
      | inr e ↦ elim (at_push (live_below N bound) (id_of bound) (id_of number) k b) [
        | inl f ↦ absurd (let low = (below_only N bound j number e.1).low in let same = same_number bound number f.1 in omega (arith, low, same))
        | inr f ↦ before e.1 f.1
      ]
    ]

-- past all cells the list has each of them
pub below_all : (N : NetlistView) (bound : ℕ) → ((number : ℕ) → IsSome (cell_at N number) → number < bound) → AreLiveCells N (live_below N bound)
below_all N bound past = record {
  each = λ number live. below_each N bound number (past number live) live;
  only = λ place number stands. (below_only N bound place number stands).live;
  once = below_once N bound;
}

-- one for a true test
abbrev pub one_if : Bool → ℕ
one_if b = cond b 1 0

-- a count from a place on, and from the next
pub count_from : (test : Option CellView → Bool) → test None ≡ false → (cells : List (Option CellView)) (n : ℕ)
    → count_by test (drop n cells) ≡ one_if (test (live_cell (slice_get cells n))) + count_by test (drop (suc n) cells)
count_from test none [] zero = rw none refl
count_from test none [] (suc n) = rw none refl
count_from test none (p ∷ cells) zero = sum_by-cons (λ (q : Option CellView). cond (test q) 1 0) p cells
count_from test none (p ∷ cells) (suc n) = count_from test none cells n

-- past all cells nothing is counted
pub count_past : (test : Option CellView → Bool) → test None ≡ false → (cells : List (Option CellView)) (n : ℕ) → ((i : ℕ) → IsSome (live_cell (slice_get cells i)) → i < n) → count_by test (drop n cells) ≡ 0
count_past test none [] zero past = refl
count_past test none [] (suc n) past = refl
count_past test none (None ∷ cells) zero past =
    let rest = count_past test none cells zero (λ i live. absurd (let no = past (suc i) live in omega (arith, no))) in
    let all = sum_by-cons (λ (q : Option CellView). cond (test q) 1 0) None cells in
    let zero_here : one_if (test None) ≡ 0 = ap one_if none in
    omega (arith, rest, all, zero_here)
count_past test none (Some cell ∷ cells) zero past = absurd (let no = past 0 refl in omega (arith, no))
count_past test none (p ∷ cells) (suc n) past = count_past test none cells n (λ i live. let low = past (suc i) live in omega (arith, low))

-- as many cells as are live
pub below_count : (N : NetlistView) (bound : ℕ) → length (live_below N bound) + count_by is_some (drop bound N.cells) ≡ cell_count N
below_count N zero = zero-add (cell_count N)
below_count N (suc bound) = by_live (below_count N bound) (is_some (cell_at N bound)) refl
  where
    by_live : length (live_below N bound) + count_by is_some (drop bound N.cells) ≡ cell_count N → (b : Bool) → is_some (cell_at N bound) ≡ b
        → length (cond b (live_below N bound ++ id_of bound ∷ []) (live_below N bound)) + count_by is_some (drop (suc bound) N.cells) ≡ cell_count N
    by_live rest true is =
        let step = count_from is_some refl N.cells bound in
        let one : one_if (is_some (live_cell (slice_get N.cells bound))) ≡ 1 = ap one_if is in
        let long = length-append (live_below N bound) (id_of bound ∷ []) in
        omega (arith, rest, step, one, long)
    by_live rest false is =
        let step = count_from is_some refl N.cells bound in
        let one : one_if (is_some (live_cell (slice_get N.cells bound))) ≡ 0 = ap one_if is in
        omega (arith, rest, step, one)

-- a list that goes on has room for one more
pub below_short : (N : NetlistView) (bound : ℕ) → IsSome (cell_at N bound) → length (live_below N bound) < cell_count N
below_short N bound live =
    let rest = below_count N bound in
    let step = count_from is_some refl N.cells bound in
    let one : one_if (is_some (live_cell (slice_get N.cells bound))) ≡ 1 = ap one_if live in
    omega (arith, rest, step, one)

pub below_length : (N : NetlistView) (bound : ℕ) → ((number : ℕ) → IsSome (cell_at N number) → number < bound) → length (live_below N bound) ≡ cell_count N
below_length N bound past =
    let rest = below_count N bound in
    let none = count_past is_some refl N.cells bound past in
    omega (arith, rest, none)
