-- What is appended in two parts was appended first with the one, and then with the other.
use Rattle.std.proofs.Common.{◌≡◌, ℕ, zero, suc, ◌+◌, ◌-◌, ◌<◌, ◌≤◌, true, false, List, [], ◌∷◌, ◌++◌, take, length, length-append, Option, Some, None, refl, sym, ◌∙◌, arith, inl, inr, append_assoc}
use Rattle.std.specs.Prelude.{slice_get, count_by, is_some, IsSome, if◌then◌else◌}
use Rattle.std.proofs.lemmas.Bool.{cases_lt}
use Rattle.std.proofs.lemmas.List.Sums.{sum_by-cons}
use Rattle.list_laws.proofs.Lists.{slice_get-append_left}
use Rattle.netlist_model.specs.Lists.{CellView, live_cell, cell_at, cell_count}
use Rattle.netlist_arena.specs.Arena.{ArenaView}
use Rattle.netlist_arena.proofs.Walks.{slice_get-append_right}
use Rattle.gate_parts.specs.Parts.{added_nets}
use Rattle.gate_parts.specs.Appended.{Appended}
use Rattle.gate_parts.proofs.Steps.{length-added_nets, added_nets-add}

-- The first so many places.

take_at : (cells : List (Option CellView)) (n i : ℕ) → i < n → live_cell (slice_get (take n cells) i) ≡ live_cell (slice_get cells i)
take_at cells zero i low = absurd (omega (arith, low))
take_at [] (suc n) i low = refl
take_at (c ∷ cs) (suc n) zero low = refl
take_at (c ∷ cs) (suc n) (suc i) low = take_at cs n i (omega (arith, low))

take_past : (cells : List (Option CellView)) (n i : ℕ) → n ≤ i → live_cell (slice_get (take n cells) i) ≡ None
take_past cells zero i high = refl
take_past [] (suc n) i high = refl
take_past (c ∷ cs) (suc n) zero high = absurd (omega (arith, high))
take_past (c ∷ cs) (suc n) (suc i) high = take_past cs n i (omega (arith, high))

count_live : (c : CellView) (places : List (Option CellView)) → count_by is_some (Some c ∷ places) ≡ 1 + count_by is_some places
count_live c places = sum_by-cons (λ (x : Option CellView). if is_some x then 1 else 0) (Some c) places

take_count : (cells : List (Option CellView)) (n : ℕ) → ((i : ℕ) → i < n → IsSome (live_cell (slice_get cells i))) → count_by is_some (take n cells) ≡ n
take_count cells zero all = refl
take_count [] (suc n) all = absurd (let h : false ≡ true = all 0 (omega arith) in cc)
take_count (None ∷ cs) (suc n) all = absurd (let h : false ≡ true = all 0 (omega arith) in cc)
take_count (Some c ∷ cs) (suc n) all =
    let rest = take_count cs n (λ i less. all (suc i) (omega (arith, less))) in
    let one = count_live c (take n cs) in
    omega (arith, rest, one)

-- The netlist between.

abbrev pub middle_of : ArenaView → ArenaView → ℕ → ℕ → List CellView → List CellView → ArenaView
middle_of old new a b part rest = record {
  lists = record {
    library = old.lists.library;
    ports = old.lists.ports;
    nets = old.lists.nets ++ added_nets (length old.lists.nets) a;
    cells = take (cell_count old.lists + length part) new.lists.cells;
  };
  spare = record { cells = new.spare.cells + length rest; nets = new.spare.nets + b; port_bits = old.spare.port_bits };
  walks = old.walks;
}

get_there : (part : List CellView) (k : ℕ) → k < length part → IsSome (slice_get part k)
get_there [] k low = absurd (omega (arith, low))
get_there (c ∷ cs) zero low = refl
get_there (c ∷ cs) (suc k) low = get_there cs k (omega (arith, low))

get_past : (part : List CellView) (k : ℕ) → length part ≤ k → slice_get part k ≡ None
get_past [] k high = refl
get_past (c ∷ cs) zero high = absurd (omega (arith, high))
get_past (c ∷ cs) (suc k) high = get_past cs k (omega (arith, high))

-- each of the first cells is live in the new netlist
first_live : (old new : ArenaView) (count : ℕ) (part rest : List CellView) → Appended old new count (part ++ rest) → (i : ℕ) → i < cell_count old.lists + length part → IsSome (cell_at new.lists i)
first_live old new count part rest h i below =
    elim (cases_lt i (cell_count old.lists)) [
      | inl low ↦ rw (h.kept i low) (h.dense i low)
      | inr past ↦ (let k : ℕ = i - cell_count old.lists in
          let e : cell_count old.lists + k ≡ i = omega (arith, past) in
          let low : k < length part = omega (arith, past, below) in
          let at : cell_at new.lists i ≡ slice_get part k = rw e at (h.added k) ∙ slice_get-append_left part rest k low in
          rw at (get_there part k low))
    ]

pub middle_count : (old new : ArenaView) (a b : ℕ) (part rest : List CellView) → Appended old new (a + b) (part ++ rest)
    → cell_count (middle_of old new a b part rest).lists ≡ cell_count old.lists + length part
middle_count old new a b part rest h = take_count new.lists.cells (cell_count old.lists + length part) (first_live old new (a + b) part rest h)

pub first_appended : (old new : ArenaView) (a b : ℕ) (part rest : List CellView) → Appended old new (a + b) (part ++ rest) → Appended old (middle_of old new a b part rest) a part
first_appended old new a b part rest h =
    let n : ℕ = cell_count old.lists + length part in
    let both = length-append part rest in
    record {
      library = refl;
      ports = refl;
      net_list = refl;
      dense = h.dense;
      counted = middle_count old new a b part rest h;
      kept = λ number below. take_at new.lists.cells n number (omega (arith, below)) ∙ h.kept number below;
      added = λ k. elim (cases_lt k (length part)) [
        | inl low ↦ take_at new.lists.cells n (cell_count old.lists + k) (omega (arith, low)) ∙ h.added k ∙ slice_get-append_left part rest k low
        | inr past ↦ take_past new.lists.cells n (cell_count old.lists + k) (omega (arith, past)) ∙ sym (get_past part k (omega (arith, past)))
      ];
      net_room = let e = h.net_room in omega (arith, e);
      cell_room = let e = h.cell_room in omega (arith, e, both);
      bit_room = refl;
    }

pub middle_nets : (old new : ArenaView) (a b : ℕ) (part rest : List CellView) → length (middle_of old new a b part rest).lists.nets ≡ length old.lists.nets + a
middle_nets old new a b part rest =
    let both = length-append old.lists.nets (added_nets (length old.lists.nets) a) in
    let many = length-added_nets (length old.lists.nets) a in
    omega (arith, both, many)

pub rest_appended : (old new : ArenaView) (a b : ℕ) (part rest : List CellView) → Appended old new (a + b) (part ++ rest) → Appended (middle_of old new a b part rest) new b rest
rest_appended old new a b part rest h =
    let M : ArenaView = middle_of old new a b part rest in
    let n : ℕ = cell_count old.lists + length part in
    let both = length-append part rest in
    let count : cell_count M.lists ≡ n = middle_count old new a b part rest h in
    let nets : length M.lists.nets ≡ length old.lists.nets + a = middle_nets old new a b part rest in
    record {
      library = h.library;
      ports = h.ports;
      net_list = rw (h.net_list, nets, append_assoc, added_nets-add (length old.lists.nets) a b) refl;
      dense = λ i below. rw (take_at new.lists.cells n i (omega (arith, below, count))) (first_live old new (a + b) part rest h i (omega (arith, below, count)));
      counted = let e = h.counted in omega (arith, e, both, count);
      kept = λ number below. sym (take_at new.lists.cells n number (omega (arith, below, count)));
      added = λ k.
          let here : cell_count M.lists + k ≡ cell_count old.lists + (length part + k) = omega (arith, count) in
          rw here (h.added (length part + k) ∙ slice_get-append_right part rest k);
      net_room = refl;
      cell_room = refl;
      bit_room = h.bit_room;
    }
