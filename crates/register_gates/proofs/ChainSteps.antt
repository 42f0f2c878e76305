-- A chain grows by the bit before it.
use Rattle.std.proofs.Common.{◌≡◌, ℕ, suc, ◌+◌, ◌-◌, ◌*◌, ◌<◌, ◌≤◌, List, [], ◌∷◌, ◌++◌, length, drop, refl, sym, ◌∙◌, ap, subst, Some, arith}
use Rattle.std.proofs.Math.Seq.{drop-cons, drop-length}
use Rattle.std.proofs.lemmas.List.{length-drop}
use Rattle.std.proofs.lemmas.Option.{slice_get_within, get_or_from_slice_get}
use Rattle.std.specs.List.{slice_get}
use Rattle.netlist_model.specs.declared.NetId.{NetId}
use Rattle.netlist_model.specs.declared.Feed.{Feed}
use Rattle.netlist_model.specs.Lists.{CellView, cell_count}
use Rattle.netlist_model.specs.Contained.{IsDense}
use Rattle.netlist_arena.specs.Arena.{ArenaView}
use Rattle.gate_parts.specs.Appended.{Appended}
use Rattle.gate_parts.specs.Laws.{AppendedNone, AppendedCount, AppendedMore}
use Rattle.register_gates.specs.declared.bits.Steering.{Steering}
use Rattle.register_gates.specs.Bits.{shift_bit_cells}
use Rattle.register_gates.specs.Chains.{chain_last, chain_cells}
use Rattle.register_gates.proofs.Lengths.{chain_length}

-- the chain of these was added, and this is its last bit
pub record Chained (old new : ArenaView) (by : Steering) (tdi last : NetId) (captured : List Feed) : Type 0 where
  pub added : Appended old new (3 * length captured) (chain_cells (length old.lists.nets) (cell_count old.lists) by tdi captured)
  pub last_is : last ≡ chain_last (length old.lists.nets) tdi captured
  pub dense : IsDense new.lists

pub chained_none : AppendedNone → (old : ArenaView) (by : Steering) (tdi : NetId) (captured : List Feed) → IsDense old.lists
    → Chained old old by tdi tdi (drop (length captured) captured)
chained_none none old by tdi captured dense =
    let P : List Feed → Type 0 = λ rest. Chained old old by tdi tdi rest in
    subst P (sym (drop-length captured)) (record { added = none old dense; last_is = refl; dense = dense })

-- where a list of cells stands in a chain's place
same_part : (old new : ArenaView) (count count' : ℕ) (part part' : List CellView) → count ≡ count' → part ≡ part' → Appended old new count part → Appended old new count' part'
same_part old new count count' part part' e f h = let P : ℕ → Type 0 = λ n. Appended old new n part' in let Q : List CellView → Type 0 = λ xs. Appended old new count xs in subst P e (subst Q f h)

chained_more : AppendedCount → AppendedMore → (old middle new : ArenaView) (by : Steering) (tdi last last' : NetId) (c : Feed) (rest : List Feed) → Chained old middle by tdi last rest
    → last'.0 ≡ length middle.lists.nets → Appended middle new 3 (shift_bit_cells (length middle.lists.nets) (cell_count middle.lists) by c last) → IsDense new.lists
    → Chained old new by tdi last' (c ∷ rest)
chained_more count more old middle new by tdi last last' c rest chained at step dense =
    let nets : length middle.lists.nets ≡ length old.lists.nets + 3 * length rest = count old middle _ _ chained.added in
    let cells : cell_count middle.lists ≡ cell_count old.lists + 3 * length rest = chained.added.counted ∙ ap (λ n. cell_count old.lists + n) (chain_length (length old.lists.nets) (cell_count old.lists) by tdi rest) in
    let step' : Appended middle new 3 (shift_bit_cells (length old.lists.nets + 3 * length rest) (cell_count old.lists + 3 * length rest) by c (chain_last (length old.lists.nets) tdi rest))
    = rw (nets, cells, chained.last_is) at step in
    record {
      added = same_part old new (3 * length rest + 3) (3 * length (c ∷ rest)) _ _ (omega arith) refl (more old middle new (3 * length rest) 3 _ _ chained.added step');
      last_is = ap (λ (n : ℕ). let net : NetId = record { 0 = n } in net) (at ∙ nets);
      dense = dense;
    }

pub chained_step : AppendedCount → AppendedMore → (old middle new : ArenaView) (by : Steering) (tdi last last' : NetId) (captured : List Feed) (place : ℕ) (c : Feed) → 0 < place
    → slice_get captured (place - 1) ≡ Some c → Chained old middle by tdi last (drop place captured)
    → last'.0 ≡ length middle.lists.nets → Appended middle new 3 (shift_bit_cells (length middle.lists.nets) (cell_count middle.lists) by c last) → IsDense new.lists
    → Chained old new by tdi last' (drop (place - 1) captured)
chained_step count more old middle new by tdi last last' captured place c low at chained first step dense =
    let n : suc (place - 1) ≡ place = omega arith in
    let below = slice_get_within captured (place - 1) c at in
    let e : drop (place - 1) captured ≡ c ∷ drop (suc (place - 1)) captured
    = drop-cons captured (place - 1) c below ∙ ap (λ (x : Feed). x ∷ drop (suc (place - 1)) captured) (get_or_from_slice_get captured (place - 1) c c at) in
    let e' : drop (place - 1) captured ≡ c ∷ drop place captured = rw n at e in
    let P : List Feed → Type 0 = λ rest. Chained old new by tdi last' rest in
    subst P (sym e') (chained_more count more old middle new by tdi last last' c (drop place captured) chained first step dense)

-- there is room for one more bit
pub cells_left : (old new : ArenaView) (by : Steering) (tdi last : NetId) (captured : List Feed) (place : ℕ) → Chained old new by tdi last (drop place captured) → 0 < place → place ≤ length captured
    → 3 * length captured ≤ old.spare.cells → 3 ≤ new.spare.cells
cells_left old new by tdi last captured place chained low high room =
    let a = chained.added.cell_room in
    let b = chain_length (length old.lists.nets) (cell_count old.lists) by tdi (drop place captured) in
    let d = length-drop place captured in
    omega arith
