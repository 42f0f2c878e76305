-- The steps of building in registers.
use Rattle.std.proofs.Common.{◌≡◌, ◌≢◌, ℕ, zero, suc, ◌+◌, ◌<◌, ◌≤◌, List, [], ◌∷◌, ◌++◌, length, length-append, Option, Some, None, true, false, refl, ap, sym, ◌∙◌, subst, arith, option_and_then}
use Rattle.std.specs.Prelude.{slice_get, All, IsSome}
use Rattle.netlist_model.specs.declared.NetId.{NetId}
use Rattle.netlist_model.specs.declared.Feed.TheVariants.{Net}
use Rattle.netlist_model.specs.Lists.{CellView, NetlistView, cell_at, cell_count}
use Rattle.netlist_model.specs.Contained.{IsDense}
use Rattle.netlist_model.specs.LawsContained.{DenseNumbers}
use Rattle.netlist_arena.specs.Arena.{ArenaView}
use Rattle.netlist_arena.specs.Looks.{feed_at}
use Rattle.netlist_arena.specs.Moves.{with_feed, connected}
use Rattle.gate_parts.specs.Appended.{Appended}
use Rattle.gate_parts.specs.Laws.{AppendedGrows}
use Rattle.register_gates.specs.Constants.{ConstantsAreBits}
use Rattle.register_gates.specs.Steps.{AddedInTurn}
use Rattle.status_fitting.specs.declared.fitted.FittedRegister.{FittedRegister}
use Rattle.status_gates.specs.Opcodes.{inverses_cells}
use Rattle.status_gates.specs.declared.parts.SharedNets.{SharedNets}
use Rattle.status_gates.specs.Registers.{registers_size, registers_cells, CanStand}
use Rattle.status_gates.proofs.PartsAdded.{registers_length}
use Rattle.status_build.specs.Build.{added_cells, shown_at}
use Rattle.status_build.specs.BuildLaws.{IsAddable, CanAdd, IsBuiltOn}
use Rattle.status_build.proofs.Connected.{connected_other, connected_at, connected_count}

pub inverses_length : (first number opcode count : ℕ) → length (inverses_cells first number opcode count) ≡ count
inverses_length first number opcode zero = refl
inverses_length first number opcode (suc behind) = ap suc (inverses_length (suc first) (suc number) (suc opcode) behind)

-- where the registers stand once the inverses are there
pub all_stand : (nets more : ℕ) (shared : SharedNets) (bypass : NetId) (bits : ℕ) (rs : List FittedRegister) → CanAdd nets shared bypass bits rs → more ≡ nets + bits → All (CanStand more shared) rs
all_stand nets more shared bypass bits rs can many = λ k d within. each (can.each k d within)
  where
    each : {r : FittedRegister} → IsAddable nets bits r → CanStand more shared r
    each {r} a =
        let few = a.few in
        let most = can.few in
        let opcode = can.opcode in
        let inverses = can.inverses in
        let tdi = can.tdi in
        let tck = can.clock.0 in
        let trst = can.clock.1 in
        let capture = can.steps.0 in
        let shift = can.steps.1 in
        record {
          some = a.some;
          few = omega (arith, few, most);
          wires = a.wires;
          clock = (omega (arith, tck, many), omega (arith, trst, many));
          steps = (omega (arith, capture, many), omega (arith, shift, many));
          tdi = omega (arith, tdi, many);
          opcode = omega (arith, opcode, few, many);
          inverses = omega (arith, inverses, few, many);
          captured = λ j e low. (let below = a.captured j e low in omega (arith, below, many));
        }

-- what was added in two steps
pub status_added : AddedInTurn → (old middle new : ArenaView) (shared : SharedNets) (bypass : NetId) (bits : ℕ) (rs : List FittedRegister)
    → Appended old middle bits (inverses_cells (length old.lists.nets) (cell_count old.lists) shared.opcode.0 bits)
    → Appended middle new (registers_size rs) (registers_cells (length middle.lists.nets) (cell_count middle.lists) shared bypass rs)
    → Appended old new (bits + registers_size rs) (added_cells old.lists shared bypass bits rs)
status_added in_turn old middle new shared bypass bits rs a b =
    in_turn old middle new bits (registers_size rs) (bits + registers_size rs) (inverses_cells (length old.lists.nets) (cell_count old.lists) shared.opcode.0 bits)
    (λ f k. registers_cells f k shared bypass rs) a (inverses_length (length old.lists.nets) (cell_count old.lists) shared.opcode.0 bits) b refl

-- the gate's operand is there
some_at : (o p : Option CellView) → ((cell : CellView) → o ≡ Some cell → p ≡ Some cell) → IsSome (option_and_then (λ (cell : CellView). slice_get cell.feeds 0) o)
    → IsSome (option_and_then (λ (cell : CellView). slice_get cell.feeds 0) p)
some_at None p kept some = absurd (let no : false ≡ true = some in cc)
some_at (Some cell) p kept some = subst (λ (x : Option CellView). IsSome (option_and_then (λ (c : CellView). slice_get c.feeds 0) x)) (sym (kept cell refl)) some

pub operand_stays : AppendedGrows → (old new : ArenaView) (count : ℕ) (part : List CellView) (number : ℕ) → Appended old new count part → IsSome (feed_at old.lists number 0) → IsSome (feed_at new.lists number 0)
operand_stays grows old new count part number added some = some_at (cell_at old.lists number) (cell_at new.lists number) (λ cell live. (grows old new count part added).cells number cell live) some

-- the cell of an operand is there
cell_by : (o : Option CellView) → IsSome (option_and_then (λ (cell : CellView). slice_get cell.feeds 0) o) → (cell : CellView) × (o ≡ Some cell)
cell_by None some = absurd (let no : false ≡ true = some in cc)
cell_by (Some cell) some = (cell, refl)

pub built_on : ConstantsAreBits → AppendedGrows → DenseNumbers → (old middle : ArenaView) (new : NetlistView) (shared : SharedNets) (bypass shown : NetId) (bits number : ℕ) (rs : List FittedRegister)
    → IsDense old.lists → IsSome (feed_at old.lists number 0) → Appended old middle (bits + registers_size rs) (added_cells old.lists shared bypass bits rs)
    → shown ≡ shown_at old.lists bypass bits rs → new ≡ connected number 0 (Net shown) middle.lists → IsBuiltOn old.lists new shared bypass bits number rs
built_on constants grows numbers old middle new shared bypass shown bits number rs dense some added shown_is is =
    let N : NetlistView = old.lists in
    let M : NetlistView = middle.lists in
    let part : List CellView = added_cells N shared bypass bits rs in
    let found = cell_by (cell_at N number) some in
    let live_there : IsSome (cell_at N number) = subst (λ (x : Option CellView). IsSome x) (sym found.1) refl in
    let low : number < cell_count N = numbers N dense number live_there in
    let there : cell_at M number ≡ Some found.0 = (grows old middle (bits + registers_size rs) part added).cells number found.0 found.1 in
    let xs : List CellView = inverses_cells (length N.nets) (cell_count N) shared.opcode.0 bits in
    let ys : List CellView = registers_cells (length N.nets + bits) (cell_count N + bits) shared bypass rs in
    let both = length-append xs ys in
    let front = inverses_length (length N.nets) (cell_count N) shared.opcode.0 bits in
    let back = registers_length constants (length N.nets + bits) (cell_count N + bits) shared bypass rs in
    let long : length part ≡ bits + registers_size rs = omega (arith, both, front, back) in
    let counted = added.counted in
    record {
      library = ap (λ (L : NetlistView). L.library) is ∙ added.library;
      ports = ap (λ (L : NetlistView). L.ports) is ∙ added.ports;
      nets = ap (λ (L : NetlistView). L.nets) is ∙ added.net_list;
      count = ap (λ (L : NetlistView). cell_count L) is ∙ connected_count M number 0 (Net shown) found.0 there ∙ counted ∙ ap (λ (n : ℕ). cell_count N + n) long;
      kept = λ k below apart. ap (λ (L : NetlistView). cell_at L k) is ∙ connected_other M number 0 k (Net shown) apart ∙ added.kept k below;
      gate = λ cell at.
          ap (λ (L : NetlistView). cell_at L number) is
          ∙ connected_at M number 0 (Net shown) cell ((grows old middle (bits + registers_size rs) part added).cells number cell at)
          ∙ ap (λ (n : NetId). Some (with_feed 0 (Net n) cell)) shown_is;
      added = λ k.
          let apart : cell_count N + k ≢ number = λ e. absurd (omega (arith, e, low)) in
          ap (λ (L : NetlistView). cell_at L (cell_count N + k)) is ∙ connected_other M number 0 (cell_count N + k) (Net shown) apart ∙ added.added k;
    }
