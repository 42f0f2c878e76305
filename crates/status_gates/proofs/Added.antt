-- The gates are added one after the other.
use Rattle.std.proofs.Common.{Bool, true, false, ◌≡◌, ℕ, zero, suc, ◌+◌, ◌-◌, ◌<◌, ◌≤◌, List, [], ◌∷◌, ◌++◌, drop, length, length-append, append_assoc, append-nil, refl, sym, ap, subst, ◌∙◌, arith, Some}
use Rattle.std.specs.Prelude.{slice_get}
use Rattle.std.proofs.Math.Seq.{drop-cons, drop-length}
use Rattle.std.proofs.lemmas.Option.{slice_get_within, get_or_from_slice_get}
use Rattle.netlist_model.specs.declared.NetId.{NetId}
use Rattle.netlist_model.specs.declared.Feed.{Feed}
use Rattle.netlist_model.specs.declared.Feed.TheVariants.{Net, Const}
use Rattle.netlist_model.specs.Lists.{CellView, cell_count}
use Rattle.netlist_model.specs.Below.{IsFeedBelow}
use Rattle.netlist_arena.specs.Arena.{ArenaView}
use Rattle.gate_parts.specs.Appended.{Appended}
use Rattle.gate_parts.specs.Parts.{part_cells}
use Rattle.register_gates.specs.declared.ident.TheConstants.{INVERSE}
use Rattle.register_gates.specs.Steps.{AddedInTurn}
use Rattle.instruction_gates.specs.Rows.{is_one}
use Rattle.status_gates.specs.declared.TheConstants.{BOTH}
use Rattle.status_gates.specs.Opcodes.{inverses_cells, literal, told_feed, opcode_cells}

-- The inverses.

abbrev inverse_part : ℕ → ℕ → ℕ → List CellView
inverse_part bit first number = part_cells INVERSE (Net (record { 0 = bit }) ∷ []) first number

pub inverses_length : (first number opcode count : ℕ) → length (inverses_cells first number opcode count) ≡ count
inverses_length first number opcode zero = refl
inverses_length first number opcode (suc behind) =
    let xs : List CellView = inverse_part opcode first number in
    let ys : List CellView = inverses_cells (suc first) (suc number) (suc opcode) behind in
    let one : length xs ≡ 1 = refl in
    let both = length-append xs ys in
    let long = inverses_length (suc first) (suc number) (suc opcode) behind in
    omega (arith, one, both, long)

same_inverse : (bit bit' first first' number number' : ℕ) → bit ≡ bit' → first ≡ first' → number ≡ number' → inverse_part bit first number ≡ inverse_part bit' first' number'
same_inverse bit bit' first first' number number' a b c = ap (λ (n : ℕ). inverse_part n first number) a ∙ ap (λ (n : ℕ). inverse_part bit' n number) b ∙ ap (λ (n : ℕ). inverse_part bit' first' n) c

-- the last one stands behind all others
inverses_last : (first number opcode behind : ℕ) → inverses_cells first number opcode (suc behind) ≡ inverses_cells first number opcode behind ++ inverse_part (opcode + behind) (first + behind) (number + behind)
inverses_last first number opcode zero = append-nil (inverse_part opcode first number) ∙ same_inverse opcode (opcode + 0) first (first + 0) number (number + 0) (omega arith) (omega arith) (omega arith)
inverses_last first number opcode (suc behind) =
    let front : List CellView = inverse_part opcode first number in
    let middle : List CellView = inverses_cells (suc first) (suc number) (suc opcode) behind in
    ap (λ (xs : List CellView). front ++ xs)
    (inverses_last (suc first) (suc number) (suc opcode) behind
    ∙ ap (λ (xs : List CellView). middle ++ xs)
    (same_inverse (suc opcode + behind) (opcode + suc behind) (suc first + behind) (first + suc behind) (suc number + behind) (number + suc behind) (omega arith) (omega arith) (omega arith)))
    ∙ sym (append_assoc front middle (inverse_part (opcode + suc behind) (first + suc behind) (number + suc behind)))

pub inverted_more : AddedInTurn → (old middle new : ArenaView) (opcode place : ℕ) → Appended old middle place (inverses_cells (length old.lists.nets) (cell_count old.lists) opcode place)
    → Appended middle new 1 (part_cells INVERSE (Net (record { 0 = opcode + place }) ∷ []) (length middle.lists.nets) (cell_count middle.lists))
    → Appended old new (place + 1) (inverses_cells (length old.lists.nets) (cell_count old.lists) opcode (place + 1))
inverted_more in_turn old middle new opcode place before step =
    let first : ℕ = length old.lists.nets in
    let number : ℕ = cell_count old.lists in
    let next : suc place ≡ place + 1 = omega arith in
    let both = in_turn old middle new place 1 (place + 1) (inverses_cells first number opcode place) (λ f n. inverse_part (opcode + place) f n) before (inverses_length first number opcode place) step refl in
    let whole : Appended old new (place + 1) (inverses_cells first number opcode (suc place)) = subst (λ (cells : List CellView). Appended old new (place + 1) cells) (sym (inverses_last first number opcode place)) both in
    subst (λ (n : ℕ). Appended old new (place + 1) (inverses_cells first number opcode n)) next whole

-- at the end all are there
pub inverted_all : (old new : ArenaView) (opcode place count : ℕ) → place ≡ count → Appended old new place (inverses_cells (length old.lists.nets) (cell_count old.lists) opcode place)
    → Appended old new count (inverses_cells (length old.lists.nets) (cell_count old.lists) opcode count)
inverted_all old new opcode place count is added = subst (λ (n : ℕ). Appended old new n (inverses_cells (length old.lists.nets) (cell_count old.lists) opcode n)) is added

-- An opcode.

pub opcode_length : (first number opcode inverses : ℕ) (wanted : List Feed) → length (opcode_cells first number opcode inverses wanted) ≡ length wanted
opcode_length first number opcode inverses [] = refl
opcode_length first number opcode inverses (w ∷ rest) =
    let xs : List CellView = opcode_cells first number (suc opcode) (suc inverses) rest in
    let ys : List CellView = part_cells BOTH (literal (is_one w) opcode inverses ∷ told_feed first rest ∷ []) (first + length rest) (number + length rest) in
    let one : length ys ≡ 1 = refl in
    let both = length-append xs ys in
    let long = opcode_length first number (suc opcode) (suc inverses) rest in
    omega (arith, one, both, long)

-- the gates of these bits, which begin at a place
pub record ToldFrom (old new : ArenaView) (opcode inverses place : ℕ) (items : List Feed) (told : Feed) : Type 0 where
  pub added : Appended old new (length items) (opcode_cells (length old.lists.nets) (cell_count old.lists) (opcode + place) (inverses + place) items)
  pub told_is : told ≡ told_feed (length old.lists.nets) items

pub told_none : (old : ArenaView) (opcode inverses : ℕ) (items : List Feed) → Appended old old 0 [] → ToldFrom old old opcode inverses (length items) (drop (length items) items) (Const true)
told_none old opcode inverses items added =
    let P : List Feed → Type 0 = λ rest. ToldFrom old old opcode inverses (length items) rest (Const true) in
    subst P (sym (drop-length items)) (record { added = added; told_is = refl })

told_more : AddedInTurn → (old middle new : ArenaView) (opcode inverses place : ℕ) (item : Feed) (rest : List Feed) (told : Feed) (net : NetId) → ToldFrom old middle opcode inverses (suc place) rest told
    → net.0 ≡ length middle.lists.nets → length middle.lists.nets ≡ length old.lists.nets + length rest
    → Appended middle new 1 (part_cells BOTH (literal (is_one item) (opcode + place) (inverses + place) ∷ told ∷ []) (length middle.lists.nets) (cell_count middle.lists))
    → ToldFrom old new opcode inverses place (item ∷ rest) (Net net)
told_more in_turn old middle new opcode inverses place item rest told net before net_is more step =
    let first : ℕ = length old.lists.nets in
    let number : ℕ = cell_count old.lists in
    let a : opcode + suc place ≡ suc (opcode + place) = omega arith in
    let b : inverses + suc place ≡ suc (inverses + place) = omega arith in
    let P : ℕ → ℕ → Type 0 = λ o i. Appended old middle (length rest) (opcode_cells first number o i rest) in
    let front : P (suc (opcode + place)) (suc (inverses + place)) = subst (λ (o : ℕ). P o (suc (inverses + place))) a (subst (λ (i : ℕ). P (opcode + suc place) i) b before.added) in
    let Q : Feed → Type 0 = λ f. Appended middle new 1 (part_cells BOTH (literal (is_one item) (opcode + place) (inverses + place) ∷ f ∷ []) (length middle.lists.nets) (cell_count middle.lists)) in
    let sum : length rest + 1 ≡ suc (length rest) = omega arith in
    record {
      added = in_turn old middle new (length rest) 1 (suc (length rest)) (opcode_cells first number (suc (opcode + place)) (suc (inverses + place)) rest)
          (λ at cell. part_cells BOTH (literal (is_one item) (opcode + place) (inverses + place) ∷ told_feed first rest ∷ []) at cell)
          front (opcode_length first number (suc (opcode + place)) (suc (inverses + place)) rest) (subst Q before.told_is step) sum;
      told_is = ap (λ (n : ℕ). Net (let id : NetId = record { 0 = n } in id)) (net_is ∙ more);
    }

pub told_step : AddedInTurn → (old middle new : ArenaView) (opcode inverses place : ℕ) (items : List Feed) (item told : Feed) (net : NetId) → 0 < place → place ≤ length items
    → slice_get items (place - 1) ≡ Some item → ToldFrom old middle opcode inverses place (drop place items) told
    → net.0 ≡ length middle.lists.nets → length middle.lists.nets ≡ length old.lists.nets + length (drop place items)
    → Appended middle new 1 (part_cells BOTH (literal (is_one item) (opcode + (place - 1)) (inverses + (place - 1)) ∷ told ∷ []) (length middle.lists.nets) (cell_count middle.lists))
    → ToldFrom old new opcode inverses (place - 1) (drop (place - 1) items) (Net net)
told_step in_turn old middle new opcode inverses place items item told net low high at before net_is more step =
    let n : suc (place - 1) ≡ place = omega arith in
    let below = slice_get_within items (place - 1) item at in
    let e : drop (place - 1) items ≡ item ∷ drop (suc (place - 1)) items
    = drop-cons items (place - 1) item below ∙ ap (λ (x : Feed). x ∷ drop (suc (place - 1)) items) (get_or_from_slice_get items (place - 1) item item at) in
    let B : ℕ → Type 0 = λ k. ToldFrom old middle opcode inverses k (drop k items) told in
    let M : ℕ → Type 0 = λ k. length middle.lists.nets ≡ length old.lists.nets + length (drop k items) in
    let P : List Feed → Type 0 = λ rest. ToldFrom old new opcode inverses (place - 1) rest (Net net) in
    subst P (sym e) (told_more in_turn old middle new opcode inverses (place - 1) item (drop (suc (place - 1)) items) told net (subst B (sym n) before) net_is (subst M (sym n) more) step)

-- what is told stands below
pub told_below : (first nets : ℕ) (items : List Feed) (told : Feed) → told ≡ told_feed first items → nets ≡ first + length items → IsFeedBelow nets told
told_below first nets items told is many = subst (λ (f : Feed). IsFeedBelow nets f) (sym is) (below items many)
  where
    below : (rest : List Feed) → nets ≡ first + length rest → IsFeedBelow nets (told_feed first rest)
    below [] e = tt
    below (item ∷ rest) e = let b : first + length rest < nets = omega (arith, e) in b

pub literal_below : (b : Bool) (opcode inverse nets : ℕ) → opcode < nets → inverse < nets → IsFeedBelow nets (literal b opcode inverse)
literal_below true opcode inverse nets a b = a
literal_below false opcode inverse nets a b = b

pub gate_as : (old new : ArenaView) (this this' told : Feed) → this ≡ this' → Appended old new 1 (part_cells BOTH (this ∷ told ∷ []) (length old.lists.nets) (cell_count old.lists))
    → Appended old new 1 (part_cells BOTH (this' ∷ told ∷ []) (length old.lists.nets) (cell_count old.lists))
gate_as old new this this' told e added = subst (λ (f : Feed). Appended old new 1 (part_cells BOTH (f ∷ told ∷ []) (length old.lists.nets) (cell_count old.lists))) e added

-- at the first place all are there
pub told_whole : (old new : ArenaView) (opcode inverses place : ℕ) (items : List Feed) (told : Feed) → place ≡ 0 → ToldFrom old new opcode inverses place (drop place items) told
    → Appended old new (length items) (opcode_cells (length old.lists.nets) (cell_count old.lists) opcode inverses items)
told_whole old new opcode inverses place items told none from =
    let P : ℕ → Type 0 = λ p. ToldFrom old new opcode inverses p (drop p items) told in
    let whole : P 0 = subst P none from in
    let a : opcode + 0 ≡ opcode = omega arith in
    let b : inverses + 0 ≡ inverses = omega arith in
    let Q : ℕ → ℕ → Type 0 = λ o i. Appended old new (length items) (opcode_cells (length old.lists.nets) (cell_count old.lists) o i items) in
    subst (λ (i : ℕ). Q opcode i) b (subst (λ (o : ℕ). Q o (inverses + 0)) a whole.added)
