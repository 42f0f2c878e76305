-- The gates are those of the parts, one behind another.
use Rattle.std.proofs.Common.{◌≡◌, ℕ, zero, suc, ◌+◌, ◌*◌, List, [], ◌∷◌, ◌++◌, length, refl, sym, ap, ◌∙◌, arith, append-nil, append_assoc}
use Rattle.netlist_model.specs.declared.NetId.{NetId}
use Rattle.netlist_model.specs.declared.Feed.{Feed}
use Rattle.netlist_model.specs.declared.Feed.TheVariants.{Net}
use Rattle.netlist_model.specs.Lists.{CellView}
use Rattle.gate_parts.specs.Parts.{part_cells}
use Rattle.test_logic.specs.declared.TapNets.{TapNets}
use Rattle.register_gates.specs.declared.bits.Steering.{Steering}
use Rattle.register_gates.specs.Chains.{chain_cells}
use Rattle.register_gates.specs.declared.TheConstants.{SELECTED}
use Rattle.register_gates.specs.Constants.{ConstantsAreBits}
use Rattle.register_gates.specs.Registers.{selected_cells, selected_steering, data_cells}
use Rattle.netlist_link.specs.Parts.{Part, parts_size, parts_cells}
use Rattle.status_fitting.specs.declared.fitted.FittedRegister.{FittedRegister}
use Rattle.register_gates.specs.declared.ident.TheConstants.{INVERSE}
use Rattle.status_gates.specs.Opcodes.{inverses_cells, opcode_cells}
use Rattle.status_gates.specs.Wires.{net_feeds}
use Rattle.status_gates.proofs.Feeds.{net_feeds_length}
use Rattle.status_gates.specs.declared.parts.SharedNets.{SharedNets}
use Rattle.status_gates.specs.Registers.{wanted_feeds, bits_size, register_size, on_at, near_at, register_cells, registers_size, shown_of, registers_cells}
use Rattle.status_build.specs.Handed.{inverse_parts, both_part, opcode_parts, bit_part, chain_parts, data_parts, shown_part, register_parts, registers_parts}

-- Lists of parts.

pub size_append : (ps qs : List Part) → parts_size (ps ++ qs) ≡ parts_size ps + parts_size qs
size_append [] qs = omega arith
size_append (p ∷ ps) qs = let rest = size_append ps qs in omega (arith, rest)

pub cells_append : (first number : ℕ) (ps qs : List Part) → parts_cells first number (ps ++ qs) ≡ parts_cells first number ps ++ parts_cells (first + parts_size ps) (number + parts_size ps) qs
cells_append first number [] qs =
    let a : first ≡ first + 0 = omega arith in
    let b : number ≡ number + 0 = omega arith in
    ap (λ (f : ℕ). parts_cells f number qs) a ∙ ap (λ (n : ℕ). parts_cells (first + 0) n qs) b
cells_append first number (p ∷ ps) qs =
    let n : ℕ = length p.gates in
    let part : List CellView = part_cells p.gates p.given first number in
    let rest = cells_append (first + n) (number + n) ps qs in
    let a : first + n + parts_size ps ≡ first + (n + parts_size ps) = omega arith in
    let b : number + n + parts_size ps ≡ number + (n + parts_size ps) = omega arith in
    let front : List CellView = parts_cells (first + n) (number + n) ps in
    ap (λ (cs : List CellView). part ++ cs) rest
    ∙ ap (λ (f : ℕ). part ++ (front ++ parts_cells f (number + n + parts_size ps) qs)) a
    ∙ ap (λ (k : ℕ). part ++ (front ++ parts_cells (first + (n + parts_size ps)) k qs)) b
    ∙ sym (append_assoc part front (parts_cells (first + (n + parts_size ps)) (number + (n + parts_size ps)) qs))

-- one part behind others, of which the size is known
pub one_behind : (first number count : ℕ) (ps : List Part) (p : Part) (cells : List CellView) → parts_cells first number ps ≡ cells → parts_size ps ≡ count
    → parts_cells first number (ps ++ p ∷ []) ≡ cells ++ part_cells p.gates p.given (first + count) (number + count)
one_behind first number count ps p cells is size =
    cells_append first number ps (p ∷ [])
    ∙ ap (λ (cs : List CellView). cs ++ parts_cells (first + parts_size ps) (number + parts_size ps) (p ∷ [])) is
    ∙ ap (λ (k : ℕ). cells ++ parts_cells (first + k) (number + k) (p ∷ [])) size
    ∙ ap (λ (cs : List CellView). cells ++ cs) (append-nil (part_cells p.gates p.given (first + count) (number + count)))

-- lists behind one another, of which the size is known
pub both_behind : (first number count : ℕ) (ps qs : List Part) (xs : List CellView) (ys : ℕ → ℕ → List CellView) → parts_cells first number ps ≡ xs → parts_size ps ≡ count
    → parts_cells (first + count) (number + count) qs ≡ ys (first + count) (number + count) → parts_cells first number (ps ++ qs) ≡ xs ++ ys (first + count) (number + count)
both_behind first number count ps qs xs ys is size more =
    cells_append first number ps qs
    ∙ ap (λ (cs : List CellView). cs ++ parts_cells (first + parts_size ps) (number + parts_size ps) qs) is
    ∙ ap (λ (k : ℕ). xs ++ parts_cells (first + k) (number + k) qs) size
    ∙ ap (λ (cs : List CellView). xs ++ cs) more

-- Each kind of part.

pub inverse_size : (opcode count : ℕ) → parts_size (inverse_parts opcode count) ≡ count
inverse_size opcode zero = refl
inverse_size opcode (suc behind) =
    let one : length INVERSE ≡ 1 = refl in
    let rest = inverse_size (suc opcode) behind in
    omega (arith, one, rest)

pub inverse_cells_are : (first number opcode count : ℕ) → parts_cells first number (inverse_parts opcode count) ≡ inverses_cells first number opcode count
inverse_cells_are first number opcode zero = refl
inverse_cells_are first number opcode (suc behind) =
    let part : List CellView = part_cells INVERSE (Net (record { 0 = opcode }) ∷ []) first number in
    let a : first + 1 ≡ suc first = omega arith in
    let b : number + 1 ≡ suc number = omega arith in
    ap (λ (f : ℕ). part ++ parts_cells f (number + 1) (inverse_parts (suc opcode) behind)) a
    ∙ ap (λ (n : ℕ). part ++ parts_cells (suc first) n (inverse_parts (suc opcode) behind)) b
    ∙ ap (λ (cs : List CellView). part ++ cs) (inverse_cells_are (suc first) (suc number) (suc opcode) behind)

pub opcode_size : (first opcode inverses : ℕ) (wanted : List Feed) → parts_size (opcode_parts first opcode inverses wanted) ≡ length wanted
opcode_size first opcode inverses [] = refl
opcode_size first opcode inverses (w ∷ rest) =
    let ps : List Part = opcode_parts first (suc opcode) (suc inverses) rest in
    let one : parts_size (both_part first opcode inverses w rest ∷ []) ≡ 1 = refl in
    let both = size_append ps (both_part first opcode inverses w rest ∷ []) in
    let before = opcode_size first (suc opcode) (suc inverses) rest in
    omega (arith, one, both, before)

pub opcode_cells_are : (first number opcode inverses : ℕ) (wanted : List Feed) → parts_cells first number (opcode_parts first opcode inverses wanted) ≡ opcode_cells first number opcode inverses wanted
opcode_cells_are first number opcode inverses [] = refl
opcode_cells_are first number opcode inverses (w ∷ rest) =
    one_behind first number (length rest) (opcode_parts first (suc opcode) (suc inverses) rest) (both_part first opcode inverses w rest) (opcode_cells first number (suc opcode) (suc inverses) rest)
    (opcode_cells_are first number (suc opcode) (suc inverses) rest) (opcode_size first (suc opcode) (suc inverses) rest)

pub chain_size : (first : ℕ) (by : Steering) (tdi : NetId) (captured : List Feed) → parts_size (chain_parts first by tdi captured) ≡ 3 * length captured
chain_size first by tdi [] = refl
chain_size first by tdi (c ∷ rest) =
    let ps : List Part = chain_parts first by tdi rest in
    let three : parts_size (bit_part first by tdi c rest ∷ []) ≡ 3 = refl in
    let both = size_append ps (bit_part first by tdi c rest ∷ []) in
    let before = chain_size first by tdi rest in
    omega (arith, three, both, before)

pub chain_cells_are : (first number : ℕ) (by : Steering) (tdi : NetId) (captured : List Feed) → parts_cells first number (chain_parts first by tdi captured) ≡ chain_cells first number by tdi captured
chain_cells_are first number by tdi [] = refl
chain_cells_are first number by tdi (c ∷ rest) =
    one_behind first number (3 * length rest) (chain_parts first by tdi rest) (bit_part first by tdi c rest) (chain_cells first number by tdi rest)
    (chain_cells_are first number by tdi rest) (chain_size first by tdi rest)

pub data_size : (first : ℕ) (tap : TapNets) (on tdi : NetId) (captured : List Feed) → parts_size (data_parts first tap on tdi captured) ≡ 2 + 3 * length captured
data_size first tap on tdi captured =
    let two : length SELECTED ≡ 2 = refl in
    let rest = chain_size (first + 2) (selected_steering first tap) tdi captured in
    omega (arith, two, rest)

pub data_cells_are : (first number : ℕ) (tap : TapNets) (on tdi : NetId) (captured : List Feed) → parts_cells first number (data_parts first tap on tdi captured) ≡ data_cells first number tap on tdi captured
data_cells_are first number tap on tdi captured =
    ap (λ (cs : List CellView). selected_cells first number tap on ++ cs) (chain_cells_are (first + 2) (number + 2) (selected_steering first tap) tdi captured)

-- A register, and all.

counted : ConstantsAreBits → (r : FittedRegister) → length (wanted_feeds r.register.bits) ≡ r.register.bits.len
counted constants r = (constants r.register.bits.len r.register.bits.value).counted

front_size : ConstantsAreBits → (first : ℕ) (shared : SharedNets) (r : FittedRegister)
    → parts_size (opcode_parts first shared.opcode.0 shared.inverses.0 (wanted_feeds r.register.bits) ++ data_parts (first + r.register.bits.len) shared.tap (on_at first r) shared.tdi (net_feeds r.nets))
    ≡ r.register.bits.len + bits_size r
front_size constants first shared r =
    let ps : List Part = opcode_parts first shared.opcode.0 shared.inverses.0 (wanted_feeds r.register.bits) in
    let qs : List Part = data_parts (first + r.register.bits.len) shared.tap (on_at first r) shared.tdi (net_feeds r.nets) in
    let both = size_append ps qs in
    let a = opcode_size first shared.opcode.0 shared.inverses.0 (wanted_feeds r.register.bits) in
    let b = data_size (first + r.register.bits.len) shared.tap (on_at first r) shared.tdi (net_feeds r.nets) in
    let n = counted constants r in
    let wires = net_feeds_length r.nets in
    omega (arith, both, a, b, n, wires)

pub register_parts_size : ConstantsAreBits → (first : ℕ) (shared : SharedNets) (r : FittedRegister) (behind : NetId) → parts_size (register_parts first shared r behind) ≡ register_size r
register_parts_size constants first shared r behind =
    let front : List Part = opcode_parts first shared.opcode.0 shared.inverses.0 (wanted_feeds r.register.bits) ++ data_parts (first + r.register.bits.len) shared.tap (on_at first r) shared.tdi (net_feeds r.nets) in
    let last : Part = shown_part behind (near_at first shared r) (on_at first r) in
    let one : parts_size (last ∷ []) ≡ 1 = refl in
    let both = size_append front (last ∷ []) in
    let before = front_size constants first shared r in
    omega (arith, one, both, before)

pub register_cells_are : ConstantsAreBits → (first number : ℕ) (shared : SharedNets) (r : FittedRegister) (behind : NetId)
    → parts_cells first number (register_parts first shared r behind) ≡ register_cells first number shared r behind
register_cells_are constants first number shared r behind =
    let n : ℕ = r.register.bits.len in
    let ps : List Part = opcode_parts first shared.opcode.0 shared.inverses.0 (wanted_feeds r.register.bits) in
    let qs : List Part = data_parts (first + n) shared.tap (on_at first r) shared.tdi (net_feeds r.nets) in
    let xs : List CellView = opcode_cells first number shared.opcode.0 shared.inverses.0 (wanted_feeds r.register.bits) in
    let front : parts_cells first number (ps ++ qs) ≡ xs ++ data_cells (first + n) (number + n) shared.tap (on_at first r) shared.tdi (net_feeds r.nets)
    = both_behind first number n ps qs xs (λ f k. data_cells f k shared.tap (on_at first r) shared.tdi (net_feeds r.nets))
    (opcode_cells_are first number shared.opcode.0 shared.inverses.0 (wanted_feeds r.register.bits))
    (opcode_size first shared.opcode.0 shared.inverses.0 (wanted_feeds r.register.bits) ∙ counted constants r)
    (data_cells_are (first + n) (number + n) shared.tap (on_at first r) shared.tdi (net_feeds r.nets)) in
    one_behind first number (n + bits_size r) (ps ++ qs) (shown_part behind (near_at first shared r) (on_at first r))
    (xs ++ data_cells (first + n) (number + n) shared.tap (on_at first r) shared.tdi (net_feeds r.nets)) front (front_size constants first shared r)

pub registers_parts_size : ConstantsAreBits → (first : ℕ) (shared : SharedNets) (bypass : NetId) (rs : List FittedRegister) → parts_size (registers_parts first shared bypass rs) ≡ registers_size rs
registers_parts_size constants first shared bypass [] = refl
registers_parts_size constants first shared bypass (r ∷ rs) =
    let ps : List Part = registers_parts first shared bypass rs in
    let qs : List Part = register_parts (first + registers_size rs) shared r (shown_of first bypass rs) in
    let both = size_append ps qs in
    let before = registers_parts_size constants first shared bypass rs in
    let this = register_parts_size constants (first + registers_size rs) shared r (shown_of first bypass rs) in
    omega (arith, both, before, this)

pub registers_cells_are : ConstantsAreBits → (first number : ℕ) (shared : SharedNets) (bypass : NetId) (rs : List FittedRegister)
    → parts_cells first number (registers_parts first shared bypass rs) ≡ registers_cells first number shared bypass rs
registers_cells_are constants first number shared bypass [] = refl
registers_cells_are constants first number shared bypass (r ∷ rs) =
    both_behind first number (registers_size rs) (registers_parts first shared bypass rs) (register_parts (first + registers_size rs) shared r (shown_of first bypass rs))
    (registers_cells first number shared bypass rs) (λ f k. register_cells f k shared r (shown_of first bypass rs))
    (registers_cells_are constants first number shared bypass rs) (registers_parts_size constants first shared bypass rs)
    (register_cells_are constants (first + registers_size rs) (number + registers_size rs) shared r (shown_of first bypass rs))
