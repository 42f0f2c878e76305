-- What the registers show hangs on flip-flops alone, but for the gates between.
use Rattle.std.proofs.Common.{◌≡◌, ℕ, zero, suc, ◌+◌, ◌*◌, ◌<◌, ◌≤◌, ◌⊎◌, inl, inr, Bool, true, false, List, [], ◌∷◌, ◌++◌, length, Option, Some, None, refl, ap, sym, ◌∙◌, subst, arith}
use Rattle.std.specs.Prelude.{slice_get, All}
use Rattle.std.proofs.lemmas.List.Elements.{All-head, All-tail}
use Rattle.cell_library.specs.Gates.{is_flop}
use Rattle.netlist_model.specs.declared.NetId.{NetId}
use Rattle.netlist_model.specs.declared.Feed.{Feed}
use Rattle.netlist_model.specs.declared.Feed.TheVariants.{Net, Const}
use Rattle.netlist_model.specs.Lists.{CellView, NetlistView, cell_at, Drives, IsDrivenOnce}
use Rattle.netlist_model.specs.Formed.{IsWellFormed}
use Rattle.netlist_model.specs.Contained.{Has, HasCells}
use Rattle.netlist_model.specs.LawsContained.{ContainedParts}
use Rattle.gate_parts.specs.Parts.{part_cells}
use Rattle.test_logic.specs.declared.TapNets.{TapNets}
use Rattle.register_gates.specs.declared.bits.Steering.{Steering}
use Rattle.register_gates.specs.Bits.{shift_bit_cells}
use Rattle.register_gates.specs.Chains.{chain_cells, chain_last}
use Rattle.register_gates.specs.Constants.{ConstantsAreBits}
use Rattle.register_gates.specs.Registers.{selected_cells, selected_steering, data_cells, data_last}
use Rattle.instruction_gates.specs.Rows.{is_one}
use Rattle.status_build.specs.ReconnectedLaws.{ReconnectedToLow}
use Rattle.status_fitting.specs.declared.fitted.FittedRegister.{FittedRegister}
use Rattle.status_gates.specs.declared.TheConstants.{BOTH, SHOWN}
use Rattle.status_gates.specs.Opcodes.{inverses_cells, literal, told_feed, opcode_cells}
use Rattle.status_gates.specs.Shown.{shown_given}
use Rattle.status_gates.specs.Wires.{net_feeds}
use Rattle.status_gates.specs.declared.parts.SharedNets.{SharedNets}
use Rattle.status_gates.specs.Registers.{wanted_feeds, net_in, bits_size, on_at, near_at, shown_at, registers_size, shown_of, registers_cells}
use Rattle.status_build.specs.OrderLaws.{IsHeld, IsCopy, IsProper, ShownIsFormed}
use Rattle.status_build.proofs.OrderLow.{is_base, held_is_base, IsIn, low_in, low_there, low_none, StandsLow, AreLow, has_low}

-- The one driver of a net.

same_cell : (a b : CellView) → ◌≡◌ {A = Option CellView} (Some a) (Some b) → a ≡ b
same_cell a b e = cc

one_cell : (M : NetlistView) → IsDrivenOnce M → (i j : ℕ) (cell other : CellView) (net : ℕ) → Drives M i cell net → Drives M j other net → cell ≡ other
one_cell M once i j cell other net a b = same_cell cell other (sym a.live ∙ ap (cell_at M) (once i j cell other net a b) ∙ b.live)

-- it reads what the cell does that is there
feeds_of : (M : NetlistView) → IsWellFormed M → (c : CellView) (net : ℕ) → Has M c → c.output ≡ Some (record { 0 = net }) → (i : ℕ) (cell : CellView) → Drives M i cell net → c.feeds ≡ cell.feeds
feeds_of M formed c net has out i cell d =
    let named : CellView = record c { name = has.name } in
    ap (λ (x : CellView). x.feeds) (one_cell M formed.one_driver has.number i named cell net (record { live = has.live; output = out }) d)

held_of : (M : NetlistView) (c : CellView) (net : ℕ) → Has M c → is_flop M.library c.kind ≡ true → c.output ≡ Some (record { 0 = net }) → IsHeld M net
held_of M c net has flop out = record {
  number = has.number;
  cell = record c { name = has.name };
  flop = flop;
  drives = record { live = has.live; output = out };
}

-- Operands.

same_id : (a b : NetId) → ◌≡◌ {A = Option Feed} (Some (Net a)) (Some (Net b)) → a ≡ b
same_id a b e = cc

same_net : (a b : ℕ) → ◌≡◌ {A = Option Feed} (Some (Net (record { 0 = a }))) (Some (Net (record { 0 = b }))) → a ≡ b
same_net a b e = ap (λ (n : NetId). n.0) (same_id (record { 0 = a }) (record { 0 = b }) e)

only_net : (a place net : ℕ) → slice_get (Net (record { 0 = a }) ∷ []) place ≡ Some (Net (record { 0 = net })) → a ≡ net
only_net a zero net e = same_net a net e
only_net a (suc place) net e = absurd (let no : ◌≡◌ {A = Option Feed} None (Some (Net (record { 0 = net }))) = e in cc)

-- The copies of the latched opcode, and nets one behind another.

abbrev row_lows : ℕ → ℕ → List ℕ → List ℕ
row_lows first zero before = before
row_lows first (suc count) before = first ∷ row_lows (suc first) count before

in_row : (first count : ℕ) (before : List ℕ) (net : ℕ) → IsIn before net → IsIn (row_lows first count before) net
in_row first zero before net is = is
in_row first (suc count) before net is = inr (in_row (suc first) count before net is)

row_at : (first count : ℕ) (before : List ℕ) (k : ℕ) → k < count → IsIn (row_lows first count before) (first + k)
row_at first zero before k low = absurd (omega arith)
row_at first (suc count) before zero low = inl (omega arith)
row_at first (suc count) before (suc k) low =
    let e : suc first + k ≡ first + suc k = omega arith in
    inr (subst (IsIn (row_lows (suc first) count before)) e (row_at (suc first) count before k (omega (arith, low))))

row_apart : (first count : ℕ) (before : List ℕ) (net : ℕ) → IsIn (row_lows first count before) net → IsIn before net ⊎ ((first ≤ net) × (net < first + count))
row_apart first zero before net is = inl is
row_apart first (suc count) before net (inl is) = inr (omega (arith, is), omega (arith, is))
row_apart first (suc count) before net (inr is) = more (row_apart (suc first) count before net is)
  where
    more : IsIn before net ⊎ ((suc first ≤ net) × (net < suc first + count)) → IsIn before net ⊎ ((first ≤ net) × (net < first + suc count))
    more (inl b) = inl b
    more (inr r) = let a = r.0 in let b = r.1 in inr (omega (arith, a), omega (arith, b))

copy_stands : (M : NetlistView) → IsWellFormed M → (net : ℕ) (rest : List ℕ) → IsCopy M net → StandsLow M rest net
copy_stands M formed net rest copy i cell d gate place read operand =
    let same : copy.cell ≡ cell = one_cell M formed.one_driver copy.number i copy.cell cell net copy.drives d in
    inl (held_is_base M read formed (copy.reads place read (ap (λ (c : CellView). slice_get c.feeds place) same ∙ operand)))

copies_low : (M : NetlistView) → IsWellFormed M → (opcode count : ℕ) → ((k : ℕ) → k < count → IsCopy M (opcode + k)) → AreLow M (row_lows opcode count [])
copies_low M formed opcode zero copies = tt
copies_low M formed opcode (suc count) copies =
    let e : opcode + 0 ≡ opcode = omega arith in
    let this : IsCopy M opcode = subst (IsCopy M) e (copies 0 (omega arith)) in (
      copy_stands M formed opcode (row_lows (suc opcode) count []) this,
      copies_low M formed (suc opcode) count (λ k low. (let f : opcode + suc k ≡ suc opcode + k = omega arith in subst (IsCopy M) f (copies (suc k) (omega (arith, low))))),
    )

-- The inverses.

inverses_low : (M : NetlistView) → IsWellFormed M → (first number opcode count : ℕ) (before : List ℕ) → HasCells M (inverses_cells first number opcode count)
    → ((k : ℕ) → k < count → IsIn before (opcode + k)) → AreLow M before → AreLow M (row_lows first count before)
inverses_low M formed first number opcode zero before has there are = are
inverses_low M formed first number opcode (suc behind) before has there are =
    let e : opcode + 0 ≡ opcode = omega arith in
    let here : IsIn before opcode = subst (IsIn before) e (there 0 (omega arith)) in
    let stands : StandsLow M (row_lows (suc first) behind before) first = λ i cell d gate place read operand.
    (let feeds = feeds_of M formed _ first has.0 refl i cell d in
    let reads : slice_get (Net (record { 0 = opcode }) ∷ []) place ≡ Some (Net (record { 0 = read })) = ap (λ (fs : List Feed). slice_get fs place) feeds ∙ operand in
    inr (in_row (suc first) behind before read (subst (IsIn before) (only_net opcode place read reads) here))) in (
      stands,
      inverses_low M formed (suc first) (suc number) (suc opcode) behind before has.1
          (λ k low. (let f : opcode + suc k ≡ suc opcode + k = omega arith in subst (IsIn before) f (there (suc k) (omega (arith, low)))))
          are,
    )

-- What tells an opcode.

abbrev chain_lows : ℕ → List Feed → List ℕ → List ℕ
chain_lows first [] before = before
chain_lows first (w ∷ rest) before = (first + length rest) ∷ chain_lows first rest before

in_chain : (first : ℕ) (wanted : List Feed) (before : List ℕ) (net : ℕ) → IsIn before net → IsIn (chain_lows first wanted before) net
in_chain first [] before net is = is
in_chain first (w ∷ rest) before net is = inr (in_chain first rest before net is)

chain_apart : (first : ℕ) (wanted : List Feed) (before : List ℕ) (net : ℕ) → IsIn (chain_lows first wanted before) net → IsIn before net ⊎ (first ≤ net)
chain_apart first [] before net is = inl is
chain_apart first (w ∷ rest) before net (inl is) = inr (omega (arith, is))
chain_apart first (w ∷ rest) before net (inr is) = chain_apart first rest before net is

literal_in : (opcode inverse : ℕ) (b : Bool) (before : List ℕ) (read : ℕ) → IsIn before opcode → IsIn before inverse → ◌≡◌ {A = Option Feed} (Some (literal b opcode inverse)) (Some (Net (record { 0 = read })))
    → IsIn before read
literal_in opcode inverse true before read a b e = subst (IsIn before) (same_net opcode read e) a
literal_in opcode inverse false before read a b e = subst (IsIn before) (same_net inverse read e) b

told_in : (first : ℕ) (rest : List Feed) (before : List ℕ) (read : ℕ) → ◌≡◌ {A = Option Feed} (Some (told_feed first rest)) (Some (Net (record { 0 = read }))) → IsIn (chain_lows first rest before) read
told_in first [] before read e = absurd (let no : ◌≡◌ {A = Option Feed} (Some (Const true)) (Some (Net (record { 0 = read }))) = e in cc)
told_in first (w ∷ rest) before read e = inl (sym (same_net (first + length rest) read e))

both_in : (first opcode inverse : ℕ) (b : Bool) (rest : List Feed) (before : List ℕ) → IsIn before opcode → IsIn before inverse → (place read : ℕ)
    → slice_get (literal b opcode inverse ∷ told_feed first rest ∷ []) place ≡ Some (Net (record { 0 = read })) → IsIn (chain_lows first rest before) read
both_in first opcode inverse b rest before x y zero read e = in_chain first rest before read (literal_in opcode inverse b before read x y e)
both_in first opcode inverse b rest before x y (suc zero) read e = told_in first rest before read e
both_in first opcode inverse b rest before x y (suc (suc place)) read e = absurd (let no : ◌≡◌ {A = Option Feed} None (Some (Net (record { 0 = read }))) = e in cc)

opcode_low : ContainedParts → (M : NetlistView) → IsWellFormed M → (first number opcode inverses : ℕ) (wanted : List Feed) (before : List ℕ) → HasCells M (opcode_cells first number opcode inverses wanted)
    → ((k : ℕ) → k < length wanted → IsIn before (opcode + k)) → ((k : ℕ) → k < length wanted → IsIn before (inverses + k)) → AreLow M before → AreLow M (chain_lows first wanted before)
opcode_low parts M formed first number opcode inverses [] before has a b are = are
opcode_low parts M formed first number opcode inverses (w ∷ rest) before has a b are =
    let given : List Feed = literal (is_one w) opcode inverses ∷ told_feed first rest ∷ [] in
    let apart = (parts M (opcode_cells first number (suc opcode) (suc inverses) rest) (part_cells BOTH given (first + length rest) (number + length rest))).parts has in
    let e : opcode + 0 ≡ opcode = omega arith in
    let f : inverses + 0 ≡ inverses = omega arith in
    let x : IsIn before opcode = subst (IsIn before) e (a 0 (omega arith)) in
    let y : IsIn before inverses = subst (IsIn before) f (b 0 (omega arith)) in
    let stands : StandsLow M (chain_lows first rest before) (first + length rest) = λ i cell d gate place read operand.
    (let feeds = feeds_of M formed _ (first + length rest) apart.1.0 refl i cell d in
    let reads : slice_get given place ≡ Some (Net (record { 0 = read })) = ap (λ (fs : List Feed). slice_get fs place) feeds ∙ operand in
    inr (both_in first opcode inverses (is_one w) rest before x y place read reads)) in (
      stands,
      opcode_low parts M formed first number (suc opcode) (suc inverses) rest before apart.0
          (λ k low. (let g : opcode + suc k ≡ suc opcode + k = omega arith in subst (IsIn before) g (a (suc k) (omega (arith, low)))))
          (λ k low. (let g : inverses + suc k ≡ suc inverses + k = omega arith in subst (IsIn before) g (b (suc k) (omega (arith, low)))))
          are,
    )

-- The bit nearest TDO.

near_held : ContainedParts → (M : NetlistView) (first number : ℕ) (tap : TapNets) (on tdi : NetId) (nets : List NetId) → 0 < length nets → HasCells M (data_cells first number tap on tdi (net_feeds nets))
    → IsHeld M (data_last first tdi (net_feeds nets)).0
near_held parts M first number tap on tdi [] some has = absurd (omega (arith, some))
near_held parts M first number tap on tdi (net ∷ nets) some has =
    let rest : List Feed = net_feeds nets in
    let by : Steering = selected_steering first tap in
    let f : ℕ = first + 2 + 3 * length rest in
    let n : ℕ = number + 2 + 3 * length rest in
    let front : List CellView = selected_cells first number tap on in
    let before : List CellView = chain_cells (first + 2) (number + 2) by tdi rest in
    let last : List CellView = shift_bit_cells f n by (Net net) (chain_last (first + 2) tdi rest) in
    let chain = (parts M front (before ++ last)).parts has in
    let bit = (parts M before last).parts chain.1 in
    held_of M _ f bit.1.0 refl refl

-- A register, and all.

abbrev registers_lows : ℕ → List FittedRegister → List ℕ → List ℕ
registers_lows first [] before = before
registers_lows first (r ∷ rs) before =
    (shown_at (first + registers_size rs) r).0 ∷ chain_lows (first + registers_size rs) (wanted_feeds r.register.bits) (registers_lows first rs before)

in_registers : (first : ℕ) (rs : List FittedRegister) (before : List ℕ) (net : ℕ) → IsIn before net → IsIn (registers_lows first rs before) net
in_registers first [] before net is = is
in_registers first (r ∷ rs) before net is =
    inr (in_chain (first + registers_size rs) (wanted_feeds r.register.bits) (registers_lows first rs before) net (in_registers first rs before net is))

registers_apart : (first : ℕ) (rs : List FittedRegister) (before : List ℕ) (net : ℕ) → IsIn (registers_lows first rs before) net → IsIn before net ⊎ (first ≤ net)
registers_apart first [] before net is = inl is
registers_apart first (r ∷ rs) before net (inl is) = inr (omega (arith, is))
registers_apart first (r ∷ rs) before net (inr is) = next (chain_apart (first + registers_size rs) (wanted_feeds r.register.bits) (registers_lows first rs before) net is) (λ b. registers_apart first rs before net b)
  where
    next : IsIn (registers_lows first rs before) net ⊎ (first + registers_size rs ≤ net) → (IsIn (registers_lows first rs before) net → IsIn before net ⊎ (first ≤ net)) → IsIn before net ⊎ (first ≤ net)
    next (inl b) more = more b
    next (inr past) more = inr (omega (arith, past))

-- what stands behind a register's multiplexer
behind_low : (M : NetlistView) → IsWellFormed M → (first : ℕ) (bypass : NetId) (rs : List FittedRegister) (before : List ℕ) → IsHeld M bypass.0
    → (is_base M (shown_of first bypass rs).0 ≡ true) ⊎ IsIn (registers_lows first rs before) (shown_of first bypass rs).0
behind_low M formed first bypass [] before held = inl (held_is_base M bypass.0 formed held)
behind_low M formed first bypass (r ∷ rs) before held = inr (inl refl)

on_in : (first : ℕ) (wanted : List Feed) (before : List ℕ) → 0 < length wanted → IsIn (chain_lows first wanted before) (net_in (told_feed first wanted)).0
on_in first [] before some = absurd (omega (arith, some))
on_in first (w ∷ rest) before some = inl refl

shown_reads : (M : NetlistView) (rest : List ℕ) (behind near on : NetId) → (is_base M behind.0 ≡ true) ⊎ IsIn rest behind.0 → is_base M near.0 ≡ true → IsIn rest on.0 → (place read : ℕ)
    → slice_get (shown_given behind near on) place ≡ Some (Net (record { 0 = read })) → (is_base M read ≡ true) ⊎ IsIn rest read
shown_reads M rest behind near on a b c zero read e =
    subst (λ (n : ℕ). (is_base M n ≡ true) ⊎ IsIn rest n) (ap (λ (n : NetId). n.0) (same_id behind (record { 0 = read }) e)) a
shown_reads M rest behind near on a b c (suc zero) read e =
    inl (subst (λ (n : ℕ). is_base M n ≡ true) (ap (λ (n : NetId). n.0) (same_id near (record { 0 = read }) e)) b)
shown_reads M rest behind near on a b c (suc (suc zero)) read e =
    inr (subst (IsIn rest) (ap (λ (n : NetId). n.0) (same_id on (record { 0 = read }) e)) c)
shown_reads M rest behind near on a b c (suc (suc (suc place))) read e = absurd (let no : ◌≡◌ {A = Option Feed} None (Some (Net (record { 0 = read }))) = e in cc)

-- what stands behind a chain, too
lift_in : (M : NetlistView) (first : ℕ) (wanted : List Feed) (before : List ℕ) (net : ℕ) → (is_base M net ≡ true) ⊎ IsIn before net → (is_base M net ≡ true) ⊎ IsIn (chain_lows first wanted before) net
lift_in M first wanted before net (inl base) = inl base
lift_in M first wanted before net (inr is) = inr (in_chain first wanted before net is)

registers_low : ContainedParts → ConstantsAreBits → (M : NetlistView) → IsWellFormed M → (first number : ℕ) (shared : SharedNets) (bypass : NetId) (bits : ℕ) (rs : List FittedRegister) (before : List ℕ)
    → HasCells M (registers_cells first number shared bypass rs) → All (IsProper bits) rs → IsHeld M bypass.0 → ((k : ℕ) → k < bits → IsIn before (shared.opcode.0 + k))
    → ((k : ℕ) → k < bits → IsIn before (shared.inverses.0 + k)) → AreLow M before → AreLow M (registers_lows first rs before)
registers_low parts constants M formed first number shared bypass bits [] before has can held a b are = are
registers_low parts constants M formed first number shared bypass bits (r ∷ rs) before has can held a b are =
    let f : ℕ = first + registers_size rs in
    let k : ℕ = number + registers_size rs in
    let n : ℕ = r.register.bits.len in
    let end : ℕ = n + bits_size r in
    let wanted : List Feed = wanted_feeds r.register.bits in
    let behind : NetId = shown_of first bypass rs in
    let given : List Feed = shown_given behind (near_at f shared r) (on_at f r) in
    let front : List CellView = registers_cells first number shared bypass rs in
    let xs : List CellView = opcode_cells f k shared.opcode.0 shared.inverses.0 wanted in
    let ys : List CellView = data_cells (f + n) (k + n) shared.tap (on_at f r) shared.tdi (net_feeds r.nets) in
    let zs : List CellView = part_cells SHOWN given (f + end) (k + end) in
    let apart = (parts M front ((xs ++ ys) ++ zs)).parts has in
    let inner = (parts M (xs ++ ys) zs).parts apart.1 in
    let both = (parts M xs ys).parts inner.0 in
    let proper : IsProper bits r = All-head (IsProper bits) r rs can in
    let some = proper.some in
    let few = proper.few in
    let count : length wanted ≡ n = (constants n r.register.bits.value).counted in
    let lower : List ℕ = registers_lows first rs before in
    let are' : AreLow M lower = registers_low parts constants M formed first number shared bypass bits rs before apart.0 (All-tail (IsProper bits) r rs can) held a b are in
    let chain : AreLow M (chain_lows f wanted lower) = opcode_low parts M formed f k shared.opcode.0 shared.inverses.0 wanted lower both.0
    (λ j low. in_registers first rs before (shared.opcode.0 + j) (a j (omega (arith, low, count, few))))
    (λ j low. in_registers first rs before (shared.inverses.0 + j) (b j (omega (arith, low, count, few))))
    are' in
    let near : is_base M (near_at f shared r).0 ≡ true
    = held_is_base M (near_at f shared r).0 formed (near_held parts M (f + n) (k + n) shared.tap (on_at f r) shared.tdi r.nets proper.wired both.1) in
    let on : IsIn (chain_lows f wanted lower) (on_at f r).0 = on_in f wanted lower (omega (arith, some, count)) in
    let under = lift_in M f wanted lower behind.0 (behind_low M formed first bypass rs before held) in
    let stands : StandsLow M (chain_lows f wanted lower) (f + end) = λ i cell d gate place read operand.
    (let feeds = feeds_of M formed _ (f + end) inner.1.0 refl i cell d in
    let reads : slice_get given place ≡ Some (Net (record { 0 = read })) = ap (λ (fs : List Feed). slice_get fs place) feeds ∙ operand in
    shown_reads M (chain_lows f wanted lower) behind (near_at f shared r) (on_at f r) under near on place read reads) in
    (stands, chain)

-- what is shown stands among them
shown_in : (first : ℕ) (bypass : NetId) (rs : List FittedRegister) (before : List ℕ) → 0 < length rs → IsIn (registers_lows first rs before) (shown_of first bypass rs).0
shown_in first bypass [] before some = absurd (omega (arith, some))
shown_in first bypass (r ∷ rs) before some = inl refl

-- The whole.

-- the copies, the inverses, what the registers show and what tells their opcodes
abbrev copied : ℕ → ℕ → List ℕ
copied opcode bits = row_lows opcode bits []

abbrev inverted : ℕ → ℕ → ℕ → List ℕ
inverted first opcode bits = row_lows first bits (copied opcode bits)

abbrev lows_of : ℕ → ℕ → ℕ → List FittedRegister → List ℕ
lows_of first opcode bits rs = registers_lows (first + bits) rs (inverted first opcode bits)

by_copies : (opcode bits net : ℕ) → opcode + bits ≤ net → IsIn [] net ⊎ ((opcode ≤ net) × (net < opcode + bits)) → ⊥
by_copies opcode bits net past (inl none) = none
by_copies opcode bits net past (inr at) = let b = at.1 in omega (arith, past, b)

by_inverses : (first opcode bits net : ℕ) → opcode + bits ≤ net → net < first → IsIn (copied opcode bits) net ⊎ ((first ≤ net) × (net < first + bits)) → ⊥
by_inverses first opcode bits net past low (inl at) = by_copies opcode bits net past (row_apart opcode bits [] net at)
by_inverses first opcode bits net past low (inr at) = let b = at.0 in omega (arith, low, b)

by_registers : (first opcode bits net : ℕ) → opcode + bits ≤ net → net < first → IsIn (inverted first opcode bits) net ⊎ (first + bits ≤ net) → ⊥
by_registers first opcode bits net past low (inl at) = by_inverses first opcode bits net past low (row_apart first bits (copied opcode bits) net at)
by_registers first opcode bits net past low (inr at) = omega (arith, low, at)

pub shown_formed : ContainedParts → ConstantsAreBits → ReconnectedToLow → ShownIsFormed
shown_formed parts constants to_low old new number first start shared bypass bits rs formed has inverses some can copies held r reads readable own =
    let opcode : ℕ = shared.opcode.0 in
    let apart = (parts old (inverses_cells first start opcode bits) (registers_cells (first + bits) (start + bits) shared bypass rs)).parts has in
    let low_0 : AreLow old (copied opcode bits) = copies_low old formed opcode bits copies in
    let there : (k : ℕ) → k < bits → IsIn (copied opcode bits) (opcode + k) = λ k low. row_at opcode bits [] k low in
    let low_1 : AreLow old (inverted first opcode bits) = inverses_low old formed first start opcode bits (copied opcode bits) apart.0 there low_0 in
    let a : (k : ℕ) → k < bits → IsIn (inverted first opcode bits) (opcode + k) = λ k low. in_row first bits (copied opcode bits) (opcode + k) (there k low) in
    let b : (k : ℕ) → k < bits → IsIn (inverted first opcode bits) (shared.inverses.0 + k)
    = λ k low. subst (λ (n : ℕ). IsIn (inverted first opcode bits) (n + k)) (sym inverses) (row_at first bits (copied opcode bits) k low) in
    let are : AreLow old (lows_of first opcode bits rs)
    = registers_low parts constants old formed (first + bits) (start + bits) shared bypass bits rs (inverted first opcode bits) apart.1 can held a b low_1 in
    let to : ℕ = (shown_of (first + bits) bypass rs).0 in
    let place = low_there (lows_of first opcode bits rs) to (shown_in (first + bits) bypass rs (inverted first opcode bits) some) in
    to_low old new number to place.0 (is_base old) (low_in (lows_of first opcode bits rs)) (length (lows_of first opcode bits rs)) formed r reads readable
    (has_low old (lows_of first opcode bits rs) formed are) place.1
    (λ net out. low_none (lows_of first opcode bits rs) net
    (λ is. by_registers first opcode bits net (own net out).0 (own net out).1 (registers_apart (first + bits) rs (inverted first opcode bits) net is)))
