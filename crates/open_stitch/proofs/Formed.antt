-- The netlist with the buffer is well formed.
use Rattle.std.proofs.Common.{◌≡◌, ◌≢◌, ℕ, zero, suc, ◌+◌, ◌<◌, ◌==◌, ◌⊎◌, inl, inr, Bool, true, false, List, [], ◌∷◌, ◌++◌, length, Option, Some, None, refl, ap, sym, ◌∙◌, subst, arith, eqb-true, eq-eqb}
use Rattle.std.specs.Prelude.{slice_get, slice_set}
use Rattle.std.proofs.lemmas.List.Elements.{All-nil, All-cons}
use Rattle.std.proofs.lemmas.Option.{slice_get_within}
use Rattle.cell_library.specs.declared.Kind.TheVariants.{Buf}
use Rattle.cell_library.specs.declared.FlopKind.{FlopKind}
use Rattle.cell_library.specs.declared.listed.ListedCell.{ListedCell}
use Rattle.cell_library.specs.Gates.{is_three_state, is_flop}
use Rattle.netlist_model.specs.declared.NetId.{NetId}
use Rattle.netlist_model.specs.declared.Feed.{Feed}
use Rattle.netlist_model.specs.declared.Feed.TheVariants.{Net, Const}
use Rattle.netlist_model.specs.Lists.{CellView, NetlistView, cell_at, cell_count, Drives}
use Rattle.netlist_model.specs.Below.{IsFeedBelow}
use Rattle.netlist_model.specs.Formed.{IsWellFormed}
use Rattle.netlist_model.specs.LawsContained.{ContainedParts}
use Rattle.netlist_arena.specs.Arena.{ArenaView}
use Rattle.gate_parts.specs.declared.Gate.{Gate}
use Rattle.gate_parts.specs.Laws.{FlopOn}
use Rattle.gate_parts.specs.declared.Pin.TheVariants.{Given}
use Rattle.gate_parts.specs.declared.Pins.TheVariants.{One}
use Rattle.gate_parts.specs.Parts.{is_flop_kind}
use Rattle.gate_parts.specs.PartLaws.{ContainedPartHasFlops}
use Rattle.netlist_link.specs.Grown.{GrownIsFormed}
use Rattle.netlist_link.specs.Readable.{CanBeRead}
use Rattle.netlist_link.specs.DraftLawsTables.{IsPartTable, IsControl, CanBeGiven, PartIsFormed, PartIsReadable}
use Rattle.register_gates.specs.declared.bits.TheConstants.{SHIFT_BIT}
use Rattle.register_gates.specs.Bits.{shift_bit_given, shift_bit_cells}
use Rattle.register_gates.specs.Registers.{selected_cells, selected_steering}
use Rattle.plan_fitting.specs.declared.fitted.Fitted.{Fitted}
use Rattle.status_build.specs.ReconnectedLaws.{Reconnects, ReadsFlop, HasLowNets, ReconnectedToLow}
use Rattle.stitched_netlist.specs.declared.model.TapNames.{TapNames}
use Rattle.stitched_netlist.specs.ModelRows.{nets_of_rows}
use Rattle.stitched_netlist.specs.ModelLogic.{bypass_from, logic_size, code_size, tap_at, instruction_at, bypass_at}
use Rattle.stitched_netlist.specs.Stitched.{boundary_at, first_net, test_logic_nets, stitched_cells, stitched}
use Rattle.stitched_netlist.specs.PlacesLaws.{port_of, bypass_number}
use Rattle.stitched_netlist.specs.Places.{StitchedHoldsParts}
use Rattle.scan_stitch.proofs.Known.{same_is_formed}
use Rattle.open_stitch.proofs.Connected.{choice_at}
use Rattle.open_stitch.specs.declared.TheConstants.{THROUGH}
use Rattle.open_stitch.specs.Open.{through_cell}
use Rattle.open_stitch.proofs.Places.{Steps, net_number, listed, buffer_at, choice_there, other_at, shown_at}

pub record FormedLaws : Type 0 where
  pub grown : GrownIsFormed
  pub part_formed : PartIsFormed
  pub part_readable : PartIsReadable
  pub holds : StitchedHoldsParts
  pub contained : ContainedParts
  pub flops : ContainedPartHasFlops
  pub low : ReconnectedToLow

-- The flip-flop of the bypass bit.

record FlopOf (M : NetlistView) (net : ℕ) : Type 0 where
  number : ℕ
  cell : CellView
  is : is_flop M.library cell.kind ≡ true
  steady : is_three_state cell.kind ≡ false
  drives : Drives M number cell net

flop_of_on : (M : NetlistView) (net : ℕ) (kind : FlopKind) (feeds : List Feed) → FlopOn M kind feeds net → FlopOf M net
flop_of_on M net kind feeds on =
    let named : CellView = record on.cell { name = on.has.name } in
    record {
      number = on.has.number;
      cell = named;
      is = ap (is_flop M.library) on.kind_is;
      steady = ap is_three_state on.kind_is;
      drives = record { live = on.has.live; output = on.output };
    }

stitched_flop : FormedLaws → (N : NetlistView) (names : TapNames) (f : Fitted) → IsWellFormed (stitched N names f) → FlopOf (stitched N names f) (bypass_at (first_net N f) f).0
stitched_flop laws N names f formed =
    let S : NetlistView = stitched N names f in
    let first : ℕ = first_net N f + bypass_from f in
    let number : ℕ = bypass_number N f in
    let tap = tap_at (first_net N f) (port_of N) in
    let on : NetId = (instruction_at (first_net N f) (port_of N) f).bypass_on in
    let steering = selected_steering first tap in
    let given : List Feed = shift_bit_given steering (Const false) (port_of N).tdi in
    let parts = (laws.contained S (selected_cells first number tap on) (shift_bit_cells (first + 2) (number + 2) steering (Const false) (port_of N).tdi)).parts (laws.holds N names f).bypass in
    let flop = laws.flops S SHIFT_BIT given (first + 2) (number + 2) formed parts.1 0 _ _ refl refl in
    let e : first + 2 + 0 ≡ first + 2 = omega arith in
    subst (FlopOf S) e (flop_of_on S (first + 2 + 0) _ _ flop)

flop_there : (M M' : NetlistView) (net : ℕ) → M'.library ≡ M.library → ((i : ℕ) (cell : CellView) → cell_at M i ≡ Some cell → cell_at M' i ≡ Some cell) → FlopOf M net → FlopOf M' net
flop_there M M' net library kept flop = record {
  number = flop.number;
  cell = flop.cell;
  is = ap (λ (l : List ListedCell). is_flop l flop.cell.kind) library ∙ flop.is;
  steady = flop.steady;
  drives = record { live = kept flop.number flop.cell flop.drives.live; output = flop.drives.output };
}

-- The nets.

bypass_below : (N : NetlistView) (names : TapNames) (f : Fitted) (A B : ArenaView) (C : NetlistView) (gate : ℕ) → Steps N names f A B C gate
    → (bypass_at (first_net N f) f).0 < length A.lists.nets
bypass_below N names f A B C gate s =
    let size : logic_size f ≡ bypass_from f + 5 + code_size f.usercode f.idcode = refl in
    let nets : test_logic_nets (boundary_at N f) f ≡ logic_size f + nets_of_rows (boundary_at N f).ports (boundary_at N f).rows + 6 = refl in
    let many = net_number N names f A B C gate s in
    let at : (bypass_at (first_net N f) f).0 ≡ first_net N f + bypass_from f + 2 = refl in
    omega (arith, size, nets, many, at)

-- the gate's own net stands before the buffer's
abbrev choice_net : NetlistView → Fitted → ℕ
choice_net N f = suc (suc (suc (suc (first_net N f + logic_size f + nets_of_rows (boundary_at N f).ports (boundary_at N f).rows))))

choice_apart : (N : NetlistView) (names : TapNames) (f : Fitted) (A B : ArenaView) (C : NetlistView) (gate : ℕ) → Steps N names f A B C gate → choice_net N f ≢ length A.lists.nets
choice_apart N names f A B C gate s e =
    let nets : test_logic_nets (boundary_at N f) f ≡ logic_size f + nets_of_rows (boundary_at N f).ports (boundary_at N f).rows + 6 = refl in
    let is : choice_net N f ≡ suc (suc (suc (suc (first_net N f + logic_size f + nets_of_rows (boundary_at N f).ports (boundary_at N f).rows)))) = refl in
    let many = net_number N names f A B C gate s in
    omega (arith, nets, many, is, e)

-- One driver.

same_id : (a b : NetId) → ◌≡◌ {A = Option NetId} (Some a) (Some b) → a ≡ b
same_id a b e = cc

same_cell : (a b : CellView) → ◌≡◌ {A = Option CellView} (Some a) (Some b) → a ≡ b
same_cell a b e = cc

one_cell : (M : NetlistView) → ((i j : ℕ) (cell other : CellView) (net : ℕ) → Drives M i cell net → Drives M j other net → i ≡ j)
    → (i j : ℕ) (cell other : CellView) (net : ℕ) → Drives M i cell net → Drives M j other net → cell ≡ other
one_cell M once i j cell other net a b =
    same_cell cell other (sym a.live ∙ ap (cell_at M) (once i j cell other net a b) ∙ b.live)

differ : (x : Bool) → x ≡ true → x ≡ false → ⊥
differ x a b = absurd (let no : true ≡ false = sym a ∙ b in cc)

flop_readable : (M : NetlistView) (net : ℕ) → IsWellFormed M → FlopOf M net → CanBeRead M net
flop_readable M net formed flop = record {
  driven = λ none. record { number = flop.number; cell = flop.cell; drives = flop.drives };
  steady = λ i cell drives three.
      absurd (differ (is_three_state cell.kind) three
      (ap (λ (c : CellView). is_three_state c.kind) (one_cell M formed.one_driver i flop.number cell flop.cell net drives flop.drives) ∙ flop.steady));
}

-- What the buffer is handed.

same_net : (a b : NetId) → ◌≡◌ {A = Option Feed} (Some (Net a)) (Some (Net b)) → a ≡ b
same_net a b e = cc

only_net : (a : NetId) (k net : ℕ) → slice_get (Net a ∷ []) k ≡ Some (Net (record { 0 = net })) → a.0 ≡ net
only_net a zero net e = ap (λ (n : NetId). n.0) (same_net a (record { 0 = net }) e)
only_net a (suc k) net e = absurd (let no : ◌≡◌ {A = Option Feed} None (Some (Net (record { 0 = net }))) = e in cc)

abbrev buffer : Gate
buffer = record { kind = Buf; pins = One (Given 0) }

same_gate : (a b : Gate) → ◌≡◌ {A = Option Gate} (Some a) (Some b) → a ≡ b
same_gate a b e = cc

no_control : (k : ℕ) → IsControl THROUGH k → ⊥
no_control k c = by_place c.place c.gate c.at c.flop
  where
    by_place : (place : ℕ) (gate : Gate) → slice_get THROUGH place ≡ Some gate → is_flop_kind gate.kind ≡ true → ⊥
    by_place zero gate at flop =
        let same = same_gate buffer gate at in
        absurd (let no : true ≡ false = sym flop ∙ ap (λ (g : Gate). is_flop_kind g.kind) (sym same) in cc)
    by_place (suc place) gate at flop = absurd (let no : ◌≡◌ {A = Option Gate} None (Some gate) = at in cc)

through_given : (M : NetlistView) (net : NetId) → net.0 < length M.nets → CanBeRead M net.0 → CanBeGiven M THROUGH (Net net ∷ [])
through_given M net below readable = record {
  below = All-cons (IsFeedBelow (length M.nets)) (Net net) [] below (All-nil (IsFeedBelow (length M.nets)));
  read = λ k other e. subst (CanBeRead M) (only_net net k other e) readable;
  control = λ k other is e. absurd (no_control k is);
}

through_table : IsPartTable THROUGH (1 ∷ []) 1
through_table = record { sound = refl; leveled = refl; plain = refl; controls = refl }

-- The netlist with the buffer, before TDO's gate reads it.

-- each cell of A is one of B
kept : (N : NetlistView) (names : TapNames) (f : Fitted) (A B : ArenaView) (C : NetlistView) (gate : ℕ) → Steps N names f A B C gate
    → (i : ℕ) (cell : CellView) → cell_at A.lists i ≡ Some cell → cell_at B.lists i ≡ Some cell
kept N names f A B C gate s i cell live =
    let within = slice_get_within (stitched_cells N f) i cell (sym (listed N names f A B C gate s i) ∙ live) in
    let count = s.count in
    let low : i < cell_count A.lists = omega (arith, within, count) in
    s.added.kept i low ∙ live

-- what is so of A and B
record Whole (N : NetlistView) (f : Fitted) (A B : ArenaView) : Type 0 where
  formed : IsWellFormed B.lists
  flop : FlopOf B.lists (bypass_at (first_net N f) f).0
  readable : CanBeRead B.lists (length A.lists.nets)

whole_is : FormedLaws → (N : NetlistView) (names : TapNames) (f : Fitted) (A B : ArenaView) (C : NetlistView) (gate : ℕ) → Steps N names f A B C gate → IsWellFormed (stitched N names f)
    → Whole N f A B
whole_is laws N names f A B C gate s formed =
    let S : NetlistView = stitched N names f in
    let bypass : NetId = bypass_at (first_net N f) f in
    let formed_a = same_is_formed laws.grown A.lists S s.same formed in
    let flop_s = stitched_flop laws N names f formed in
    let flop_a = flop_there S A.lists bypass.0 s.same.library (λ i cell live. s.same.cells i ∙ live) flop_s in
    let flop_b = flop_there A.lists B.lists bypass.0 s.added.library (kept N names f A B C gate s) flop_a in
    let given = through_given A.lists bypass (bypass_below N names f A B C gate s) (flop_readable A.lists bypass.0 formed_a flop_a) in
    let one : length THROUGH ≡ 1 = refl in
    let at = laws.part_readable A B THROUGH (1 ∷ []) (Net bypass ∷ []) s.laid formed_a s.once s.added through_table given 0 (omega (arith, one)) in
    let e : length A.lists.nets + 0 ≡ length A.lists.nets = omega arith in
    record {
      formed = laws.part_formed A B THROUGH (1 ∷ []) (Net bypass ∷ []) s.laid formed_a s.once s.added through_table given;
      flop = flop_b;
      readable = subst (CanBeRead B.lists) e at;
    }

-- TDO's gate reads the buffer.

each_operand : (N : NetlistView) (f : Fitted) (A : ArenaView) (place net : ℕ)
    → slice_get (slice_set (choice_at N f).feeds 1 (Net (record { 0 = length A.lists.nets }))) place ≡ Some (Net (record { 0 = net }))
    → (slice_get (choice_at N f).feeds place ≡ Some (Net (record { 0 = net }))) ⊎ (net ≡ length A.lists.nets)
each_operand N f A zero net e = inl e
each_operand N f A (suc zero) net e = inr (sym (only_net (record { 0 = length A.lists.nets }) 0 net e))
each_operand N f A (suc (suc place)) net e = inl e

reads_flop : (N : NetlistView) (names : TapNames) (f : Fitted) (A B : ArenaView) (C : NetlistView) (gate : ℕ) (s : Steps N names f A B C gate) → Whole N f A B
    → ReadsFlop B.lists (choice_at N f)
reads_flop N names f A B C gate s w = record {
  place = 1;
  source = (bypass_at (first_net N f) f).0;
  reads = refl;
  number = w.flop.number;
  flop = w.flop.cell;
  is = w.flop.is;
  drives = w.flop.drives;
}

-- The order of the nets: the bypass bit first, then the buffer's net.

abbrev low_if : Bool → Option ℕ
low_if true = Some 0
low_if false = None

abbrev low_at : ℕ → ℕ → Option ℕ
low_at to net = low_if (net == to)

zero_inside : (k : ℕ) → ◌≡◌ {A = Option ℕ} (Some 0) (Some k) → k ≡ 0
zero_inside k e = cc

low_is : (to net k : ℕ) → low_at to net ≡ Some k → (net ≡ to) × (k ≡ 0)
low_is to net k e = by (net == to) refl
  where
    by : (b : Bool) → (net == to) ≡ b → (net ≡ to) × (k ≡ 0)
    by true is = (eqb-true net to is, zero_inside k (ap low_if (sym is) ∙ e))
    by false is = absurd (let no : ◌≡◌ {A = Option ℕ} None (Some k) = ap low_if (sym is) ∙ e in cc)

low_here : (to : ℕ) → low_at to to ≡ Some 0
low_here to = ap low_if (eq-eqb to to refl)

low_none : (to net : ℕ) → net ≢ to → low_at to net ≡ None
low_none to net apart = by (net == to) refl
  where
    by : (b : Bool) → (net == to) ≡ b → low_at to net ≡ None
    by true is = absurd (apart (eqb-true net to is))
    by false is = ap low_if is

false_unless : (x : Bool) → (x ≡ true → ⊥) → x ≡ false
false_unless true never = absurd (never refl)
false_unless false never = refl

buffer_drives : (N : NetlistView) (names : TapNames) (f : Fitted) (A B : ArenaView) (C : NetlistView) (gate : ℕ) → Steps N names f A B C gate
    → Drives B.lists (cell_count A.lists + 0) (through_cell N f (Net (bypass_at (first_net N f) f))) (length A.lists.nets)
buffer_drives N names f A B C gate s = record {
  live = buffer_at N names f A B C gate s 0;
  output = ap (λ (n : ℕ). Some (let id : NetId = record { 0 = n } in id)) (sym (net_number N names f A B C gate s));
}

has_low : (N : NetlistView) (names : TapNames) (f : Fitted) (A B : ArenaView) (C : NetlistView) (gate : ℕ) → Steps N names f A B C gate → Whole N f A B
    → HasLowNets B.lists (λ (net : ℕ). net == (bypass_at (first_net N f) f).0) (low_at (length A.lists.nets)) 1
has_low N names f A B C gate s w = record {
  base_free = λ i cell net drives gate_is. false_unless (net == bypass.0) (λ is.
      let there : Drives B.lists i cell bypass.0 = subst (λ (n : ℕ). Drives B.lists i cell n) (eqb-true net bypass.0 is) drives in
      differ (is_flop B.lists.library cell.kind)
      (ap (λ (c : CellView). is_flop B.lists.library c.kind) (one_cell B.lists s.once i w.flop.number cell w.flop.cell bypass.0 there w.flop.drives) ∙ w.flop.is) gate_is);
  bounded = λ net k e. let zero_is = (low_is (length A.lists.nets) net k e).1 in omega (arith, zero_is);
  gates = λ i cell net k drives gate_is e place read operand.
      let there : Drives B.lists i cell (length A.lists.nets) = subst (λ (n : ℕ). Drives B.lists i cell n) (low_is (length A.lists.nets) net k e).0 drives in
      let same = one_cell B.lists s.once i (cell_count A.lists + 0) cell (through_cell N f (Net bypass)) (length A.lists.nets) there (buffer_drives N names f A B C gate s) in
      let reads : slice_get (Net bypass ∷ []) place ≡ Some (Net (record { 0 = read })) = ap (λ (c : CellView). slice_get c.feeds place) (sym same) ∙ operand in
      inl (eq-eqb read bypass.0 (sym (only_net bypass place read reads)));
}
  where
    bypass : NetId
    bypass = bypass_at (first_net N f) f

pub opened_formed : FormedLaws → (N : NetlistView) (names : TapNames) (f : Fitted) (A B : ArenaView) (C : NetlistView) (gate : ℕ) → Steps N names f A B C gate → IsWellFormed (stitched N names f)
    → IsWellFormed C
opened_formed laws N names f A B C gate s formed =
    let w = whole_is laws N names f A B C gate s formed in
    let to : ℕ = length A.lists.nets in
    let r : Reconnects B.lists C gate to = record {
      library = ap (λ (L : NetlistView). L.library) s.is;
      ports = ap (λ (L : NetlistView). L.ports) s.is;
      cell = choice_at N f;
      live = choice_there N names f A B C gate s;
      gate = refl;
      feeds = slice_set (choice_at N f).feeds 1 (Net (record { 0 = length A.lists.nets }));
      long = refl;
      each = each_operand N f A;
      changed = shown_at N names f A B C gate s;
      others = other_at N names f A B C gate s;
    } in
    laws.low B.lists C gate to 0 (λ (net : ℕ). net == (bypass_at (first_net N f) f).0) (low_at to) 1 w.formed
    r (reads_flop N names f A B C gate s w) (record { driven = w.readable.driven; steady = w.readable.steady })
    (has_low N names f A B C gate s w) (low_here to)
    (λ net output. low_none to net (λ e. choice_apart N names f A B C gate s (own_net net output ∙ e)))
  where
    own_net : (net : ℕ) → (choice_at N f).output ≡ Some (record { 0 = net }) → choice_net N f ≡ net
    own_net net output = ap (λ (n : NetId). n.0) (same_id (record { 0 = choice_net N f }) (record { 0 = net }) output)
