-- What a cell keeps and gives hangs on the nets on which it waits, and on those before the event.
use Rattle.std.proofs.Common.{◌≡◌, ◌≢◌, ◌⊎◌, ℕ, ◌<◌, ◌≤◌, false, true, List, Option, Some, None, refl, sym, ap, ◌∙◌, inl, inr, arith}
use Rattle.std.specs.Prelude.{slice_get}
use Rattle.signal_values.specs.declared.Sig.{Sig}
use Rattle.signal_values.specs.declared.Sig.TheVariants.{Zero, One, Unknown}
use Rattle.signal_values.specs.declared.PinSig.{PinSig}
use Rattle.signal_values.specs.Values.{see, join}
use Rattle.cell_library.specs.declared.Kind.{Kind}
use Rattle.cell_library.specs.declared.Kind.TheVariants.{Bufif0, Bufif1}
use Rattle.cell_library.specs.declared.listed.ListedCell.{ListedCell}
use Rattle.cell_library.specs.declared.FlopKind.{FlopKind}
use Rattle.cell_library.specs.Gates.{flop_of, is_flop, is_three_state}
use Rattle.netlist_model.specs.declared.NetId.{NetId}
use Rattle.netlist_model.specs.declared.Dir.{Dir}
use Rattle.netlist_model.specs.declared.Dir.TheVariants.{Input, Output, Inout}
use Rattle.netlist_model.specs.declared.Feed.TheVariants.{Net}
use Rattle.netlist_model.specs.Lists.{CellView, NetlistView, cell_at, Drives}
use Rattle.netlist_model.specs.Settled.{feed_values, cell_drive}
use Rattle.netlist_model.proofs.KindLaws.{flop_or_gate, three_state_gate, cell_value-flop}
use Rattle.netlist_model.specs.LawsRuns.{kind_next, next_if}
use Rattle.netlist_model.proofs.Search.{output_or_not}
use Rattle.netlist_model.proofs.Once.{feed_values_same}
use Rattle.netlist_model.proofs.Flops.{operand_same, flop_next-after}
use Rattle.netlist_settling.specs.Passes.{driven_value}
use Rattle.event_laws.specs.Turns.{WaitsOn, AreTurns}

-- two values are one or differ
pub sig_cases : (a b : Sig) → (a ≡ b) ⊎ (a ≢ b)
sig_cases Zero Zero = inl refl
sig_cases Zero One = inr (λ e. cc)
sig_cases Zero Unknown = inr (λ e. cc)
sig_cases One Zero = inr (λ e. cc)
sig_cases One One = inl refl
sig_cases One Unknown = inr (λ e. cc)
sig_cases Unknown Zero = inr (λ e. cc)
sig_cases Unknown One = inr (λ e. cc)
sig_cases Unknown Unknown = inl refl

-- the nets on which a cell waits have the same values
abbrev pub SameWaited : NetlistView → ℕ → (ℕ → Sig) → (ℕ → Sig) → Type 0
SameWaited N number v v' = (net : ℕ) → WaitsOn N number net → v net ≡ v' net

gate_inputs : (N : NetlistView) (number : ℕ) (cell : CellView) (v v' : ℕ → Sig) → cell_at N number ≡ Some cell → is_flop N.library cell.kind ≡ false → SameWaited N number v v'
    → feed_values v cell.feeds ≡ feed_values v' cell.feeds
gate_inputs N number cell v v' live gate same =
    feed_values_same v v' cell.feeds (λ k net at. same net (record { cell = cell; place = k; reads = record { live = live; operand = at }; trigger = inl gate }))

flop_input : (N : NetlistView) (number : ℕ) (cell : CellView) (v v' : ℕ → Sig) (k : ℕ) → cell_at N number ≡ Some cell → (k ≡ 1) ⊎ (k ≡ 2) → SameWaited N number v v'
    → (net : ℕ) → slice_get cell.feeds k ≡ Some (Net (record { 0 = net })) → v net ≡ v' net
flop_input N number cell v v' k live late same net at =
    same net (record { cell = cell; place = k; reads = record { live = live; operand = at }; trigger = inr late })

pub next_same : (N : NetlistView) (number : ℕ) (cell : CellView) (before : List Sig) (v v' : ℕ → Sig) (old : Sig) → cell_at N number ≡ Some cell → SameWaited N number v v'
    → kind_next N.library cell.kind before (feed_values v cell.feeds) old ≡ kind_next N.library cell.kind before (feed_values v' cell.feeds) old
next_same N number cell before v v' old live same =
    elim (flop_or_gate N.library cell.kind) [
      | inl flop ↦ (let clock = operand_same v v' cell.feeds 1 (flop_input N number cell v v' 1 live (inl refl) same) in
          let reset = operand_same v v' cell.feeds 2 (flop_input N number cell v v' 2 live (inr refl) same) in
          ap (λ (o : Option FlopKind). next_if o before (feed_values v cell.feeds) old) flop.1
          ∙ flop_next-after flop.0 before before (feed_values v cell.feeds) (feed_values v' cell.feeds) old old refl clock reset refl
          ∙ ap (λ (o : Option FlopKind). next_if o before (feed_values v' cell.feeds) old) (sym flop.1))
      | inr gate ↦ ap (λ (xs : List Sig). kind_next N.library cell.kind before xs old) (gate_inputs N number cell v v' live gate same)
    ]

flop_drive : (library : List ListedCell) (kind : Kind) (flop : FlopKind) (xs ys : List Sig) (value : Sig) → flop_of library kind ≡ Some flop → cell_drive kind xs value ≡ cell_drive kind ys value
flop_drive library Bufif0 flop xs ys value is = absurd (let e : None ≡ Some flop = is in cc)
flop_drive library Bufif1 flop xs ys value is = absurd (let e : None ≡ Some flop = is in cc)
flop_drive library kind flop xs ys value is = refl

-- a flip-flop gives what it keeps, whatever its operands are
driven_flop : (library : List ListedCell) (dir : Option Dir) (kind : Kind) (flop : FlopKind) (xs ys : List Sig) (kept : Sig) (outside : PinSig) → flop_of library kind ≡ Some flop
    → driven_value library dir kind xs kept outside ≡ driven_value library dir kind ys kept outside
driven_flop library (Some Input) kind flop xs ys kept outside is = refl
driven_flop library (Some Inout) kind flop xs ys kept outside is = ap (λ (p : PinSig). see (join p outside)) (flop_drive library kind flop xs ys Unknown is)
driven_flop library (Some Output) kind flop xs ys kept outside is = cell_value-flop library kind flop xs kept is ∙ sym (cell_value-flop library kind flop ys kept is)
driven_flop library None kind flop xs ys kept outside is = cell_value-flop library kind flop xs kept is ∙ sym (cell_value-flop library kind flop ys kept is)

pub driven_same : (N : NetlistView) (number : ℕ) (cell : CellView) (dir : Option Dir) (v v' : ℕ → Sig) (kept : Sig) (outside : PinSig) → cell_at N number ≡ Some cell → SameWaited N number v v'
    → driven_value N.library dir cell.kind (feed_values v cell.feeds) kept outside ≡ driven_value N.library dir cell.kind (feed_values v' cell.feeds) kept outside
driven_same N number cell dir v v' kept outside live same =
    elim (flop_or_gate N.library cell.kind) [
      | inl flop ↦ driven_flop N.library dir cell.kind flop.0 (feed_values v cell.feeds) (feed_values v' cell.feeds) kept outside flop.1
      | inr gate ↦ ap (λ (xs : List Sig). driven_value N.library dir cell.kind xs kept outside) (gate_inputs N number cell v v' live gate same)
    ]

-- a cell's output is this net or not
pub output_cases : (output : Option NetId) (net : ℕ) → (output ≡ Some (record { 0 = net })) ⊎ (output ≢ Some (record { 0 = net }))
output_cases output net =
    elim (output_or_not output net) [
      | inl h ↦ inl h.1
      | inr h ↦ inr h.1
    ]

-- a cell doesn't wait on what it drives
pub waits_elsewhere : (N : NetlistView) (turn : ℕ → ℕ) (number net : ℕ) (cell : CellView) → AreTurns N turn → Drives N number cell net → WaitsOn N number net → ⊥
waits_elsewhere N turn number net cell turns drives waits =
    (let later = turns.after number number net cell waits drives in omega arith)

-- what a three-state gate gives hangs on the nets on which it waits
pub drive_same : (N : NetlistView) (number : ℕ) (cell : CellView) (v v' : ℕ → Sig) → cell_at N number ≡ Some cell → is_three_state cell.kind ≡ true → SameWaited N number v v'
    → cell_drive cell.kind (feed_values v cell.feeds) Unknown ≡ cell_drive cell.kind (feed_values v' cell.feeds) Unknown
drive_same N number cell v v' live three same =
    ap (λ (xs : List Sig). cell_drive cell.kind xs Unknown) (gate_inputs N number cell v v' live (three_state_gate N.library cell.kind three) same)
