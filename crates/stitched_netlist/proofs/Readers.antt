-- What is read has a driver, and no output that a three-state gate drives is read; outputs and inouts have drivers.
use Rattle.std.proofs.Common.{◌≡◌, ◌⊎◌, inl, inr, ℕ, zero, suc, ◌+◌, ◌-◌, ◌<◌, ◌≤◌, true, length, sym, ap, subst, ◌∙◌, arith, Option, Some, None}
use Rattle.std.specs.Prelude.{slice_get}
use Rattle.std.proofs.lemmas.Bool.{cases_lt}
use Rattle.cell_library.specs.Gates.{is_three_state}
use Rattle.netlist_model.specs.declared.Dir.{Dir}
use Rattle.netlist_model.specs.declared.Dir.TheVariants.{Input, Output, Inout}
use Rattle.netlist_model.specs.Lists.{CellView, NetlistView, direction, Drives, Reads}
use Rattle.netlist_model.specs.Formed.{IsDriven}
use Rattle.netlist_model.specs.Ports.{DirectionHasBit}
use Rattle.plan_fitting.specs.declared.fitted.FitRow.{FitRow}
use Rattle.plan_fitting.specs.declared.fitted.Fitted.{Fitted}
use Rattle.stitched_netlist.specs.declared.model.TapNames.{TapNames}
use Rattle.stitched_netlist.specs.Sites.{row_net, site_of}
use Rattle.stitched_netlist.specs.Sides.{is_moved, core_side}
use Rattle.stitched_netlist.specs.Stitched.{boundary_at, stitched}
use Rattle.stitched_netlist.proofs.ModelMoves.{moved_counts}
use Rattle.stitched_netlist.proofs.FormedContext.{FitsWell, Stays, side_of}
use Rattle.stitched_netlist.proofs.Ranges.{net_count, side_range}
use Rattle.stitched_netlist.proofs.Driven.{added_driven, tdo_pin_driven, core_driven, pin_driven, straight_driven}
use Rattle.stitched_netlist.proofs.Operands.{IsTapInput, OperandOf, core_read, added_read, tap_read, pin_read}
use Rattle.stitched_netlist.proofs.Laid.{operand_in}
use Rattle.stitched_netlist.proofs.Bufifs.{dirs, none_is, bool_both, BufifOn, on_core, on_moved, on_tdo, bufif_on}

-- The core's side of a net that is read: the net itself, or one that is added.

pub data CoreNet (N : NetlistView) (f : Fitted) (o net : ℕ) : Type 0 where
  same_net : net ≡ o → Stays N f o → CoreNet N f o net
  new_net : length N.nets + 5 ≤ net → net < net_count N f → CoreNet N f o net

core_net : (N : NetlistView) (f : Fitted) (o net : ℕ) → net ≡ core_side (boundary_at N f) o → CoreNet N f o net
core_net N f o net e = elim (side_of N f o) [
  | inl s ↦ same_net (e ∙ s.is) s
  | inr g ↦ (let r = side_range N f g.k g.row 0 g.there (moved_counts (site_of N.ports g.row) g.moved) in
      let is = g.is in
      let from = r.low in
      let to = r.high in
      new_net (omega arith) (omega arith))
]

-- A tap input is one.

tap_side : (law : DirectionHasBit) (N : NetlistView) (names : TapNames) (f : Fitted) (well : FitsWell N f) (net : ℕ) → IsTapInput N net → direction (stitched N names f).ports net ≡ Some Input
tap_side law N names f well net (inl e) = ap (direction (stitched N names f).ports) e ∙ (dirs law N names f well).tck
tap_side law N names f well net (inr (inl e)) = ap (direction (stitched N names f).ports) e ∙ (dirs law N names f well).tms
tap_side law N names f well net (inr (inr (inl e))) = ap (direction (stitched N names f).ports) e ∙ (dirs law N names f well).tdi
tap_side law N names f well net (inr (inr (inr e))) = ap (direction (stitched N names f).ports) e ∙ (dirs law N names f well).trst

tap_past : (N : NetlistView) (net : ℕ) → IsTapInput N net → length N.nets ≤ net
tap_past N net (inl e) = omega arith
tap_past N net (inr (inl e)) = omega arith
tap_past N net (inr (inr (inl e))) = omega arith
tap_past N net (inr (inr (inr e))) = omega arith

no_output : (d : Option Dir) → d ≡ Some Output → (d ≡ Some Input) ⊎ (d ≡ Some Inout) → ⊥
no_output d out (inl e) = let both_dirs : Some Output ≡ Some Input = sym out ∙ e in cc
no_output d out (inr e) = let both_dirs : Some Output ≡ Some Inout = sym out ∙ e in cc

-- What is read has a driver.

core_read_driven : (law : DirectionHasBit) (N : NetlistView) (names : TapNames) (f : Fitted) → FitsWell N f → (i : ℕ) (cell : CellView) (place o net : ℕ) → Reads N i cell place o → net ≡ core_side (boundary_at N f) o
    → CoreNet N f o net → direction (stitched N names f).ports net ≡ None → IsDriven (stitched N names f) net
core_read_driven law N names f well i cell place o net reads is (same_net same s) none =
    let low : o < length N.nets = well.laid.operands i cell place o reads in
    let outside : direction N.ports o ≡ None = sym ((dirs law N names f well).core o low) ∙ ap (direction (stitched N names f).ports) (sym same) ∙ none in
    subst (λ (n : ℕ). IsDriven (stitched N names f) n) (sym is) (core_driven N names f well o (well.formed.read_driven i cell place o reads outside))
core_read_driven law N names f well i cell place o net reads is (new_net low high) none = added_driven N names f well net low high

driven_operand : (law : DirectionHasBit) (N : NetlistView) (names : TapNames) (f : Fitted) → FitsWell N f → (net : ℕ) → OperandOf N f net → direction (stitched N names f).ports net ≡ None
    → IsDriven (stitched N names f) net
driven_operand law N names f well net (core_read i cell place o reads is) none = core_read_driven law N names f well i cell place o net reads is (core_net N f o net is) none
driven_operand law N names f well net (added_read low high) none = added_driven N names f well net low high
driven_operand law N names f well net (tap_read is) none = absurd (none_is Input (direction (stitched N names f).ports net) none (tap_side law N names f well net is))
driven_operand law N names f well net (pin_read side low) none =
    let outside : direction N.ports net ≡ None = sym ((dirs law N names f well).core net low) ∙ none in
    absurd (elim side [ inl e ↦ none_is Input (direction N.ports net) outside e | inr e ↦ none_is Inout (direction N.ports net) outside e ])

pub read_driven : (law : DirectionHasBit) (N : NetlistView) (names : TapNames) (f : Fitted) → FitsWell N f → (i : ℕ) (cell : CellView) (place net : ℕ) → Reads (stitched N names f) i cell place net
    → direction (stitched N names f).ports net ≡ None → IsDriven (stitched N names f) net
read_driven law N names f well i cell place net r none = driven_operand law N names f well net (operand_in N names f well i cell place net r) none

-- No output that a three-state gate drives is read.

-- own: a net below the added ones that is read is one of the core's that stays, an input of the test access port, or the pin of an input or inout
pub data LowOperand (N : NetlistView) (f : Fitted) (net : ℕ) : Type 0 where
  low_core : (i : ℕ) (cell : CellView) (place : ℕ) → Reads N i cell place net → Stays N f net → LowOperand N f net
  low_tap : IsTapInput N net → LowOperand N f net
  low_pin : (direction N.ports net ≡ Some Input) ⊎ (direction N.ports net ≡ Some Inout) → net < length N.nets → LowOperand N f net

low_operand : (N : NetlistView) (f : Fitted) (net : ℕ) → net < length N.nets + 5 → OperandOf N f net → LowOperand N f net
low_operand N f net low (core_read i cell place o reads is) = by (core_net N f o net is)
  where
    by : CoreNet N f o net → LowOperand N f net
    by (same_net same s) = low_core i cell place (subst (λ (n : ℕ). Reads N i cell place n) (sym same) reads) (subst (λ (n : ℕ). Stays N f n) (sym same) s)
    by (new_net past high) = absurd (omega arith)
low_operand N f net low (added_read past high) = absurd (omega arith)
low_operand N f net low (tap_read is) = low_tap is
low_operand N f net low (pin_read side inside) = low_pin side inside

unread_core : (N : NetlistView) (f : Fitted) → FitsWell N f → (i net : ℕ) (old : CellView) → Drives N i old net → is_three_state old.kind ≡ true → direction N.ports net ≡ Some Output
    → LowOperand N f net → ⊥
unread_core N f well i net old d three out (low_core j cell place reads s) = well.formed.bufif_unread i j old cell place net d three reads out
unread_core N f well i net old d three out (low_tap is) = let low = well.laid.outputs i old net d in let past = tap_past N net is in omega arith
unread_core N f well i net old d three out (low_pin side low) = no_output (direction N.ports net) out side

unread_moved : (N : NetlistView) (f : Fitted) → FitsWell N f → (k : ℕ) (row : FitRow) (net : ℕ) → slice_get f.rows k ≡ Some row → row_net N.ports row ≡ Some (record { 0 = net })
    → is_moved (site_of N.ports row) ≡ true → direction N.ports net ≡ Some Output → LowOperand N f net → ⊥
unread_moved N f well k row net there on moved out (low_core j cell place reads s) = bool_both (is_moved (site_of N.ports row)) moved (s.none k row there on)
unread_moved N f well k row net there on moved out (low_tap is) = let low = well.inside net Output out in let past = tap_past N net is in omega arith
unread_moved N f well k row net there on moved out (low_pin side low) = no_output (direction N.ports net) out side

unread_tdo : (N : NetlistView) (f : Fitted) → FitsWell N f → (net : ℕ) → net ≡ length N.nets + 3 → LowOperand N f net → ⊥
unread_tdo N f well net is (low_core j cell place reads s) = let low = well.laid.operands j cell place net reads in omega arith
unread_tdo N f well net is (low_tap (inl e)) = omega arith
unread_tdo N f well net is (low_tap (inr (inl e))) = omega arith
unread_tdo N f well net is (low_tap (inr (inr (inl e)))) = omega arith
unread_tdo N f well net is (low_tap (inr (inr (inr e)))) = omega arith
unread_tdo N f well net is (low_pin side low) = omega arith

unread_by : (law : DirectionHasBit) (N : NetlistView) (names : TapNames) (f : Fitted) → FitsWell N f → (net : ℕ) → BufifOn N f net → OperandOf N f net
    → direction (stitched N names f).ports net ≡ Some Output → ⊥
unread_by law N names f well net (on_core i old d three) r out =
    let low : net < length N.nets = well.laid.outputs i old net d in
    unread_core N f well i net old d three (sym ((dirs law N names f well).core net low) ∙ out) (low_operand N f net (omega arith) r)
unread_by law N names f well net (on_moved k row there on moved side) r out =
    let low : net < length N.nets = well.inside net Output side in
    unread_moved N f well k row net there on moved side (low_operand N f net (omega arith) r)
unread_by law N names f well net (on_tdo is) r out = unread_tdo N f well net is (low_operand N f net (omega arith) r)

pub bufif_unread : (law : DirectionHasBit) (N : NetlistView) (names : TapNames) (f : Fitted) → FitsWell N f → (i j : ℕ) (cell other : CellView) (place net : ℕ) → Drives (stitched N names f) i cell net
    → is_three_state cell.kind ≡ true → Reads (stitched N names f) j other place net → direction (stitched N names f).ports net ≡ Some Output → ⊥
bufif_unread law N names f well i j cell other place net d three r out =
    unread_by law N names f well net (bufif_on N names f well i cell net d three) (operand_in N names f well j other place net r) out

-- Outputs and inouts.

-- own: a net with a direction is one of the core's, or one of the test access port
pub data WithSide (N : NetlistView) (dir : Dir) (net : ℕ) : Type 0 where
  side_core : net < length N.nets → direction N.ports net ≡ Some dir → WithSide N dir net
  side_tdo : dir ≡ Output → net ≡ length N.nets + 3 → WithSide N dir net
  side_tap : dir ≡ Input → WithSide N dir net

same_dir : (o : Option Dir) (a b : Dir) → o ≡ Some a → o ≡ Some b → a ≡ b
same_dir o a b e f = cc

tap_dir : (law : DirectionHasBit) (N : NetlistView) (names : TapNames) (f : Fitted) → FitsWell N f → (dir : Dir) (net k : ℕ) → net ≡ length N.nets + k → k < 5
    → direction (stitched N names f).ports net ≡ Some dir → WithSide N dir net
tap_dir law N names f well dir net zero is low e =
    let at : net ≡ length N.nets = omega arith in
    side_tap (same_dir (direction (stitched N names f).ports net) dir Input e (ap (direction (stitched N names f).ports) at ∙ (dirs law N names f well).tck))
tap_dir law N names f well dir net (suc zero) is low e =
    side_tap (same_dir (direction (stitched N names f).ports net) dir Input e (ap (direction (stitched N names f).ports) is ∙ (dirs law N names f well).tms))
tap_dir law N names f well dir net (suc (suc zero)) is low e =
    side_tap (same_dir (direction (stitched N names f).ports net) dir Input e (ap (direction (stitched N names f).ports) is ∙ (dirs law N names f well).tdi))
tap_dir law N names f well dir net (suc (suc (suc zero))) is low e =
    side_tdo (same_dir (direction (stitched N names f).ports net) dir Output e (ap (direction (stitched N names f).ports) is ∙ (dirs law N names f well).tdo)) is
tap_dir law N names f well dir net (suc (suc (suc (suc zero)))) is low e =
    side_tap (same_dir (direction (stitched N names f).ports net) dir Input e (ap (direction (stitched N names f).ports) is ∙ (dirs law N names f well).trst))
tap_dir law N names f well dir net (suc (suc (suc (suc (suc k))))) is low e = absurd (omega arith)

with_side : (law : DirectionHasBit) (N : NetlistView) (names : TapNames) (f : Fitted) → FitsWell N f → (dir : Dir) (net : ℕ) → direction (stitched N names f).ports net ≡ Some dir → WithSide N dir net
with_side law N names f well dir net e = elim (cases_lt net (length N.nets)) [
  | inl low ↦ side_core low (sym ((dirs law N names f well).core net low) ∙ e)
  | inr past ↦ elim (cases_lt net (length N.nets + 5)) [
    | inl tap ↦ tap_dir law N names f well dir net (net - length N.nets) (omega arith) (omega arith) e
    | inr new ↦ absurd (none_is dir (direction (stitched N names f).ports net) ((dirs law N names f well).others net new) e)
  ]
]

core_pin_driven : (N : NetlistView) (names : TapNames) (f : Fitted) → FitsWell N f → (net : ℕ) → (direction N.ports net ≡ Some Output) ⊎ (direction N.ports net ≡ Some Inout) → (dir : Dir) → direction N.ports net ≡ Some dir
    → IsDriven (stitched N names f) net
core_pin_driven N names f well net read dir e =
    elim (well.has net dir e) [
      | inl row ↦ pin_driven N names f well row.number row.row net row.there row.at read (well.stand row.number row.row row.there)
      | inr straight ↦ straight_driven N names f well net straight read
    ]

outputs_by : (N : NetlistView) (names : TapNames) (f : Fitted) → FitsWell N f → (net : ℕ) → WithSide N Output net → IsDriven (stitched N names f) net
outputs_by N names f well net (side_core low e) = core_pin_driven N names f well net (inl e) Output e
outputs_by N names f well net (side_tdo out is) = subst (λ (n : ℕ). IsDriven (stitched N names f) n) (sym is) (tdo_pin_driven N names f well)
outputs_by N names f well net (side_tap is) = absurd (let no_dir : Output ≡ Input = is in cc)

inouts_by : (N : NetlistView) (names : TapNames) (f : Fitted) → FitsWell N f → (net : ℕ) → WithSide N Inout net → IsDriven (stitched N names f) net
inouts_by N names f well net (side_core low e) = core_pin_driven N names f well net (inr e) Inout e
inouts_by N names f well net (side_tdo out is) = absurd (let no_dir : Inout ≡ Output = out in cc)
inouts_by N names f well net (side_tap is) = absurd (let no_dir : Inout ≡ Input = is in cc)

pub outputs_driven : (law : DirectionHasBit) (N : NetlistView) (names : TapNames) (f : Fitted) → FitsWell N f → (net : ℕ) → direction (stitched N names f).ports net ≡ Some Output
    → IsDriven (stitched N names f) net
outputs_driven law N names f well net e = outputs_by N names f well net (with_side law N names f well Output net e)

pub inouts_driven : (law : DirectionHasBit) (N : NetlistView) (names : TapNames) (f : Fitted) → FitsWell N f → (net : ℕ) → direction (stitched N names f).ports net ≡ Some Inout
    → IsDriven (stitched N names f) net
inouts_driven law N names f well net e = inouts_by N names f well net (with_side law N names f well Inout net e)
