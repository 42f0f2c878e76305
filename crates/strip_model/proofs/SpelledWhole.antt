-- The plan that is told is spelled.
use Rattle.std.proofs.Common.{◌≡◌, ℕ, suc, ◌+◌, ◌-◌, ◌<◌, ◌^◌, inl, inr, Bool, true, false, List, [], ◌∷◌, ◌++◌, map, length, refl, sym, ◌∙◌, ap, subst, Option, Some, None, slice_get, arith, if◌then◌else◌}
use Rattle.std.specs.Prelude.{nat_le, IfSome}
use Rattle.std.specs.List.{list_any}
use Rattle.std.specs.Option.{unwrap_or, option_map_or}
use Rattle.list_laws.proofs.Lists.{slice_get_there}
use Rattle.list_laws.proofs.Tests.{or_first, or_second, true_or_false}
use Rattle.cell_library.specs.declared.codes.BoundaryKind.TheVariants.{Bc1}
use Rattle.bsdl_device.specs.IsDevice.{IsDeviceName}
use Rattle.netlist_model.specs.declared.PinBit.{PinBit}
use Rattle.netlist_model.specs.declared.Range.{Range}
use Rattle.netlist_model.specs.Lists.{PortView}
use Rattle.netlist_model.specs.Formed.{width_of}
use Rattle.netlist_model.specs.Drivers.{DriverIsFound}
use Rattle.netlist_model.specs.Ports.{BitHasDirection}
use Rattle.link_model.specs.Denoted.{name_bytes}
use Rattle.netlist_link.specs.Linked.{LinkedView, own_ports}
use Rattle.netlist_link.specs.WellNamed.{IsWellNamed, IsShortRange, index_from}
use Rattle.word_cutter.specs.Rows.{IsWord}
use Rattle.plan_texts.specs.declared.plan.Plan.{Plan}
use Rattle.plan_texts.specs.declared.plan.PinLine.{PinLine}
use Rattle.plan_texts.specs.Grammar.{IsControl}
use Rattle.plan_texts.specs.Canonical.{IsPlan}
use Rattle.strip_model.specs.Others.{AreLines, OtherLinesSpell}
use Rattle.plan_fitting.specs.Names.{port_name, index_word}
use Rattle.plan_fitting.specs.Pins.{PinSeen}
use Rattle.plan_fitting.specs.declared.fitted.FitRow.{FitRow}
use Rattle.plan_fitting.specs.declared.fitted.Fitted.{Fitted}
use Rattle.plan_fitting.specs.Rows.{rows}
use Rattle.plan_fitting.specs.Devices.{cell_row, fitted_of}
use Rattle.plan_fitting.proofs.Indices.{IsBit, bit_there}
use Rattle.plan_fitting.proofs.DevicesNames.{NamesFit}
use Rattle.plan_fitting.proofs.DevicesFacts.{Facts, facts_of}
use Rattle.plan_fitting.proofs.DeviceRows.{lined_bit}
use Rattle.strip_model.specs.Plans.{control_of}
use Rattle.strip_model.specs.PlansTold.{word_at, told_lines, told_plan}
use Rattle.strip_model.proofs.Rows.{is_control, control_told}
use Rattle.strip_model.proofs.PlansWhole.{of_kind}
use Rattle.strip_model.proofs.SameWords.{filtered_at}
use Rattle.strip_model.specs.Spell.{ToldPlanIsSpelled}
use Rattle.strip_model.proofs.SpelledWords.{index_all, whole_word}

-- The word of a bit.

index_low : (range : Option Range) (bit : ℕ) → IfSome range IsShortRange → bit < width_of range → (i : ℕ) → index_from range bit ≡ Some i → i < 2 ^ 64
index_low None bit short low i e = absurd (let bad : None ≡ Some i = e in cc)
index_low (Some r) bit short low i e = by (nat_le r.left r.right) refl
  where
    some_same : (a b : ℕ) → ◌≡◌ {A = Option ℕ} (Some a) (Some b) → a ≡ b
    some_same a b h = cc

    by : (b : Bool) → nat_le r.left r.right ≡ b → i < 2 ^ 64
    by true h =
        let is : r.left + bit ≡ i = some_same (r.left + bit) i (ap (λ (t : Bool). Some (if t then r.left + bit else r.left - bit)) (sym h) ∙ e) in
        let left = short.left in
        let right = short.right in omega (arith, is, left, right, low)
    by false h =
        let is : r.left - bit ≡ i = some_same (r.left - bit) i (ap (λ (t : Bool). Some (if t then r.left + bit else r.left - bit)) (sym h) ∙ e) in
        let left = short.left in omega (arith, is, left)

bit_word : (L : LinkedView) (p : Plan) → IsWellNamed L.names L.arena.lists → NamesFit L p → (pin : PinBit) → IsBit L pin → IsWord (word_at L pin)
bit_word L p well fit pin b =
    let has = well.port_names pin.port.0 b.port b.there in
    let there = slice_get_there L.names has.0 has.2 in
    let is : name_bytes L.names b.port.name ≡ Some there.0 = ap (name_bytes L.names) has.1 ∙ there.1 in
    let good = filtered_at IsDeviceName (λ (q : PortView). name_bytes L.names q.name) (own_ports L) pin.port.0 b.port there.0 fit.unit.1.1 (bit_there L pin b) is in
    let name : port_name L b.port ≡ there.0 = ap (λ (o : Option (List ℕ)). unwrap_or o []) is in
    let word : word_at L pin ≡ there.0 ++ index_word (index_from b.port.range pin.bit) =
    ap (λ (o : Option PortView). option_map_or (λ (q : PortView). port_name L q ++ index_word (index_from q.range pin.bit)) o []) b.there
    ∙ ap (λ (n : List ℕ). n ++ index_word (index_from b.port.range pin.bit)) name in
    let low = index_low b.port.range pin.bit (well.port_ranges pin.port.0 b.port b.there) b.within in
    subst IsWord (sym word) (whole_word there.0 (index_word (index_from b.port.range pin.bit)) good.identifier (index_all (index_from b.port.range pin.bit) low))

-- The lines.

lines_are : (L : LinkedView) (lines : List PinLine) (seen : List PinSeen) → length seen ≡ length lines
    → ((k : ℕ) (line : PinLine) (one : PinSeen) → slice_get lines k ≡ Some line → slice_get seen k ≡ Some one → IsWord (word_at L one.pin)) → AreLines lines (told_lines L lines seen)
lines_are L [] seen many words = tt
lines_are L (line ∷ lines) [] many words = absurd (omega (arith, many))
lines_are L (line ∷ lines) (one ∷ seen) many words =
    (refl, refl, words 0 line one refl refl, lines_are L lines seen (omega (arith, many)) (λ k l o at there. words (suc k) l o at there))

-- The kind of control cells.

no_controls : (f : Fitted) (rs : List FitRow) → list_any is_control rs ≡ false → control_of (map (cell_row f) rs) ≡ Bc1
no_controls f [] none = refl
no_controls f (row ∷ rs) none =
    let here = or_first (is_control row) (list_any is_control rs) none in
    let rest = no_controls f rs (or_second (is_control row) (list_any is_control rs) none) in rw here rest

told_kind : (L : LinkedView) (p : Plan) (seen : List PinSeen) → IsPlan p → Facts L p seen → IsControl (told_plan L p seen).control
told_kind L p seen plan facts = elim (true_or_false (list_any is_control (rows p seen))) [
  | inl some ↦
      (let same = control_told p.control (fitted_of L p seen) (rows p seen) (of_kind L p seen facts) some in
      let own : IsControl p.control = subst IsControl (sym (ap (λ (q : Plan). q.control) plan.1.plan_is)) plan.1.forms.control in
      subst IsControl (sym same) own)
  | inr none ↦
      (let same = no_controls (fitted_of L p seen) (rows p seen) none in
      subst IsControl (sym same) tt)
]

pub told_is_spelled : OtherLinesSpell → BitHasDirection → DriverIsFound → ToldPlanIsSpelled
told_is_spelled spell has found L p seen fits =
    let facts = facts_of has found L p seen fits in
    let words = lines_are L p.pins seen fits.are_seen.count
    (λ k line one at there. bit_word L p fits.named facts.names one.pin (lined_bit L fits.wide line one (facts.lines k line one at there))) in
    spell p (told_plan L p seen).control (told_lines L p.pins seen) fits.spelled (told_kind L p seen fits.spelled facts) words
