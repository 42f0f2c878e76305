-- The index of control cells agrees with the first cell of the same operand and polarity.
use Rattle.std.proofs.Common.{◌≡◌, ℕ, ◌+◌, ◌<◌, ◌^◌, ◌&&◌, Bool, true, false, cond, List, [], ◌∷◌, ◌++◌, length, length-append, position, refl, ap, sym, ◌∙◌, arith, eqb-true, Some, None}
use Rattle.std.specs.Map.{lookup}
use Rattle.list_laws.proofs.Tests.{both_true}
use Rattle.cell_library.specs.declared.codes.BoundaryKind.{BoundaryKind}
use Rattle.netlist_model.specs.declared.Feed.{Feed}
use Rattle.netlist_model.specs.declared.Feed.TheVariants.{Net, Const}
use Rattle.plan_fitting.specs.declared.fitted.FitRow.{FitRow}
use Rattle.plan_fitting.specs.Rows.{Driver, controls, control_row, same_bool, same_feed}
use Rattle.plan_fitting.proofs.Drivers.{same_bool_is}
use Rattle.control_cells.specs.declared.keys.ControlKey.{ControlKey}
use Rattle.control_cells.specs.Keys.{FindsControls, control_key_of, operand_key, same_control, same_operand}
use Rattle.control_cells.proofs.Places.{position-last_no, position-last_yes}

operand_is : (x y : Feed) → same_operand (operand_key x) (operand_key y) ≡ same_feed x y
operand_is (Net a) (Net b) = refl
operand_is (Net a) (Const b) = refl
operand_is (Const a) (Net b) = refl
operand_is (Const a) (Const b) = refl

feed_same : (x y : Feed) → same_feed x y ≡ true → x ≡ y
feed_same (Net a) (Net b) h = ap (λ (n : ℕ). Net (record { 0 = n })) (eqb-true a.0 b.0 h)
feed_same (Net a) (Const b) h = absurd (cc)
feed_same (Const a) (Net b) h = absurd (cc)
feed_same (Const a) (Const b) h = ap (λ (c : Bool). Const c) (same_bool_is a b h)

turned : (a b c : Bool) → (same_bool a b && c) ≡ (c && same_bool b a)
turned true true true = refl
turned true true false = refl
turned true false true = refl
turned true false false = refl
turned false true true = refl
turned false true false = refl
turned false false true = refl
turned false false false = refl

-- the control cell of one driver is that of another where their keys are the same
controls_is : (kind : BoundaryKind) (d e : Driver) → controls d (control_row kind e) ≡ same_control (control_key_of d) (control_key_of e)
controls_is kind d e =
    turned e.active_high d.active_high (same_feed d.operand e.operand)
    ∙ ap (λ (b : Bool). b && same_bool d.active_high e.active_high) (sym (operand_is d.operand e.operand))

same_controls : (d e : Driver) → same_control (control_key_of d) (control_key_of e) ≡ true → (row : FitRow) → controls d row ≡ controls e row
same_controls d e h row =
    let parts = both_true (same_operand (operand_key d.operand) (operand_key e.operand)) (same_bool d.active_high e.active_high) h in
    let operands : d.operand ≡ e.operand = feed_same d.operand e.operand (sym (operand_is d.operand e.operand) ∙ parts.0) in
    let levels : d.active_high ≡ e.active_high = same_bool_is d.active_high e.active_high parts.1 in
    rw (operands, levels) refl

-- after a control cell
pub control_added : (rows new : List FitRow) (kind : BoundaryKind) (d : Driver) (entries others : List (ControlKey × ℕ)) → FindsControls rows entries → position (controls d) rows ≡ None
    → ((k : ControlKey) → lookup (same_control k) others ≡ cond (same_control k (control_key_of d)) (Some (length rows)) (lookup (same_control k) entries))
    → length rows + 2 < 2 ^ 32 → new ≡ rows ++ control_row kind d ∷ [] → FindsControls new others
control_added rows new kind d entries others finds none noted few is = record {
  numbers = λ e. noted (control_key_of e) ∙ at e (same_control (control_key_of e) (control_key_of d)) refl ∙ ap (λ (r : List FitRow). position (controls e) r) (sym is);
  few = let long : length new ≡ length rows + 1 = ap (λ (r : List FitRow). length r) is ∙ length-append rows (control_row kind d ∷ []) in omega (arith, long, few);
}
  where
    alike : (e : Driver) → same_control (control_key_of e) (control_key_of d) ≡ true → position (controls e) rows ≡ position (controls d) rows
    alike e h = ap (λ (t : FitRow → Bool). position t rows) (λ i row. same_controls e d h row i)

    at : (e : Driver) (b : Bool) → same_control (control_key_of e) (control_key_of d) ≡ b
        → cond (same_control (control_key_of e) (control_key_of d)) (Some (length rows)) (lookup (same_control (control_key_of e)) entries) ≡ position (controls e) (rows ++ control_row kind d ∷ [])
    at e true h = rw h (sym (position-last_yes (controls e) rows (control_row kind d) (controls_is kind e d ∙ h) (alike e h ∙ none)))
    at e false h = rw h (finds.numbers e ∙ sym (position-last_no (controls e) rows (control_row kind d) (controls_is kind e d ∙ h)))

-- the same, by the key and the number
pub control_noted : (rows new : List FitRow) (kind : BoundaryKind) (d : Driver) (key : ControlKey) (number : ℕ) (entries others : List (ControlKey × ℕ)) → FindsControls rows entries → position (controls d) rows ≡ None
    → key ≡ control_key_of d → number ≡ length rows
    → ((k : ControlKey) → lookup (same_control k) others ≡ cond (same_control k key) (Some number) (lookup (same_control k) entries))
    → length rows + 2 < 2 ^ 32 → new ≡ rows ++ control_row kind d ∷ [] → FindsControls new others
control_noted rows new kind d key number entries others finds none key_is number_is noted few is =
    control_added rows new kind d entries others finds none
    (λ k.
    noted k ∙ ap (λ (j : ControlKey). cond (same_control k j) (Some number) (lookup (same_control k) entries)) key_is
    ∙ ap (λ (n : ℕ). cond (same_control k (control_key_of d)) (Some n) (lookup (same_control k) entries)) number_is)
    few is
