-- Keys of control cells are compared as operands and polarities are.
use Rattle.std.proofs.Common.{◌≡◌, ℕ, Bool, true, false, cond, List, refl, ap, sym, ◌∙◌, Option, Some, if◌then◌else◌}
use Rattle.std.specs.Map.{lookup}
use Rattle.control_cells.specs.declared.keys.OperandKey.{OperandKey}
use Rattle.control_cells.specs.declared.keys.OperandKey.TheVariants as operand
use Rattle.control_cells.specs.declared.keys.ControlKey.{ControlKey}
use Rattle.control_cells.specs.Keys.{same_control}
use Rattle.control_cells.specs.contracts.keys.ControlKeyPartialEq.TheImpl.{eq-value}

abbrev pub same_key : ControlKey → ControlKey → Bool
same_key = eq-value.it

by_parts : (x y : OperandKey) (p q : Bool) → same_key (record { operand = x; active_high = p }) (record { operand = y; active_high = q }) ≡ same_control (record { operand = x; active_high = p }) (record { operand = y; active_high = q })
by_parts (operand.Net a) (operand.Net b) true true = refl
by_parts (operand.Net a) (operand.Net b) true false = refl
by_parts (operand.Net a) (operand.Net b) false true = refl
by_parts (operand.Net a) (operand.Net b) false false = refl
by_parts (operand.Net a) (operand.Const b) p q = refl
by_parts (operand.Const a) (operand.Net b) p q = refl
by_parts (operand.Const true) (operand.Const true) true true = refl
by_parts (operand.Const true) (operand.Const true) true false = refl
by_parts (operand.Const true) (operand.Const true) false true = refl
by_parts (operand.Const true) (operand.Const true) false false = refl
by_parts (operand.Const true) (operand.Const false) p q = refl
by_parts (operand.Const false) (operand.Const true) p q = refl
by_parts (operand.Const false) (operand.Const false) true true = refl
by_parts (operand.Const false) (operand.Const false) true false = refl
by_parts (operand.Const false) (operand.Const false) false true = refl
by_parts (operand.Const false) (operand.Const false) false false = refl

pub key_is : (j k : ControlKey) → same_key j k ≡ same_control j k
key_is j k = by_parts j.operand k.operand j.active_high k.active_high

pub lookup_is : (j : ControlKey) (es : List (ControlKey × ℕ)) → lookup (same_key j) es ≡ lookup (same_control j) es
lookup_is j es = ap (λ (t : ControlKey → Bool). lookup t es) (λ i k. key_is j k i)

pub noted_is : (key : ControlKey) (number : ℕ) (old new : List (ControlKey × ℕ)) → ((k : ControlKey) → lookup (same_key k) new ≡ (if same_key k key then Some number else lookup (same_key k) old))
    → (k : ControlKey) → lookup (same_control k) new ≡ cond (same_control k key) (Some number) (lookup (same_control k) old)
noted_is key number old new noted k =
    sym (lookup_is k new) ∙ noted k
    ∙ ap (λ (b : Bool). if b then Some number else lookup (same_key k) old) (key_is k key)
    ∙ ap (λ (o : Option ℕ). if same_control k key then Some number else o) (lookup_is k old)
