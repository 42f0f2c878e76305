-- The order of knowledge: unknown is below every value.
use Rattle.std.specs.Prelude.{◌≡◌, ◌⊎◌}
use Rattle.signal_values.specs.declared.Sig.{Sig}
use Rattle.signal_values.specs.declared.Sig.TheVariants.{Unknown}
use Rattle.signal_values.specs.declared.PinSig.{PinSig}
use Rattle.signal_values.specs.declared.PinSig.TheVariants.{Unknown as PinUnknown}

-- own: a is unknown or equals b
abbrev pub IsBelow : Sig → Sig → Type 0
IsBelow a b = (a ≡ Unknown) ⊎ (a ≡ b)

-- own: the same at pins
abbrev pub IsPinBelow : PinSig → PinSig → Type 0
IsPinBelow a b = (a ≡ PinUnknown) ⊎ (a ≡ b)

-- own: a less known operand gives a less known result, or the same
abbrev pub KeepsOrder : {A B : Type 0} → (A → A → Type 0) → (B → B → Type 0) → (A → B) → Type 0
KeepsOrder {A} R S f = (a a' : A) → R a a' → S (f a) (f a')

-- own: the same of two operands
abbrev pub KeepsOrderOfTwo : {A B C : Type 0} → (A → A → Type 0) → (B → B → Type 0) → (C → C → Type 0) → (A → B → C) → Type 0
KeepsOrderOfTwo {A} {B} R S T f = (a a' : A) (b b' : B) → R a a' → S b b' → T (f a b) (f a' b')

-- own: the same of three operands
abbrev pub KeepsOrderOfThree : {A B : Type 0} → (A → A → Type 0) → (B → B → Type 0) → (A → A → A → B) → Type 0
KeepsOrderOfThree {A} R S f = (s s' a a' b b' : A) → R s s' → R a a' → R b b' → S (f s a b) (f s' a' b')
