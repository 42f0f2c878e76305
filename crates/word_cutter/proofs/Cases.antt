-- Answers by cases: what was chosen by a test, and what was mapped.
use Rattle.std.proofs.Common.{◌≡◌, ℕ, Option, Some, None, Bool, true, false, cond, ◌⊎◌, inl, inr, refl, sym, ap}
use Rattle.std.specs.Prelude.{option_and_then}
use Rattle.std.specs.Option.{option_map}
use Rattle.std.proofs.lemmas.Option.{none-some}
use Rattle.word_cutter.specs.declared.fault.CutFault.{CutFault}
use Rattle.word_cutter.specs.declared.fault.CutFault.TheVariants.{BadByte, OutOfMemory}
use Rattle.word_cutter.specs.Run.{IsStepFault}

-- what goes on after a choice
pub and_then_cond : {A B : Type 0} (f : A → Option B) (b : Bool) (x y : Option A) (z : Option B) → option_and_then f (cond b x y) ≡ z → ((b ≡ true) × (option_and_then f x ≡ z)) ⊎ ((b ≡ false) × (option_and_then f y ≡ z))
and_then_cond f true x y z h = inl (refl, h)
and_then_cond f false x y z h = inr (refl, h)

-- what a value was mapped from
pub and_then_map : {A B C : Type 0} (f : B → Option C) (g : A → B) (o : Option A) (z : C) → option_and_then f (option_map g o) ≡ Some z → (x : A) × (o ≡ Some x) × (f (g x) ≡ Some z)
and_then_map f g None z h = cc
and_then_map f g (Some x) z h = (x, refl, h)

-- where nothing was mapped
pub map_none : {A B : Type 0} (g : A → B) (o : Option A) → option_map g o ≡ None → o ≡ None
map_none g None h = refl
map_none g (Some x) h = absurd (none-some (g x) (sym h))

-- a fault is one of what was mapped
pub map_fault : {A B : Type 0} (g : A → B) (e : CutFault) (at : ℕ) (o : Option A) → IsStepFault e at o → IsStepFault e at (option_map g o)
map_fault g OutOfMemory at o is = tt
map_fault g (BadByte place) at o is = (is.0, ap (option_map g) is.1)
