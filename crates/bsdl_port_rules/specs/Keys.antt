-- own: keys that came before, and how often a key comes.
use Rattle.std.specs.Prelude.{ℕ, zero, suc, Bool, true, false, ◌||◌, List, [], ◌∷◌, ◌++◌, Option, Some, None}
use Rattle.std.specs.List.{list_any}
use Rattle.bsdl_port_rules.specs.declared.keys.Uses.{Uses}
use Rattle.bsdl_port_rules.specs.declared.keys.Uses.TheVariants.{Once, Several}

-- a key is one of those before it, or one of these
abbrev pub repeats_after : {K : Type 0} → (K → K → Bool) → List K → List K → Bool
repeats_after same before [] = false
repeats_after same before (k ∷ ks) = list_any (same k) before || repeats_after same (before ++ k ∷ []) ks

-- a key comes once more
abbrev pub once_more : Option Uses → Uses
once_more None = Once
once_more (Some u) = Several

-- a key comes so often
abbrev pub uses_for : ℕ → Option Uses
uses_for zero = None
uses_for (suc n) = Some (once_more (uses_for n))

abbrev pub is_once : Option Uses → Bool
is_once None = false
is_once (Some Once) = true
is_once (Some Several) = false
