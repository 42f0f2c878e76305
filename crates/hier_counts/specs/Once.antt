-- Own: modules of which no two have one name.
use Rattle.std.specs.Prelude.{◌≡◌, ℕ, List, Some, slice_get}
use Rattle.verilog_tree.specs.declared.tree.Module.{Module}

-- the module at a place
abbrev pub At : List Module → ℕ → Module → Type 0
At modules k m = slice_get modules k ≡ Some m

abbrev pub AreOnce : List Module → Type 0
AreOnce modules = (i j : ℕ) (m n : Module) → At modules i m → At modules j n → m.name ≡ n.name → i ≡ j
